use Rattle.std.proofs.Common.{ap, ◌∙◌}
use Rattle.std.specs.Option.{option_map_or}
use Rattle.reo_flow.specs.declared.giver.Giver.TheVariants.{Unfed, Same}
use Rattle.reo_plan.specs.inside.Cells.{first_into}
use Rattle.reo_plan.proofs.IncomingLemmas.{first_comes}
use Rattle.reo_plan.proofs.givers.input_of.Goals as goal

pub returns-in-Some : goal.returns-in-Some
returns-in-Some c =
    ap (λ o. option_map_or Same o Unfed) (c.in-Some.ensures ∙ ap (λ pairs. first_into pairs c.args.node) c.requires ∙ first_comes c.args.net.now c.args.names.now c.args.node)

pub returns-in-None : goal.returns-in-None
returns-in-None c =
    ap (λ o. option_map_or Same o Unfed) (c.in-None.ensures ∙ ap (λ pairs. first_into pairs c.args.node) c.requires ∙ first_comes c.args.net.now c.args.names.now c.args.node)
