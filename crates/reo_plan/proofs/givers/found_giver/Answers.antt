use Rattle.std.proofs.Common.{get_or, Equal, ap, sym, ◌∙◌}
use Rattle.std.proofs.lemmas.Cmp.{ranked}
use Rattle.std.proofs.lemmas.List.{get_or-map}
use Rattle.reo_flow.specs.declared.giver.Giver.TheVariants.{Unfed}
use Rattle.reo_flow.specs.Flow.{giver_of}
use Rattle.reo_plan.proofs.givers.found_giver.Goals as goal

pub returns-in-Ok : goal.returns-in-Ok
returns-in-Ok c =
    let names = c.args.names.now in
    let f = giver_of c.args.net.now names in
    let place = c.in-Ok.place in
    ap (λ known. get_or known place Unfed) c.requires.known ∙ get_or-map f names place 0 Unfed c.in-Ok.ensures.bound ∙ ap f (ranked (get_or names place 0) c.args.name Equal (sym (c.in-Ok.ensures.ok 0)))
