use Rattle.std.proofs.Common.{◌∷◌, [], ◌++◌, take, get_or, sym, ap, ◌∙◌}
use Rattle.std.proofs.lemmas.List.{take_more}
use Rattle.std.proofs.lemmas.List.Elements.{filter_map-append}
use Rattle.reo_plan.specs.inside.Cells.{incoming_of}
use Rattle.reo_plan.proofs.givers.incoming_of.Goals as goal

pub loop-name-preserved : goal.loop-name-preserved
loop-name-preserved c =
    let net = c.args.net.now in
    let names = c.args.names.now in
    let i = c.loop-name.name-index in
    c.in_ok-add_incoming.ensures ∙ ap (λ pairs. pairs ++ incoming_of net (get_or names i 0 ∷ [])) c.loop-name.invariant
    ∙ sym (ap (incoming_of net) (take_more names i 0 c.loop-name-test.true) ∙ filter_map-append _ (take i names) (get_or names i 0 ∷ []))
