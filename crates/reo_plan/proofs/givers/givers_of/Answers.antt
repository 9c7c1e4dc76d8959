use Rattle.std.proofs.Common.{◌∷◌, [], ◌++◌, map, take, get_or, sym, ap, ◌∙◌}
use Rattle.std.proofs.lemmas.List.{take_more, map-append}
use Rattle.reo_flow.specs.Flow.{giver_of}
use Rattle.reo_plan.proofs.givers.givers_of.Goals as goal

pub loop-name-preserved : goal.loop-name-preserved
loop-name-preserved c =
    let names = c.args.names.now in
    let f = giver_of c.args.net.now names in
    let i = c.loop-name.name-index in
    c.in_ok-push.ensures.items ∙ ap (λ l. l ++ c.giver_of.result ∷ []) c.loop-name.invariant ∙ ap (λ g. map f (take i names) ++ g ∷ []) c.giver_of.ensures
    ∙ sym (ap (map f) (take_more names i 0 c.loop-name-test.true) ∙ map-append f (take i names) (get_or names i 0 ∷ []))
