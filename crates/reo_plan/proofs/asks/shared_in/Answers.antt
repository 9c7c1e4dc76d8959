use Rattle.std.proofs.Common.{◌++◌, ◌∷◌, [], ◌+◌, Some, take, sym, ap, ◌∙◌, subst, arith}
use Rattle.std.proofs.lemmas.Option.{slice_get-get_or}
use Rattle.reo_plan.specs.inside.Asks.{IsShared, AreShared}
use Rattle.reo_plan.proofs.AskLemmas.{shared-push}
use Rattle.reo_plan.proofs.PlaceSlotLemmas.{take_more}
use Rattle.reo_plan.proofs.asks.shared_in.Goals as goal

pub loop-rows-preserved : goal.loop-rows-preserved
loop-rows-preserved c =
    let plans = c.args.plans.now in
    let n = c.loop-rows.rows-index in
    let rows = c.rows-item.result in
    let found = slice_get-get_or plans n rows (omega arith) ∙ ap Some (sym c.rows-item.is) in
    let shared = c.in_ok-shared.shared in
    λ c'. subst (AreShared c' (take (n + 1) plans)) (sym c.in_ok-push.ensures.ok)
    (subst (λ l. AreShared c' l (c.loop-rows.all ++ shared ∷ [])) (sym (take_more plans n rows found))
    (shared-push c' (take n plans) c.loop-rows.all rows shared (c.loop-rows.invariant c') (subst (λ rs. IsShared c' rs shared) c.as_slice.ensures (c.in_ok-shared.ensures c'))))
