use Rattle.std.proofs.Common.{◌≡◌, ◌∷◌, ◌+◌, drop, get_or, sym, ap, ◌∙◌, subst, arith}
use Rattle.std.proofs.lemmas.Bool.{OnTrue_at, OnTrue_from}
use Rattle.std.proofs.lemmas.List.{drop_more}
use Rattle.reo_flow.specs.declared.fact.Fact.TheVariants.{Offered}
use Rattle.reo_plan.specs.inside.Asks.{IsTold}
use Rattle.reo_plan.proofs.asks.is_told_by_next.Goals as goal

pub returns-then-place-facts : goal.returns-then-place-facts
returns-then-place-facts c = OnTrue_from c.is_told.result _ (λ told.
    let facts = c.args.facts.now in
    let place = c.args.place in
    let none = Offered 0 in
    let cut : drop place facts ≡ get_or facts place none ∷ get_or facts (place + 1) none ∷ drop (place + 1 + 1) facts =
    drop_more facts place none (omega arith) ∙ ap (λ rest. get_or facts place none ∷ rest) (drop_more facts (place + 1) none (omega arith)) in
    subst (IsTold c.args.slots.now) (sym cut) (OnTrue_at told c.is_told.ensures))
