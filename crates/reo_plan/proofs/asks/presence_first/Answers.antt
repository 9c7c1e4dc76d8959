use Rattle.std.proofs.Common.{◌≡◌, ◌+◌, ◌∷◌, ◌&&◌, Bool, drop, get_or, sym, ap, ◌∙◌, subst, arith}
use Rattle.std.specs.List.{list_all}
use Rattle.std.proofs.Math.Bool.{and_assoc, and-true}
use Rattle.std.proofs.lemmas.Bool.{OnTrue_at}
use Rattle.std.proofs.lemmas.List.{drop_more, at_drop_all}
use Rattle.reo_flow.specs.declared.fact.Fact.{Fact}
use Rattle.reo_flow.specs.declared.fact.Fact.TheVariants.{Offered}
use Rattle.reo_plan.specs.inside.Asks.{so_in, IsTold}
use Rattle.reo_plan.proofs.NeedLemmas.{told_skipped}
use Rattle.reo_plan.proofs.asks.presence_first.Goals as goal
use Rattle.reo_plan.proofs.asks.presence_first.Goals.{then-not-is_told_by_next+in_ok-add_to, else-not-is_told_by_next}

pub loop-place-preserved : goal.loop-place-preserved
loop-place-preserved c = λ c' texts reading.
    let slots = c.args.slots.now in
    let facts = c.args.facts.now in
    let so : Fact → Bool = so_in c' texts reading slots in
    let place = c.loop-place.place in
    let fact = get_or facts place (Offered 0) in
    let rest = drop (place + 1) facts in
    let cut : drop place facts ≡ fact ∷ rest = drop_more facts place (Offered 0) (omega arith) in
    let before : ((list_all so c.loop-place.first && list_all so c.loop-place.second) && list_all so (fact ∷ rest)) ≡ list_all so facts =
    ap (λ l. (list_all so c.loop-place.first && list_all so c.loop-place.second) && list_all so l) (sym cut) ∙ c.loop-place.invariant c' texts reading in
    elim c.if-not-is_told_by_next.branch [
      | then-not-is_told_by_next+in_ok-add_to w ↦
          ap (λ first. (list_all so first && list_all so c.if-not-is_told_by_next.second) && list_all so rest) w.first-is
          ∙ ap (λ second. (list_all so w.add_to.new.first && list_all so second) && list_all so rest) w.second-is
          ∙ ap (λ b. b && list_all so rest) (w.in_ok-add_to.ensures so) ∙ and_assoc (list_all so c.loop-place.first && list_all so c.loop-place.second) (so fact) (list_all so rest) ∙ before
      | else-not-is_told_by_next w ↦
          ap (λ first. (list_all so first && list_all so c.if-not-is_told_by_next.second) && list_all so rest) w.first-is
          ∙ ap (λ second. (list_all so c.loop-place.first && list_all so second) && list_all so rest) w.second-is
          ∙ ap (λ b. (list_all so c.loop-place.first && list_all so c.loop-place.second) && b)
          (sym (told_skipped c' texts reading slots fact rest (subst (IsTold slots) cut (OnTrue_at w.if-not-is_told_by_next.false c.is_told_by_next.ensures))))
          ∙ before
    ]

pub returns : goal.returns
returns c = λ c' texts reading.
    let so : Fact → Bool = so_in c' texts reading c.args.slots.now in
    let facts = c.args.facts.now in
    let both = list_all so c.loop-place.first && list_all so c.loop-place.second in
    c.in_ok-add_all.ensures so ∙ ap (λ second. list_all so c.loop-place.first && list_all so second) c.as_slice.ensures ∙ sym (and-true both)
    ∙ ap (λ b. both && b) (sym (at_drop_all (list_all so) facts c.loop-place.place (omega arith))) ∙ c.loop-place.invariant c' texts reading
