use Rattle.std.proofs.Common.{◌++◌, ◌∷◌, [], List, ℕ, filter, cond, sym, ap, ◌∙◌}
use Rattle.std.specs.List.{range_with_len}
use Rattle.std.proofs.lemmas.List.{append-nil}
use Rattle.reo_growth.proofs.ListLemmas.{filter-range_more}
use Rattle.reo_product.specs.Region.{is_at}
use Rattle.reo_product.proofs.region.numbers_of.Goals as goal
use Rattle.reo_product.proofs.region.numbers_of.Goals.{then-is_of+in_ok-push, else-is_of}

pub loop-number-preserved : goal.loop-number-preserved
loop-number-preserved c =
    let test = is_at c.args.region_of.now c.args.region in
    let i = c.loop-number.number in
    let more = filter-range_more test i in
    elim c.if-is_of.branch [
      | then-is_of+in_ok-push w ↦ (
          let is = sym c.is_of.ensures ∙ w.if-is_of.true in
          ap (λ v. v.items) w.numbers-is ∙ w.in_ok-push.ensures.items ∙ ap (λ (xs : List ℕ). xs ++ i ∷ []) c.loop-number.invariant
          ∙ sym (more ∙ ap (λ b. filter test (range_with_len 0 i) ++ cond b (i ∷ []) []) is))
      | else-is_of w ↦ (
          let is = sym c.is_of.ensures ∙ w.if-is_of.false in
          ap (λ v. v.items) w.numbers-is ∙ c.loop-number.invariant ∙ sym (append-nil (filter test (range_with_len 0 i)))
          ∙ sym (more ∙ ap (λ b. filter test (range_with_len 0 i) ++ cond b (i ∷ []) []) is))
    ]
