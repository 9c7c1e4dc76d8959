use Rattle.std.proofs.Common.{◌≡◌, ℕ, ◌||◌, Vec, Global, Bool, map, nat_eq, get_or, refl, sym, ap, ◌∙◌}
use Rattle.reo_fabric.specs.declared.fabric.CellSpec.{CellSpec}
use Rattle.reo_fabric.proofs.WordLemmas.{kept, failed}
use Rattle.reo_fabric.proofs.words.unread_cells.Goals as goal
use Rattle.reo_fabric.proofs.words.unread_cells.Goals.{then-is_of+in_ok-push, else-is_of}

pub loop-place-preserved : goal.loop-place-preserved
loop-place-preserved c =
    let xs = c.args.cells.now in
    let i = c.loop-place.place in
    let x = c.index-cells-place.result in
    let within = c.loop-place-test.true in
    let test : CellSpec → Bool = λ cell. nat_eq cell.filler c.args.region || nat_eq cell.taker c.args.region in
    let is : test (get_or xs i x) ≡ c.is_of.result = ap test (sym c.index-cells-place.is) ∙ sym c.is_of.ensures in
    let items : Vec (ℕ × ℕ) Global → _ = λ words. words.items in
    elim c.if-is_of.branch [
      | then-is_of+in_ok-push w ↦ kept test (λ (p : ℕ × ℕ). p.0) xs i x c.loop-place.words.items _ _ within (is ∙ w.if-is_of.true) refl (ap items w.words-is ∙ w.in_ok-push.ensures.items) c.loop-place.invariant
      | else-is_of w ↦ ap (λ words. map (λ p. p.0) (items words)) w.words-is ∙ (c.loop-place.invariant ∙ sym (failed test xs i x within (is ∙ w.if-is_of.false)))
    ]
