use Rattle.std.proofs.Common.{◌∙◌, ◌||◌, ℕ, ap, arith, nat_eq, sym, take}
use Rattle.std.proofs.lemmas.List.{take_all}
use Rattle.reo_fabric.specs.Reading.{places_of}
use Rattle.reo_fabric.specs.declared.fabric.CellSpec.{CellSpec}
use Rattle.reo_fabric.specs.inside.Readings.{listed}
use Rattle.reo_fabric.proofs.WordLemmas.{one_more}
use Rattle.reo_fabric.proofs.ReadingLemmas.{same_cells}
use Rattle.reo_fabric.proofs.readings.list_cells.Goals as goal

pub loop-place-preserved : goal.loop-place-preserved
loop-place-preserved c =
    let xs = c.args.cells.now in
    let i = c.loop-place.place in
    let front = λ (region : ℕ). places_of (λ (cell : CellSpec). nat_eq cell.filler region || nat_eq cell.taker region) 0 (take i xs) in
    record {
      len = c.in_ok-list_cell.ensures.len ∙ c.loop-place.invariant.len;
      are = λ regions ports are.
          same_cells regions _ ports _ (c.in_ok-list_cell.ensures.are regions front ports (c.loop-place.invariant.are regions ports are)) _
          (λ region. ap (λ (cell : CellSpec). listed (λ r. nat_eq cell.filler r || nat_eq cell.taker r) i front region) c.index-cells-place.is
          ∙ sym (one_more (λ (cell : CellSpec). nat_eq cell.filler region || nat_eq cell.taker region) xs i c.index-cells-place.result c.loop-place-test.true));
    }

pub returns-clause-are : goal.returns-clause-are
returns-clause-are c regions ports are =
    same_cells regions _ ports _ (c.loop-place.invariant.are regions ports are) _
    (λ region. ap (places_of (λ cell. nat_eq cell.filler region || nat_eq cell.taker region) 0) (take_all c.loop-place.place c.args.cells.now (omega (arith, c.loop-place-test.false))))
