-- Entries one after the other, and cell by cell.
use Rattle.std.proofs.Common.{◌≡◌, ℕ, ◌<◌, [], ◌∷◌, length, slice_get, get_or, Some, None, refl, ap, ◌∙◌, subst, sym, arith}
use Rattle.std.proofs.lemmas.List.FromFn.{length-map-range_with_len, get_or-map-range_with_len}
use Rattle.std.proofs.lemmas.Option.{slice_get-get_or}
use Rattle.reo_fabric.specs.declared.entry.Entry.{Entry}
use Rattle.reo_fabric.specs.Entry.{State, at_place, content_after, carried_out}
use Rattle.reo_fabric.specs.Laws.{HistoriesGrow, ActCellByCell}
use Rattle.reo_fabric.proofs.PlaceLemmas.{at_place_holds}

pub histories_grow : HistoriesGrow
histories_grow state [] entry lawful agrees = ((agrees, tt), refl)
histories_grow state (first ∷ entries) entry lawful agrees =
    let rest = histories_grow (carried_out state first) entries entry lawful.1 agrees in
    ((lawful.0, rest.0), rest.1)

pub length-carried_out : (state : State) (entry : Entry) → length (carried_out state entry) ≡ length state
length-carried_out state entry = length-map-range_with_len _ 0 (length state)

-- what is in a cell after an entry
pub at_carried_out : (state : State) (entry : Entry) (cell : ℕ) → cell < length state
    → get_or (carried_out state entry) cell None ≡ content_after (at_place entry.takes cell) (at_place entry.fills cell) (get_or state cell None)
at_carried_out state entry cell within =
    get_or-map-range_with_len (λ c. content_after (at_place entry.takes c) (at_place entry.fills c) (get_or state c None)) 0 (length state) cell cell None within (omega arith)

pub act_cell_by_cell : ActCellByCell
act_cell_by_cell state entry cell agrees = record {
  taken = λ value at. at_place_holds (λ p. slice_get state p.0 ≡ Some (Some p.1)) entry.takes cell value agrees.takes at;
  filled = λ value at. at_place_holds (λ p. slice_get state p.0 ≡ Some None) entry.fills cell value agrees.fills at;
  after = λ within.
      slice_get-get_or (carried_out state entry) cell None (subst (λ n. cell < n) (sym (length-carried_out state entry)) within) ∙ ap Some (at_carried_out state entry cell within);
}
