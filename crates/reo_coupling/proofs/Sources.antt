-- Where what an entry takes came from.
use Rattle.std.proofs.Common.{◌≡◌, ℕ, zero, suc, ◌<◌, ◌⊎◌, inl, inr, ⊎_elim, List, [], ◌∷◌, length, get_or, slice_get, Option, Some, None, refl, sym, ap, ◌∙◌, subst, arith}
use Rattle.std.proofs.lemmas.Option.{same_Some, get_or_from_slice_get}
use Rattle.reo_value.specs.declared.value.Value.{Value}
use Rattle.reo_fabric.specs.declared.entry.Entry.{Entry}
use Rattle.reo_fabric.specs.Entry.{State, at_place, content_after, carried_out}
use Rattle.reo_fabric.proofs.HistoryLemmas.{length-carried_out, at_carried_out, act_cell_by_cell}
use Rattle.reo_coupling.specs.Sources.{LeavesCell, WasThereAtFirst, WasFilledBefore, TakesHaveSources}

no_entry : (n : ℕ) (entry : Entry) → slice_get [] n ≡ Some entry → ⊥
no_entry zero entry found = cc
no_entry (suc n) entry found = cc

-- what is left in a cell was filled by the entry, or was there before and left alone
came_from : (takes fills held : Option Value) (value : Value) → content_after takes fills held ≡ Some value → ((takes ≡ None) × (fills ≡ None) × (held ≡ Some value)) ⊎ (fills ≡ Some value)
came_from (Some v) fills held value is = cc
came_from None (Some u) held value is = inr is
came_from None None held value is = inl (refl, refl, is)

-- one entry more at the front
module _ (state : State) (first : Entry) (entries : List Entry) (number cell : ℕ) (value : Value) where
  still_there : LeavesCell first cell → get_or state cell None ≡ Some value → WasThereAtFirst (carried_out state first) entries number cell value → WasThereAtFirst state (first ∷ entries) (suc number) cell value
  still_there leaves held was = record { first = held; left_alone = between }
    where
      between : (n : ℕ) (entry : Entry) → n < suc number → slice_get (first ∷ entries) n ≡ Some entry → LeavesCell entry cell
      between zero entry below found = subst (λ e. LeavesCell e cell) (same_Some first entry found) leaves
      between (suc n) entry below found = was.left_alone n entry (omega arith) found

  now_filled : at_place first.fills cell ≡ Some value → WasThereAtFirst (carried_out state first) entries number cell value → WasFilledBefore (first ∷ entries) (suc number) cell value
  now_filled fills was = record { source = 0; earlier = omega arith; filling = first; found = refl; fills = fills; left_alone = between }
    where
      between : (n : ℕ) (entry : Entry) → 0 < n → n < suc number → slice_get (first ∷ entries) n ≡ Some entry → LeavesCell entry cell
      between zero entry above below found = absurd (omega arith)
      between (suc n) entry above below found = was.left_alone n entry (omega arith) found

  later_filled : WasFilledBefore entries number cell value → WasFilledBefore (first ∷ entries) (suc number) cell value
  later_filled was = record { source = suc was.source; earlier = omega (arith, was.earlier); filling = was.filling; found = was.found; fills = was.fills; left_alone = between }
    where
      between : (n : ℕ) (entry : Entry) → suc was.source < n → n < suc number → slice_get (first ∷ entries) n ≡ Some entry → LeavesCell entry cell
      between zero entry above below found = absurd (omega arith)
      between (suc n) entry above below found = was.left_alone n entry (omega arith) (omega arith) found

pub takes_have_sources : TakesHaveSources
takes_have_sources state [] number entry cell value lawful within found takes = absurd (no_entry number entry found)
takes_have_sources state (first ∷ entries) zero entry cell value lawful within found takes =
    let here : at_place first.takes cell ≡ Some value = ap (λ (e : Entry). at_place e.takes cell) (same_Some first entry found) ∙ takes in
    inl (record {
      first = get_or_from_slice_get state cell (Some value) None ((act_cell_by_cell state first cell lawful.0).taken value here);
      left_alone = λ n e below. absurd (omega (arith, below));
    })
takes_have_sources state (first ∷ entries) (suc number) entry cell value lawful within found takes =
    let inside : cell < length (carried_out state first) = subst (λ n. cell < n) (sym (length-carried_out state first)) within in
    ⊎_elim
    (λ was.
    let held : content_after (at_place first.takes cell) (at_place first.fills cell) (get_or state cell None) ≡ Some value = sym (at_carried_out state first cell within) ∙ was.first in
    ⊎_elim (λ there. inl (still_there state first entries number cell value (there.0, there.1) there.2 was)) (λ fills. inr (now_filled state first entries number cell value fills was))
    (came_from (at_place first.takes cell) (at_place first.fills cell) (get_or state cell None) value held))
    (λ was. inr (later_filled state first entries number cell value was))
    (takes_have_sources (carried_out state first) entries number entry cell value lawful.1 inside found takes)
