-- Fitting entries and the state that was read.
use Rattle.std.proofs.Common.{◌≡◌, ℕ, ◌<◌, Bool, true, List, length, slice_get, get_or, Option, Some, None, IfSome, refl, sym, ap, ◌∙◌, arith}
use Rattle.std.proofs.lemmas.Bool.{eq-eqb}
use Rattle.std.proofs.lemmas.Option.{slice_get-get_or, slice_get_within}
use Rattle.reo_value.specs.Code.{code_of, IsValue}
use Rattle.reo_value.specs.declared.value.Value.{Value}
use Rattle.reo_fabric.specs.declared.fabric.Fabric.{Fabric}
use Rattle.reo_fabric.specs.Entry.{State, at_place}
use Rattle.reo_fabric.specs.Reading.{Offers, reading_of, cell_word, cells_of}
use Rattle.reo_fabric.specs.Decider.{Takes, Fills, Puts, Gets}
use Rattle.reo_fabric.specs.Laws.{AreValues, FittingAgree, FittingHaveRoom}
use Rattle.reo_fabric.proofs.CodeLemmas.{codes_differ, code_is_not_zero}
use Rattle.reo_fabric.proofs.PlaceLemmas.{at_mapped, Passes, few_places}

-- a word that is a value's code is the word of a cell with this value
full_of : (held : Option Value) (v : Value) → IfSome held IsValue → IsValue v → code_of v ≡ cell_word held → held ≡ Some v
full_of None v is_held is_v word = absurd (code_is_not_zero v (sym word))
full_of (Some u) v is_held is_v word = ap Some (sym (codes_differ v u is_v is_held word))

empty_of : (held : Option Value) → 0 ≡ cell_word held → held ≡ None
empty_of None word = refl
empty_of (Some u) word = absurd (code_is_not_zero u word)

module _ (fabric : Fabric) (region : ℕ) (state : State) (offers : Offers) (sized : length state ≡ length fabric.cells) (values : AreValues state) where
  word_of_cell : (c w : ℕ) → at_place (reading_of fabric region state offers).cells c ≡ Some w → w ≡ cell_word (get_or state c None)
  word_of_cell c w at = at_mapped (λ cell. cell_word (get_or state cell None)) (cells_of fabric region) c w at

  held_there : (c : ℕ) → c < length fabric.cells → slice_get state c ≡ Some (get_or state c None)
  held_there c within = slice_get-get_or state c None (omega (arith, sized))

  taken_is_full : (p : ℕ × Value) → Takes fabric (reading_of fabric region state offers) p → slice_get state p.0 ≡ Some (Some p.1)
  taken_is_full p takes =
      let within : p.0 < length fabric.cells = slice_get_within fabric.cells p.0 takes.own.spec takes.own.found in
      let within_state : p.0 < length state = omega (arith, sized) in
      held_there p.0 within
      ∙ ap Some (full_of (get_or state p.0 None) p.1 (values p.0 None within_state) takes.value (word_of_cell p.0 (code_of p.1) takes.reads))

  filled_is_empty : (p : ℕ × Value) → Fills fabric (reading_of fabric region state offers) p → slice_get state p.0 ≡ Some None
  filled_is_empty p fills =
      let within : p.0 < length fabric.cells = slice_get_within fabric.cells p.0 fills.own.spec fills.own.found in
      held_there p.0 within ∙ ap Some (empty_of (get_or state p.0 None) (word_of_cell p.0 0 fills.reads))

pub fitting_agree : FittingAgree
fitting_agree fabric region state offers entry sized values fits = record {
  takes = λ k d within. taken_is_full fabric region state offers sized values (get_or entry.takes k d) (fits.takes k d within);
  fills = λ k d within. filled_is_empty fabric region state offers sized values (get_or entry.fills k d) (fits.fills k d within);
}

passes_test : {A : Type 0} (test : A → Bool) (items : List A) (place : ℕ) (item : A) → slice_get items place ≡ Some item → test item ≡ true → Passes test items 0 place
passes_test test items place item found pass = record { within = place; item = item; is_at = omega arith; found = found; passes = pass }

pub fitting_have_room : FittingHaveRoom
fitting_have_room fabric reading entry fits = record {
  takes = few_places (Takes fabric reading) _ fabric.cells entry.takes (λ p is. passes_test _ fabric.cells p.0 is.own.spec is.own.found (eq-eqb _ _ is.own.taker)) fits.takes_rise fits.takes;
  fills = few_places (Fills fabric reading) _ fabric.cells entry.fills (λ p is. passes_test _ fabric.cells p.0 is.own.spec is.own.found (eq-eqb _ _ is.own.filler)) fits.fills_rise fits.fills;
  puts = few_places (Puts fabric reading) _ fabric.ports entry.puts (λ p is. passes_test _ fabric.ports p.0 is.own.spec is.own.found (eq-eqb _ _ is.own.at)) fits.puts_rise fits.puts;
  gets = few_places (Gets fabric reading) _ fabric.ports entry.gets (λ p is. passes_test _ fabric.ports p.0 is.own.spec is.own.found (eq-eqb _ _ is.own.at)) fits.gets_rise fits.gets;
}
