-- What is in the cells at first is the circuit's initial state.
use Rattle.std.proofs.Common.{◌≡◌, ℕ, suc, ◌+◌, List, [], ◌∷◌, ◌++◌, length, map, flat_map, slice_get, Option, Some, None, Bool, true, false, cond, refl, ap, ◌∙◌, arith}
use Rattle.std.specs.Prelude.{filter}
use Rattle.std.specs.List.{range_with_len}
use Rattle.std.specs.Option.{option_map_or}
use Rattle.reo_value.specs.declared.value.Value.{Value}
use Rattle.reo_net.specs.declared.kind.Kind.{Kind}
use Rattle.reo_net.specs.declared.kind.Kind.TheVariants.{Sync, Lossy, Drain, Fifo, Filter, Transform}
use Rattle.reo_net.specs.declared.circuit.Channel.{Channel}
use Rattle.reo_net.specs.declared.circuit.RawCircuit.{RawCircuit}
use Rattle.reo_net.specs.Kind.{is_fifo, first_content}
use Rattle.reo_cut.specs.declared.cut.CellCut.{CellCut}
use Rattle.reo_cut.specs.Cut.{is_buffer}
use Rattle.reo_fabric.specs.declared.fabric.CellSpec.{CellSpec}
use Rattle.reo_plan.specs.Fabric.{held_at_first, cell_spec}
use Rattle.reo_plan.specs.Laws.{FirstStatesAreInitial}

-- what a channel adds to the initial state
one_content : (kind : Kind) (rest : List (Option Value)) → cond (is_fifo kind) (held_at_first kind ∷ rest) rest ≡ first_content kind ++ rest
one_content Sync rest = refl
one_content Lossy rest = refl
one_content Drain rest = refl
one_content (Fifo first) rest = refl
one_content (Filter guard) rest = refl
one_content (Transform fun) rest = refl

module _ (test : ℕ → Bool) (held : ℕ → Option Value) where
  held_in : (first : ℕ) (channels : List Channel) → ((i : ℕ) (channel : Channel) → slice_get channels i ≡ Some channel → (test (first + i) ≡ is_fifo channel.kind) × (held (first + i) ≡ held_at_first channel.kind))
      → map held (filter test (range_with_len first (length channels))) ≡ flat_map (λ channel. first_content channel.kind) channels
  held_in first [] each = refl
  held_in first (x ∷ xs) each =
      let rest = filter test (range_with_len (first + 1) (length xs)) in
      let same : first ≡ first + 0 = omega arith in
      let at = each 0 x refl in
      ap (λ b. map held (cond b (first ∷ rest) rest)) (ap test same ∙ at.0) ∙ out rest (is_fifo x.kind) ∙ ap (λ o. cond (is_fifo x.kind) (o ∷ map held rest) (map held rest)) (ap held same ∙ at.1)
      ∙ ap (λ l. cond (is_fifo x.kind) (held_at_first x.kind ∷ l) l) (held_in (first + 1) xs later) ∙ one_content x.kind (flat_map (λ channel. first_content channel.kind) xs)
    where
      later : (i : ℕ) (channel : Channel) → slice_get xs i ≡ Some channel → (test (first + 1 + i) ≡ is_fifo channel.kind) × (held (first + 1 + i) ≡ held_at_first channel.kind)
      later i channel found =
          let next : first + 1 + i ≡ first + suc i = omega arith in
          let at = each (suc i) channel found in
          (ap test next ∙ at.0, ap held next ∙ at.1)

      out : (rest : List ℕ) (b : Bool) → map held (cond b (first ∷ rest) rest) ≡ cond b (held first ∷ map held rest) (map held rest)
      out rest true = refl
      out rest false = refl

held_by : RawCircuit → ℕ → Option Value
held_by c k = option_map_or (λ (channel : Channel). held_at_first channel.kind) (slice_get c.channels k) None

by_cell : (c : RawCircuit) (cells : List CellCut) → map (λ (s : CellSpec). s.first) (map (cell_spec c) cells) ≡ map (held_by c) (map (λ (cell : CellCut). cell.channel) cells)
unfolding held_by
by_cell c [] = refl
by_cell c (cell ∷ cells) = ap (λ l. held_by c cell.channel ∷ l) (by_cell c cells)

pub first_states_are_initial : FirstStatesAreInitial
unfolding held_by
first_states_are_initial c cut owners parties fabric is_cut is_fabric =
    ap (map (λ (s : CellSpec). s.first)) is_fabric.cells ∙ by_cell c cut.cells ∙ ap (map (held_by c)) is_cut.cells
    ∙ held_in (is_buffer c) (held_by c) 0 c.channels (λ i channel found.
    let same : 0 + i ≡ i = omega arith in
    let at : slice_get c.channels (0 + i) ≡ Some channel = ap (slice_get c.channels) same ∙ found in
    (ap (λ o. option_map_or (λ (ch : Channel). is_fifo ch.kind) o false) at, ap (λ o. option_map_or (λ (ch : Channel). held_at_first ch.kind) o None) at))
