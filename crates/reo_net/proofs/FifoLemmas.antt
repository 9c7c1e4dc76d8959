-- laws of states while each channel is a FIFO1: its place in a state is its number
use Rattle.std.proofs.Common.{◌≡◌, ℕ, suc, zero, ◌≤◌, true, List, [], ◌∷◌, length, slice_get, get_or, take, Some, None, refl, sym, ap, ◌∙◌, subst, arith}
use Rattle.std.proofs.Math.Seq.{take-length}
use Rattle.std.proofs.lemmas.Option.{slice_get_within, get_or_from_slice_get}
use Rattle.reo_net.specs.declared.circuit.Channel.{Channel}
use Rattle.reo_net.specs.declared.circuit.RawCircuit.{RawCircuit}
use Rattle.reo_net.specs.Kind.{is_fifo}
use Rattle.reo_net.specs.Steps.{State, cell_of, content, IsState}
use Rattle.reo_net.specs.Checks.{IsFifoOnly}
use Rattle.reo_net.proofs.CellLemmas.{fifos, fifos-more, content_at}

-- each of the channels is a FIFO1
AreFifos : List Channel → Type 0
AreFifos channels = (k : ℕ) (channel : Channel) → slice_get channels k ≡ Some channel → is_fifo channel.kind ≡ true

are_all : (k : ℕ) (channels : List Channel) → AreFifos channels → k ≤ length channels → fifos (take k channels) ≡ k
unfolding AreFifos
are_all zero channels each h = refl
are_all (suc k) [] each h = absurd (omega arith)
are_all (suc k) (channel ∷ channels) each h =
    fifos-more channel (take k channels) (each 0 channel refl) ∙ ap suc (are_all k channels (λ j ch found. each (suc j) ch found) (omega arith))

module _ (c : RawCircuit) (only : IsFifoOnly c) where
  pub fifo_at : (k : ℕ) (channel : Channel) → slice_get c.channels k ≡ Some channel → is_fifo channel.kind ≡ true
  fifo_at k channel found =
      subst (λ (ch : Channel). is_fifo ch.kind ≡ true) (get_or_from_slice_get c.channels k channel channel found) (only k channel (slice_get_within c.channels k channel found))

  pub cell_is_number : (k : ℕ) → k ≤ length c.channels → cell_of c k ≡ k
  unfolding AreFifos
  cell_is_number k within = are_all k c.channels fifo_at within

  -- what channel k holds stands at place k
  pub content_by_number : (k : ℕ) (channel : Channel) (state : State) → slice_get c.channels k ≡ Some channel → content c k channel.kind state ≡ get_or state k None
  content_by_number k channel state found =
      let within = slice_get_within c.channels k channel found in
      content_at c k channel.kind state (fifo_at k channel found) ∙ ap (λ j. get_or state j None) (cell_is_number k (omega (arith, within)))

  fifo_count : fifos c.channels ≡ length c.channels
  unfolding AreFifos
  fifo_count = ap fifos (sym (take-length c.channels)) ∙ are_all (length c.channels) c.channels fifo_at (omega arith)

  -- a state has a place for each channel
  pub state_length : (state : State) → IsState c state → length state ≡ length c.channels
  state_length state is_state = is_state ∙ fifo_count

  pub state_from_length : (state : State) → length state ≡ length c.channels → IsState c state
  state_from_length state len = len ∙ sym fifo_count
