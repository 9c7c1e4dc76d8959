-- The cells of channels, one after the other.
use Rattle.std.proofs.Common.{◌≡◌, ℕ, ◌+◌, ◌<◌, Bool, true, false, cond, length, slice_get, get_or, Some, refl, ap, ◌∙◌}
use Rattle.std.proofs.lemmas.List.Sums.{count_by_more_yes, count_by_more_no}
use Rattle.std.proofs.lemmas.Option.{slice_get_within, get_or_from_slice_get}
use Rattle.reo_net.specs.declared.circuit.Channel.{Channel}
use Rattle.reo_net.specs.declared.circuit.RawCircuit.{RawCircuit}
use Rattle.reo_net.specs.Kind.{is_fifo}
use Rattle.reo_net.specs.Steps.{cell_of}

-- the cell behind a channel
pub next_cell : (c : RawCircuit) (k : ℕ) (channel : Channel) → slice_get c.channels k ≡ Some channel → cell_of c (k + 1) ≡ cond (is_fifo channel.kind) (cell_of c k + 1) (cell_of c k)
next_cell c k channel found = go (is_fifo channel.kind) refl
  where
    within : k < length c.channels
    within = slice_get_within c.channels k channel found

    at : (b : Bool) → is_fifo channel.kind ≡ b → is_fifo (get_or c.channels k channel).kind ≡ b
    at b is = ap (λ (ch : Channel). is_fifo ch.kind) (get_or_from_slice_get c.channels k channel channel found) ∙ is

    go : (b : Bool) → is_fifo channel.kind ≡ b → cell_of c (k + 1) ≡ cond b (cell_of c k + 1) (cell_of c k)
    go true is = count_by_more_yes (λ (ch : Channel). is_fifo ch.kind) c.channels k channel within (at true is)
    go false is = count_by_more_no (λ (ch : Channel). is_fifo ch.kind) c.channels k channel within (at false is)
