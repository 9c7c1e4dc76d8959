-- laws of states: a place for each FIFO1, in the order of the channels
use Rattle.std.proofs.Common.{◌≡◌, ℕ, suc, zero, ◌+◌, ◌<◌, Bool, true, false, cond, List, [], ◌∷◌, length, slice_get, get_or, take, count_by, flat_map, Some, None, refl, sym, ap, ◌∙◌, arith}
use Rattle.std.proofs.lemmas.List.Sums.{sum_by-cons}
use Rattle.reo_net.specs.declared.kind.Kind.{Kind}
use Rattle.reo_net.specs.declared.circuit.Channel.{Channel}
use Rattle.reo_net.specs.declared.circuit.RawCircuit.{RawCircuit}
use Rattle.reo_net.specs.Kind.{is_fifo, first_content}
use Rattle.reo_net.specs.Steps.{State, cell_of, content, IsState}
use Rattle.reo_net.specs.Runs.{initial_state}
use Rattle.reo_net.proofs.KindLemmas.{fifo_content, other_content}

-- how many of the channels are FIFO1s
abbrev pub fifos : List Channel → ℕ
fifos channels = count_by (λ channel. is_fifo channel.kind) channels

pub fifos-cons : (channel : Channel) (channels : List Channel) → fifos (channel ∷ channels) ≡ cond (is_fifo channel.kind) 1 0 + fifos channels
fifos-cons channel channels = sum_by-cons (λ ch. cond (is_fifo ch.kind) 1 0) channel channels

-- the FIFO1 that has a place in the state
pub record IsCell (channels : List Channel) (place : ℕ) : Type 0 where
  pub number : ℕ
  pub channel : Channel
  pub found : slice_get channels number ≡ Some channel
  pub fifo : is_fifo channel.kind ≡ true
  pub at : fifos (take number channels) ≡ place

-- the first channel is one more, or it is none
pub fifos-more : (channel : Channel) (channels : List Channel) → is_fifo channel.kind ≡ true → fifos (channel ∷ channels) ≡ suc (fifos channels)
fifos-more channel channels e =
    let count : fifos (channel ∷ channels) ≡ cond true 1 0 + fifos channels = fifos-cons channel channels ∙ ap (λ b. cond b 1 0 + fifos channels) e in
    omega (arith, count)

pub fifos-same : (channel : Channel) (channels : List Channel) → is_fifo channel.kind ≡ false → fifos (channel ∷ channels) ≡ fifos channels
fifos-same channel channels e =
    let count : fifos (channel ∷ channels) ≡ cond false 1 0 + fifos channels = fifos-cons channel channels ∙ ap (λ b. cond b 1 0 + fifos channels) e in
    omega (arith, count)

next_cell : (channel : Channel) (channels : List Channel) (place next : ℕ) (cell : IsCell channels place) → fifos (channel ∷ take cell.number channels) ≡ next → IsCell (channel ∷ channels) next
next_cell channel channels place next cell at = record { number = suc cell.number; channel = cell.channel; found = cell.found; fifo = cell.fifo; at = at }

pub cell_at : (channels : List Channel) (place : ℕ) → place < fifos channels → IsCell channels place
cell_at [] place h = absurd (omega arith)
cell_at (channel ∷ channels) place h = go (is_fifo channel.kind) refl place h (cell_at channels)
  where
    go : (b : Bool) → is_fifo channel.kind ≡ b → (p : ℕ) → p < fifos (channel ∷ channels) → ((q : ℕ) → q < fifos channels → IsCell channels q) → IsCell (channel ∷ channels) p
    go true e zero h' more = record { number = 0; channel = channel; found = refl; fifo = e; at = refl }
    go true e (suc p) h' more =
        let cell = more p (omega (arith, fifos-more channel channels e, h')) in
        next_cell channel channels p (suc p) cell (fifos-more channel (take cell.number channels) e ∙ ap suc cell.at)
    go false e p h' more =
        let cell = more p (omega (arith, fifos-same channel channels e, h')) in
        next_cell channel channels p p cell (fifos-same channel (take cell.number channels) e ∙ cell.at)

-- what a FIFO1 holds stands at its place
pub content_at : (c : RawCircuit) (k : ℕ) (kind : Kind) (state : State) → is_fifo kind ≡ true → content c k kind state ≡ get_or state (cell_of c k) None
content_at c k kind state fifo = ap (λ b. cond b (get_or state (cell_of c k) None) None) fifo

first_contents : List Channel → State
first_contents channels = flat_map (λ channel. first_content channel.kind) channels

length-first_contents : (channels : List Channel) → length (first_contents channels) ≡ fifos channels
unfolding first_contents
length-first_contents [] = refl
length-first_contents (channel ∷ channels) = go (is_fifo channel.kind) refl (length-first_contents channels)
  where
    go : (b : Bool) → is_fifo channel.kind ≡ b → length (first_contents channels) ≡ fifos channels → length (first_contents (channel ∷ channels)) ≡ fifos (channel ∷ channels)
    go true e more = fifo_content (first_contents channels) channel.kind e ∙ (ap suc more ∙ sym (fifos-more channel channels e))
    go false e more = ap length (other_content (first_contents channels) channel.kind e) ∙ (more ∙ sym (fifos-same channel channels e))

-- the initial state is one
pub initial_is_state : (c : RawCircuit) → IsState c (initial_state c)
unfolding first_contents
initial_is_state c = length-first_contents c.channels
