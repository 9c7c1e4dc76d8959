use Rattle.std.proofs.Common.{◌≡◌, ℕ, ◌<◌, ◌≤◌, length, get_or, None}
use Rattle.reo_fabric.specs.Reading.{state_word, data_word}
use Rattle.reo_fabric.specs.Engine.{offers_of}
use Rattle.reo_fabric.proofs.words.read_ports.Given as goal

abbrev pub invariant-loop-at : goal.invariant-loop-at
invariant-loop-at l = record {
  len : length l.words ≡ length l.initial.words;
  done : (k : ℕ) → k < l.at → get_or l.words k (0, 0, 0) ≡ ((get_or l.initial.words k (0, 0, 0)).0, state_word (get_or (offers_of l.ports) (get_or l.initial.words k (0, 0, 0)).0 None), data_word (get_or (offers_of l.ports) (get_or l.initial.words k (0, 0, 0)).0 None));
  left : (k : ℕ) → l.at ≤ k → get_or l.words k (0, 0, 0) ≡ get_or l.initial.words k (0, 0, 0);
}
