use Rattle.std.proofs.Common.{◌≡◌, ℕ, ◌-◌, ◌≤◌, take}
use Rattle.std.specs.Prelude.{vec_len}
use Rattle.reo_trace.proofs.room.widen.Given as goal

abbrev pub invariant-loop-buffer : goal.invariant-loop-buffer
invariant-loop-buffer l =
    (vec_len l.fn.buffer ≤ vec_len l.buffer) × ((used : ℕ) → used ≤ vec_len l.fn.buffer → take used l.buffer.items ≡ take used l.fn.buffer.items)

abbrev pub decreases-loop-buffer : goal.decreases-loop-buffer
decreases-loop-buffer l = l.len - vec_len l.buffer
