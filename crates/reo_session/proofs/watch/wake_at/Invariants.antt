use Rattle.std.proofs.Common.{take}
use Rattle.reo_session.specs.Watch.{WakesAt}
use Rattle.reo_session.proofs.watch.wake_at.Given as goal

abbrev pub invariant-loop-place : goal.invariant-loop-place
invariant-loop-place l = record { wakes : WakesAt l.table (take l.place-index l.places) l.initial.awake.items l.awake.items }
