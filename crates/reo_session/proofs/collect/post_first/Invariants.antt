use Rattle.std.proofs.Common.{◌≡◌, ℕ, length}
use Rattle.reo_session.specs.Posted.{WithPorts}
use Rattle.reo_session.specs.Running.{IsPosting}
use Rattle.reo_session.specs.Watch.{IsAsleep, IsWatch, KnowsFirst}
use Rattle.reo_session.proofs.collect.post_first.Given as goal

abbrev pub invariant-loop-component : goal.invariant-loop-component
invariant-loop-component g l = record {
  posting : IsPosting l.scripts l.component (length l.initial.engine.ports) l.engine.ports;
  engine : WithPorts l.initial.engine l.engine l.engine.ports;
  watch : IsWatch l.initial.engine.fabric l.watch;
  waiting : length l.watch.waiting.items ≡ length l.initial.engine.fabric.ports;
  knows : KnowsFirst l.scripts l.component l.watch.waiting.items;
  awake : (region : ℕ) → IsAsleep l.watch.awake.items region → ⊥;
}
