use Rattle.std.proofs.Common.{◌≡◌, ◌-◌, ◌≤◌, length}
use Rattle.reo_session.specs.Turn.{AreQuiet}
use Rattle.reo_session.specs.Watch.{AsleepAreQuiet}
use Rattle.reo_session.proofs.turn.fire_between.Given as goal

-- nothing has changed, and no region so far has a choice
abbrev pub invariant-loop-region : goal.invariant-loop-region
invariant-loop-region g l = record {
  same : l.engine ≡ l.initial.engine;
  after : l.from ≤ l.region;
  within : l.region ≤ l.to;
  long : length l.awake.items ≡ length l.initial.awake.items;
  asleep : AsleepAreQuiet (g.D.Decider.first_choice l.initial.engine.decider) l.initial.engine l.awake.items;
  quiet : AreQuiet (g.D.Decider.first_choice l.initial.engine.decider) l.initial.engine l.from l.region;
}

abbrev pub decreases-loop-region : goal.decreases-loop-region
decreases-loop-region g l = l.to - l.region
