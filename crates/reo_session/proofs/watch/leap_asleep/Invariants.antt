use Rattle.std.proofs.Common.{◌-◌, ◌≤◌}
use Rattle.reo_session.specs.Watch.{AreAsleep}
use Rattle.reo_session.proofs.watch.leap_asleep.Given as goal

abbrev pub invariant-loop-region : goal.invariant-loop-region
invariant-loop-region l = record {
  after : l.from ≤ l.region;
  within : l.region ≤ l.to;
  asleep : AreAsleep l.awake l.from l.region;
}

abbrev pub decreases-loop-region : goal.decreases-loop-region
decreases-loop-region l = l.to - l.region
