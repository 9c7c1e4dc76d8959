use Rattle.std.proofs.Common.{arith}
use Rattle.reo_session.proofs.WakeLemmas.{asleep_one}
use Rattle.reo_session.proofs.watch.skip_asleep.Goals as goal

pub loop-region-preserved : goal.loop-region-preserved
loop-region-preserved c = record {
  after = omega (arith, c.loop-region.invariant.after);
  within = omega (arith, c.loop-region-test.true);
  asleep = asleep_one c.args.awake.now c.args.from c.loop-region.region _ (omega (arith, c.loop-region-test.true, c.requires.to)) c.if-awake-region.false c.loop-region.invariant.asleep;
}
