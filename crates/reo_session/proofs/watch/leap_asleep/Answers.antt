use Rattle.std.proofs.Common.{refl, sym, ◌∙◌, arith}
use Rattle.reo_session.proofs.WakeLemmas.{asleep_further}
use Rattle.reo_session.proofs.watch.leap_asleep.Goals as goal

pub loop-region-preserved : goal.loop-region-preserved
loop-region-preserved c = record {
  after = omega (arith, c.loop-region.invariant.after);
  within = omega (arith, c.loop-region-test.true, c.loop-region.invariant.within);
  asleep = asleep_further c.args.awake.now _ c.args.from c.loop-region.region 64 _ refl (omega arith) (omega (arith, c.loop-region-test.true, c.loop-region.invariant.within, c.requires.to))
      (sym c.none_awake.ensures ∙ c.if-not-none_awake.false) c.loop-region.invariant.asleep;
}
