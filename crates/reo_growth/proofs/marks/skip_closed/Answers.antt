use Rattle.std.proofs.Common.{sym, refl, ◌∙◌, arith}
use Rattle.reo_growth.proofs.OpenLemmas.{closed_further}
use Rattle.reo_growth.proofs.marks.skip_closed.Goals as goal

pub loop-from-preserved : goal.loop-from-preserved
loop-from-preserved c = record {
  within = omega (arith, c.loop-from-test.true, c.loop-from.invariant.within);
  before = closed_further c.args.automata.now _ c.loop-from.from 64 _ refl (omega arith) (omega (arith, c.loop-from-test.true, c.loop-from.invariant.within))
      (sym c.none_open.ensures ∙ c.if-not-none_open.false) c.loop-from.invariant.before;
}
