use Rattle.std.proofs.Common.{arith, ◌∙◌}
use Rattle.std.proofs.Math.Seq.{take-add}
use Rattle.std.proofs.lemmas.List.{take_rest}
use Rattle.std.proofs.KnownBytes.{Appends-trans}
use Rattle.reo_base.proofs.whole_write.write_whole.Goals as goal

pub loop-written-preserved : goal.loop-written-preserved
loop-written-preserved g c = record {
  within = omega (arith, c.in-Ok.ensures.some);
  kept = c.in-Ok.ensures.cause.kept ∙ c.loop-written.invariant.kept;
  appended = rw take-add (Appends-trans _ _ _ _ _ c.loop-written.invariant.appended (rw take_rest at c.in-Ok.ensures.bytes));
}
