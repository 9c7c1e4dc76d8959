use Rattle.std.proofs.Common.{take}
use Rattle.reo_plan.specs.inside.Marks.{IsMask, IsMarked}
use Rattle.reo_plan.proofs.marks.mask_of.Given as goal

abbrev pub invariant-loop-number : goal.invariant-loop-number
invariant-loop-number l = record {
  mask : IsMask (take l.number-index l.numbers) l.mask;
  marked : IsMarked (take l.number-index l.numbers) l.mask;
}
