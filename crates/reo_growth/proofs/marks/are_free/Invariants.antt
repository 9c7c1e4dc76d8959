use Rattle.std.proofs.Common.{◌≡◌, drop}
use Rattle.std.specs.List.{list_all}
use Rattle.reo_growth.specs.Marks.{is_free}
use Rattle.reo_growth.proofs.marks.are_free.Given as goal

abbrev pub invariant-loop-other : goal.invariant-loop-other
invariant-loop-other l = list_all (is_free l.marks l.link) (drop l.other-index l.others) ≡ list_all (is_free l.marks l.link) l.others
