use Rattle.std.proofs.Common.{◌≡◌, take, not}
use Rattle.std.specs.List.{list_all}
use Rattle.reo_growth.specs.Marks.{is_open_mark}
use Rattle.reo_growth.proofs.marks.none_open.Given as goal

abbrev pub invariant-loop-mark : goal.invariant-loop-mark
invariant-loop-mark l = l.none ≡ list_all (λ mark. not (is_open_mark mark)) (take l.mark-index l.marks)
