use Rattle.std.proofs.Common.{◌≡◌, take, not}
use Rattle.std.specs.List.{list_all}
use Rattle.reo_session.proofs.watch.none_awake.Given as goal

abbrev pub invariant-loop-mark : goal.invariant-loop-mark
invariant-loop-mark l = l.none ≡ list_all not (take l.mark-index l.marks)
