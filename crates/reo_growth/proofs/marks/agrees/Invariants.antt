use Rattle.std.proofs.Common.{◌≡◌, drop, slice_index_or}
use Rattle.std.specs.List.{list_all}
use Rattle.reo_growth.specs.declared.marks.Mark.TheVariants.{Unknown}
use Rattle.reo_growth.specs.Lists.{has}
use Rattle.reo_growth.specs.Marks.{allows}
use Rattle.reo_growth.proofs.marks.agrees.Given as goal

abbrev pub invariant-loop-name : goal.invariant-loop-name
invariant-loop-name l =
    list_all (λ name. allows (slice_index_or l.marks name Unknown) (has l.link name)) (drop l.name-index l.names)
    ≡ list_all (λ name. allows (slice_index_or l.marks name Unknown) (has l.link name)) l.names
