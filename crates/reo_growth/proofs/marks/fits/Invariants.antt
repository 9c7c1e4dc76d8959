use Rattle.std.proofs.Common.{◌≡◌, [], drop, slice_index_or}
use Rattle.std.specs.List.{list_all}
use Rattle.reo_growth.specs.Marks.{is_free}
use Rattle.reo_growth.proofs.marks.fits.Given as goal

abbrev pub invariant-loop-name : goal.invariant-loop-name
invariant-loop-name l =
    list_all (λ name. list_all (is_free l.marks l.link) (slice_index_or l.partners name [])) (drop l.name-index l.link)
    ≡ list_all (λ name. list_all (is_free l.marks l.link) (slice_index_or l.partners name [])) l.link
