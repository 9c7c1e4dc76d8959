use Rattle.std.proofs.Common.{◌≡◌, ◌++◌, length, map}
use Rattle.std.specs.Vec.Iter.{into_iter_items, into_iter_len}
use Rattle.reo_product.specs.RegionWeb.{name_at}
use Rattle.reo_product.specs.Table.{names_in}
use Rattle.reo_product.proofs.table.firings_of.Given as goal

abbrev pub invariant-loop-row : goal.invariant-loop-row
invariant-loop-row l = (l.yielded ++ into_iter_items l.row-iterator ≡ into_iter_items l.initial.row-iterator)
    × (into_iter_len l.row-iterator ≡ length (into_iter_items l.row-iterator))
    × (map names_in l.firings.items ≡ map (λ row. map (name_at l.names) row.names.items) l.yielded)
