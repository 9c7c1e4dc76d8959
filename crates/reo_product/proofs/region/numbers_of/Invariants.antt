use Rattle.std.proofs.Common.{◌≡◌, filter}
use Rattle.std.specs.List.{range_with_len}
use Rattle.reo_product.specs.Region.{is_at}
use Rattle.reo_product.proofs.region.numbers_of.Given as goal

abbrev pub invariant-loop-number : goal.invariant-loop-number
invariant-loop-number l = l.numbers.items ≡ filter (is_at l.region_of l.region) (range_with_len 0 l.number)
