use Rattle.std.proofs.Common.{◌≡◌, ℕ, ◌<◌, [], length, filter, get_or}
use Rattle.std.specs.List.{range_with_len}
use Rattle.reo_product.specs.Region.{is_at}
use Rattle.reo_product.proofs.members.lists_of.Given as goal

abbrev pub invariant-loop-number : goal.invariant-loop-number
invariant-loop-number l = record {
  long : length l.lists.items ≡ l.fn.regions;
  each : (region : ℕ) → region < l.fn.regions → get_or l.lists.items region [] ≡ filter (is_at l.region_of region) (range_with_len 0 l.number);
}
