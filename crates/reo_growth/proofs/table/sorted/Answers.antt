use Rattle.std.proofs.Common.{◌≤◌, arith, length}
use Rattle.std.proofs.lemmas.List.Filters.{dedup_is}
use Rattle.std.proofs.lemmas.List.Sorted.{IsPermutation-sym}
use Rattle.std.proofs.lemmas.Grind.{common_steps}
use Rattle.reo_growth.proofs.SortLemmas.{row_eq, sorted_rows}
use Rattle.reo_growth.proofs.table.sorted.Goals as goal

pub returns : goal.returns
unfolding row_eq
returns c =
    let kept = dedup_is _ _ _ c.dedup.ensures.filtered in
    let few : length c.dedup.new.self.items ≤ length c.args.rows.items = grind (arith, common_steps, c.dedup.ensures.bound, c.in_ok-sort.ensures.len) in
    let there = c.in_ok-sort.ensures.permutation in
    sorted_rows c.args.rows.items c.sort.new.self.items c.dedup.new.self.items there (IsPermutation-sym c.args.rows.items c.sort.new.self.items there) c.in_ok-sort.ensures.sorted kept few
