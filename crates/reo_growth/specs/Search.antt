-- Words that mirror the code of growth: the search from all roots.
use Rattle.std.specs.Prelude.{◌≡◌, ℕ, ◌+◌, ◌<◌, ◌≤◌, List, [], length, map, Option, Some, None, nat_eq, ◌||◌, ◌&&◌}
use Rattle.reo_growth.specs.declared.web.Web.{Web}
use Rattle.reo_growth.specs.declared.found.Found.{Found}
use Rattle.reo_growth.specs.declared.found.Row.{Row}
use Rattle.std.specs.Ordering.{ordering_then, nat_cmp}
use Rattle.std.specs.declared.cmp.Ordering.{Ordering}
use Rattle.std.specs.Cmp.Lexicographic.{slice_cmp}
use Rattle.std.specs.List.Sorted.{IsStrictlySortedBy}
use Rattle.reo_growth.specs.Lists.{has, Among}
use Rattle.reo_growth.specs.Growth.{vertices, growth_count, complete_ones}
use Rattle.reo_growth.specs.Found.{rows_of, row_of_vertex}
use Rattle.reo_growth.specs.Marks.{holders_at}

-- nothing was gone over yet
pub record IsFresh (found : Found) : Type 0 where
  pub room : found.room ≡ 65536
  pub count : found.count ≡ 0
  pub rows : rows_of found ≡ []

-- all vertices were gone over
pub record Covers (w : Web) (found : Found) : Type 0 where
  pub room : found.room + growth_count w ≡ 65536
  pub count : found.count ≡ length (complete_ones w (vertices w))
  pub rows : found.count ≤ 4096 → rows_of found ≡ map (row_of_vertex w) (complete_ones w (vertices w))

-- all vertices were gone over, or there are too many
abbrev pub Searched : Web → Option Found → Type 0
Searched w None = 65536 < growth_count w
Searched w (Some found) = Covers w found

-- the table has one more automaton with these names
abbrev pub AddsHolder : ℕ → List ℕ → List (List ℕ) → List (List ℕ) → Type 0
AddsHolder x names old new = (length new ≡ length old) × ((y name : ℕ) → name < length old → has (holders_at new name) y ≡ (has (holders_at old name) y || (nat_eq x y && has names name)))

abbrev pub names_in : Row → List ℕ
names_in row = row.names.items

abbrev pub row_cmp : Row → Row → Ordering
row_cmp one other = ordering_then (nat_cmp one.fewer other.fewer) (slice_cmp nat_cmp one.names.items other.names.items)

-- the names of the rows, in their order, each once
pub record AreSortedRows (rows : List Row) (lists : List (List ℕ)) : Type 0 where
  pub kept : List Row
  pub names : lists ≡ map names_in kept
  pub ordered : IsStrictlySortedBy row_cmp kept
  pub no_more : length kept ≤ length rows
  pub only : (row : Row) → Among row kept → Among row rows
  pub every : (row : Row) → Among row rows → (other : Row) × Among other kept × (names_in other ≡ names_in row)
