-- Words that mirror the code of growth: what it has found so far.
use Rattle.std.specs.Prelude.{◌≡◌, ℕ, ◌+◌, ◌-◌, ◌<◌, ◌≤◌, List, length, map, filter, slice_index_or, ◌++◌, Bool, true, false}
use Rattle.std.specs.List.{range_with_len}
use Rattle.reo_growth.specs.declared.found.Row.{Row}
use Rattle.reo_growth.specs.declared.found.Found.{Found}
use Rattle.reo_growth.specs.declared.marks.Mark.{Mark}
use Rattle.reo_growth.specs.declared.marks.Mark.TheVariants.{Unknown}
use Rattle.reo_growth.specs.declared.web.Web.{Web}
use Rattle.reo_growth.specs.Growth.{Vertex, firing_names, complete_ones}
use Rattle.reo_growth.specs.Marks.{is_fires}

-- a row without where it lies in memory
abbrev pub seen : Row → ℕ × List ℕ
seen row = (row.fewer, row.names.items)

-- names, behind how many of all names they lack
abbrev pub ranked : ℕ → List ℕ → ℕ × List ℕ
ranked size names = (size - length names, names)

-- the names with the mark that they fire
abbrev pub fired_places : List Mark → List ℕ
fired_places marks = filter (λ name. is_fires (slice_index_or marks name Unknown)) (range_with_len 0 (length marks))

abbrev pub rows_of : Found → List (ℕ × List ℕ)
rows_of found = map seen found.rows.items

abbrev pub row_of_vertex : Web → Vertex → ℕ × List ℕ
row_of_vertex w v = ranked w.names (firing_names w v)

-- growth went over these vertices: it used up room for each, counted those with no open automaton, and kept the rows of
-- the first of them
pub record WentOver (w : Web) (list : List Vertex) (old new : Found) : Type 0 where
  pub room : new.room + length list ≡ old.room
  pub count : new.count ≡ old.count + length (complete_ones w list)
  pub rows : new.count ≤ 4096 → rows_of new ≡ rows_of old ++ map (row_of_vertex w) (complete_ones w list)

-- it went over them, or there was no room for all of them
abbrev pub Went : Web → List Vertex → Found → Found → Bool → Type 0
Went w list old new true = WentOver w list old new
Went w list old new false = old.room < length list
