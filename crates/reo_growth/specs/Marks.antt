-- Words that mirror the code of growth: what it marks of a partial firing.
use Rattle.std.specs.Prelude.{◌≡◌, ℕ, ◌<◌, ◌≤◌, List, [], length, map, slice_index_or, Bool, true, false, not, ◌&&◌, ◌||◌, if◌then◌else◌, All}
use Rattle.std.specs.List.{list_any, range_with_len}
use Rattle.reo_growth.specs.declared.marks.Mark.{Mark}
use Rattle.reo_growth.specs.declared.marks.Mark.TheVariants.{Absent, Open, Listed, Unknown, Silent, Fires}
use Rattle.reo_growth.specs.declared.web.Web.{Web}
use Rattle.reo_growth.specs.Lists.{has}
use Rattle.reo_growth.specs.Web.{names_of}
use Rattle.reo_growth.specs.Growth.{Vertex, fired, known, is_listed, places}

abbrev pub is_open_mark : Mark → Bool
is_open_mark Open = true
is_open_mark other = false

abbrev pub is_fires : Mark → Bool
is_fires Fires = true
is_fires other = false

-- whether a link may fire a name with this mark, or not fire it
abbrev pub allows : Mark → Bool → Bool
allows Silent fires = not fires
allows Fires fires = fires
allows other fires = true

-- the mark of a name that an automaton in the list has from now on
abbrev pub met : Mark → Mark
met Unknown = Silent
met other = other

-- the mark of an automaton with a name that fires from now on
abbrev pub opened : Mark → Mark
opened Absent = Open
opened other = other

-- a name neither fires nor stands in the link
abbrev pub is_free : List Mark → List ℕ → ℕ → Bool
is_free marks link name = not (is_fires (slice_index_or marks name Unknown) || has link name)

-- a list, changed at the places that pass the test
abbrev pub Changes : (ℕ → Bool) → (Mark → Mark) → List Mark → List Mark → Type 0
Changes test change old new = (length new ≡ length old) × ((k : ℕ) (d : Mark) → k < length old → slice_index_or new k d ≡ (if test k then change (slice_index_or old k d) else slice_index_or old k d))

-- no automaton before this one is marked open
abbrev pub NoneOpenBefore : ℕ → List Mark → Type 0
NoneOpenBefore from marks = (k : ℕ) (d : Mark) → k < from → k < length marks → is_open_mark (slice_index_or marks k d) ≡ false

-- it is not more than the start, nor than any number that passes the test
abbrev pub IsBefore : (ℕ → Bool) → ℕ → ℕ → Type 0
IsBefore test start least = (least ≤ start) × ((k : ℕ) → test k ≡ true → least ≤ k)

-- all of these are below the bound
abbrev pub AreBelow : ℕ → List ℕ → Type 0
AreBelow bound xs = All (λ x. x < bound) xs

-- the mark of an automaton, and of a name
unfoldable pub automaton_mark : Web → Vertex → ℕ → Mark
automaton_mark w v x = if is_listed v x then Listed else if list_any (fired v) (names_of w x) then Open else Absent

unfoldable pub name_mark : Web → Vertex → ℕ → Mark
name_mark w v name = if fired v name then Fires else if known w v name then Silent else Unknown

-- the marks of a list: its automata's, and its names'
abbrev pub automaton_marks : Web → Vertex → List Mark
automaton_marks w v = map (automaton_mark w v) (places w)

abbrev pub name_marks : Web → Vertex → List Mark
name_marks w v = map (name_mark w v) (range_with_len 0 w.names)

-- the automata that have a name, by a table
abbrev pub holders_at : List (List ℕ) → ℕ → List ℕ
holders_at holders name = slice_index_or holders name []

-- some name of the link that did not fire before has this automaton as a holder
abbrev pub is_newly_held : List Mark → List (List ℕ) → List ℕ → ℕ → Bool
is_newly_held marks holders link x = list_any (λ name. not (is_fires (slice_index_or marks name Unknown)) && has (holders_at holders name) x) link

-- the table has for each name the automata that have it
pub record AreHolders (w : Web) (holders : List (List ℕ)) : Type 0 where
  pub long : length holders ≡ w.names
  pub below : All (AreBelow (length w.automata)) holders
  pub have : (x name : ℕ) → name < w.names → has (holders_at holders name) x ≡ has (names_of w x) name
