-- Growth: partial firings, from one automaton on, each wider than the last by the least automaton that is open.
use Rattle.std.specs.Prelude.{◌≡◌, ◌≤◌, ℕ, zero, suc, nat_eq, nat_lt, List, [], ◌∷◌, length, map, filter, flat_map, Option, Some, None, is_some, Bool, true, false, not, ◌&&◌, ◌||◌, if◌then◌else◌}
use Rattle.std.specs.List.{list_any, list_all, find, range_with_len}
use Rattle.reo_growth.specs.declared.web.Web.{Web}
use Rattle.reo_growth.specs.Lists.{has, Among}
use Rattle.reo_growth.specs.Web.{names_of, links_of}

-- an automaton with one of its links
pub record Move : Type 0 where
  pub automaton : ℕ
  pub fires : List ℕ

-- a partial firing: a list of automata with one link each, the newest first
abbrev pub Vertex : Type 0
Vertex = List Move

-- whether the name fires in a link of the list
unfoldable pub fired : Vertex → ℕ → Bool
fired v name = list_any (λ move. has move.fires name) v

-- whether the automaton is in the list
unfoldable pub is_listed : Vertex → ℕ → Bool
is_listed v x = list_any (λ move. nat_eq move.automaton x) v

-- an automaton is open where it is not in the list, and a name of it fires in a link of the list
unfoldable pub is_open : Web → Vertex → ℕ → Bool
is_open w v x = not (is_listed v x) && list_any (fired v) (names_of w x)

-- the places of the automata
abbrev pub places : Web → List ℕ
places w = range_with_len 0 (length w.automata)

-- the least automaton that is open
unfoldable pub least_open : Web → Vertex → Option ℕ
least_open w v = find (is_open w v) (places w)

abbrev pub same : Bool → Bool → Bool
same true b = b
same false b = not b

-- whether automaton x with this link agrees with a move about each name that both automata have
unfoldable pub agrees_with : Web → ℕ → List ℕ → Move → Bool
agrees_with w x link move = list_all (λ name. not (has (names_of w move.automaton) name) || same (has link name) (has move.fires name)) (names_of w x)

-- whether it agrees with every automaton in the list
unfoldable pub agrees : Web → Vertex → ℕ → List ℕ → Bool
agrees w v x link = list_all (agrees_with w x link) v

-- whether an automaton in the list has the name
unfoldable pub known : Web → Vertex → ℕ → Bool
known w v name = list_any (λ move. has (names_of w move.automaton) name) v

-- whether automaton x with this link agrees with the list as a whole: about each name that an automaton in the list has,
-- the link fires it just where some link of the list does
unfoldable pub agrees_as_one : Web → Vertex → ℕ → List ℕ → Bool
agrees_as_one w v x link = list_all (λ name. not (known w v name) || same (has link name) (fired v name)) (names_of w x)

-- whether no FIFO1 has both ends
unfoldable pub fits : Web → Vertex → Bool
fits w v = list_all (λ cell. not (fired v cell.0 && fired v cell.1)) w.cells

unfoldable pub with_link : Vertex → ℕ → List ℕ → Vertex
with_link v x link = record { automaton = x; fires = link } ∷ v

-- the list, wider by x with each of its links that agrees with the list and fits
unfoldable pub extended : Web → Vertex → ℕ → List Vertex
extended w v x = map (with_link v x) (filter (λ link. agrees w v x link && fits w (with_link v x link)) (links_of w x))

-- the children of a vertex, given the least automaton that is open: none where nothing is open or it is less than the root
unfoldable pub children_at : Web → ℕ → Vertex → Option ℕ → List Vertex
children_at w root v None = []
children_at w root v (Some x) = if nat_lt x root then [] else extended w v x

-- the vertex, and what grows from it with at most n further automata
unfoldable pub grown : Web → ℕ → ℕ → Vertex → List Vertex
grown w root zero v = v ∷ []
grown w root (suc n) v = v ∷ flat_map (grown w root n) (children_at w root v (least_open w v))

-- the vertices of a root: it alone with each of its links, and what grows from these. No list has an automaton twice, so
-- the bound on the further automata cuts nothing off
unfoldable pub vertices_of : Web → ℕ → List Vertex
vertices_of w root = flat_map (grown w root (length w.automata)) (extended w [] root)

-- all vertices
unfoldable pub vertices : Web → List Vertex
vertices w = flat_map (vertices_of w) (places w)

-- the vertices of a root by their rules: it alone with a link, and each child of a vertex
pub data IsVertex (w : Web) (root : ℕ) : Vertex → Type 0 where
  alone : (link : List ℕ) → Among link (links_of w root) → fits w (with_link [] root link) ≡ true → IsVertex w root (with_link [] root link)
  child : (v : Vertex) (x : ℕ) (link : List ℕ) → IsVertex w root v → least_open w v ≡ Some x → root ≤ x → Among link (links_of w x) → agrees w v x link ≡ true → fits w (with_link v x link) ≡ true → IsVertex w root (with_link v x link)

-- how many there are
unfoldable pub growth_count : Web → ℕ
growth_count w = length (vertices w)

-- no automaton is open
unfoldable pub is_complete : Web → Vertex → Bool
is_complete w v = not (is_some (least_open w v))

-- the names that fire in a list, rising
unfoldable pub firing_names : Web → Vertex → List ℕ
firing_names w v = filter (fired v) (range_with_len 0 w.names)

-- the lists of these in which no automaton is open
abbrev pub complete_ones : Web → List Vertex → List Vertex
complete_ones w list = filter (is_complete w) list
