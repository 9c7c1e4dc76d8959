-- A web: the automata of a region, each known by its place, with the names that they share; and the sets of names that
-- fire at once in it.
use Rattle.std.specs.Prelude.{◌≡◌, ℕ, ◌<◌, ◌^◌, List, [], ◌∷◌, length, slice_get, Bool, true, All}
use Rattle.std.specs.Option.{option_map_or}
use Rattle.reo_growth.specs.declared.web.Web.{Web}
use Rattle.reo_growth.specs.Lists.{has, Among}

-- the names of the automaton at this place; past the last there are none
unfoldable pub names_of : Web → ℕ → List ℕ
names_of w x = option_map_or (λ automaton. automaton.names) (slice_get w.automata x) []

-- what each of its links fires
unfoldable pub links_of : Web → ℕ → List (List ℕ)
links_of w x = option_map_or (λ automaton. automaton.links) (slice_get w.automata x) []

-- the two are not the same set of names
abbrev pub Differ : List ℕ → List ℕ → Type 0
Differ one other = ((name : ℕ) → has one name ≡ has other name) → ⊥

-- each link differs from all after it
abbrev pub AreApart : List (List ℕ) → Type 0
AreApart [] = Unit {0}
AreApart (link ∷ links) = ((other : List ℕ) → Among other links → Differ link other) × AreApart links

-- What is asked of a web.
pub record IsWeb (w : Web) : Type 0 where
  -- a link fires names of its automaton
  pub own : (x : ℕ) (link : List ℕ) → Among link (links_of w x) → (name : ℕ) → has link name ≡ true → has (names_of w x) name ≡ true
  -- and at least one of them
  pub some : (x : ℕ) (link : List ℕ) → Among link (links_of w x) → (name : ℕ) × (has link name ≡ true)
  -- no two links of an automaton fire the same
  pub apart : (x : ℕ) → AreApart (links_of w x)
  -- all names, and the ends of each FIFO1, are below the bound
  pub below : (x name : ℕ) → has (names_of w x) name ≡ true → name < w.names
  pub ends : All (λ cell. (cell.0 < w.names) × (cell.1 < w.names)) w.cells

-- neither automata nor names are more than can be counted
abbrev pub AreFew : Web → Type 0
AreFew w = (length w.automata < 2 ^ 26) × (w.names < 2 ^ 26)

-- a name of the automaton is in the set
pub record Moves (w : Web) (F : ℕ → Bool) (x : ℕ) : Type 0 where
  pub name : ℕ
  pub its : has (names_of w x) name ≡ true
  pub fires : F name ≡ true

-- of its names, the automaton has in the set those of this link of its
pub record FiresAs (w : Web) (F : ℕ → Bool) (x : ℕ) (link : List ℕ) : Type 0 where
  pub its : Among link (links_of w x)
  pub same : (name : ℕ) → has (names_of w x) name ≡ true → F name ≡ has link name

-- a path of automata, each sharing a name of the set with the next
pub data Together (w : Web) (F : ℕ → Bool) (from : ℕ) : ℕ → Type 0 where
  here : Together w F from from
  joined : {x y : ℕ} (name : ℕ) → Together w F from x → has (names_of w x) name ≡ true → has (names_of w y) name ≡ true → F name ≡ true → Together w F from y

-- A set of names that fires at once, and hangs together.
pub record IsConnected (w : Web) (F : ℕ → Bool) : Type 0 where
  -- some automaton moves
  pub some : ℕ
  pub moving : Moves w F some
  -- each name is an automaton's
  pub within : (name : ℕ) → F name ≡ true → (x : ℕ) × (has (names_of w x) name ≡ true)
  -- each automaton that moves fires one of its links
  pub each : (x : ℕ) → Moves w F x → (link : List ℕ) × FiresAs w F x link
  -- no FIFO1 fires both ends
  pub cells : (a b : ℕ) → Among (a, b) w.cells → F a ≡ true → F b ≡ true → ⊥
  -- the automata that move hang together
  pub together : (x y : ℕ) → Moves w F x → Moves w F y → Together w F x y
