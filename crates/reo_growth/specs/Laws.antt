-- Laws of the definitions, each the contract of a function that does nothing.
use Rattle.std.specs.Prelude.{◌≡◌, ◌↔◌, ℕ, List, Bool, true}
use Rattle.reo_growth.specs.declared.web.Web.{Web}
use Rattle.reo_growth.specs.Lists.{has, Among, AtMostOne}
use Rattle.reo_growth.specs.Web.{names_of, IsWeb, Moves, FiresAs, IsConnected}
use Rattle.reo_growth.specs.Growth.{Vertex, fired, agrees, agrees_as_one, vertices_of, vertices, is_complete, IsVertex}

-- the vertex has no open automaton, and what fires in it is this set
pub record StandsFor (w : Web) (F : ℕ → Bool) (v : Vertex) : Type 0 where
  pub complete : is_complete w v ≡ true
  pub fires : (name : ℕ) → fired v name ≡ F name

-- some vertex stands for each connected firing
abbrev pub GrowsAll : Type 0
GrowsAll = (w : Web) → IsWeb w → (F : ℕ → Bool) → IsConnected w F → (v : Vertex) × Among v (vertices w) × StandsFor w F v

-- what fires in a vertex with no open automaton is a connected firing
abbrev pub GrowsOnly : Type 0
GrowsOnly = (w : Web) → IsWeb w → (v : Vertex) → Among v (vertices w) → is_complete w v ≡ true → IsConnected w (fired v)

-- no two vertices stand for the same set
abbrev pub GrowsOnce : Type 0
GrowsOnce = (w : Web) → IsWeb w → (F : ℕ → Bool) → AtMostOne (StandsFor w F) (vertices w)

-- the list of a root's vertices has those that the rules give, and no others
abbrev pub VerticesByRule : Type 0
VerticesByRule = (w : Web) (root : ℕ) (v : Vertex) → Among v (vertices_of w root) ↔ IsVertex w root v

-- no vertex stands twice among all of them
abbrev pub VerticesOnce : Type 0
VerticesOnce = (w : Web) → IsWeb w → (v : Vertex) → AtMostOne (λ other. other ≡ v) (vertices w)

-- a link agrees with every automaton of a vertex exactly where it agrees with the vertex as a whole
abbrev pub AgreesAsOne : Type 0
AgreesAsOne = (w : Web) → IsWeb w → (v : Vertex) → Among v (vertices w) → (x : ℕ) (link : List ℕ) → agrees w v x link ≡ agrees_as_one w v x link

-- of each automaton the set has the names of one link, or none, and no FIFO1 has both ends: automata that do not hang
-- together may fire in it
pub record IsJointFiring (w : Web) (F : ℕ → Bool) : Type 0 where
  pub within : (name : ℕ) → F name ≡ true → (x : ℕ) × (has (names_of w x) name ≡ true)
  pub each : (x : ℕ) → Moves w F x → (link : List ℕ) × FiresAs w F x link
  pub cells : (a b : ℕ) → Among (a, b) w.cells → F a ≡ true → F b ≡ true → ⊥

-- the part of a set in which an automaton moves: a connected firing, with all that its automata fire in the set
pub record IsPart (w : Web) (F : ℕ → Bool) (x : ℕ) (part : ℕ → Bool) : Type 0 where
  pub connected : IsConnected w part
  pub inside : (name : ℕ) → part name ≡ true → F name ≡ true
  pub own : (name : ℕ) → has (names_of w x) name ≡ true → F name ≡ true → part name ≡ true
  pub closed : (y at name : ℕ) → has (names_of w y) at ≡ true → part at ≡ true → has (names_of w y) name ≡ true → F name ≡ true → part name ≡ true

-- each automaton that moves in such a set moves in a part of it
abbrev pub SplitsIntoParts : Type 0
SplitsIntoParts = (w : Web) (F : ℕ → Bool) → IsJointFiring w F → (x : ℕ) → Moves w F x → (part : ℕ → Bool) × IsPart w F x part

-- and two parts that share a name are one
abbrev pub PartsShareNothing : Type 0
PartsShareNothing =
    (w : Web) (F : ℕ → Bool) (x y : ℕ) (one other : ℕ → Bool) → IsPart w F x one → IsPart w F y other → (shared : ℕ) → one shared ≡ true → other shared ≡ true → (name : ℕ) → one name ≡ other name
