-- The web of a region: its automata in rising order and its names in rising order, each known by its place.
use Rattle.std.specs.Prelude.{◌≡◌, ℕ, ◌<◌, List, length, slice_get, slice_index, Bool, true, Some}
use Rattle.std.specs.List.Sorted.{IsStrictlyIncreasing}
use Rattle.reo_net.specs.declared.circuit.Channel.{Channel}
use Rattle.reo_net.specs.declared.circuit.RawCircuit.{RawCircuit}
use Rattle.reo_net.specs.Names.{end_a, end_b}
use Rattle.reo_net.specs.Kind.{is_fifo}
use Rattle.reo_net.specs.Regions.{Automaton, HasName, SameRegion, AutomatonFires}
use Rattle.reo_automata.specs.Template.{automaton_of}
use Rattle.reo_growth.specs.declared.web.Automaton.{Automaton as WebAutomaton}
use Rattle.reo_growth.specs.declared.web.Web.{Web}
use Rattle.reo_growth.specs.Lists.{has, Among}
use Rattle.reo_growth.specs.Web.{AreApart}

-- the name at a place
abbrev pub name_at : List ℕ → ℕ → ℕ
name_at names place = slice_index names place

-- of the web automaton's names, the set has those of the link
abbrev pub LinkFires : List ℕ → WebAutomaton → List ℕ → (ℕ → Bool) → Type 0
LinkFires names a link fires = (place : ℕ) → has a.names place ≡ true → fires (name_at names place) ≡ has link place

-- An automaton of the circuit as one of a web: its names and its transitions, by the places of names.
pub record IsWebAutomaton (c : RawCircuit) (names : List ℕ) (x : Automaton) (a : WebAutomaton) : Type 0 where
  pub below : (place : ℕ) → has a.names place ≡ true → place < length names
  pub named : (place : ℕ) → has a.names place ≡ true → HasName c x (name_at names place)
  pub every : (name : ℕ) → HasName c x name → (place : ℕ) × (has a.names place ≡ true) × (name_at names place ≡ name)
  -- its links are the transitions, each once
  pub fires : (fires : ℕ → Bool) (link : List ℕ) → Among link a.links → LinkFires names a link fires → AutomatonFires c x fires
  pub links : (fires : ℕ → Bool) → AutomatonFires c x fires → (link : List ℕ) × Among link a.links × LinkFires names a link fires
  pub own : (link : List ℕ) → Among link a.links → (place : ℕ) → has link place ≡ true → has a.names place ≡ true
  pub some : (link : List ℕ) → Among link a.links → (place : ℕ) × (has link place ≡ true)
  pub apart : AreApart a.links

-- The web of the region of root, over these names of the circuit.
pub record IsRegionWeb (c : RawCircuit) (root : Automaton) (names : List ℕ) (w : Web) : Type 0 where
  pub rising : IsStrictlyIncreasing names
  pub size : w.names ≡ length names
  -- the numbers of the region's automata, rising
  pub region : List ℕ
  pub in_order : IsStrictlyIncreasing region
  pub as_many : length w.automata ≡ length region
  pub only : (i : ℕ) → i < length region → SameRegion c root (automaton_of c (slice_index region i))
  pub all : (x : Automaton) → SameRegion c root x → (i : ℕ) × (i < length region) × (automaton_of c (slice_index region i) ≡ x)
  pub each : (i : ℕ) (a : WebAutomaton) → slice_get w.automata i ≡ Some a → IsWebAutomaton c names (automaton_of c (slice_index region i)) a
  -- the FIFO1s of which both ends are names of the region
  pub cells : (a b : ℕ) → Among (a, b) w.cells → (a < length names) × (b < length names)
      × ((k : ℕ) × (channel : Channel) × (slice_get c.channels k ≡ Some channel) × (is_fifo channel.kind ≡ true) × (name_at names a ≡ end_a c k) × (name_at names b ≡ end_b c k))
  pub all_cells : (k : ℕ) (channel : Channel) → slice_get c.channels k ≡ Some channel → is_fifo channel.kind ≡ true
      → (a b : ℕ) → a < length names → b < length names → name_at names a ≡ end_a c k → name_at names b ≡ end_b c k → Among (a, b) w.cells
