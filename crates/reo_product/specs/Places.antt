-- Words that mirror the code: lists of names as lists of their places.
use Rattle.std.specs.Prelude.{◌≡◌, ℕ, ◌<◌, List, [], ◌∷◌, length, map, slice_get, slice_index, All, Bool, true, false, ◌||◌, nat_lt, nat_eq, if◌then◌else◌, Option, Some, None, ◌+◌, ◌-◌, ◌/◌, ◌%◌}
use Rattle.std.specs.Option.{option_map_or}
use Rattle.reo_net.specs.declared.circuit.Channel.{Channel}
use Rattle.reo_net.specs.declared.circuit.RawCircuit.{RawCircuit}
use Rattle.reo_net.specs.Names.{end_a, end_b}
use Rattle.reo_net.specs.Kind.{is_fifo}
use Rattle.std.specs.List.Sorted.{IsStrictlyIncreasing}
use Rattle.reo_net.specs.Regions.{Automaton, SameRegion}
use Rattle.reo_automata.specs.Template.{automaton_of, IsTemplate}
use Rattle.reo_automata.specs.declared.template.Template.{Template}
use Rattle.reo_growth.specs.declared.web.Automaton.{Automaton as WebAutomaton}
use Rattle.reo_growth.specs.Lists.{has, Among}
use Rattle.reo_product.specs.RegionWeb.{name_at}

-- the places are those of these names, in the same order
pub record ArePlacesOf (names list places : List ℕ) : Type 0 where
  pub named : map (name_at names) places ≡ list
  pub within : All (λ place. place < length names) places

-- each of these is one of the names
abbrev pub AreKnown : List ℕ → List ℕ → Type 0
AreKnown names list = All (λ name. (place : ℕ) × (place < length names) × (name_at names place ≡ name)) list

-- the lists are as long, and each two at one place are related
abbrev pub ArePaired : {A B : Type 0} → (A → B → Type 0) → List A → List B → Type 0
ArePaired R [] [] = Unit {0}
ArePaired R [] (y ∷ ys) = ⊥
ArePaired R (x ∷ xs) [] = ⊥
ArePaired R (x ∷ xs) (y ∷ ys) = R x y × ArePaired R xs ys

-- the lists of places are those of these lists of names, one for one
abbrev pub AreEachPlacesOf : List ℕ → List (List ℕ) → List (List ℕ) → Type 0
AreEachPlacesOf names lists placed = ArePaired (ArePlacesOf names) lists placed

-- the automaton of a web is that of the template, by places
pub record IsPlacedTemplate (names : List ℕ) (t : Template) (a : WebAutomaton) : Type 0 where
  pub names_placed : ArePlacesOf names t.names a.names
  pub links_placed : AreEachPlacesOf names (map (λ link. link.fires) t.links) a.links

-- the template's names are known
pub record IsKnownTemplate (names : List ℕ) (t : Template) : Type 0 where
  pub known : AreKnown names t.names
  pub links_known : All (λ link. AreKnown names link.fires) t.links

-- the templates of the automata with these numbers
abbrev pub AreTemplates : RawCircuit → List ℕ → List Template → Type 0
AreTemplates c automata templates = ArePaired (λ x. IsTemplate c (automaton_of c x)) automata templates

-- the names of some templates, rising
pub record AreNamesOf (templates : List Template) (names : List ℕ) : Type 0 where
  pub rising : IsStrictlyIncreasing names
  pub every : (t : Template) (name : ℕ) → Among t templates → has t.names name ≡ true → has names name ≡ true
  pub only : (name : ℕ) → has names name ≡ true → (t : Template) × Among t templates × (has t.names name ≡ true)

-- the FIFO1 of channel k, by the places of its ends
pub record IsCell (c : RawCircuit) (names : List ℕ) (a b : ℕ) : Type 0 where
  pub in_a : a < length names
  pub in_b : b < length names
  pub k : ℕ
  pub channel : Channel
  pub found : slice_get c.channels k ≡ Some channel
  pub fifo : is_fifo channel.kind ≡ true
  pub at_a : name_at names a ≡ end_a c k
  pub at_b : name_at names b ≡ end_b c k

-- these are the FIFO1s among the first channels, so many, of which both ends are among the names
pub record AreCells (c : RawCircuit) (names : List ℕ) (count : ℕ) (cells : List (ℕ × ℕ)) : Type 0 where
  pub only : (a b : ℕ) → Among (a, b) cells → IsCell c names a b
  pub all : (k : ℕ) (channel : Channel) → k < count → slice_get c.channels k ≡ Some channel → is_fifo channel.kind ≡ true
      → (a b : ℕ) → a < length names → b < length names → name_at names a ≡ end_a c k → name_at names b ≡ end_b c k → Among (a, b) cells

-- whether the name is that of the first end of a buffer
abbrev pub begins_buffer : RawCircuit → ℕ → Bool
begins_buffer c name =
    if nat_lt name (length c.ports) || nat_eq ((name - length c.ports) % 2) 1
    then false
    else option_map_or (λ channel. is_fifo channel.kind) (slice_get c.channels ((name - length c.ports) / 2)) false

-- the automata of the region of root, by their numbers, rising
pub record AreRegionAutomata (c : RawCircuit) (root : Automaton) (region : List ℕ) : Type 0 where
  pub rising : IsStrictlyIncreasing region
  pub only : (i : ℕ) → i < length region → SameRegion c root (automaton_of c (slice_index region i))
  pub all : (x : Automaton) → SameRegion c root x → (i : ℕ) × (i < length region) × (automaton_of c (slice_index region i) ≡ x)

-- the places of a cell's two ends, where there is a buffer and both ends are names
abbrev pub FindsCell : List ℕ → Bool → ℕ → Option (ℕ × ℕ) → Type 0
FindsCell names is_buffer a None = is_buffer ≡ true → (p q : ℕ) → p < length names → q < length names → name_at names p ≡ a → name_at names q ≡ a + 1 → ⊥
FindsCell names is_buffer a (Some cell) =
    (is_buffer ≡ true) × (cell.0 < length names) × (cell.1 < length names) × (name_at names cell.0 ≡ a) × (name_at names cell.1 ≡ a + 1)
