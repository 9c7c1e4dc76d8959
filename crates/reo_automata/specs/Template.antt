-- What a template says of an automaton: its names, and its transitions as sets of names with rules for their data.
use Rattle.std.specs.Prelude.{◌≡◌, ◌↔◌, ℕ, ◌-◌, List, length, slice_get, nat_lt, nat_eq, if◌then◌else◌, Bool, true, Option, Some, None, IfSome}
use Rattle.std.specs.List.{list_any}
use Rattle.std.specs.List.Sorted.{IsStrictlyIncreasing}
use Rattle.reo_value.specs.declared.value.Value.{Value}
use Rattle.reo_guard.specs.declared.guard.Guard.{Guard}
use Rattle.reo_guard.specs.declared.fun.Fun.{Fun}
use Rattle.reo_guard.specs.Holds.{Holds}
use Rattle.reo_guard.specs.Yields.{Yields}
use Rattle.reo_net.specs.declared.kind.Kind.{Kind}
use Rattle.reo_net.specs.declared.kind.Kind.TheVariants.{Filter, Transform}
use Rattle.reo_net.specs.declared.circuit.Channel.{Channel}
use Rattle.reo_net.specs.declared.circuit.RawCircuit.{RawCircuit}
use Rattle.reo_net.specs.Kind.{ChannelStep}
use Rattle.reo_net.specs.Names.{end_a, end_b}
use Rattle.reo_net.specs.Steps.{Data, fires_in, NodeStep}
use Rattle.reo_net.specs.Regions.{Automaton, OfChannel, OfNode, HasName, AutomatonFires}
use Rattle.reo_automata.specs.declared.template.Rule.{Rule}
use Rattle.reo_automata.specs.declared.template.Rule.TheVariants.{Same, Pass, Lose, Free, Image, Store, Emit}
use Rattle.reo_automata.specs.declared.template.Link.{Link}
use Rattle.reo_automata.specs.declared.template.Template.{Template}

-- channels are numbered first, then nodes
abbrev pub automaton_of : RawCircuit → ℕ → Automaton
automaton_of c number = if nat_lt number (length c.channels) then OfChannel number else OfNode (number - length c.channels)

-- whether the name is in the list
abbrev pub has : List ℕ → ℕ → Bool
has names name = list_any (λ x. nat_eq x name) names

-- A transition of the automaton, with these data, from what it holds to what it holds then; a node holds nothing that changes.
abbrev pub MakesMove : RawCircuit → List (List ℕ) → Automaton → Option Value → Data → Option Value → Type 0
MakesMove c texts (OfChannel k) held d new =
    (channel : Channel) × (slice_get c.channels k ≡ Some channel) × ChannelStep texts channel.kind held (d (end_a c k)) (d (end_b c k)) new
MakesMove c texts (OfNode node) held d new = NodeStep c node d × (new ≡ held)

-- there is a datum on both sides, and the two are related
abbrev pub Both : (Value → Value → Type 0) → Option Value → Option Value → Type 0
Both Related (Some v) (Some w) = Related v w
Both Related (Some v) None = ⊥
Both Related None b = ⊥

-- the channel is a filter whose guard the datum meets
abbrev pub MeetsGuard : List (List ℕ) → Kind → Value → Type 0
MeetsGuard texts kind v = (guard : Guard) × (kind ≡ Filter guard) × Holds texts guard v

-- the channel is a filter whose guard the datum fails
abbrev pub FailsGuard : List (List ℕ) → Kind → Value → Type 0
FailsGuard texts kind v = (guard : Guard) × (kind ≡ Filter guard) × (Holds texts guard v → ⊥)

-- the channel is a transform whose function yields the one datum at the other
abbrev pub IsImage : List (List ℕ) → Kind → Value → Value → Type 0
IsImage texts kind v w = (fun : Fun) × (kind ≡ Transform fun) × Yields texts fun v w

-- what a rule asks of the data at ends a and b of a channel of this kind, and of what it holds before and then
abbrev pub EndsObey : List (List ℕ) → Kind → Rule → Option Value → Option Value → Option Value → Option Value → Type 0
EndsObey texts kind Same held a b new = Both (λ v w. w ≡ v) a b × (new ≡ held)
EndsObey texts kind Pass held a b new = Both (λ v w. MeetsGuard texts kind v × (w ≡ v)) a b × (new ≡ held)
EndsObey texts kind Lose held a b new = IfSome a (FailsGuard texts kind) × (new ≡ held)
EndsObey texts kind Free held a b new = new ≡ held
EndsObey texts kind Image held a b new = Both (IsImage texts kind) a b × (new ≡ held)
EndsObey texts kind Store held a b new = (held ≡ None) × (new ≡ a)
EndsObey texts kind Emit held a b new = (b ≡ held) × (new ≡ None)

-- all names of the node that fire have one datum
abbrev pub HaveOneDatum : RawCircuit → ℕ → Data → Type 0
HaveOneDatum c node d = (value : Value) × ((name : ℕ) → HasName c (OfNode node) name → IfSome (d name) (λ v. v ≡ value))

-- what a node's rule asks: the one that it has is Same
abbrev pub NodeObeys : RawCircuit → ℕ → Rule → Data → Type 0
NodeObeys c node Same d = HaveOneDatum c node d
NodeObeys c node Pass d = ⊥
NodeObeys c node Lose d = ⊥
NodeObeys c node Free d = ⊥
NodeObeys c node Image d = ⊥
NodeObeys c node Store d = ⊥
NodeObeys c node Emit d = ⊥

abbrev pub Obeys : RawCircuit → List (List ℕ) → Automaton → Rule → Option Value → Data → Option Value → Type 0
Obeys c texts (OfChannel k) rule held d new =
    (channel : Channel) × (slice_get c.channels k ≡ Some channel) × EndsObey texts channel.kind rule held (d (end_a c k)) (d (end_b c k)) new
Obeys c texts (OfNode node) rule held d new = NodeObeys c node rule d × (new ≡ held)

-- of the automaton's names, those of the link are in the set
abbrev pub Fires : RawCircuit → Automaton → Link → (ℕ → Bool) → Type 0
Fires c x link fires = (name : ℕ) → HasName c x name → fires name ≡ has link.fires name

-- there is a link with this property
abbrev pub SomeLink : List Link → (Link → Type 0) → Type 0
SomeLink links P = (i : ℕ) × (link : Link) × (slice_get links i ≡ Some link) × P link

-- the link fires the automaton's names that have a datum, and the data obey its rule
abbrev pub LinkMoves : RawCircuit → List (List ℕ) → Automaton → Option Value → Data → Option Value → Link → Type 0
LinkMoves c texts x held d new link = Fires c x link (fires_in d) × Obeys c texts x link.rule held d new

-- The template of an automaton.
pub record IsTemplate (c : RawCircuit) (x : Automaton) (t : Template) : Type 0 where
  -- its names are the automaton's, rising
  pub rising : IsStrictlyIncreasing t.names
  pub named : (name : ℕ) → (has t.names name ≡ true) ↔ HasName c x name
  -- each link fires some of them, rising
  pub links_rise : (i : ℕ) (link : Link) → slice_get t.links i ≡ Some link → IsStrictlyIncreasing link.fires
  pub own : (i : ℕ) (link : Link) → slice_get t.links i ≡ Some link → (name : ℕ) → has link.fires name ≡ true → HasName c x name
  pub some : (i : ℕ) (link : Link) → slice_get t.links i ≡ Some link → (name : ℕ) × (has link.fires name ≡ true)
  -- its links are the automaton's transitions, as to the names alone, and as to data and what is held
  pub fires : (fires : ℕ → Bool) → AutomatonFires c x fires ↔ SomeLink t.links (λ link. Fires c x link fires)
  pub moves : (texts : List (List ℕ)) (held : Option Value) (d : Data) (new : Option Value) → MakesMove c texts x held d new ↔ SomeLink t.links (LinkMoves c texts x held d new)
  -- each once: two links fire different names
  pub once : (i j : ℕ) (one other : Link) → slice_get t.links i ≡ Some one → slice_get t.links j ≡ Some other
      → ((name : ℕ) → has one.fires name ≡ has other.fires name) → i ≡ j
