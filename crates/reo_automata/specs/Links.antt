-- The names and links of an automaton, by calculation: the template's contract says that these are its transitions.
use Rattle.std.specs.Prelude.{ℕ, ◌+◌, List, [], ◌∷◌, not, ◌||◌, nat_eq, if◌then◌else◌, filter, Bool, false, Option, Some, None}
use Rattle.std.specs.List.{list_any, filter_map, range_with_len}
use Rattle.std.specs.Option.{option_map_or}
use Rattle.reo_net.specs.declared.kind.Kind.{Kind}
use Rattle.reo_net.specs.declared.kind.Kind.TheVariants.{Sync, Lossy, Drain, Fifo, Filter, Transform}
use Rattle.reo_net.specs.declared.circuit.RawCircuit.{RawCircuit}
use Rattle.reo_net.specs.Names.{name_count}
use Rattle.reo_net.specs.Stand.{stand_of}
use Rattle.reo_automata.specs.declared.template.Rule.{Rule}
use Rattle.reo_automata.specs.declared.template.Rule.TheVariants.{Same, Pass, Lose, Free, Image, Store, Emit}
use Rattle.reo_automata.specs.declared.template.Link.{Link}

abbrev pub link_of : List ℕ → Rule → Link
link_of fires rule = record { fires = fires; rule = rule }

-- the links of a channel, by the name of its end a
abbrev pub channel_links : Kind → ℕ → List Link
channel_links Sync a = link_of (a ∷ (a + 1) ∷ []) Same ∷ []
channel_links Lossy a = link_of (a ∷ (a + 1) ∷ []) Same ∷ link_of (a ∷ []) Free ∷ []
channel_links Drain a = link_of (a ∷ (a + 1) ∷ []) Free ∷ []
channel_links (Fifo first) a = link_of (a ∷ []) Store ∷ link_of ((a + 1) ∷ []) Emit ∷ []
channel_links (Filter guard) a = link_of (a ∷ (a + 1) ∷ []) Pass ∷ link_of (a ∷ []) Lose ∷ []
channel_links (Transform fun) a = link_of (a ∷ (a + 1) ∷ []) Image ∷ []

-- whether the name stands at the node
abbrev pub is_at : RawCircuit → ℕ → ℕ → Bool
is_at c node name = option_map_or (λ stand. nat_eq stand.node node) (stand_of c name) false

-- whether data come into its node by the name
abbrev pub is_in : RawCircuit → ℕ → Bool
is_in c name = option_map_or (λ stand. stand.incoming) (stand_of c name) false

abbrev pub node_names : RawCircuit → ℕ → List ℕ
node_names c node = filter (is_at c node) (range_with_len 0 (name_count c))

-- of a node's names, the input and all by which data go out
abbrev pub serving : RawCircuit → List ℕ → ℕ → List ℕ
serving c names input = filter (λ name. not (is_in c name) || nat_eq name input) names

-- the link of a name by which data come in
abbrev pub input_link : RawCircuit → List ℕ → ℕ → Option Link
input_link c names name = if is_in c name then Some (link_of (serving c names name) Same) else None

-- the links of a node with these names: one for each input, where data go out somewhere
abbrev pub node_links : RawCircuit → List ℕ → List Link
node_links c names = if list_any (λ name. not (is_in c name)) names then filter_map (input_link c names) names else []
