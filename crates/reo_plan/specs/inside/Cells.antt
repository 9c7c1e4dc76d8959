-- Words that mirror the code: the number of the cell that each channel would have, and the names that come into nodes.
use Rattle.std.specs.Prelude.{ℕ, List, length, map, nat_eq, if◌then◌else◌, Bool, true, false, Option, Some, None}
use Rattle.std.specs.List.{find, filter_map, range_with_len}
use Rattle.std.specs.Option.{option_and_then, option_map}
use Rattle.reo_net.specs.declared.circuit.RawCircuit.{RawCircuit}
use Rattle.reo_net.specs.Names.{end_a, end_b}
use Rattle.reo_net.specs.Stand.{stand_of}
use Rattle.reo_net.specs.Steps.{cell_of}

abbrev pub cell_numbers : RawCircuit → List ℕ
cell_numbers c = map (cell_of c) (range_with_len 0 (length c.channels))

-- the name of end a or end b of a channel
abbrev pub end_of : RawCircuit → Bool → ℕ → ℕ
end_of c true k = end_b c k
end_of c false k = end_a c k

-- the node that a name comes into
abbrev pub node_into : RawCircuit → ℕ → Option ℕ
node_into c name = option_and_then (λ stand. if stand.incoming then Some stand.node else None) (stand_of c name)

-- the names that come into nodes, each behind its node
abbrev pub incoming_of : RawCircuit → List ℕ → List (ℕ × ℕ)
incoming_of c names = filter_map (λ name. option_map (λ node. (node, name)) (node_into c name)) names

-- the first of them that comes into this node
abbrev pub first_into : List (ℕ × ℕ) → ℕ → Option ℕ
first_into incoming node = option_map (λ pair. pair.1) (find (λ pair. nat_eq pair.0 node) incoming)
