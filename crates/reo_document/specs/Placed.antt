-- Which lines may stand behind others, and what they add to the document.
use Rattle.std.specs.Prelude.{ℕ, ◌+◌, ◌-◌, ◌==◌, nat_le, if◌then◌else◌, Bool, true, false, not, is_some, List, [], ◌∷◌, ◌++◌, length, take, sum_by, slice_index_or, slice_set, Option, Some, None}
use Rattle.std.specs.List.{list_any}
use Rattle.std.specs.Option.{option_and_then, option_map_or}
use Rattle.reo_value.specs.Lexicon.{place_of, added}
use Rattle.reo_value.specs.Op.{port_of}
use Rattle.reo_value.specs.declared.op.Op.{Op}
use Rattle.reo_value.specs.declared.op.Op.TheVariants as op
use Rattle.reo_value.specs.declared.op.Way.{Way}
use Rattle.reo_value.specs.declared.op.Way.TheVariants.{Put, Get}
use Rattle.reo_sentence.specs.Numbered.{number_in}
use Rattle.reo_sentence.specs.Said.{Said, PortSaid, ChannelSaid, ComponentSaid, PutSaid, GetSaid}
use Rattle.reo_document.specs.declared.line.Line.{Line}
use Rattle.reo_document.specs.declared.line.Line.TheVariants as line
use Rattle.reo_document.specs.declared.refusal.Misplaced.{Misplaced}
use Rattle.reo_document.specs.declared.refusal.Misplaced.TheVariants.{TooManyComponents, ComponentTwice, UnknownPort, WrongWay, PortShared, TooManyOps}
use Rattle.reo_document.specs.Document.{DocumentData}

abbrev pub is_same_way : Way → Way → Bool
is_same_way Put Put = true
is_same_way Put Get = false
is_same_way Get Put = false
is_same_way Get Get = true

-- the first port at a node: its number, where those before it are so many, and its way
abbrev pub port_from : ℕ → List Line → ℕ → Option (ℕ × Way)
port_from number [] node = None
port_from number (line.Port way at ∷ lines) node = if at == node then Some (number, way) else port_from (number + 1) lines node
port_from number (line.Channel channel ∷ lines) node = port_from number lines node

-- the first port at this node, where there is one
abbrev pub port_at : DocumentData → Option ℕ → Option (ℕ × Way)
port_at d node = option_and_then (λ n. port_from 0 d.lines n) node

-- the first port at the node of this name
abbrev pub port_named : DocumentData → List ℕ → Option (ℕ × Way)
port_named d name = port_at d (place_of d.nodes name)

-- a component that is not the last one has an operation at the port
abbrev pub is_taken : List (List Op) → ℕ → Bool
is_taken scripts port = list_any (λ script. list_any (λ o. port_of o == port) script) (take (length scripts - 1) scripts)

abbrev pub operation_count : List (List Op) → ℕ
operation_count scripts = sum_by (λ script. length script) scripts

-- why the last component may not use this port this way, if so
abbrev pub misplaced_at : DocumentData → Way → Option (ℕ × Way) → Option Misplaced
misplaced_at d way None = Some UnknownPort
misplaced_at d way (Some port) =
    if not (is_same_way port.1 way) then Some WrongWay else (if is_taken d.scripts port.0 then Some PortShared else (if nat_le 100000 (operation_count d.scripts) then Some TooManyOps else None))

-- why a line may not stand behind the document so far, if so
abbrev pub misplaced : DocumentData → Said → Option Misplaced
misplaced d (PortSaid way node) = None
misplaced d (ChannelSaid kind a b) = None
misplaced d (ComponentSaid name) =
    if nat_le 128 (length d.people) then Some TooManyComponents else (if is_some (place_of d.people name) then Some ComponentTwice else None)
misplaced d (PutSaid node value) = misplaced_at d Put (port_named d node)
misplaced d (GetSaid node) = misplaced_at d Get (port_named d node)

-- the number of a port, or 0 where there is none
abbrev pub number_at : Option (ℕ × Way) → ℕ
number_at port = option_map_or (λ p. p.0) port 0

-- the number of the port at the node of this name
abbrev pub port_number : DocumentData → List ℕ → ℕ
port_number d name = number_at (port_named d name)

-- the scripts with an operation more in the last of them
abbrev pub with_operation : List (List Op) → Op → List (List Op)
with_operation scripts o = slice_set scripts (length scripts - 1) (slice_index_or scripts (length scripts - 1) [] ++ o ∷ [])

-- the document with a line more
abbrev pub with_said : DocumentData → Said → DocumentData
with_said d (PortSaid way node) =
    let nodes = added d.nodes node in
    record d { nodes = nodes; lines = d.lines ++ line.Port way (number_in nodes node) ∷ [] }
with_said d (ChannelSaid kind a b) =
    let nodes = added (added d.nodes a) b in
    record d { nodes = nodes; lines = d.lines ++ line.Channel (record { kind = kind; a = number_in nodes a; b = number_in nodes b }) ∷ [] }
with_said d (ComponentSaid name) = record d { people = added d.people name; scripts = d.scripts ++ [] ∷ [] }
with_said d (PutSaid node value) = record d { scripts = with_operation d.scripts (op.Put (port_number d node) value) }
with_said d (GetSaid node) = record d { scripts = with_operation d.scripts (op.Get (port_number d node)) }
