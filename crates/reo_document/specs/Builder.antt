-- The document so far, as its builder has it.
use Rattle.std.specs.Prelude.{◌≡◌, ℕ, suc, ◌+◌, ◌-◌, ◌*◌, ◌≤◌, ◌==◌, nat_lt, if◌then◌else◌, Bool, false, List, [], ◌∷◌, length, slice_get, Option, Some, None, unwrap_or}
use Rattle.std.specs.List.{list_any}
use Rattle.std.specs.Option.{option_map, option_or}
use Rattle.reo_value.specs.Op.{port_of}
use Rattle.reo_value.specs.declared.op.Op.{Op}
use Rattle.reo_value.specs.declared.op.Op.TheVariants as op
use Rattle.reo_value.specs.declared.value.Value.{Value}
use Rattle.reo_document.specs.declared.builder.Builder.{Builder}
use Rattle.reo_value.specs.declared.op.Way.{Way}
use Rattle.reo_document.specs.declared.line.Line.{Line}
use Rattle.reo_document.specs.declared.line.Line.TheVariants as line
use Rattle.reo_document.specs.Document.{DocumentData}
use Rattle.reo_value.specs.declared.op.Way.TheVariants.{Put, Get}
use Rattle.reo_sentence.specs.Said.{Said, PutSaid, GetSaid}
use Rattle.reo_document.specs.Placed.{port_from, operation_count}

abbrev pub data_of : Builder → DocumentData
data_of b = record { lines = b.lines.items; nodes = b.nodes; texts = b.texts; people = b.people; scripts = b.scripts.items }

-- the lists of the document so far have room for what so many bytes can add to them
pub record HasRoom (d : DocumentData) (bytes : ℕ) : Type 0 where
  pub lines : length d.lines + bytes ≤ 8388608
  pub nodes : length d.nodes + 2 * bytes ≤ 16777216
  pub texts : length d.texts + bytes ≤ 8388608
  pub people : length d.people + bytes ≤ 8388608

-- a put of the value at the port, or a get there
abbrev pub operation_at : ℕ → Option Value → Op
operation_at port (Some value) = op.Put port value
operation_at port None = op.Get port

-- a script has an operation at the port
abbrev pub uses : ℕ → List Op → Bool
uses port script = list_any (λ o. port_of o == port) script

-- the first component that has an operation at the port
unfoldable pub owner_of : List (List Op) → ℕ → Option ℕ
owner_of [] port = None
owner_of (script ∷ scripts) port = if uses port script then Some 0 else option_map suc (owner_of scripts port)

-- what is noted for a number, where something is
abbrev pub noted_at : {A : Type 0} → List (Option A) → ℕ → Option A
noted_at notes number = unwrap_or (slice_get notes number) None

-- it is one of the first so many
abbrev pub is_before : ℕ → Option ℕ → Bool
is_before count None = false
is_before count (Some owner) = nat_lt owner count

-- this is noted for a number, where nothing was
abbrev pub Claims : {A : Type 0} → List (Option A) → List (Option A) → ℕ → A → Type 0
Claims old new number item = (n : ℕ) → noted_at new n ≡ (if number == n then option_or (noted_at old n) (Some item) else noted_at old n)

-- these are the first components that use the ports, and there may be so many operations more
pub record AreOwners (owners : List (Option ℕ)) (room : ℕ) (scripts : List (List Op)) : Type 0 where
  pub first : (port : ℕ) → noted_at owners port ≡ owner_of scripts port
  pub left : room ≡ 100000 - operation_count scripts

-- the builder knows whose each port is, and how many operations there are
abbrev pub KnowsScripts : Builder → Type 0
KnowsScripts b = AreOwners b.owners.items b.room b.scripts.items

-- what a line says with a put of the value at a node, or a get there, and which way that is
abbrev pub operation_said : List ℕ → Option Value → Said
operation_said node (Some value) = PutSaid node value
operation_said node None = GetSaid node

abbrev pub way_with : Option Value → Way
way_with (Some value) = Put
way_with None = Get

-- how many ports the lines have
abbrev pub port_count : List Line → ℕ
port_count [] = 0
port_count (line.Port way node ∷ lines) = port_count lines + 1
port_count (line.Channel channel ∷ lines) = port_count lines

-- these are the first ports of the nodes, and so many ports there are
pub record ArePorts (ports : List (Option (ℕ × Way))) (count : ℕ) (lines : List Line) : Type 0 where
  pub first : (node : ℕ) → noted_at ports node ≡ port_from 0 lines node
  pub counted : count ≡ port_count lines

-- the builder knows the first port of each node
abbrev pub KnowsPorts : Builder → Type 0
KnowsPorts b = ArePorts b.ports.items b.port_count b.lines.items
