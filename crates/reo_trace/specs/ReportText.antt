-- The text of a report, as bytes: a line for each step, then for each answered call, then for the end.
use Rattle.std.specs.Prelude.{ℕ, ◌+◌, ◌-◌, ◌/◌, ◌%◌, ◌==◌, nat_lt, if◌then◌else◌, List, [], ◌∷◌, ◌++◌, length, slice_get, flat_map, Option, Some, None, codes, decimal}
use Rattle.std.specs.Fmt.{signed_decimal}
use Rattle.reo_value.specs.Lexicon.{text_at}
use Rattle.reo_value.specs.declared.value.Value.{Value}
use Rattle.reo_value.specs.declared.value.Value.TheVariants.{Int, Sym}
use Rattle.reo_value.specs.declared.op.Op.{Op}
use Rattle.reo_value.specs.declared.op.Op.TheVariants.{Put, Get}
use Rattle.reo_value.specs.declared.op.Way.{Way}
use Rattle.reo_value.specs.declared.op.Way.TheVariants as way
use Rattle.reo_net.specs.declared.circuit.Port.{Port}
use Rattle.reo_net.specs.declared.circuit.RawCircuit.{RawCircuit}
use Rattle.reo_net.specs.declared.circuit.Step.{Step}
use Rattle.reo_trace.specs.declared.report.Called.{Called}
use Rattle.reo_trace.specs.declared.report.Ending.{Ending}
use Rattle.reo_trace.specs.declared.report.Ending.TheVariants.{Done, Stuck, Limit}
use Rattle.reo_trace.specs.declared.report.Report.{Report}

-- a byte of a text between quotes
abbrev pub escaped : ℕ → List ℕ
escaped byte =
    if byte == 34 then codes "\\\"" else (if byte == 92 then codes "\\\\" else (if byte == 10 then codes "\\n" else (if byte == 9 then codes "\\t" else byte ∷ [])))

abbrev pub value_text : List (List ℕ) → Value → List ℕ
value_text texts (Int z) = signed_decimal z
value_text texts (Sym t) = codes "\"" ++ flat_map escaped (text_at texts t) ++ codes "\""

-- which way a port goes
abbrev pub way_mark : Way → List ℕ
way_mark way.Put = codes "!"
way_mark way.Get = codes "?"

-- the node at which a port stands
abbrev pub node_text : List (List ℕ) → Option Port → List ℕ
node_text nodes None = []
node_text nodes (Some port) = text_at nodes port.node

abbrev pub port_text : List (List ℕ) → Option Port → List ℕ
port_text nodes None = []
port_text nodes (Some port) = text_at nodes port.node ++ way_mark port.way

-- channels are counted from 1; an even place is an end a
abbrev pub end_text : ℕ → List ℕ
end_text place = decimal (place / 2 + 1) ++ (if place % 2 == 0 then codes ".a" else codes ".b")

-- the ports come first, then the two ends of each channel
abbrev pub name_text : RawCircuit → List (List ℕ) → ℕ → List ℕ
name_text c nodes name =
    if nat_lt name (length c.ports) then port_text nodes (slice_get c.ports name) else end_text (name - length c.ports)

abbrev pub pair_text : RawCircuit → List (List ℕ) → List (List ℕ) → ℕ × Value → List ℕ
pair_text c nodes texts pair = codes " " ++ name_text c nodes pair.0 ++ codes "=" ++ value_text texts pair.1

abbrev pub step_line : RawCircuit → List (List ℕ) → List (List ℕ) → ℕ → Step → List ℕ
step_line c nodes texts number step =
    codes "step " ++ decimal number ++ flat_map (pair_text c nodes texts) step.pairs ++ codes "\n"

-- the lines of steps that are numbered from here on
abbrev pub step_lines : RawCircuit → List (List ℕ) → List (List ℕ) → ℕ → List Step → List ℕ
step_lines c nodes texts number [] = []
step_lines c nodes texts number (step ∷ steps) =
    step_line c nodes texts number step ++ step_lines c nodes texts (number + 1) steps

-- the operation and its node
abbrev pub op_text : RawCircuit → List (List ℕ) → Op → List ℕ
op_text c nodes (Put p value) = codes " put " ++ node_text nodes (slice_get c.ports p)
op_text c nodes (Get p) = codes " get " ++ node_text nodes (slice_get c.ports p)

abbrev pub call_line : RawCircuit → List (List ℕ) → List (List ℕ) → List ℕ → Called → List ℕ
call_line c nodes texts person call =
    codes "call " ++ person ++ op_text c nodes call.op ++ codes " " ++ value_text texts call.value ++ codes " at " ++ decimal call.number ++ codes "\n"

-- the calls of the components from number k on
abbrev pub call_lines : RawCircuit → List (List ℕ) → List (List ℕ) → List (List ℕ) → ℕ → List (List Called) → List ℕ
call_lines c nodes texts people k [] = []
call_lines c nodes texts people k (own ∷ calls) =
    flat_map (call_line c nodes texts (text_at people k)) own ++ call_lines c nodes texts people (k + 1) calls

abbrev pub end_line : Ending → List ℕ
end_line Done = codes "end done\n"
end_line Stuck = codes "end stuck\n"
end_line Limit = codes "end limit\n"

-- with the names of the nodes, the texts and the names of the components
abbrev pub report_text : RawCircuit → List (List ℕ) → List (List ℕ) → List (List ℕ) → Report → List ℕ
report_text c nodes texts people report =
    step_lines c nodes texts 0 report.steps ++ call_lines c nodes texts people 0 report.calls ++ end_line report.ending
