-- A document, as callers see it.
use Rattle.std.specs.Prelude.{◌≡◌, ◌≤◌, ℕ, List, length, Option, Some, None, sum_by}
use Rattle.std.specs.List.{filter_map}
use Rattle.reo_value.specs.declared.op.Op.{Op}
use Rattle.reo_net.specs.declared.circuit.Channel.{Channel}
use Rattle.reo_net.specs.declared.circuit.Port.{Port}
use Rattle.reo_net.specs.declared.circuit.RawCircuit.{RawCircuit}
use Rattle.reo_net.specs.Checks.{HasKnownNumbers}
use Rattle.reo_net.specs.Scripts.{ScriptsFit}
use Rattle.reo_document.specs.declared.line.Line.{Line}
use Rattle.reo_document.specs.declared.line.Line.TheVariants as line

-- A document: the lines of its circuit, the names of its nodes, its texts, the names of its components, and their scripts.
pub record DocumentData : Type 0 where
  pub lines : List Line
  pub nodes : List (List ℕ)
  pub texts : List (List ℕ)
  pub people : List (List ℕ)
  pub scripts : List (List Op)

-- the circuit of a document: its channels and its ports, each in order
abbrev pub channel_in : Line → Option Channel
channel_in (line.Port way node) = None
channel_in (line.Channel channel) = Some channel

abbrev pub port_in : Line → Option Port
port_in (line.Port way node) = Some (record { node = node; way = way })
port_in (line.Channel channel) = None

abbrev pub circuit_of : DocumentData → RawCircuit
circuit_of document = record {
  nodes = length document.nodes;
  texts = length document.texts;
  channels = filter_map channel_in document.lines;
  ports = filter_map port_in document.lines;
}

-- What is true of every document.
pub record IsDocument (d : DocumentData) : Type 0 where
  pub known : HasKnownNumbers (circuit_of d)
  pub fit : ScriptsFit (circuit_of d) d.scripts
  pub scripted : length d.people ≡ length d.scripts
  pub few_people : length d.people ≤ 128
  pub few_operations : sum_by (λ script. length script) d.scripts ≤ 100000
