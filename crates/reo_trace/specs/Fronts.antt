-- What stands before each value in a step's line, and each text between quotes, made once.
use Rattle.std.specs.Prelude.{ℕ, List, ◌++◌, length, codes}
use Rattle.reo_value.specs.declared.value.Value.TheVariants.{Sym}
use Rattle.reo_net.specs.declared.circuit.RawCircuit.{RawCircuit}
use Rattle.reo_net.specs.Names.{name_count}
use Rattle.reo_trace.specs.ReportText.{name_text, value_text}
use Rattle.reo_trace.specs.Parts.{AreParts}
use Rattle.reo_trace.specs.declared.parts.Parts.{Parts}

-- a name, parted by a blank from what stands before it and by a sign from its value
abbrev pub front_text : RawCircuit → List (List ℕ) → ℕ → List ℕ
front_text c nodes name = codes " " ++ name_text c nodes name ++ codes "="

-- a text as a value
abbrev pub quoted_text : List (List ℕ) → ℕ → List ℕ
quoted_text texts text = value_text texts (Sym text)

abbrev pub AreFronts : RawCircuit → List (List ℕ) → Parts → Type 0
AreFronts c nodes = AreParts (front_text c nodes) (name_count c)

abbrev pub AreQuotes : List (List ℕ) → Parts → Type 0
AreQuotes texts = AreParts (quoted_text texts) (length texts)
