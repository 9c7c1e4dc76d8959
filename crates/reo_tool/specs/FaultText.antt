-- The lines that are written where there is no report.
use Rattle.std.specs.Prelude.{ℕ, ◌+◌, List, ◌++◌, codes, decimal}
use Rattle.reo_net.specs.declared.net.CheckRefusal.{CheckRefusal}
use Rattle.reo_value.specs.Lexicon.{text_at}
use Rattle.reo_document.specs.declared.refusal.TextRefusal.{TextRefusal}
use Rattle.reo_session.specs.declared.preparation.SessionRefusal.{SessionRefusal}
use Rattle.reo_session.specs.declared.preparation.SessionRefusal.TheVariants as session
use Rattle.reo_document.specs.declared.refusal.TextRefusal.TheVariants as text
use Rattle.reo_net.specs.declared.net.CheckRefusal.TheVariants.{TooManyChannels, TooManyPorts, PortTwice, MixedPort, SyncLoop, NoMemory}

abbrev pub usage_text : List ℕ
usage_text = codes "reo: usage: reo run [--plain] [--limit N] | show | plan | make STAGES ITEMS\n"

abbrev pub read_failed_text : List ℕ
read_failed_text = codes "reo: read failed\n"

abbrev pub too_long_text : List ℕ
too_long_text = codes "reo: input is longer than 1048576 bytes\n"

abbrev pub out_of_memory_text : List ℕ
out_of_memory_text = codes "reo: out of memory\n"

-- what is told of a line
abbrev pub of_line : ℕ → List ℕ → List ℕ
of_line line told = codes "reo: line " ++ (decimal line ++ (codes ": " ++ (told ++ codes "\n")))

-- where a line goes wrong
abbrev pub syntax_text : ℕ → ℕ → List ℕ
syntax_text line column = codes "reo: line " ++ (decimal line ++ (codes ", column " ++ (decimal column ++ codes ": syntax\n")))

-- why bytes are no document
abbrev pub text_text : TextRefusal → List ℕ
text_text (text.NotUtf8 byte) = codes "reo: byte " ++ decimal byte ++ codes ": not UTF-8\n"
text_text (text.Syntax line column) = syntax_text line column
text_text (text.LineLarge line) = of_line line (codes "more than 512 tokens")
text_text (text.NumberRange line) = of_line line (codes "number out of range")
text_text (text.TextLong line) = of_line line (codes "text over 255 bytes")
text_text (text.TooManyComponents line) = of_line line (codes "more than 128 components")
text_text (text.ComponentTwice line) = of_line line (codes "component named twice")
text_text (text.UnknownPort line) = of_line line (codes "unknown port")
text_text (text.WrongWay line) = of_line line (codes "wrong way")
text_text (text.PortShared line) = of_line line (codes "port shared")
text_text (text.TooManyOps line) = of_line line (codes "more than 100000 operations")
text_text text.NoMemory = out_of_memory_text

-- a region that is too large, by its number from 1, with the count that tells how
abbrev pub region_text : ℕ → ℕ → List ℕ
region_text region count = codes "reo: region " ++ (decimal region ++ (codes " is too large: " ++ (decimal count ++ codes "\n")))

-- with the names of the nodes
abbrev pub check_text : List (List ℕ) → CheckRefusal → List ℕ
check_text nodes (TooManyChannels count) = codes "reo: " ++ decimal count ++ codes " channels, 512 allowed\n"
check_text nodes (TooManyPorts count) = codes "reo: " ++ decimal count ++ codes " ports, 128 allowed\n"
check_text nodes (PortTwice node) = codes "reo: node " ++ text_at nodes node ++ codes ": two ports\n"
check_text nodes (MixedPort node) = codes "reo: node " ++ text_at nodes node ++ codes ": mixed node as port\n"
check_text nodes (SyncLoop node) = codes "reo: node " ++ text_at nodes node ++ codes ": synchronous loop\n"
check_text nodes NoMemory = out_of_memory_text

-- why a document can not be run
abbrev pub session_text : List (List ℕ) → SessionRefusal → List ℕ
session_text nodes (session.Check refused) = check_text nodes refused
session_text nodes (session.TooLarge region count) = region_text (region + 1) count
session_text nodes session.NoMemory = out_of_memory_text
