-- The canonical text of a document: its lines in order, each with its tokens joined by single blanks, but none behind an opening
-- bracket, before a closing one or before a comma, and with brackets only where a guard needs them.
use Rattle.std.specs.Prelude.{ℕ, if◌then◌else◌, Bool, true, false, List, [], ◌∷◌, ◌++◌, slice_get, flat_map, Some, None, codes, decimal, Option}
use Rattle.std.specs.Fmt.{signed_decimal}
use Rattle.std.specs.List.{filter_map}
use Rattle.reo_value.specs.Lexicon.{text_at}
use Rattle.reo_value.specs.declared.op.Op.{Op}
use Rattle.reo_value.specs.declared.op.Op.TheVariants as op
use Rattle.reo_value.specs.declared.op.Way.{Way}
use Rattle.reo_value.specs.declared.op.Way.TheVariants as way
use Rattle.reo_value.specs.declared.value.Value.{Value}
use Rattle.reo_value.specs.declared.value.Value.TheVariants.{Sym}
use Rattle.reo_guard.specs.declared.guard.Cmp.{Cmp}
use Rattle.reo_guard.specs.declared.guard.Cmp.TheVariants.{Eq, Ne, Lt, Le, Gt, Ge}
use Rattle.reo_guard.specs.declared.guard.Guard.{Guard}
use Rattle.reo_guard.specs.declared.guard.Guard.TheOpen.{Guard-F}
use Rattle.reo_guard.specs.declared.guard.Guard.TheFolds.{fold-Guard}
use Rattle.reo_guard.specs.declared.fun.Fun.{Fun}
use Rattle.reo_guard.specs.declared.fun.Fun.TheVariants.{Add, Sub, Mul, Neg, Len, Map}
use Rattle.reo_net.specs.declared.kind.Kind.{Kind}
use Rattle.reo_net.specs.declared.kind.Kind.TheVariants.{Sync, Lossy, Drain, Fifo, Filter, Transform}
use Rattle.reo_net.specs.declared.circuit.Port.{Port}
use Rattle.reo_document.specs.declared.line.Line.{Line}
use Rattle.reo_document.specs.declared.line.Line.TheVariants as line
use Rattle.reo_document.specs.Document.{DocumentData, port_in}
use Rattle.reo_trace.specs.ReportText.{value_text, node_text}
use Rattle.reo_trace.specs.Passes.{numbered}
use Rattle.reo_print.specs.declared.guard.Level.{Level}
use Rattle.reo_print.specs.declared.guard.Level.TheVariants.{AsGuard, AsTerm, AsFactor}

abbrev pub cmp_text : Cmp → List ℕ
cmp_text Eq = codes "="
cmp_text Ne = codes "!="
cmp_text Lt = codes "<"
cmp_text Le = codes "<="
cmp_text Gt = codes ">"
cmp_text Ge = codes ">="

-- whether an `or` wants brackets, by where it stands
abbrev pub wants_as_or : Level → Bool
wants_as_or AsGuard = false
wants_as_or AsTerm = true
wants_as_or AsFactor = true

-- whether an `and` does
abbrev pub wants_as_and : Level → Bool
wants_as_and AsGuard = false
wants_as_and AsTerm = false
wants_as_and AsFactor = true

abbrev pub opening : Bool → List ℕ
opening wanted = if wanted then codes "(" else []

abbrev pub closing : Bool → List ℕ
closing wanted = if wanted then codes ")" else []

-- one layer of a guard, where the texts of the inner guards are known for each place
abbrev pub layer_text : List (List ℕ) → Guard-F (Level → List ℕ) → Level → List ℕ
layer_text texts (Guard-F.Compare cmp constant) level = codes "x " ++ cmp_text cmp ++ codes " " ++ value_text texts constant
layer_text texts (Guard-F.Mod divisor remainder) level = codes "x mod " ++ decimal divisor ++ codes " = " ++ decimal remainder
layer_text texts Guard-F.IsInt level = codes "is int"
layer_text texts Guard-F.IsText level = codes "is text"
layer_text texts (Guard-F.LenAtMost most) level = codes "len <= " ++ decimal most
layer_text texts (Guard-F.Starts front) level = codes "starts " ++ value_text texts (Sym front)
layer_text texts (Guard-F.And left right) level =
    opening (wants_as_and level) ++ left AsTerm ++ codes " and " ++ right AsFactor ++ closing (wants_as_and level)
layer_text texts (Guard-F.Or left right) level =
    opening (wants_as_or level) ++ left AsGuard ++ codes " or " ++ right AsTerm ++ closing (wants_as_or level)
layer_text texts (Guard-F.Not inner) level = codes "not " ++ inner AsFactor

abbrev pub guard_text : List (List ℕ) → Guard → Level → List ℕ
guard_text texts guard = fold-Guard (Level → List ℕ) (layer_text texts) guard

abbrev pub pair_text : List (List ℕ) → Value × Value → List ℕ
pair_text texts pair = value_text texts pair.0 ++ codes " -> " ++ value_text texts pair.1

-- a pair behind another
abbrev pub next_text : List (List ℕ) → Value × Value → List ℕ
next_text texts pair = codes ", " ++ pair_text texts pair

abbrev pub pairs_text : List (List ℕ) → List (Value × Value) → List ℕ
pairs_text texts [] = codes "map { }"
pairs_text texts (pair ∷ pairs) = codes "map { " ++ pair_text texts pair ++ flat_map (next_text texts) pairs ++ codes " }"

abbrev pub function_text : List (List ℕ) → Fun → List ℕ
function_text texts (Add more) = codes "+ " ++ signed_decimal more
function_text texts (Sub less) = codes "- " ++ signed_decimal less
function_text texts (Mul factor) = codes "* " ++ signed_decimal factor
function_text texts Neg = codes "neg"
function_text texts Len = codes "len"
function_text texts (Map pairs) = pairs_text texts pairs

-- the word before the nodes of a channel
abbrev pub kind_word : Kind → List ℕ
kind_word Sync = codes "sync "
kind_word Lossy = codes "lossy "
kind_word Drain = codes "drain "
kind_word (Fifo first) = codes "fifo "
kind_word (Filter guard) = codes "filter "
kind_word (Transform function) = codes "transform "

-- what stands behind them
abbrev pub kind_rest : List (List ℕ) → Kind → List ℕ
kind_rest texts Sync = []
kind_rest texts Lossy = []
kind_rest texts Drain = []
kind_rest texts (Fifo None) = []
kind_rest texts (Fifo (Some first)) = codes " full " ++ value_text texts first
kind_rest texts (Filter guard) = codes " " ++ guard_text texts guard AsGuard
kind_rest texts (Transform function) = codes " " ++ function_text texts function

abbrev pub way_word : Way → List ℕ
way_word way.Put = codes "in "
way_word way.Get = codes "out "

-- a line of the circuit, with the names of the nodes and the texts
abbrev pub circuit_line : List (List ℕ) → List (List ℕ) → Line → List ℕ
circuit_line nodes texts (line.Port way node) = way_word way ++ text_at nodes node ++ codes "\n"
circuit_line nodes texts (line.Channel channel) =
    kind_word channel.kind ++ text_at nodes channel.a ++ codes " " ++ text_at nodes channel.b ++ kind_rest texts channel.kind ++ codes "\n"

-- the line of a put at a port up to its value, and the line of a get
abbrev pub put_front : List (List ℕ) → Option Port → List ℕ
put_front nodes port = codes "put " ++ node_text nodes port ++ codes " "

abbrev pub get_line : List (List ℕ) → Option Port → List ℕ
get_line nodes port = codes "get " ++ node_text nodes port ++ codes "\n"

-- a line of a script, with the ports by number
abbrev pub operation_line : List (List ℕ) → List (List ℕ) → List Port → Op → List ℕ
operation_line nodes texts ports (op.Put port value) = codes "put " ++ node_text nodes (slice_get ports port) ++ codes " " ++ value_text texts value ++ codes "\n"
operation_line nodes texts ports (op.Get port) = codes "get " ++ node_text nodes (slice_get ports port) ++ codes "\n"

abbrev pub script_lines : DocumentData → ℕ → List Op → List ℕ
script_lines d number script =
    codes "component " ++ text_at d.people number ++ codes "\n" ++ flat_map (operation_line d.nodes d.texts (filter_map port_in d.lines)) script

abbrev pub canonical_text : DocumentData → List ℕ
canonical_text d = flat_map (circuit_line d.nodes d.texts) d.lines ++ numbered (script_lines d) 0 d.scripts
