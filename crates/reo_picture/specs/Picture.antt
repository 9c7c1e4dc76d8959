-- The picture of a circuit as text for Graphviz: a line for each region, node, port and channel.
use Rattle.std.specs.Prelude.{ℕ, ◌+◌, ◌%◌, ◌==◌, nat_lt, if◌then◌else◌, List, [], ◌∷◌, ◌++◌, length, map, flat_map, slice_get, Option, Some, None, codes, decimal}
use Rattle.std.specs.List.{range_with_len}
use Rattle.reo_value.specs.Lexicon.{text_at}
use Rattle.reo_value.specs.declared.op.Way.{Way}
use Rattle.reo_value.specs.declared.op.Way.TheVariants.{Put, Get}
use Rattle.reo_net.specs.Kind.{is_fifo}
use Rattle.reo_net.specs.declared.kind.Kind.{Kind}
use Rattle.reo_net.specs.declared.kind.Kind.TheVariants.{Sync, Lossy, Drain, Fifo, Filter, Transform}
use Rattle.reo_net.specs.declared.circuit.Channel.{Channel}
use Rattle.reo_net.specs.declared.circuit.RawCircuit.{RawCircuit}
use Rattle.reo_cut.specs.declared.cut.Cut.{Cut}
use Rattle.reo_trace.specs.ReportText.{value_text}
use Rattle.reo_print.specs.Canonical.{kind_rest}

-- a byte between quotes: Graphviz takes a backslash with the byte behind it, and `&` as the start of a named character
abbrev pub quoted_byte : ℕ → List ℕ
quoted_byte byte =
    if byte == 34 then codes "\\\"" else (if byte == 92 then codes "\\\\" else (if byte == 38 then codes "&amp;" else (if nat_lt byte 32 then codes " " else byte ∷ [])))

-- a text in quotes, which shows as it is
abbrev pub quoted : List ℕ → List ℕ
quoted text = codes "\"" ++ (flat_map quoted_byte text ++ codes "\"")

-- how the circuit and its nodes look
abbrev pub opening : List (List ℕ)
opening =
    codes "digraph circuit {"
    ∷ codes "rankdir=LR; labeljust=l; fontname=\"sans-serif\"; fontsize=11"
    ∷ codes "node [shape=ellipse, width=0.4, height=0.4, margin=\"0.05,0.03\", style=filled, fillcolor=white, fontname=\"sans-serif\", fontsize=12]"
    ∷ codes "edge [fontname=\"sans-serif\", fontsize=10]"
    ∷ []

-- a region, by its number from 1, as a cluster with one of eight colours
abbrev pub region_line : ℕ → List ℕ
region_line region =
    codes "subgraph cluster_" ++ (decimal (region + 1) ++ (codes " { label=\"region " ++ (decimal (region + 1)
    ++ (codes "\"; style=\"rounded,filled\"; color=gray; fillcolor=\"/pastel28/" ++ (decimal (region % 8 + 1) ++ codes "\" }")))))

-- the region of a node, from the table of all automata; each node has one
abbrev pub own_or_first : Option ℕ → ℕ
own_or_first (Some region) = region
own_or_first None = 0

abbrev pub or_first : Option (Option ℕ) → ℕ
or_first (Some own) = own_or_first own
or_first None = 0

abbrev pub region_of_node : RawCircuit → Cut → ℕ → ℕ
region_of_node c cut node = or_first (slice_get cut.region_of (length c.channels + node))

-- a node in the cluster of its region, before its name
abbrev pub node_front : ℕ → ℕ → List ℕ
node_front region node = codes "subgraph cluster_" ++ (decimal (region + 1) ++ (codes " { n" ++ (decimal node ++ codes " [label=")))

abbrev pub node_line : RawCircuit → List (List ℕ) → Cut → ℕ → List ℕ
node_line c nodes cut node = node_front (region_of_node c cut node) node ++ quoted (text_at nodes node) ++ codes "] }"

-- how ports look
abbrev pub port_style : List ℕ
port_style = codes "node [shape=none, width=0, height=0]; edge [color=gray40, arrowhead=vee]"

-- a port, with an arrow to its node or from there
abbrev pub port_line : ℕ → Way → ℕ → List ℕ
port_line number Put node = codes "p" ++ (decimal number ++ (codes " [label=\"put\"]; p" ++ (decimal number ++ (codes " -> n" ++ decimal node))))
port_line number Get node = codes "p" ++ (decimal number ++ (codes " [label=\"get\"]; n" ++ (decimal node ++ (codes " -> p" ++ decimal number))))

-- how channels look
abbrev pub channel_style : List ℕ
channel_style = codes "node [shape=box, width=0.5, height=0.3]; edge [color=black, arrowhead=normal]"

-- how the arrow of a kind differs from that of a Sync
abbrev pub arrow_style : Kind → List ℕ
arrow_style Sync = []
arrow_style Lossy = codes "style=dashed, "
arrow_style Drain = codes "dir=both, arrowtail=inv, arrowhead=inv, minlen=0, "
arrow_style (Fifo first) = []
arrow_style (Filter guard) = []
arrow_style (Transform function) = []

-- the word before a guard or a function
abbrev pub mark_word : Kind → List ℕ
mark_word Sync = []
mark_word Lossy = []
mark_word Drain = []
mark_word (Fifo first) = []
mark_word (Filter guard) = codes ": filter"
mark_word (Transform function) = codes ": transform"

-- what stands at an arrow: the channel by its number from 1, with its guard or its function
abbrev pub mark_text : List (List ℕ) → ℕ → Kind → List ℕ
mark_text texts number kind = decimal (number + 1) ++ mark_word kind ++ kind_rest texts kind

-- the two nodes of an arrow
abbrev pub arrow_front : ℕ → ℕ → List ℕ
arrow_front a b = codes "n" ++ (decimal a ++ (codes " -> n" ++ (decimal b ++ codes " [")))

-- with its style, before its mark
abbrev pub arrow_head : Channel → List ℕ
arrow_head channel = arrow_front channel.a channel.b ++ arrow_style channel.kind ++ codes "label="

-- a channel that is no buffer
abbrev pub arrow_line : List (List ℕ) → ℕ → Channel → List ℕ
arrow_line texts number channel = arrow_head channel ++ quoted (mark_text texts number channel.kind) ++ codes "]"

-- what a buffer holds at first
abbrev pub datum_text : List (List ℕ) → Kind → List ℕ
datum_text texts Sync = []
datum_text texts Lossy = []
datum_text texts Drain = []
datum_text texts (Fifo None) = []
datum_text texts (Fifo (Some first)) = value_text texts first
datum_text texts (Filter guard) = []
datum_text texts (Transform function) = []

abbrev pub box_front : ℕ → List ℕ
box_front number = codes "c" ++ (decimal (number + 1) ++ codes " [label=")

-- the two halves of a buffer's arrow, to its box and from there
abbrev pub arrow_in : ℕ → ℕ → List ℕ
arrow_in number a = codes "]; n" ++ (decimal a ++ (codes " -> c" ++ decimal (number + 1)))

abbrev pub arrow_out : ℕ → ℕ → List ℕ
arrow_out number b = codes " [arrowhead=none, label=\"" ++ (decimal (number + 1) ++ (codes "\"]; c" ++ (decimal (number + 1) ++ (codes " -> n" ++ decimal b))))

-- a buffer: a box with what it holds at first
abbrev pub box_line : List (List ℕ) → ℕ → Channel → List ℕ
box_line texts number channel = box_front number ++ quoted (datum_text texts channel.kind) ++ arrow_in number channel.a ++ arrow_out number channel.b

abbrev pub channel_line : List (List ℕ) → ℕ → Channel → List ℕ
channel_line texts number channel = if is_fifo channel.kind then box_line texts number channel else arrow_line texts number channel

-- the lines of things that are numbered from here on
abbrev pub lines_from : {A : Type 0} → (ℕ → A → List ℕ) → ℕ → List A → List (List ℕ)
lines_from line number [] = []
lines_from line number (x ∷ xs) = line number x ∷ lines_from line (number + 1) xs

-- one line for each region, each node, each port and each channel
abbrev pub picture_lines : RawCircuit → List (List ℕ) → List (List ℕ) → Cut → List (List ℕ)
picture_lines c nodes texts cut =
    opening
    ++ (map region_line (range_with_len 0 cut.regions)
    ++ (map (node_line c nodes cut) (range_with_len 0 c.nodes)
    ++ (port_style ∷ (lines_from (λ number port. port_line number port.way port.node) 0 c.ports
    ++ (channel_style ∷ (lines_from (channel_line texts) 0 c.channels
    ++ (codes "}" ∷ [])))))))

-- a line with the LF behind it
abbrev pub ended : List ℕ → List ℕ
ended line = line ++ codes "\n"

abbrev pub picture_text : RawCircuit → List (List ℕ) → List (List ℕ) → Cut → List ℕ
picture_text c nodes texts cut = flat_map ended (picture_lines c nodes texts cut)
