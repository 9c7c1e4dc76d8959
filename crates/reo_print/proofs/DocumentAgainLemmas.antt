-- The canonical text of a document spells it again.
use Rattle.std.proofs.Common.{◌≡◌, ◌≢◌, ℕ, ◌+◌, ◌<◌, true, false, List, [], ◌∷◌, ◌++◌, length, map, None, flat_map, codes, IsUtf8, refl, sym, ap, subst, ◌∙◌, arith, append_assoc, append-nil, if◌then◌else◌}
use Rattle.std.specs.List.{filter_map}
use Rattle.std.proofs.lemmas.Bool.{false≢true}
use Rattle.std.proofs.lemmas.List.Concat.{flat_map-append}
use Rattle.reo_token.specs.declared.token.Token.{Token as CutToken}
use Rattle.reo_value.specs.Lexicon.{added, text_at}
use Rattle.reo_value.specs.declared.op.Op.{Op}
use Rattle.reo_value.specs.declared.op.Way.{Way}
use Rattle.reo_net.specs.declared.kind.Kind as net
use Rattle.reo_grammar.specs.Lines as grammar
use Rattle.reo_grammar.specs.Lines.{Sentence, PortLine, ChannelLine, ComponentLine, PutLine, GetLine, LineTree, line_tokens, Place, Section, OfCircuit, OfScripts, is_allowed, section_of, IsLine}
use Rattle.reo_sentence.specs.Seen.{seen}
use Rattle.reo_sentence.specs.Limits.{is_wide, is_long}
use Rattle.reo_sentence.specs.Numbered.{number_in}
use Rattle.reo_sentence.specs.Said.{PortSaid, ChannelSaid, numbered_sentence}
use Rattle.reo_document.specs.declared.line.Line.{Line}
use Rattle.reo_document.specs.declared.line.Line.TheVariants as line
use Rattle.reo_document.specs.declared.refusal.TextRefusal.{TextRefusal}
use Rattle.reo_document.specs.declared.refusal.TextRefusal.TheVariants.{NumberRange, TextLong}
use Rattle.reo_document.specs.Document.{DocumentData, port_in}
use Rattle.reo_document.specs.Placed.{misplaced, with_operation, with_said}
use Rattle.reo_document.specs.Spells.{empty, place_by, place_in, Outcome, Goes, Stops, outcome_by, placed, outcome_of, tokens_in, Leads, says, Then, LinesLead}
use Rattle.reo_trace.specs.Passes.{numbered}
use Rattle.reo_print.specs.Canonical.{kind_word, kind_rest, way_word, circuit_line, operation_line, script_lines, canonical_text}
use Rattle.reo_print.specs.Sentences.{said_text, tree_of}
use Rattle.reo_print.specs.Trees.{Extends}
use Rattle.reo_print.proofs.LineWriteLemmas.{sentence_writes, line_said, read_again, whole_line, tree_allowed}
use Rattle.reo_print.proofs.PlainLemmas.{IsPlain, line_plain}
use Rattle.reo_print.proofs.ScriptLemmas.{circuit_more, numbered_more, operations_more, script_more, first_numbered}
use Rattle.reo_print.proofs.TextLinesLemmas.{in_lines, ArePlain, plain_more}
use Rattle.reo_print.proofs.TextPlaceLemmas.{text_numbered}

-- the document with more names and texts
abbrev pub named : DocumentData → List (List ℕ) → List (List ℕ) → List (List ℕ) → DocumentData
named d nodes texts people = record d { nodes = nodes; texts = texts; people = people }

-- the text of the document so far, whatever names and texts come later, leads to it again
pub record IsAgain (d : DocumentData) (nodes texts people : List (List ℕ)) : Type 0 where
  pub lines : List (List ℕ)
  pub text : canonical_text (named d nodes texts people) ≡ in_lines lines
  pub lead : LinesLead empty 1 lines (Goes d)
  pub plain : ArePlain lines

pub record IsAgainLater (d : DocumentData) : Type 0 where
  pub later : (nodes texts people : List (List ℕ)) → Extends d.nodes nodes → Extends d.texts texts → Extends d.people people → IsAgain d nodes texts people
  pub scripted : length d.people ≡ length d.scripts

pub same_goes : (one other : DocumentData) → Goes one ≡ Goes other → one ≡ other
same_goes one other is = cc

pub goes_stops : (d : DocumentData) (r : TextRefusal) → Goes d ≡ Stops r → ⊥
goes_stops d r is = cc

-- lines that lead to a document, and one line more
pub lead_more : (first d next : DocumentData) (number : ℕ) (lines : List (List ℕ)) (last : List ℕ) → LinesLead first number lines (Goes d) → ((m : ℕ) → Leads d m last (Goes next))
    → LinesLead first number (lines ++ last ∷ []) (Goes next)
unfolding LinesLead
lead_more first d next number [] last lead leads = (Goes next, (subst (λ e. Leads e number last (Goes next)) (same_goes d first lead) (leads number), refl))
lead_more first d next number (line ∷ lines) last lead leads = (lead.0, (lead.1.0, by lead.0 lead.1.1 (λ middle rest. lead_more middle d next (number + 1) lines last rest leads)))
  where
    by : (middle : Outcome) → Then middle (λ e. LinesLead e (number + 1) lines (Goes d)) (Goes d)
        → ((e : DocumentData) → LinesLead e (number + 1) lines (Goes d) → LinesLead e (number + 1) (lines ++ last ∷ []) (Goes next))
        → Then middle (λ e. LinesLead e (number + 1) (lines ++ last ∷ []) (Goes next)) (Goes next)
    by (Goes e) rest again = again e rest
    by (Stops refusal) rest again = absurd (goes_stops d refusal rest)

in_lines_more : (lines : List (List ℕ)) (last : List ℕ) → in_lines lines ++ (last ++ codes "\n") ≡ in_lines (lines ++ last ∷ [])
in_lines_more lines last =
    ap (λ bs. in_lines lines ++ bs) (sym (append-nil (last ++ codes "\n"))) ∙ sym (flat_map-append (λ line. line ++ codes "\n") lines (last ∷ []))

-- a line more, by what it adds to the text
pub one_more : (d next : DocumentData) (nodes texts people : List (List ℕ)) (last : List ℕ) → IsAgain d nodes texts people
    → canonical_text (named next nodes texts people) ≡ canonical_text (named d nodes texts people) ++ (last ++ codes "\n") → ((m : ℕ) → Leads d m last (Goes next)) → IsPlain last
    → IsAgain next nodes texts people
one_more d next nodes texts people last was grows leads plain = record {
  lines = was.lines ++ last ∷ [];
  text = grows ∙ ap (λ bs. bs ++ (last ++ codes "\n")) was.text ∙ in_lines_more was.lines last;
  lead = lead_more empty d next 1 was.lines last was.lead leads;
  plain = plain_more was.lines last was.plain plain;
}

-- What is known of a sentence that goes on.
pub record IsSaid (d : DocumentData) (source : List ℕ) (sentence : Sentence) : Type 0 where
  pub utf8 : IsUtf8 source
  pub is_line : IsLine (place_in d) (map (seen source) (tokens_in source)) sentence
  pub narrow : is_wide sentence ≡ false
  pub short : is_long sentence ≡ false
  pub allowed : misplaced d (numbered_sentence sentence d.texts).1 ≡ None

abbrev pub next_of : DocumentData → Sentence → DocumentData
next_of d sentence = with_said (record d { texts = (numbered_sentence sentence d.texts).0 }) (numbered_sentence sentence d.texts).1

tree_some : (tree : LineTree) → line_tokens tree ≡ [] → ⊥
tree_some (grammar.Port way node) is = cc
tree_some (grammar.Channel kind a b) is = cc
tree_some (grammar.Component name) is = cc
tree_some (grammar.Put node constant) is = cc
tree_some (grammar.Get node) is = cc

some_tokens : (place : Place) (again : List ℕ) (tokens : List CutToken) (sentence : Sentence) → IsLine place (map (seen again) tokens) sentence → tokens ≢ []
some_tokens place again tokens sentence is none = tree_some is.tree (sym is.spelled ∙ ap (map (seen again)) none)

goes_so : (d : DocumentData) (source : List ℕ) (sentence : Sentence) (m : ℕ) → IsSaid d source sentence → outcome_of m d sentence ≡ Goes (next_of d sentence)
goes_so d source sentence m is =
    ap (λ w. if w then Stops (NumberRange m) else (if is_long sentence then Stops (TextLong m) else placed m d (numbered_sentence sentence d.texts))) is.narrow
    ∙ ap (λ l. if l then Stops (TextLong m) else placed m d (numbered_sentence sentence d.texts)) is.short
    ∙ ap (λ w. outcome_by m w (next_of d sentence)) is.allowed

-- the line as it is written leads where the line led
pub again_leads : (d : DocumentData) (source : List ℕ) (sentence : Sentence) (texts : List (List ℕ)) (m : ℕ) → IsSaid d source sentence → Extends (numbered_sentence sentence d.texts).0 texts
    → Leads d m (said_text texts (numbered_sentence sentence d.texts).1) (Goes (next_of d sentence))
again_leads d source sentence texts m is extends =
    let again = said_text texts (numbered_sentence sentence d.texts).1 in
    let read = read_again (place_in d) source sentence d.texts texts is.utf8 is.is_line is.narrow extends in
    subst (Leads d m again) (goes_so d source sentence m is)
    (says sentence read.0 (some_tokens (place_in d) again (tokens_in again) sentence read.1) read.1)

pub again_plain : (d : DocumentData) (source : List ℕ) (sentence : Sentence) (texts : List (List ℕ)) → IsSaid d source sentence → Extends (numbered_sentence sentence d.texts).0 texts
    → IsPlain (said_text texts (numbered_sentence sentence d.texts).1)
again_plain d source sentence texts is extends =
    let again = said_text texts (numbered_sentence sentence d.texts).1 in
    line_plain again (line_tokens (tree_of sentence))
    (whole_line again (line_tokens (tree_of sentence)) (sentence_writes sentence d.texts texts extends (line_said (place_in d) source sentence is.utf8 is.is_line) is.narrow))

-- a line of the circuit stands before the first component
no_people : (people : List (List ℕ)) → is_allowed (place_by people) OfCircuit ≡ true → length people ≡ 0
no_people [] is = refl
no_people (name ∷ people) is = absurd (false≢true is)

no_scripts : (scripts : List (List Op)) → length scripts ≡ 0 → scripts ≡ []
no_scripts [] is = refl
no_scripts (script ∷ scripts) is = absurd (omega (arith, is))

pub some_people : (people : List (List ℕ)) → is_allowed (place_by people) OfScripts ≡ true → 0 < length people
some_people [] is = absurd (false≢true is)
some_people (name ∷ people) is = omega arith

pub allowed_there : (d : DocumentData) (source : List ℕ) (sentence : Sentence) → IsSaid d source sentence → is_allowed (place_in d) (section_of (tree_of sentence)) ≡ true
allowed_there d source sentence is = tree_allowed (place_in d) (map (seen source) (tokens_in source)) sentence is.is_line

pub in_circuit : (d : DocumentData) → length d.people ≡ length d.scripts → is_allowed (place_in d) OfCircuit ≡ true → d.scripts ≡ []
in_circuit d scripted is = no_scripts d.scripts (sym scripted ∙ no_people d.people is)

-- the text with a line of the circuit more
pub circuit_grows : (d next : DocumentData) (nodes texts people : List (List ℕ)) (more : Line) (last : List ℕ) → d.scripts ≡ [] → next.scripts ≡ d.scripts → next.lines ≡ d.lines ++ more ∷ []
    → circuit_line nodes texts more ≡ last ++ codes "\n"
    → canonical_text (named next nodes texts people) ≡ canonical_text (named d nodes texts people) ++ (last ++ codes "\n")
circuit_grows d next nodes texts people more last none still longer is =
    let own : DocumentData → List (List Op) → List ℕ = λ e scripts. numbered (script_lines (named e nodes texts people)) 0 scripts in
    ap (λ ls. flat_map (circuit_line nodes texts) ls ++ own next next.scripts) longer
    ∙ circuit_more (circuit_line nodes texts) d.lines more (own d d.scripts) (own next next.scripts) (ap (own d) none) (ap (own next) (still ∙ none))
    ∙ ap (λ bs. canonical_text (named d nodes texts people) ++ bs) is

pub port_line : (d : DocumentData) (nodes texts : List (List ℕ)) (goes : Way) (node : List ℕ) → Extends (added d.nodes node) nodes
    → circuit_line nodes texts (line.Port goes (number_in (added d.nodes node) node)) ≡ said_text texts (PortSaid goes node) ++ codes "\n"
port_line d nodes texts goes node extends = ap (λ n. way_word goes ++ n ++ codes "\n") (text_numbered d.nodes nodes node extends)

pub channel_line : (d : DocumentData) (nodes texts : List (List ℕ)) (kind : net.Kind) (a b : List ℕ) → Extends (added (added d.nodes a) b) nodes
    → circuit_line nodes texts (line.Channel (record { kind = kind; a = number_in (added (added d.nodes a) b) a; b = number_in (added (added d.nodes a) b) b }))
    ≡ said_text texts (ChannelSaid kind a b) ++ codes "\n"
channel_line d nodes texts kind a b extends =
    ap (λ n. kind_word kind ++ n ++ codes " " ++ text_at nodes (number_in (added (added d.nodes a) b) b) ++ kind_rest texts kind ++ codes "\n") (first_numbered d.nodes nodes a b extends)
    ∙ ap (λ n. kind_word kind ++ a ++ codes " " ++ n ++ kind_rest texts kind ++ codes "\n") (text_numbered (added d.nodes a) nodes b extends)

-- the text with a component more
pub component_grows : (d : DocumentData) (nodes texts people : List (List ℕ)) (name : List ℕ) → text_at people (length d.scripts) ≡ name
    → canonical_text (named (record d { scripts = d.scripts ++ [] ∷ [] }) nodes texts people) ≡ canonical_text (named d nodes texts people) ++ ((codes "component " ++ name) ++ codes "\n")
component_grows d nodes texts people name is =
    let front : List ℕ = flat_map (circuit_line nodes texts) d.lines in
    let f : ℕ → List Op → List ℕ = script_lines (named d nodes texts people) in
    let zero_more : 0 + length d.scripts ≡ length d.scripts = omega arith in
    ap (λ bs. front ++ bs) (numbered_more f 0 d.scripts []) ∙ sym (append_assoc front (numbered f 0 d.scripts) (f (0 + length d.scripts) []))
    ∙ ap (λ bs. canonical_text (named d nodes texts people) ++ bs)
    (append-nil (codes "component " ++ text_at people (0 + length d.scripts) ++ codes "\n") ∙ ap (λ n. codes "component " ++ text_at people n ++ codes "\n") zero_more
    ∙ ap (λ n. codes "component " ++ n ++ codes "\n") is)

-- the text with an operation more
pub operation_grows : (d : DocumentData) (nodes texts people : List (List ℕ)) (o : Op) (last : List ℕ) → 0 < length d.scripts → operation_line nodes texts (filter_map port_in d.lines) o ≡ last ++ codes "\n"
    → canonical_text (named (record d { scripts = with_operation d.scripts o }) nodes texts people) ≡ canonical_text (named d nodes texts people) ++ (last ++ codes "\n")
operation_grows d nodes texts people o last some is =
    let line_of : Op → List ℕ = operation_line nodes texts (filter_map port_in d.lines) in
    operations_more (flat_map (circuit_line nodes texts) d.lines) (script_lines (named d nodes texts people)) (line_of o) o
    (λ n script. script_more (codes "component " ++ text_at people n ++ codes "\n") line_of script o) d.scripts some
    ∙ ap (λ bs. canonical_text (named d nodes texts people) ++ bs) is
