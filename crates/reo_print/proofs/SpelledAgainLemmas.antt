-- Line by line, the canonical text leads where the lines led.
use Rattle.std.proofs.Common.{◌≡◌, ℕ, ◌+◌, nat_le, Bool, true, false, List, [], ◌∷◌, ◌++◌, length, map, Option, Some, None, is_some, codes, IsUtf8, refl, sym, ap, subst, ◌∙◌, arith, length-append, length-set, if◌then◌else◌}
use Rattle.std.proofs.lemmas.Option.{none-some}
use Rattle.reo_token.proofs.CutLemmas.{cut-over}
use Rattle.reo_value.specs.Lexicon.{place_of, added, text_at}
use Rattle.reo_value.proofs.LexiconLemmas.{place_of-push, slice_get-place_of}
use Rattle.reo_value.specs.declared.op.Op.{Op}
use Rattle.reo_value.specs.declared.op.Op.TheVariants as op
use Rattle.reo_value.specs.declared.op.Way.{Way}
use Rattle.reo_value.specs.declared.op.Way.TheVariants as way
use Rattle.reo_value.specs.declared.value.Value.{Value}
use Rattle.reo_grammar.specs.Token.{Const}
use Rattle.reo_grammar.specs.Lines.{Kind, Sentence, PortLine, ChannelLine, ComponentLine, PutLine, GetLine, IsLine}
use Rattle.reo_sentence.specs.Seen.{seen}
use Rattle.reo_sentence.specs.Limits.{is_wide, is_long}
use Rattle.reo_sentence.specs.Numbered.{number_in, numbered_const}
use Rattle.reo_sentence.specs.Said.{PortSaid, ChannelSaid, ComponentSaid, PutSaid, GetSaid, numbered_kind, numbered_sentence}
use Rattle.reo_document.specs.declared.line.Line.TheVariants as line
use Rattle.reo_document.specs.declared.refusal.TextRefusal.TheVariants.{NumberRange, TextLong}
use Rattle.reo_document.specs.Document.{DocumentData}
use Rattle.reo_document.specs.Lines.{lines_of}
use Rattle.reo_document.specs.Placed.{misplaced, port_number}
use Rattle.reo_document.specs.Spells.{empty, place_in, Outcome, Goes, Stops, outcome_by, placed, outcome_of, tokens_in, Leads, bad, large, skipped, wrong, says, Then, LinesLead, Spells, IsSpelled}
use Rattle.reo_trace.specs.ReportText.{value_text}
use Rattle.reo_document.proofs.SpellLemmas.{one_document, refused_alone}
use Rattle.reo_print.specs.Again.{DocumentsAreSpelledAgain, TextsSpellNoOther, TextsAreSettled, TextsAreNotRefused, TextsTellApart}
use Rattle.reo_print.specs.Canonical.{canonical_text}
use Rattle.reo_print.specs.Sentences.{said_text}
use Rattle.reo_print.specs.Trees.{Extends}
use Rattle.reo_print.proofs.DocumentAgainLemmas.{IsAgain, IsAgainLater, lead_more, one_more, IsSaid, next_of, again_leads, again_plain, some_people, allowed_there, in_circuit, circuit_grows, port_line, channel_line, component_grows, operation_grows}
use Rattle.reo_print.proofs.ScriptLemmas.{port_node}
use Rattle.reo_print.proofs.TextLinesLemmas.{plain_utf8, lines_of-in_lines, AreUtf8, all_lines_utf8}
use Rattle.reo_print.proofs.TextPlaceLemmas.{extends_same, extends_more, extends_through, extends_added, text_there, sentence_extends}

port_again : (d : DocumentData) (source : List ℕ) (goes : Way) (node : List ℕ) → IsAgainLater d → IsSaid d source (PortLine goes node) → IsAgainLater (next_of d (PortLine goes node))
port_again d source goes node was is = record {
  later = λ nodes texts people n t p.
      one_more d (next_of d (PortLine goes node)) nodes texts people (said_text texts (PortSaid goes node))
      (was.later nodes texts people (extends_through d.nodes (added d.nodes node) nodes (extends_added d.nodes node) n) t p)
      (circuit_grows d (next_of d (PortLine goes node)) nodes texts people (line.Port goes (number_in (added d.nodes node) node)) (said_text texts (PortSaid goes node))
      (in_circuit d was.scripted (allowed_there d source (PortLine goes node) is)) refl refl (port_line d nodes texts goes node n))
      (λ m. again_leads d source (PortLine goes node) texts m is t) (again_plain d source (PortLine goes node) texts is t);
  scripted = was.scripted;
}

channel_again : (d : DocumentData) (source a b : List ℕ) (k : Kind) → IsAgainLater d → IsSaid d source (ChannelLine k a b)
    → IsAgainLater (next_of d (ChannelLine k a b))
channel_again d source a b k was is =
    let both : List (List ℕ) = added (added d.nodes a) b in
    let kind = (numbered_kind k d.texts).1 in
    record {
      later = λ nodes texts people n t p.
          one_more d (next_of d (ChannelLine k a b)) nodes texts people (said_text texts (ChannelSaid kind a b))
          (was.later nodes texts people (extends_through d.nodes (added d.nodes a) nodes (extends_added d.nodes a) (extends_through (added d.nodes a) both nodes (extends_added (added d.nodes a) b) n))
          (extends_through d.texts (numbered_sentence (ChannelLine k a b) d.texts).0 texts (sentence_extends (ChannelLine k a b) d.texts) t) p)
          (circuit_grows d (next_of d (ChannelLine k a b)) nodes texts people (line.Channel (record { kind = kind; a = number_in both a; b = number_in both b })) (said_text texts (ChannelSaid kind a b))
          (in_circuit d was.scripted (allowed_there d source (ChannelLine k a b) is)) refl refl (channel_line d nodes texts kind a b n))
          (λ m. again_leads d source (ChannelLine k a b) texts m is t) (again_plain d source (ChannelLine k a b) texts is t);
      scripted = was.scripted;
    }

-- a component that may stand here is new
new_name : (d : DocumentData) (name : List ℕ) → misplaced d (ComponentSaid name) ≡ None → place_of d.people name ≡ None
new_name d name none = by _ _ (nat_le 128 (length d.people)) (place_of d.people name) refl none
  where
    by : {W : Type 0} (many twice : W) (full : Bool) (place : Option ℕ) → place_of d.people name ≡ place → (if full then Some many else (if is_some place then Some twice else None)) ≡ None
        → place_of d.people name ≡ None
    by many twice true place is not = absurd (none-some many (sym not))
    by many twice false (Some n) is not = absurd (none-some twice (sym not))
    by many twice false None is not = is

component_again : (d : DocumentData) (source name : List ℕ) → IsAgainLater d → IsSaid d source (ComponentLine name) → IsAgainLater (next_of d (ComponentLine name))
component_again d source name was is =
    let new = new_name d name is.allowed in
    let grown : added d.people name ≡ d.people ++ name ∷ [] = ap (λ place. if is_some place then d.people else d.people ++ name ∷ []) new in
    let longer : length (added d.people name) ≡ length d.people + 1 = ap length grown ∙ length-append d.people (name ∷ []) in
    record {
      later = λ nodes texts people n t p.
          let there : Extends (d.people ++ name ∷ []) people = subst (λ ps. Extends ps people) grown p in
          one_more d (next_of d (ComponentLine name)) nodes texts people (said_text texts (ComponentSaid name))
          (was.later nodes texts people n t (extends_through d.people (d.people ++ name ∷ []) people (extends_more d.people (name ∷ [])) there))
          (component_grows d nodes texts people name
          (ap (text_at people) (sym was.scripted)
          ∙ text_there (d.people ++ name ∷ []) people name (length d.people) there (slice_get-place_of (d.people ++ name ∷ []) name (length d.people) (place_of-push d.people name new))))
          (λ m. again_leads d source (ComponentLine name) texts m is t) (again_plain d source (ComponentLine name) texts is t);
      scripted = omega (arith, longer, was.scripted, length-append d.scripts ([] ∷ []));
    }

put_again : (d : DocumentData) (source node : List ℕ) (constant : Const) → IsAgainLater d → IsSaid d source (PutLine node constant) → IsAgainLater (next_of d (PutLine node constant))
put_again d source node constant was is =
    let value : Value = (numbered_const constant d.texts).1 in
    let o : Op = op.Put (port_number d node) value in
    record {
      later = λ nodes texts people n t p.
          one_more d (next_of d (PutLine node constant)) nodes texts people (said_text texts (PutSaid node value))
          (was.later nodes texts people n (extends_through d.texts (numbered_sentence (PutLine node constant) d.texts).0 texts (sentence_extends (PutLine node constant) d.texts) t) p)
          (operation_grows d nodes texts people o (said_text texts (PutSaid node value))
          (omega (arith, some_people d.people (allowed_there d source (PutLine node constant) is), was.scripted))
          (ap (λ name. codes "put " ++ name ++ codes " " ++ value_text texts value ++ codes "\n") (port_node d nodes way.Put node n is.allowed)))
          (λ m. again_leads d source (PutLine node constant) texts m is t) (again_plain d source (PutLine node constant) texts is t);
      scripted = was.scripted ∙ sym (length-set d.scripts _ _);
    }

get_again : (d : DocumentData) (source node : List ℕ) → IsAgainLater d → IsSaid d source (GetLine node) → IsAgainLater (next_of d (GetLine node))
get_again d source node was is = record {
  later = λ nodes texts people n t p.
      one_more d (next_of d (GetLine node)) nodes texts people (said_text texts (GetSaid node)) (was.later nodes texts people n t p)
      (operation_grows d nodes texts people (op.Get (port_number d node)) (said_text texts (GetSaid node))
      (omega (arith, some_people d.people (allowed_there d source (GetLine node) is), was.scripted))
      (ap (λ name. codes "get " ++ name ++ codes "\n") (port_node d nodes way.Get node n is.allowed)))
      (λ m. again_leads d source (GetLine node) texts m is t) (again_plain d source (GetLine node) texts is t);
  scripted = was.scripted ∙ sym (length-set d.scripts _ _);
}

says_again : (d : DocumentData) (source : List ℕ) (sentence : Sentence) → IsAgainLater d → IsSaid d source sentence → IsAgainLater (next_of d sentence)
says_again d source (PortLine goes node) was is = port_again d source goes node was is
says_again d source (ChannelLine kind a b) was is = channel_again d source a b kind was is
says_again d source (ComponentLine name) was is = component_again d source name was is
says_again d source (PutLine node constant) was is = put_again d source node constant was is
says_again d source (GetLine node) was is = get_again d source node was is

abbrev IsGoodAgain : Outcome → Type 0
IsGoodAgain (Goes d) = IsAgainLater d
IsGoodAgain (Stops refusal) = Unit {0}

by_option : {W : Type 0} (option : Option W) (P : Option W → Type 0) → (option ≡ None → P None) → ((w : W) → P (Some w)) → P option
by_option None P none some = none refl
by_option (Some w) P none some = some w

outcome_again : (d : DocumentData) (number : ℕ) (source : List ℕ) (sentence : Sentence) → IsAgainLater d → IsUtf8 source → IsLine (place_in d) (map (seen source) (tokens_in source)) sentence
    → IsGoodAgain (outcome_of number d sentence)
outcome_again d number source sentence was utf8 is_line = by (is_wide sentence) (is_long sentence) refl refl
  where
    by_place : is_wide sentence ≡ false → is_long sentence ≡ false → IsGoodAgain (placed number d (numbered_sentence sentence d.texts))
    by_place narrow short =
        by_option (misplaced d (numbered_sentence sentence d.texts).1) (λ why. IsGoodAgain (outcome_by number why (next_of d sentence)))
        (λ allowed. says_again d source sentence was (record { utf8 = utf8; is_line = is_line; narrow = narrow; short = short; allowed = allowed })) (λ reason. tt)

    by : (wide long : Bool) → is_wide sentence ≡ wide → is_long sentence ≡ long
        → IsGoodAgain (if wide then Stops (NumberRange number) else (if long then Stops (TextLong number) else placed number d (numbered_sentence sentence d.texts)))
    by true long w l = tt
    by false true w l = tt
    by false false w l = by_place w l

line_again : (d : DocumentData) (number : ℕ) (source : List ℕ) (outcome : Outcome) → IsAgainLater d → IsUtf8 source → Leads d number source outcome → IsGoodAgain outcome
line_again d number source _ was utf8 (bad at is) = tt
line_again d number source _ was utf8 (large is) = tt
line_again d number source _ was utf8 (skipped over none) = was
line_again d number source _ was utf8 (wrong front rest over some split goes) = tt
line_again d number source _ was utf8 (says sentence over some is) = outcome_again d number source sentence was utf8 is

lines_again : (d : DocumentData) (number : ℕ) (lines : List (List ℕ)) (outcome : Outcome) → IsAgainLater d → AreUtf8 lines → LinesLead d number lines outcome → IsGoodAgain outcome
unfolding LinesLead
lines_again d number [] outcome was utf8 lead = subst IsGoodAgain (sym lead) was
lines_again d number (line ∷ lines) outcome was utf8 lead =
    by lead.0 (line_again d number line lead.0 was utf8.0 lead.1.0) lead.1.1 (λ next is rest. lines_again next (number + 1) lines outcome is utf8.1 rest)
  where
    by : (middle : Outcome) → IsGoodAgain middle → Then middle (λ next. LinesLead next (number + 1) lines outcome) outcome
        → ((next : DocumentData) → IsAgainLater next → LinesLead next (number + 1) lines outcome → IsGoodAgain outcome) → IsGoodAgain outcome
    by (Goes next) is rest each = each next is rest
    by (Stops refusal) is same each = subst IsGoodAgain (sym same) tt

empty_again : IsAgainLater empty
unfolding LinesLead
empty_again = record {
  later = λ nodes texts people n t p. record { lines = []; text = refl; lead = refl; plain = tt };
  scripted = refl;
}

-- nothing stands behind the last LF
last_skipped : (d : DocumentData) (m : ℕ) → Leads d m [] (Goes d)
last_skipped d m = skipped (ap (λ r. r.1) (cut-over 512 0 [] refl)) (ap (λ r. r.0) (cut-over 512 0 [] refl))

again_spells : (d : DocumentData) → IsAgain d d.nodes d.texts d.people → Spells (canonical_text d) d
again_spells d is =
    subst (λ bytes. Spells bytes d) (sym is.text)
    (plain_utf8 is.lines is.plain, subst (λ ls. LinesLead empty 1 ls (Goes d)) (sym (lines_of-in_lines is.lines is.plain)) (lead_more empty d d 1 is.lines [] is.lead (last_skipped d)))

pub spelled_again : DocumentsAreSpelledAgain
spelled_again document is =
    again_spells document
    ((lines_again empty 1 (lines_of is.bytes) (Goes document) empty_again (all_lines_utf8 is.bytes is.spells.0) is.spells.1).later document.nodes document.texts document.people
    (extends_same document.nodes) (extends_same document.texts) (extends_same document.people))

pub no_other : TextsSpellNoOther
no_other one other is spells = one_document (canonical_text one) other one spells (spelled_again one is)

pub settled : TextsAreSettled
settled one other is spells = ap canonical_text (no_other one other is spells)

pub not_refused : TextsAreNotRefused
not_refused document refusal is refused = refused_alone (canonical_text document) document refusal (spelled_again document is) refused

pub told_apart : TextsTellApart
told_apart one other is also same =
    one_document (canonical_text other) one other (subst (λ text. Spells text one) same (spelled_again one is)) (spelled_again other also)

-- a text that is the canonical one
pub text_again : (document : DocumentData) (text : List ℕ) → text ≡ canonical_text document → IsSpelled document → Spells text document
text_again document text same is = subst (λ bytes. Spells bytes document) (sym same) (spelled_again document is)
