-- What a line leads to.
use Rattle.std.proofs.Common.{◌≡◌, ◌≢◌, ℕ, ◌+◌, ◌<◌, ◌≤◌, Bool, true, false, if◌then◌else◌, ◌==◌, List, [], ◌∷◌, length, arith, map, Option, Some, None, refl, sym, ap, subst, ◌∙◌}
use Rattle.reo_token.specs.declared.token.Token.{Token}
use Rattle.reo_token.specs.declared.token.End.TheVariants.{Over, Bad, Large}
use Rattle.reo_token.specs.Cut.{cut}
use Rattle.reo_grammar.specs.Lines.{Sentence, IsLine}
use Rattle.reo_grammar.specs.Wrong.{IsFirstWrong}
use Rattle.reo_sentence.specs.Seen.{seen}
use Rattle.reo_sentence.specs.Limits.{is_wide, is_long}
use Rattle.reo_sentence.specs.Said.{Said, PortSaid, ChannelSaid, ComponentSaid, PutSaid, GetSaid, numbered_sentence}
use Rattle.reo_sentence.specs.ReadLine.{SaysIt, IsWrongAt, IsWide, IsLong, column_at}
use Rattle.reo_document.specs.declared.refusal.Misplaced.{Misplaced}
use Rattle.reo_document.specs.declared.refusal.Misplaced.TheVariants as why_not
use Rattle.std.specs.Prelude.{IsUtf8}
use Rattle.reo_document.specs.declared.refusal.TextRefusal.TheVariants as text_refusal
use Rattle.reo_document.specs.Spells.{empty}
use Rattle.reo_document.proofs.SpellLemmas.{refused}
use Rattle.reo_value.specs.Lexicon.{place_of}
use Rattle.reo_value.specs.declared.op.Way.{Way}
use Rattle.reo_value.specs.declared.value.Value.{Value}
use Rattle.reo_document.specs.Builder.{operation_at, operation_said, way_with}
use Rattle.reo_document.specs.Reading.{StopsWith, StopsIn, IsRefusalOf, HasSaid}
use Rattle.std.specs.Prelude.{Result, Ok, Err}
use Rattle.std.specs.Result.{OnOk, IfErr, IsErrAnd, is_ok}
use Rattle.std.proofs.lemmas.Bool.{false≢true, eqb-true}
use Rattle.reo_document.specs.declared.refusal.TextRefusal.TheVariants.{Syntax, LineLarge, NumberRange, TextLong}
use Rattle.reo_document.specs.Document.{DocumentData}
use Rattle.reo_document.specs.Placed.{port_at, port_named, port_number, number_at, with_operation, misplaced_at, misplaced, with_said}
use Rattle.reo_document.specs.Spells.{place_in, Outcome, Goes, Stops, outcome_of, outcome_by, placed, refusal_at, tokens_in, Leads, LinesLead, bad, large, skipped, wrong, says}
use Rattle.reo_document.specs.Lines.{lines_of}
use Rattle.reo_document.specs.declared.refusal.TextRefusal.{TextRefusal}

pub leads_bad : (d : DocumentData) (number : ℕ) (line : List ℕ) (tokens : List Token) (at : ℕ) → (tokens, Bad at) ≡ cut 512 0 line → Leads d number line (Stops (Syntax number (at + 1)))
leads_bad d number line tokens at is = bad at (sym (ap (λ r. r.1) is))

pub leads_large : (d : DocumentData) (number : ℕ) (line : List ℕ) (tokens : List Token) → (tokens, Large) ≡ cut 512 0 line → Leads d number line (Stops (LineLarge number))
leads_large d number line tokens is = large (sym (ap (λ r. r.1) is))

pub leads_on : (d : DocumentData) (number : ℕ) (line : List ℕ) (tokens : List Token) → (tokens, Over) ≡ cut 512 0 line → tokens ≡ [] → Leads d number line (Goes d)
leads_on d number line tokens is none = skipped (sym (ap (λ r. r.1) is)) (sym (ap (λ r. r.0) is) ∙ none)

-- the tokens of a line that ends over
pub record Tokens (line : List ℕ) (tokens : List Token) : Type 0 where
  pub is : (tokens, Over) ≡ cut 512 0 line
  pub some : tokens ≢ []

over : (line : List ℕ) (tokens : List Token) → Tokens line tokens → (cut 512 0 line).1 ≡ Over
over line tokens has = sym (ap (λ r. r.1) has.is)

same : (line : List ℕ) (tokens : List Token) → Tokens line tokens → tokens ≡ tokens_in line
same line tokens has = ap (λ r. r.0) has.is

some_tokens : (line : List ℕ) (tokens : List Token) → Tokens line tokens → tokens_in line ≢ []
some_tokens line tokens has none = has.some (same line tokens has ∙ none)

pub leads_wrong : (d : DocumentData) (number : ℕ) (line : List ℕ) (tokens : List Token) (column : ℕ) → Tokens line tokens → IsWrongAt (place_in d) line tokens column
    → Leads d number line (Stops (Syntax number column))
leads_wrong d number line tokens column has is =
    subst (λ n. Leads d number line (Stops (Syntax number n))) (sym (is.at ∙ ap (λ ts. column_at ts is.rest) (same line tokens has)))
    (wrong is.front is.rest (over line tokens has) (some_tokens line tokens has) (sym (same line tokens has) ∙ is.split)
    (subst (λ ts. IsFirstWrong (place_in d) (map (seen line) ts) (map (seen line) is.rest)) (same line tokens has) is.wrong))

-- what a sentence leads to
leads_says : (d : DocumentData) (number : ℕ) (line : List ℕ) (tokens : List Token) (sentence : Sentence) (outcome : Outcome) → Tokens line tokens → IsLine (place_in d) (map (seen line) tokens) sentence
    → outcome_of number d sentence ≡ outcome → Leads d number line outcome
leads_says d number line tokens sentence outcome has is comes =
    subst (Leads d number line) comes
    (says sentence (over line tokens has) (some_tokens line tokens has) (subst (λ ts. IsLine (place_in d) (map (seen line) ts) sentence) (same line tokens has) is))

by_limits : (number : ℕ) (d : DocumentData) (sentence : Sentence) (wide long : Bool) → is_wide sentence ≡ wide → is_long sentence ≡ long
    → outcome_of number d sentence ≡ (if wide then Stops (NumberRange number) else (if long then Stops (TextLong number) else placed number d (numbered_sentence sentence d.texts)))
by_limits number d sentence wide long is_it is_also =
    ap (λ w. if w then Stops (NumberRange number) else (if is_long sentence then Stops (TextLong number) else placed number d (numbered_sentence sentence d.texts))) is_it
    ∙ ap (λ l. if wide then Stops (NumberRange number) else (if l then Stops (TextLong number) else placed number d (numbered_sentence sentence d.texts))) is_also

pub leads_wide : (d : DocumentData) (number : ℕ) (line : List ℕ) (tokens : List Token) → Tokens line tokens → IsWide (place_in d) line tokens → Leads d number line (Stops (NumberRange number))
leads_wide d number line tokens has is = leads_says d number line tokens is.sentence (Stops (NumberRange number)) has is.is_line (by_limits number d is.sentence true (is_long is.sentence) is.out_of_range refl)

pub leads_long : (d : DocumentData) (number : ℕ) (line : List ℕ) (tokens : List Token) → Tokens line tokens → IsLong (place_in d) line tokens → Leads d number line (Stops (TextLong number))
leads_long d number line tokens has is = leads_says d number line tokens is.sentence (Stops (TextLong number)) has is.is_line (by_limits number d is.sentence false true is.in_range is.too_long)

-- the texts play no part in where a line may stand
misplaced_texts : (d : DocumentData) (texts : List (List ℕ)) (it : Said) → misplaced (record d { texts = texts }) it ≡ misplaced d it
misplaced_texts d texts (PortSaid way node) = refl
misplaced_texts d texts (ChannelSaid kind a b) = refl
misplaced_texts d texts (ComponentSaid name) = refl
misplaced_texts d texts (PutSaid node value) = refl
misplaced_texts d texts (GetSaid node) = refl

-- what a line says leads to, by whether it may stand here
leads_placed : (d : DocumentData) (number : ℕ) (line : List ℕ) (tokens : List Token) (texts : List (List ℕ)) (it : Said) (why : Option Misplaced) → Tokens line tokens
    → SaysIt (place_in d) line tokens d.texts texts it → why ≡ misplaced (record d { texts = texts }) it → Leads d number line (outcome_by number why (with_said (record d { texts = texts }) it))
leads_placed d number line tokens texts it why has is placed_why =
    leads_says d number line tokens is.sentence (outcome_by number why (with_said (record d { texts = texts }) it)) has is.is_line
    (by_limits number d is.sentence false false is.in_range is.short ∙ ap (placed number d) is.numbered
    ∙ ap (λ w. outcome_by number w (with_said (record d { texts = texts }) it)) (sym (placed_why ∙ misplaced_texts d texts it)))

pub leads_misplaced : (d : DocumentData) (number : ℕ) (line : List ℕ) (tokens : List Token) (texts : List (List ℕ)) (it : Said) (why : Misplaced) → Tokens line tokens
    → SaysIt (place_in d) line tokens d.texts texts it → Some why ≡ misplaced (record d { texts = texts }) it → Leads d number line (Stops (refusal_at number why))
leads_misplaced d number line tokens texts it why has is placed_why = leads_placed d number line tokens texts it (Some why) has is placed_why

pub leads_with : (d next : DocumentData) (number : ℕ) (line : List ℕ) (tokens : List Token) (texts : List (List ℕ)) (it : Said) → Tokens line tokens
    → SaysIt (place_in d) line tokens d.texts texts it → None ≡ misplaced (record d { texts = texts }) it → next ≡ with_said (record d { texts = texts }) it → Leads d number line (Goes next)
leads_with d next number line tokens texts it has is placed_none added =
    subst (λ n. Leads d number line (Goes n)) (sym added) (leads_placed d number line tokens texts it None has is placed_none)

-- what is true where one call went well is true where another did, as it does just then
pub OnOk-same : {T U D E : Type 0} {P Q : Type 0} (one : Result T D) (other : Result U E) → is_ok other ≡ is_ok one → (P → Q) → OnOk one P → OnOk other Q
OnOk-same (Ok x) (Ok y) is f p = f p
OnOk-same (Ok x) (Err e) is f p = tt
OnOk-same (Err d) (Ok y) is f p = absurd (false≢true (sym is))
OnOk-same (Err d) (Err e) is f p = tt

pub stops_why : (d : DocumentData) (number : ℕ) (line : List ℕ) (why : Misplaced) → Leads d number line (Stops (refusal_at number why)) → StopsWith d number line (refusal_at number why)
stops_why d number line why_not.TooManyComponents leads = leads
stops_why d number line why_not.ComponentTwice leads = leads
stops_why d number line why_not.UnknownPort leads = leads
stops_why d number line why_not.WrongWay leads = leads
stops_why d number line why_not.PortShared leads = leads
stops_why d number line why_not.TooManyOps leads = leads

-- a list that is told to be empty is
pub no_items : (xs : List Token) (told : Bool) → told ≡ (length xs == 0) → told ≡ true → xs ≡ []
no_items [] told is holds = refl
no_items (x ∷ xs) told is holds =
    let none : length (x ∷ xs) ≡ 0 = eqb-true (length (x ∷ xs)) 0 (sym is ∙ holds) in
    absurd (omega (arith, none))

-- What the rest of the lines leads to, all lines lead to.
pub record LeadsOn (first : DocumentData) (bytes : List ℕ) (d : DocumentData) (rest : List ℕ) (number : ℕ) : Type 0 where
  pub leads : (outcome : Outcome) → LinesLead d number (lines_of rest) outcome → LinesLead first 1 (lines_of bytes) outcome
  pub count : number + length rest ≤ length bytes + 1
  pub lines : length d.lines + 1 ≤ number

pub leads_first : (d : DocumentData) (bytes : List ℕ) → length d.lines ≡ 0 → LeadsOn d bytes d bytes 1
leads_first d bytes none = record { leads = λ outcome l. l; count = omega arith; lines = omega (arith, none) }

pub leads_next : (first d next : DocumentData) (bytes rest line more : List ℕ) (number : ℕ) → LeadsOn first bytes d rest number → lines_of rest ≡ line ∷ lines_of more → length more < length rest
    → Leads d number line (Goes next) → length next.lines ≤ length d.lines + 1 → LeadsOn first bytes next more (number + 1)
unfolding LinesLead
leads_next first d next bytes rest line more number on is fewer goes grown = record {
  leads = λ outcome l. on.leads outcome (subst (λ ls. LinesLead d number ls outcome) (sym is) (Goes next, (goes, l)));
  count = omega (arith, on.count, fewer);
  lines = omega (arith, on.lines, grown);
}

pub leads_last : (first d next : DocumentData) (bytes rest line : List ℕ) (number : ℕ) → LeadsOn first bytes d rest number → lines_of rest ≡ line ∷ [] → Leads d number line (Goes next)
    → LinesLead first 1 (lines_of bytes) (Goes next)
unfolding LinesLead
leads_last first d next bytes rest line number on is goes = on.leads (Goes next) (subst (λ ls. LinesLead d number ls (Goes next)) (sym is) (Goes next, (goes, refl)))

stops_first : (d : DocumentData) (bytes line : List ℕ) (lines : List (List ℕ)) (number : ℕ) (refusal : TextRefusal) → lines_of bytes ≡ line ∷ lines → Leads d number line (Stops refusal)
    → LinesLead d number (lines_of bytes) (Stops refusal)
unfolding LinesLead
stops_first d bytes line lines number refusal is stops = subst (λ ls. LinesLead d number ls (Stops refusal)) (sym is) (Stops refusal, (stops, refl))

pub stops_in : (d : DocumentData) (bytes line : List ℕ) (lines : List (List ℕ)) (number : ℕ) (refusal : TextRefusal) → lines_of bytes ≡ line ∷ lines → StopsWith d number line refusal
    → StopsIn d number (lines_of bytes) refusal
stops_in d bytes line lines number text_refusal.NoMemory is stops = tt
stops_in d bytes line lines number refusal is stops = stops_first d bytes line lines number refusal is stops

pub leads_stops : (first d : DocumentData) (bytes rest : List ℕ) (number : ℕ) (refusal : TextRefusal) → LeadsOn first bytes d rest number → StopsIn d number (lines_of rest) refusal
    → StopsIn first 1 (lines_of bytes) refusal
leads_stops first d bytes rest number text_refusal.NoMemory on stops = tt
leads_stops first d bytes rest number refusal on stops = on.leads (Stops refusal) stops

pub refusal_of : (d : DocumentData) (bytes : List ℕ) (refusal : TextRefusal) → d ≡ empty → IsUtf8 bytes → StopsIn d 1 (lines_of bytes) refusal → IsRefusalOf bytes refusal
refusal_of d bytes text_refusal.NoMemory is utf8 stops = tt
refusal_of d bytes refusal is utf8 stops = refused bytes refusal utf8 (subst (λ e. LinesLead e 1 (lines_of bytes) (Stops refusal)) is stops)

-- what is true of an error is true of it as it is passed on
pub passed_on : {V : Type 0} (result : Result V TextRefusal) (e : TextRefusal) (P : TextRefusal → Type 0) → IsErrAnd result (λ b. b ≡ e) → P e → IfErr result P
passed_on (Ok v) e P is p = tt
passed_on (Err b) e P is p = subst P (sym is) p

-- What becomes of a line that says something, by whether it may stand here.
pub goes_as : (d now next : DocumentData) (number : ℕ) (line : List ℕ) (it : Said) → None ≡ misplaced now it → next ≡ with_said now it → HasSaid d line now it → Leads d number line (Goes next)
goes_as d now next number line it placed_so with_it has =
    leads_with d next number line has.tokens now.texts it (record { is = has.cut_so; some = has.some }) has.says (placed_so ∙ ap (λ e. misplaced e it) has.same) (with_it ∙ ap (λ e. with_said e it) has.same)

pub stops_as : (d now : DocumentData) (number : ℕ) (line : List ℕ) (it : Said) (why : Misplaced) → Some why ≡ misplaced now it → HasSaid d line now it → StopsWith d number line (refusal_at number why)
stops_as d now number line it why placed_so has =
    stops_why d number line why
    (leads_misplaced d number line has.tokens now.texts it why (record { is = has.cut_so; some = has.some }) has.says (placed_so ∙ ap (λ e. misplaced e it) has.same))

-- Operations, by what they exchange.
pub operation_misplaced : (d : DocumentData) (name : List ℕ) (value : Option Value) (way : Way) (at : Option ℕ) (port : Option (ℕ × Way)) → way ≡ way_with value → at ≡ place_of d.nodes name
    → port ≡ port_at d at → misplaced_at d way port ≡ misplaced d (operation_said name value)
operation_misplaced d name value way at port goes stands is =
    ap (λ w. misplaced_at d w port) goes ∙ ap (misplaced_at d (way_with value)) (is ∙ ap (port_at d) stands) ∙ by value
  where
    by : (v : Option Value) → misplaced_at d (way_with v) (port_named d name) ≡ misplaced d (operation_said name v)
    by None = refl
    by (Some x) = refl

pub operation_with : (d : DocumentData) (name : List ℕ) (value : Option Value) (at : Option ℕ) (port : Option (ℕ × Way)) → at ≡ place_of d.nodes name → port ≡ port_at d at
    → record d { scripts = with_operation d.scripts (operation_at (number_at port) value) } ≡ with_said d (operation_said name value)
operation_with d name value at port stands is =
    ap (λ p. record d { scripts = with_operation d.scripts (operation_at (number_at p) value) }) (is ∙ ap (port_at d) stands) ∙ by value
  where
    by : (v : Option Value) → record d { scripts = with_operation d.scripts (operation_at (port_number d name) v) } ≡ with_said d (operation_said name v)
    by None = refl
    by (Some x) = refl
