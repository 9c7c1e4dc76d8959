-- What a reader has taken, put together from its parts.
use Rattle.std.proofs.Common.{◌≡◌, ℕ, ◌+◌, ◌≤◌, length, arith, ℤ, Bool, true, false, ◌||◌, List, [], ◌∷◌, ◌++◌, map, Option, Some, None, IfSome, is_none, not, if◌then◌else◌, refl, sym, ap, subst, ◌∙◌, append_assoc}
use Rattle.std.proofs.lemmas.List.{map-append}
use Rattle.std.proofs.lemmas.Bool.{false≢true}
use Rattle.std.proofs.lemmas.Option.{none-some, same_Some}
use Rattle.reo_token.specs.declared.token.Symbol.{Symbol}
use Rattle.reo_grammar.specs.declared.key.Key.{Key}
use Rattle.reo_grammar.specs.declared.key.Key.TheVariants as key
use Rattle.reo_grammar.specs.Key.{key_of}
use Rattle.reo_grammar.specs.Token.{Token, Word, Number, Text, Sign, Integer, Phrase, word}
use Rattle.reo_grammar.specs.Machine.Run.{run, IsStuck}
use Rattle.reo_grammar.specs.Machine.Guards.{token_key, text_of}
use Rattle.reo_grammar.proofs.KeyLemmas.{IsSpelled, key_spelled}
use Rattle.reo_grammar.proofs.RunLemmas.{run-append}
use Rattle.std.specs.Prelude.{Result, Ok, Err}
use Rattle.std.specs.Result.{IfErr, IsErrAnd}
use Rattle.reo_sentence.specs.declared.stop.Stop.{Stop}
use Rattle.reo_sentence.specs.declared.cursor.Cursor.{Cursor}
use Rattle.reo_sentence.specs.Seen.{seen}
use Rattle.reo_sentence.specs.Limits.{in_range, is_number, is_wide_number, is_long_text}
use Rattle.reo_value.specs.declared.value.Value.TheVariants.{Int, Sym}
use Rattle.reo_value.proofs.LexiconLemmas.{length-added}
use Rattle.reo_sentence.specs.Numbered.{Numbering, numbered_text, AddsText, in_turn, then_as}
use Rattle.reo_sentence.specs.Reading.{left, next_key, next_symbol, next_text, symbol_of, Takes, Advances, Goes, Notes, TakesNumber, Reads, ReadsText, ReadsNumber, ReadsConst, Halts}

-- what is left behind the tokens that were taken
pub Goes-left : (old new : Cursor) (front : List Token) → Goes old new front → left old ≡ front ++ left new
Goes-left old new front goes =
    ap (map (seen old.line.now)) goes.rest ∙ map-append (seen old.line.now) goes.passed new.rest.now
    ∙ ap (λ ts. ts ++ map (seen old.line.now) new.rest.now) goes.is ∙ ap (λ l. front ++ map (seen l) new.rest.now) (sym goes.line)

pub Takes-left : (old new : Cursor) (token : Token) → Takes old new token → left old ≡ token ∷ left new
Takes-left old new token takes =
    ap (map (seen old.line.now)) takes.rest ∙ ap (λ t. t ∷ map (seen old.line.now) new.rest.now) takes.is ∙ ap (λ l. token ∷ map (seen l) new.rest.now) (sym takes.line)

-- one token fewer is left
pub Takes-fewer : (old new : Cursor) (token : Token) → Takes old new token → length old.rest.now ≡ 1 + length new.rest.now
Takes-fewer old new token takes =
    let all : length old.rest.now ≡ length (takes.cut ∷ new.rest.now) = ap length takes.rest in
    omega (arith, all)

pub Goes-here : (cursor : Cursor) → Goes cursor cursor []
Goes-here cursor = record { passed = []; rest = refl; is = refl; line = refl }

pub Goes-one : (old new : Cursor) (token : Token) → Takes old new token → Goes old new (token ∷ [])
Goes-one old new token takes = record { passed = takes.cut ∷ []; rest = takes.rest; is = ap (λ t. t ∷ []) takes.is; line = takes.line }

pub Goes-on : (old middle new : Cursor) (front back : List Token) → Goes old middle front → Goes middle new back → Goes old new (front ++ back)
Goes-on old middle new front back first second = record {
  passed = first.passed ++ second.passed;
  rest = first.rest ∙ ap (λ ts. first.passed ++ ts) second.rest ∙ sym (append_assoc first.passed second.passed new.rest.now);
  is =
      map-append (seen old.line.now) first.passed second.passed ∙ ap (λ ts. ts ++ map (seen old.line.now) second.passed) first.is
      ∙ ap (λ l. front ++ map (seen l) second.passed) (sym first.line) ∙ ap (λ ts. front ++ ts) second.is;
  line = second.line ∙ first.line;
}

pub Goes-as : (old new : Cursor) (front other : List Token) → front ≡ other → Goes old new front → Goes old new other
Goes-as old new front other is goes = subst (Goes old new) is goes

or_assoc : (a b c : Bool) → ((a || b) || c) ≡ (a || (b || c))
or_assoc true b c = refl
or_assoc false b c = refl

pub or_false : (a : Bool) → (a || false) ≡ a
or_false true = refl
or_false false = refl

-- neither is set, where both together are not
or_left : (a b : Bool) → (a || b) ≡ false → a ≡ false
or_left true b is = absurd (false≢true (sym is))
or_left false b is = refl

or_right : (a b : Bool) → (a || b) ≡ false → b ≡ false
or_right true b is = absurd (false≢true (sym is))
or_right false b is = is

-- one value, and then another
pub Reads-in_turn : {A B C : Type 0} (old middle new : Cursor) (known between texts : List (List ℕ)) (front back : List Token) (wide_1 wide_2 long_1 long_2 : Bool)
    (first : Numbering A) (second : Numbering B) (with : A → B → C) (a : A) (b : B) → Reads old middle known between front wide_1 long_1 first a → Reads middle new between texts back wide_2 long_2 second b
    → Reads old new known texts (front ++ back) (wide_1 || wide_2) (long_1 || long_2) (in_turn first second with) (with a b)
Reads-in_turn old middle new known between texts front back wide_1 wide_2 long_1 long_2 first second with a b one other = record {
  goes = Goes-on old middle new front back one.goes other.goes;
  wide_noted = other.wide_noted ∙ ap (λ w. w || wide_2) one.wide_noted ∙ or_assoc old.is_wide wide_1 wide_2;
  long_noted = other.long_noted ∙ ap (λ w. w || long_2) one.long_noted ∙ or_assoc old.is_long long_1 long_2;
  numbered = λ not_wide not_long.
      let was = one.numbered (or_left middle.is_wide wide_2 (sym other.wide_noted ∙ not_wide)) (or_left middle.is_long long_2 (sym other.long_noted ∙ not_long)) in
      ap (λ r. ((second r.0).0, with r.1 (second r.0).1)) was ∙ ap (λ r. (r.0, with a r.1)) (other.numbered not_wide not_long);
  few = omega (arith, one.few, other.few);
}

-- the same value, seen as another
pub Reads-then_as : {A B : Type 0} (old new : Cursor) (known texts : List (List ℕ)) (front : List Token) (wide long : Bool) (numbers : Numbering A) (with : A → B) (a : A)
    → Reads old new known texts front wide long numbers a → Reads old new known texts front wide long (then_as numbers with) (with a)
Reads-then_as old new known texts front wide long numbers with a reads = record {
  goes = reads.goes;
  wide_noted = reads.wide_noted;
  long_noted = reads.long_noted;
  numbered = λ not_wide not_long. ap (λ r. (r.0, with r.1)) (reads.numbered not_wide not_long);
  few = reads.few;
}

-- a token in front
pub Reads-behind : {A : Type 0} (old middle new : Cursor) (known texts : List (List ℕ)) (token : Token) (back : List Token) (wide long : Bool) (numbers : Numbering A) (a : A)
    → Takes old middle token → Reads middle new known texts back wide long numbers a → Reads old new known texts (token ∷ back) wide long numbers a
Reads-behind old middle new known texts token back wide long numbers a takes reads = record {
  goes = Goes-on old middle new (token ∷ []) back (Goes-one old middle token takes) reads.goes;
  wide_noted = reads.wide_noted ∙ ap (λ w. w || wide) takes.wide;
  long_noted = reads.long_noted ∙ ap (λ w. w || long) takes.long;
  numbered = reads.numbered;
  few = omega (arith, reads.few, Takes-fewer old middle token takes);
}

-- a token behind
pub Reads-before : {A : Type 0} (old middle new : Cursor) (known texts : List (List ℕ)) (front : List Token) (token : Token) (wide long : Bool) (numbers : Numbering A) (a : A)
    → Reads old middle known texts front wide long numbers a → Takes middle new token → Reads old new known texts (front ++ token ∷ []) wide long numbers a
Reads-before old middle new known texts front token wide long numbers a reads takes = record {
  goes = Goes-on old middle new front (token ∷ []) reads.goes (Goes-one middle new token takes);
  wide_noted = takes.wide ∙ reads.wide_noted;
  long_noted = takes.long ∙ reads.long_noted;
  numbered = λ not_wide not_long. reads.numbered (sym takes.wide ∙ not_wide) (sym takes.long ∙ not_long);
  few = omega (arith, reads.few, Takes-fewer middle new token takes);
}

-- a token with this key is this word, where the key means something
abbrev pub IsTaken : Cursor → Cursor → Key → Type 0
IsTaken old new key.Other = Unit {0}
IsTaken old new key = Takes old new (word key)

word_taken : (old new : Cursor) (bytes : List ℕ) (k : Key) → IsSpelled k bytes → Takes old new (Word bytes) → IsTaken old new k
word_taken old new bytes key.Other is takes = tt
word_taken old new bytes k is takes = subst (λ b. Takes old new (Word b)) is takes

token_taken : (old new : Cursor) (token : Token) → Takes old new token → IsTaken old new (token_key token)
token_taken old new (Word bytes) takes = word_taken old new bytes (key_of bytes) (key_spelled bytes) takes
token_taken old new (Number value) takes = tt
token_taken old new (Text value) takes = tt
token_taken old new (Sign symbol) takes = tt

-- what was taken, by the key that was seen
pub key_taken : (old new : Cursor) (k : Key) → k ≡ next_key (left old) → Advances old new → IsTaken old new k
key_taken old new k is advances =
    subst (IsTaken old new) (sym (is ∙ ap next_key (Takes-left old new advances.token advances.takes))) (token_taken old new advances.token advances.takes)

sign_taken : (old new : Cursor) (token : Token) (symbol : Symbol) → symbol_of token ≡ Some symbol → Takes old new token → Takes old new (Sign symbol)
sign_taken old new (Word bytes) symbol is takes = absurd (none-some symbol is)
sign_taken old new (Number value) symbol is takes = absurd (none-some symbol is)
sign_taken old new (Text value) symbol is takes = absurd (none-some symbol is)
sign_taken old new (Sign other) symbol is takes = subst (λ s. Takes old new (Sign s)) (same_Some other symbol is) takes

-- and by the symbol
pub symbol_taken : (old new : Cursor) (symbol : Symbol) → Some symbol ≡ next_symbol (left old) → Advances old new → Takes old new (Sign symbol)
symbol_taken old new symbol is advances =
    sign_taken old new advances.token symbol (sym (is ∙ ap next_symbol (Takes-left old new advances.token advances.takes))) advances.takes

pub no_key : (cursor : Cursor) → cursor.rest.now ≡ [] → next_key (left cursor) ≡ key.Other
no_key cursor none = ap (λ ts. next_key (map (seen cursor.line.now) ts)) none

pub no_symbol : (cursor : Cursor) → cursor.rest.now ≡ [] → next_symbol (left cursor) ≡ None
no_symbol cursor none = ap (λ ts. next_symbol (map (seen cursor.line.now) ts)) none

-- the machine is stuck where the reader stands
pub Halts-here : {S T : Type 0} (step : S → Token → Option S) (whole : S → Option T) (state : S) (cursor : Cursor) → IsStuck step whole state (left cursor) → Halts step whole state cursor cursor
unfolding run
Halts-here step whole state cursor stuck = record { front = []; goes = Goes-here cursor; state = state; led = refl; stuck = stuck }

-- it is stuck behind what was taken
pub Halts-behind : {S T : Type 0} (step : S → Token → Option S) (whole : S → Option T) (start middle : S) (old between new : Cursor) (front : List Token) → Goes old between front
    → run step (Some start) front ≡ Some middle → Halts step whole middle between new → Halts step whole start old new
Halts-behind step whole start middle old between new front goes led halts = record {
  front = front ++ halts.front;
  goes = Goes-on old between new front halts.front goes halts.goes;
  state = halts.state;
  led = run-append step (Some start) front halts.front ∙ ap (λ s. run step s halts.front) led ∙ halts.led;
  stuck = halts.stuck;
}

-- What is noted of numbers and texts.
pub notes_nothing : (cursor : Cursor) → Notes cursor cursor false false
notes_nothing cursor = record { rest = refl; line = refl; wide_noted = sym (or_false cursor.is_wide); long_noted = sym (or_false cursor.is_long) }

pub notes_wide : (cursor : Cursor) (wide : Bool) → wide ≡ false → Notes cursor cursor wide false
notes_wide cursor wide is = subst (λ w. Notes cursor cursor w false) (sym is) (notes_nothing cursor)

pub notes_long : (cursor : Cursor) (long : Bool) → long ≡ false → Notes cursor cursor false long
notes_long cursor long is = subst (Notes cursor cursor false) (sym is) (notes_nothing cursor)

pub or_true : (a : Bool) → (a || true) ≡ true
or_true true = refl
or_true false = refl

text_token : (old new : Cursor) (token : Token) (value : List ℕ) → text_of token ≡ Some value → Takes old new token → Takes old new (Text value)
text_token old new (Word bytes) value is takes = absurd (none-some value is)
text_token old new (Number z) value is takes = absurd (none-some value is)
text_token old new (Text other) value is takes = subst (λ t. Takes old new (Text t)) (same_Some other value is) takes
text_token old new (Sign symbol) value is takes = absurd (none-some value is)

text_taken : (old new : Cursor) (value : List ℕ) → Some value ≡ next_text (left old) → Advances old new → Takes old new (Text value)
text_taken old new value is advances = text_token old new advances.token value (sym (is ∙ ap next_text (Takes-left old new advances.token advances.takes))) advances.takes

Goes-noted : (old middle new : Cursor) (token : Token) (wide long : Bool) → Takes old middle token → Notes middle new wide long → Goes old new (token ∷ [])
Goes-noted old middle new token wide long takes notes = record {
  passed = takes.cut ∷ [];
  rest = takes.rest ∙ ap (λ ts. takes.cut ∷ ts) (sym notes.rest);
  is = ap (λ t. t ∷ []) takes.is;
  line = notes.line ∙ takes.line;
}

-- one token, and what was noted of it
pub Reads-noted : {V : Type 0} (old middle new : Cursor) (known texts : List (List ℕ)) (token : Token) (wide long wide_is long_is : Bool) (numbers : Numbering V) (value : V)
    → Takes old middle token → Notes middle new wide long → wide ≡ wide_is → long ≡ long_is → (wide ≡ false → long ≡ false → numbers known ≡ (texts, value))
    → length texts ≤ length known + 1 → Reads old new known texts (token ∷ []) wide_is long_is numbers value
Reads-noted old middle new known texts token wide long wide_is long_is numbers value takes notes same_wide same_long numbered grown = record {
  goes = Goes-noted old middle new token wide long takes notes;
  wide_noted = notes.wide_noted ∙ ap (λ w. w || wide) takes.wide ∙ ap (λ w. old.is_wide || w) same_wide;
  long_noted = notes.long_noted ∙ ap (λ w. w || long) takes.long ∙ ap (λ w. old.is_long || w) same_long;
  numbered = λ not_wide not_long. numbered (or_right middle.is_wide wide (sym notes.wide_noted ∙ not_wide)) (or_right middle.is_long long (sym notes.long_noted ∙ not_long));
  few = omega (arith, grown, Takes-fewer old middle token takes, ap length notes.rest);
}

-- none more
pub no_more : (texts : List (List ℕ)) → length texts ≤ length texts + 1
no_more texts = omega arith

pub reads_text : (old middle new : Cursor) (known texts : List (List ℕ)) (value : List ℕ) (number : Option ℕ) (result : ℕ) → Some value ≡ next_text (left old) → Advances old middle
    → AddsText value known texts number → Notes middle new false (is_none number) → IfSome number (λ n. result ≡ n) → ReadsText old new known texts result
reads_text old middle new known texts value None result is advances long notes given = record {
  text = value;
  reads = Reads-noted old middle new known texts (Text value) false true false (is_long_text value) (numbered_text value) result (text_taken old middle value is advances) notes refl (sym long.0) (λ w l. absurd (false≢true (sym l))) (omega (arith, ap length long.1));
}
reads_text old middle new known texts value (Some n) result is advances adds notes given = record {
  text = value;
  reads =
      Reads-noted old middle new known texts (Text value) false false false (is_long_text value) (numbered_text value) result (text_taken old middle value is advances) notes refl (sym adds.0)
      (λ w l. adds.1 ∙ ap (λ r. (texts, r)) (sym given)) (subst (λ t. length t ≤ length known + 1) (ap (λ r. r.0) adds.1) (length-added known value).1);
}

in_range-wide : (value : ℤ) → is_none (in_range value) ≡ is_wide_number value
in_range-wide value = by (is_number value)
  where
    by : (b : Bool) → is_none (if b then Some value else None) ≡ not b
    by true = refl
    by false = refl

in_range-some : (value : ℤ) (number : Option ℤ) (result : ℤ) → number ≡ in_range value → is_none number ≡ false → IfSome number (λ n. result ≡ n) → result ≡ value
in_range-some value None result is some given = absurd (false≢true (sym some))
in_range-some value (Some n) result is some given = given ∙ by (is_number value) is
  where
    by : (b : Bool) → Some n ≡ (if b then Some value else None) → n ≡ value
    by true same = same_Some n value same
    by false none = absurd (none-some n (sym none))

pub reads_number : (old middle new : Cursor) (known : List (List ℕ)) (number : Option ℤ) (result : ℤ) → TakesNumber old middle number → Notes middle new (is_none number) false
    → IfSome number (λ n. result ≡ n) → ReadsNumber old new known result
reads_number old middle new known number result takes notes given = record {
  value = takes.value;
  reads =
      Reads-noted old middle new known known (Number takes.value) (is_none number) false (is_wide_number takes.value) false (λ texts. (texts, takes.value)) result takes.takes notes
      (ap is_none takes.is ∙ in_range-wide takes.value) refl (λ w l. ap (λ z. (known, z)) (sym (in_range-some takes.value number result takes.is w given))) (no_more known);
}

pub const_of_number : (old new : Cursor) (known : List (List ℕ)) (number : ℤ) → ReadsNumber old new known number → ReadsConst old new known known (Int number)
const_of_number old new known number reads = record {
  constant = Integer reads.value;
  reads = Reads-then_as old new known known (Number reads.value ∷ []) (is_wide_number reads.value) false (λ texts. (texts, reads.value)) Int number reads.reads;
}

pub const_of_text : (old new : Cursor) (known texts : List (List ℕ)) (number : ℕ) → ReadsText old new known texts number → ReadsConst old new known texts (Sym number)
const_of_text old new known texts number reads = record {
  constant = Phrase reads.text;
  reads = Reads-then_as old new known texts (Text reads.text ∷ []) false (is_long_text reads.text) (numbered_text reads.text) Sym number reads.reads;
}

-- what is true of an error is true of it as it is passed on
pub passed_on : {V : Type 0} (result : Result V Stop) (e : Stop) (P : Stop → Type 0) → IsErrAnd result (λ b. b ≡ e) → P e → IfErr result P
passed_on (Ok v) e P is p = tt
passed_on (Err b) e P is p = subst P (sym is) p
