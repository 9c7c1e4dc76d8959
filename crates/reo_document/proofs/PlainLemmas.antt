-- What an operation in its plainest spelling says.
use Rattle.std.proofs.Common.{◌≡◌, ◌≢◌, ℕ, suc, ◌+◌, ◌-◌, ◌<◌, ◌≤◌, ◌==◌, nat_le, Bool, true, false, cond, if◌then◌else◌, not, ◌&&◌, ◌||◌, List, [], ◌∷◌, length, take, drop, codes, Option, Some, None, pos, ℤ, refl, sym, ap, subst, ◌∙◌, arith}
use Rattle.std.specs.List.{list_all}
use Rattle.std.proofs.Math.Seq.{drop-drop, take-length}
use Rattle.std.proofs.lemmas.List.{length-take}
use Rattle.std.proofs.lemmas.List.Elements.{All-nil, All-cons}
use borrow.Author.Tests.{leb-true}
use Rattle.std.proofs.lemmas.Bool.{false≢true, eqb-true, lt-ltb, and_from}
use Rattle.std.specs.Prelude.{slice_range}
use Rattle.reo_token.specs.declared.token.Token.{Token}
use Rattle.reo_token.specs.declared.token.Lexeme.{Lexeme}
use Rattle.reo_token.specs.declared.token.Lexeme.TheVariants.{Word, Number}
use Rattle.reo_token.specs.declared.token.End.{End}
use Rattle.reo_token.specs.declared.token.End.TheVariants.{Over}
use Rattle.reo_token.specs.Bytes.{is_letter, is_digit, is_word_byte}
use Rattle.reo_token.specs.Cut.{blanks, is_over, run, is_natural, number_at, token_at, cut}
use Rattle.reo_token.proofs.CutLemmas.{here, cut-over, cut-next}
use Rattle.reo_grammar.specs.Token as seen_token
use Rattle.reo_grammar.specs.Token.{Integer}
use Rattle.reo_grammar.specs.Lines.{Scripts, Put, Get, PutLine, GetLine}
use Rattle.reo_value.specs.declared.value.Value.TheVariants.{Int}
use Rattle.reo_sentence.specs.declared.said.Name.{Name}
use Rattle.reo_value.specs.declared.value.Value.{Value}
use Rattle.reo_document.specs.Builder.{operation_said}
use Rattle.reo_sentence.specs.declared.said.Sentence.TheVariants as sentence
use Rattle.reo_sentence.specs.Seen.{decimal_value, number_value}
use Rattle.reo_sentence.specs.Said.{IsNameIn, StandsIn, name_at}
use Rattle.reo_sentence.specs.ReadLine.{SaysIt}
use Rattle.reo_document.specs.Document.{DocumentData}
use Rattle.reo_document.specs.Spells.{place_in}
use Rattle.reo_document.specs.Reading.{HasSaid}
use Rattle.reo_sentence.proofs.NameLemmas.{names_in}
use Rattle.reo_document.specs.Plain.{SaysPlainly, BeginsWith, BeginsWithName, IsPlainNumber, starts_natural}

pub if_true : {A : Type 0} (p : Bool) (x y : A) → p ≡ true → (if p then x else y) ≡ x
if_true p x y is = ap (λ q. if q then x else y) is

pub if_false : {A : Type 0} (p : Bool) (x y : A) → p ≡ false → (if p then x else y) ≡ y
if_false p x y is = ap (λ q. if q then x else y) is

pub both : (p q : Bool) → (p && q) ≡ true → (p ≡ true) × (q ≡ true)
both true true is = (refl, refl)
both true false is = absurd (false≢true is)
both false q is = absurd (false≢true is)

or_true : (p : Bool) → (p || true) ≡ true
or_true true = refl
or_true false = refl

-- bytes that are others
pub other : (byte low : ℕ) → low < byte → (byte == low) ≡ false
other byte low less = by (byte == low) refl
  where
    by : (same : Bool) → (byte == low) ≡ same → same ≡ false
    by true is = absurd (omega (arith, eqb-true byte low is, less))
    by false is = refl

above : (byte high : ℕ) → byte < high → (byte == high) ≡ false
above byte high less = by (byte == high) refl
  where
    by : (same : Bool) → (byte == high) ≡ same → same ≡ false
    by true is = absurd (omega (arith, eqb-true byte high is, less))
    by false is = refl

not_from : (low byte : ℕ) → byte < low → nat_le low byte ≡ false
not_from low byte less = by (nat_le low byte) refl
  where
    by : (same : Bool) → nat_le low byte ≡ same → same ≡ false
    by true is = absurd (omega (arith, leb-true low byte is, less))
    by false is = refl

pub record IsDigit (byte : ℕ) : Type 0 where
  pub low : 48 ≤ byte
  pub high : byte ≤ 57

pub digit : (byte : ℕ) → is_digit byte ≡ true → IsDigit byte
digit byte is =
    let h = both (nat_le 48 byte) (nat_le byte 57) is in
    record { low = leb-true 48 byte h.0; high = leb-true byte 57 h.1 }

pub digit_low : (byte : ℕ) → is_digit byte ≡ true → 48 ≤ byte
digit_low byte is = (digit byte is).low

pub digit_high : (byte : ℕ) → is_digit byte ≡ true → byte ≤ 57
digit_high byte is = (digit byte is).high

no_letter : (byte : ℕ) → IsDigit byte → is_letter byte ≡ false
no_letter byte is =
    ap (λ p. (p && nat_le byte 90) || (nat_le 97 byte && nat_le byte 122) || (byte == 95)) (not_from 65 byte (omega (arith, is.high)))
    ∙ ap (λ q. (false && nat_le byte 90) || (q && nat_le byte 122) || (byte == 95)) (not_from 97 byte (omega (arith, is.high)))
    ∙ above byte 95 (omega (arith, is.high))

pub close_at : (byte : ℕ) (bytes : List ℕ) → 32 < byte → blanks (byte ∷ bytes) ≡ 0
close_at byte bytes high =
    ap (λ p. cond (p || (byte == 9)) (1 + blanks bytes) 0) (other byte 32 high) ∙ ap (λ p. cond p (1 + blanks bytes) 0) (other byte 9 (omega (arith, high)))

run_all : (digits : List ℕ) → list_all is_digit digits ≡ true → run digits ≡ length digits
run_all [] all = refl
run_all (byte ∷ digits) all =
    let h = both (is_digit byte) (list_all is_digit digits) all in
    let word : is_word_byte byte ≡ true = ap (λ p. is_letter byte || p) h.0 ∙ or_true (is_letter byte) in
    let more : run digits ≡ length digits = run_all digits h.1 in
    ap (λ p. cond p (1 + run digits) 0) word ∙ omega (arith, more)

number_token : (byte : ℕ) (digits : List ℕ) → starts_natural (byte ∷ digits) ≡ true → list_all is_digit (byte ∷ digits) ≡ true
    → number_at false (byte ∷ digits) ≡ Some (Number, length (byte ∷ digits))
number_token byte digits starts all =
    ap (λ n. if is_natural (take n (byte ∷ digits)) then Some (Number, n) else None) (run_all (byte ∷ digits) all)
    ∙ if_true (is_natural (take (length (byte ∷ digits)) (byte ∷ digits))) _ _
    (ap is_natural (take-length (byte ∷ digits)) ∙ and_from (list_all is_digit (byte ∷ digits)) (starts_natural (byte ∷ digits)) all starts)

pub plain_number : (digits : List ℕ) (value : ℕ) → starts_natural digits ≡ true → list_all is_digit digits ≡ true → decimal_value digits ≡ value → value < 4611686018427387904
    → IsPlainNumber digits (pos value)
plain_number [] value starts all is small = absurd (false≢true starts)
plain_number (byte ∷ digits) value starts all is small =
    let is_it : is_digit byte ≡ true = (both (is_digit byte) (list_all is_digit digits) all).0 in
    let b = digit byte is_it in
    record {
      begins = record {
        close = close_at byte digits (omega (arith, b.low));
        more = other byte 35 (omega (arith, b.low));
        token = if_false (is_letter byte) _ _ (no_letter byte b) ∙ if_true (is_digit byte) _ _ is_it ∙ number_token byte digits starts all;
      };
      value = if_false (byte == 45) _ _ (other byte 45 (omega (arith, b.low))) ∙ ap pos is;
      in_range = lt-ltb value 4611686018427387904 small;
    }

-- One token more, and the rest.
abbrev before : Token → List Token × End → List Token × End
before token more = (token ∷ more.0, more.1)

abbrev token_from : Lexeme → ℕ → ℕ → Token
token_from lexeme start end = record { lexeme = lexeme; start = start; end = end }

behind_blank : (n at : ℕ) (bytes : List ℕ) (lexeme : Lexeme) (len : ℕ) → BeginsWith bytes lexeme len
    → cut (suc n) at (32 ∷ bytes) ≡ before (token_from lexeme (at + 1) (at + 1 + len)) (cut n (at + 1 + len) (drop len bytes))
behind_blank n at bytes lexeme len is =
    let there : here (32 ∷ bytes) ≡ bytes = ap (λ k. drop (1 + k) (32 ∷ bytes)) is.close in
    cut-next n at (32 ∷ bytes) (Some (lexeme, len)) (ap is_over there ∙ is.more) (ap token_at there ∙ is.token)
    ∙ ap (λ k. before (token_from lexeme (at + (1 + k)) (at + (1 + k) + len)) (cut n (at + (1 + k) + len) (drop len (drop (1 + k) (32 ∷ bytes))))) is.close

nothing : (n at : ℕ) (bytes : List ℕ) → drop (length bytes) bytes ≡ [] → cut n at (drop (length bytes) bytes) ≡ ([], Over)
nothing n at bytes none = ap (cut n at) none ∙ cut-over n at [] refl

drop_all : (bytes : List ℕ) → drop (length bytes) bytes ≡ []
drop_all [] = refl
drop_all (byte ∷ bytes) = drop_all bytes

some_tokens : (token : Token) (tokens : List Token) → token ∷ tokens ≢ []
some_tokens token tokens none =
    let zero : length (token ∷ tokens) ≡ 0 = ap length none in
    omega (arith, zero)

short_name : (rest : List ℕ) (len : ℕ) → len ≤ 64 → length (take (4 + len - 4) rest) ≤ 64
short_name rest len short = omega (arith, short, length-take (4 + len - 4) rest)

abbrev name_of : ℕ → Name
name_of len = record { start = 4; end = 4 + len }

-- A get.
abbrev get_tokens : ℕ → List Token
get_tokens len = token_from Word 0 3 ∷ token_from Word 4 (4 + len) ∷ []

cut_get : (rest : List ℕ) → BeginsWith rest Word (length rest) → cut 512 0 (103 ∷ 101 ∷ 116 ∷ 32 ∷ rest) ≡ (get_tokens (length rest), Over)
cut_get rest is =
    cut-next 511 0 (103 ∷ 101 ∷ 116 ∷ 32 ∷ rest) (Some (Word, 3)) refl refl
    ∙ ap (before (token_from Word 0 3))
    (behind_blank 510 3 rest Word (length rest) is ∙ ap (before (token_from Word 4 (4 + length rest))) (nothing 510 (4 + length rest) rest (drop_all rest)))

plainly_get : (rest : List ℕ) (len : ℕ) → BeginsWithName rest len → len ≡ length rest → SaysPlainly (103 ∷ 101 ∷ 116 ∷ 32 ∷ rest) (name_of len, None)
plainly_get rest len is all = record {
  tokens = get_tokens len;
  cut_so = sym (cut_get rest (subst (BeginsWith rest Word) all is.begins) ∙ ap (λ n. (get_tokens n, Over)) (sym all));
  some = some_tokens (token_from Word 0 3) (token_from Word 4 (4 + len) ∷ []);
  says = λ texts. record {
    sentence = GetLine (slice_range (103 ∷ 101 ∷ 116 ∷ 32 ∷ rest) 4 (4 + len));
    is_line = record {
      tree = Get (slice_range (103 ∷ 101 ∷ 116 ∷ 32 ∷ rest) 4 (4 + len));
      spelled = refl;
      meant = refl;
      allowed = refl;
      named =
          All-cons (λ name. length name ≤ 64) (slice_range (103 ∷ 101 ∷ 116 ∷ 32 ∷ rest) 4 (4 + len)) [] (short_name rest len is.short)
          (All-nil (λ name. length name ≤ 64));
    };
    in_range = refl;
    short = refl;
    numbered = refl;
  };
}

pub says_get : (line rest : List ℕ) (name : Name) (len : ℕ) → line ≡ 103 ∷ 101 ∷ 116 ∷ 32 ∷ rest → BeginsWithName rest len → length rest ≤ len → name.start ≡ 4 → name.end ≡ 4 + len
    → SaysPlainly line (name, None)
says_get line rest name len is begins over start end =
    subst (λ l. SaysPlainly l (name, None)) (sym is)
    (subst (λ n. SaysPlainly (103 ∷ 101 ∷ 116 ∷ 32 ∷ rest) (n, None)) (sym same) (plainly_get rest len begins (omega (arith, over, begins.within))))
  where
    same : name ≡ name_of len
    same = ap (λ n. record { start = n; end = name.end }) start ∙ ap (λ n. record { start = 4; end = n }) end

-- A put.
abbrev put_tokens : ℕ → ℕ → List Token
put_tokens len more = token_from Word 0 3 ∷ token_from Word 4 (4 + len) ∷ token_from Number (4 + len + 1) (4 + len + 1 + more) ∷ []

cut_put : (rest digits : List ℕ) (len : ℕ) → BeginsWith rest Word len → drop len rest ≡ 32 ∷ digits → BeginsWith digits Number (length digits)
    → cut 512 0 (112 ∷ 117 ∷ 116 ∷ 32 ∷ rest) ≡ (put_tokens len (length digits), Over)
cut_put rest digits len is behind number =
    cut-next 511 0 (112 ∷ 117 ∷ 116 ∷ 32 ∷ rest) (Some (Word, 3)) refl refl
    ∙ ap (before (token_from Word 0 3))
    (behind_blank 510 3 rest Word len is
    ∙ ap (before (token_from Word 4 (4 + len)))
    (ap (cut 510 (4 + len)) behind
    ∙ behind_blank 509 (4 + len) digits Number (length digits) number
    ∙ ap (before (token_from Number (4 + len + 1) (4 + len + 1 + length digits))) (nothing 509 (4 + len + 1 + length digits) digits (drop_all digits))))

-- the digits stand behind the name and a blank
number_part : (rest digits : List ℕ) (len : ℕ) → drop len rest ≡ 32 ∷ digits
    → slice_range (112 ∷ 117 ∷ 116 ∷ 32 ∷ rest) (4 + len + 1) (4 + len + 1 + length digits) ≡ digits
number_part rest digits len behind =
    let line : List ℕ = 112 ∷ 117 ∷ 116 ∷ 32 ∷ rest in
    let size : 4 + len + 1 + length digits - (4 + len + 1) ≡ length digits = omega arith in
    let place : drop (4 + len + 1) (112 ∷ 117 ∷ 116 ∷ 32 ∷ rest) ≡ digits =
    sym (drop-drop 1 (4 + len) (112 ∷ 117 ∷ 116 ∷ 32 ∷ rest)) ∙ ap (drop 1) (sym (drop-drop len 4 (112 ∷ 117 ∷ 116 ∷ 32 ∷ rest)) ∙ behind) in
    ap (λ k. take k (drop (4 + len + 1) line)) size ∙ ap (take (length digits)) place ∙ take-length digits

plainly_put : (rest digits : List ℕ) (len : ℕ) (number : ℤ) → BeginsWithName rest len → drop len rest ≡ 32 ∷ digits → IsPlainNumber digits number
    → SaysPlainly (112 ∷ 117 ∷ 116 ∷ 32 ∷ rest) (name_of len, Some (Int number))
plainly_put rest digits len number is behind counts = record {
  tokens = put_tokens len (length digits);
  cut_so = sym (cut_put rest digits len is.begins behind counts.begins);
  some = some_tokens (token_from Word 0 3) (token_from Word 4 (4 + len) ∷ token_from Number (4 + len + 1) (4 + len + 1 + length digits) ∷ []);
  says = λ texts. record {
    sentence = PutLine (slice_range (112 ∷ 117 ∷ 116 ∷ 32 ∷ rest) 4 (4 + len)) (Integer number);
    is_line = record {
      tree = Put (slice_range (112 ∷ 117 ∷ 116 ∷ 32 ∷ rest) 4 (4 + len)) (Integer number);
      spelled =
          ap (λ n. seen_token.Word (codes "put") ∷ seen_token.Word (slice_range (112 ∷ 117 ∷ 116 ∷ 32 ∷ rest) 4 (4 + len)) ∷ seen_token.Number n ∷ [])
          (ap number_value (number_part rest digits len behind) ∙ counts.value);
      meant = refl;
      allowed = refl;
      named =
          All-cons (λ name. length name ≤ 64) (slice_range (112 ∷ 117 ∷ 116 ∷ 32 ∷ rest) 4 (4 + len)) [] (short_name rest len is.short)
          (All-nil (λ name. length name ≤ 64));
    };
    in_range = ap not counts.in_range;
    short = refl;
    numbered = refl;
  };
}

pub says_put : (line rest : List ℕ) (name : Name) (len : ℕ) (number : ℤ) → line ≡ 112 ∷ 117 ∷ 116 ∷ 32 ∷ rest → BeginsWithName rest len
    → (digits : List ℕ) × ((drop len rest ≡ 32 ∷ digits) × IsPlainNumber digits number) → name.start ≡ 4 → name.end ≡ 4 + len → SaysPlainly line (name, Some (Int number))
says_put line rest name len number is begins behind start end =
    subst (λ l. SaysPlainly l (name, Some (Int number))) (sym is)
    (subst (λ n. SaysPlainly (112 ∷ 117 ∷ 116 ∷ 32 ∷ rest) (n, Some (Int number))) (sym same) (plainly_put rest behind.0 len number begins behind.1.0 behind.1.1))
  where
    same : name ≡ name_of len
    same = ap (λ n. record { start = n; end = name.end }) start ∙ ap (λ n. record { start = 4; end = n }) end

-- The names of what is said so.
in_line : (line rest : List ℕ) (name : Name) (len a b d : ℕ) → line ≡ a ∷ b ∷ d ∷ 32 ∷ rest → BeginsWithName rest len → name.start ≡ 4 → name.end ≡ 4 + len → StandsIn (length line) name
in_line line rest name len a b d is begins start end =
    let size : length line ≡ 4 + length rest = ap length is ∙ omega arith in
    (omega (arith, start, end), omega (arith, end, size, begins.within))

pub names_get : (line rest : List ℕ) (name : Name) (len : ℕ) → line ≡ 103 ∷ 101 ∷ 116 ∷ 32 ∷ rest → BeginsWithName rest len → length rest ≤ len → name.start ≡ 4 → name.end ≡ 4 + len
    → IsNameIn line name
names_get line rest name len is begins over start end =
    let plainly = says_get line rest name len is begins over start end in
    names_in Scripts line plainly.tokens [] [] (sentence.Get name) (plainly.says []) plainly.cut_so (in_line line rest name len 103 101 116 is begins start end)

pub names_put : (line rest : List ℕ) (name : Name) (len : ℕ) (number : ℤ) → line ≡ 112 ∷ 117 ∷ 116 ∷ 32 ∷ rest → BeginsWithName rest len
    → (digits : List ℕ) × ((drop len rest ≡ 32 ∷ digits) × IsPlainNumber digits number) → name.start ≡ 4 → name.end ≡ 4 + len → IsNameIn line name
names_put line rest name len number is begins behind start end =
    let plainly = says_put line rest name len number is begins behind start end in
    names_in Scripts line plainly.tokens [] [] (sentence.Put name (Int number)) (plainly.says []) plainly.cut_so (in_line line rest name len 112 117 116 is begins start end)

-- Behind a component line, a line says what it says plainly.
pub said_plainly : (d : DocumentData) (line : List ℕ) (node : Name) (value : Option Value) → place_in d ≡ Scripts → SaysPlainly line (node, value)
    → HasSaid d line d (operation_said (name_at line node) value)
said_plainly d line node value place plainly = record {
  tokens = plainly.tokens;
  cut_so = plainly.cut_so;
  some = plainly.some;
  says = subst (λ p. SaysIt p line plainly.tokens d.texts d.texts (operation_said (name_at line node) value)) (sym place) (plainly.says d.texts);
  same = refl;
}
