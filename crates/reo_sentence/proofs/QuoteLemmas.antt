-- The texts among the tokens of a line stand between quotes, and are UTF-8 where the line is.
use Rattle.std.proofs.Common.{◌≡◌, ℕ, zero, suc, ◌+◌, ◌-◌, ◌<◌, ◌≤◌, ◌==◌, nat_lt, nat_le, Bool, true, false, ◌&&◌, ◌||◌, inl, inr, if◌then◌else◌, List, [], ◌∷◌, length, drop, take, get_or, slice_index, slice_range, map, All, Option, Some, None, IsUtf8, refl, sym, ap, subst, ◌∙◌, arith}
use Rattle.std.specs.Option.{option_map}
use Rattle.std.proofs.lemmas.Bool.{eqb-true, leb-true, cases_lt, false≢true}
use Rattle.std.proofs.lemmas.Option.{none-some, same_Some}
use Rattle.std.proofs.lemmas.List.{get_or-drop, drop-drop}
use Rattle.std.proofs.lemmas.List.Elements.{All-nil, All-cons, All-map}
use Rattle.std.proofs.lemmas.Str.{IsUtf8-nil, IsUtf8-between, IsCharBoundary-before_ascii, IsCharBoundary-after_ascii}
use Rattle.reo_token.specs.declared.token.Symbol.{Symbol}
use Rattle.reo_token.specs.declared.token.Lexeme.{Lexeme}
use Rattle.reo_token.specs.declared.token.Lexeme.TheVariants.{Word, Number, Text, Sign}
use Rattle.reo_token.specs.declared.token.Token.{Token}
use Rattle.reo_token.specs.declared.token.End.TheVariants.{Over}
use Rattle.reo_token.specs.Bytes.{is_letter, is_digit, is_word_byte, can_be_escaped}
use Rattle.reo_token.specs.Cut.{blanks, run, is_over, is_natural, number_at, behind_minus, text_step, text_by, text_len, text_at, long_symbol, short_symbol, signed, or_else, symbol_at, token_at, first_token, cut, IsWithin}
use Rattle.reo_grammar.specs.Token.{Token as Seen}
use Rattle.reo_grammar.specs.Token as seen_token
use Rattle.reo_sentence.specs.Seen.{seen, IsQuoted}
use Rattle.reo_sentence.proofs.Utf8Lemmas.{not_byte, utf8_one}

by_test : {S R : Type 0} (P : R → Type 0) (f : S → R) (test : Bool) (x y : S) → (test ≡ true → P (f x)) → (test ≡ false → P (f y)) → P (f (if test then x else y))
by_test P f true x y yes_so not_so = yes_so refl
by_test P f false x y yes_so not_so = not_so refl

-- the byte behind a text is its quote
text_end : (escaped : Bool) (bytes : List ℕ) (n : ℕ) → text_len escaped bytes ≡ Some n → get_or bytes n 0 ≡ 34
unfolding text_len
text_end escaped [] n is = absurd (none-some n is)
text_end escaped (byte ∷ bytes) n is = by escaped is (λ next m some. text_end next bytes m some)
  where
    into : (len : Option ℕ) → ((m : ℕ) → len ≡ Some m → get_or bytes m 0 ≡ 34) → option_map suc len ≡ Some n → get_or (byte ∷ bytes) n 0 ≡ 34
    into None again is = absurd (none-some n is)
    into (Some m) again is = subst (λ k. get_or (byte ∷ bytes) k 0 ≡ 34) (same_Some (suc m) n is) (again m refl)

    by : (e : Bool) → text_by (text_step e byte) (λ next. text_len next bytes) ≡ Some n → ((next : Bool) (m : ℕ) → text_len next bytes ≡ Some m → get_or bytes m 0 ≡ 34)
        → get_or (byte ∷ bytes) n 0 ≡ 34
    by true is again =
        by_test (λ r. r ≡ Some n → get_or (byte ∷ bytes) n 0 ≡ 34) (λ step. text_by step (λ next. text_len next bytes)) (can_be_escaped byte) _ _
        (λ can. into (text_len false bytes) (again false)) (λ cannot none. absurd (none-some n none)) is
    by false is again =
        by_test (λ r. r ≡ Some n → get_or (byte ∷ bytes) n 0 ≡ 34) (λ step. text_by step (λ next. text_len next bytes)) (byte == 34) _ _
        (λ quote here. subst (λ k. get_or (byte ∷ bytes) k 0 ≡ 34) (same_Some 0 n here) (eqb-true byte 34 quote))
        (λ other. by_test (λ r. r ≡ Some n → get_or (byte ∷ bytes) n 0 ≡ 34) (λ step. text_by step (λ next. text_len next bytes)) (byte == 92) _ _
        (λ slash. into (text_len true bytes) (again true))
        (λ plain. by_test (λ r. r ≡ Some n → get_or (byte ∷ bytes) n 0 ≡ 34) (λ step. text_by step (λ next. text_len next bytes)) (nat_lt byte 32) _ _
        (λ low none. absurd (none-some n none)) (λ high. into (text_len false bytes) (again false)))) is

-- a word is the whole run of its bytes, and a text has its quotes
abbrev QuotesBy : Lexeme → List ℕ → ℕ → Type 0
QuotesBy Word bytes len = len ≡ run bytes
QuotesBy Number bytes len = Unit {0}
QuotesBy Text bytes len = (get_or bytes 0 0 ≡ 34) × (get_or bytes (len - 1) 0 ≡ 34) × (0 < len)
QuotesBy (Sign symbol) bytes len = Unit {0}

abbrev HasQuotes : Option (Lexeme × ℕ) → List ℕ → Type 0
HasQuotes None bytes = Unit {0}
HasQuotes (Some t) bytes = QuotesBy t.0 bytes t.1

number_quotes : (negative : Bool) (digits bytes : List ℕ) → HasQuotes (number_at negative digits) bytes
number_quotes negative digits bytes = by (is_natural (take (run digits) digits)) (negative && (slice_index digits 0 == 48))
  where
    by : (natural zeros : Bool) → HasQuotes (if natural then (if zeros then None else Some (Number, run digits)) else None) bytes
    by true true = tt
    by true false = tt
    by false zeros = tt

minus_quotes : (digits bytes : List ℕ) → HasQuotes (behind_minus digits) bytes
minus_quotes digits bytes = by (is_natural (take (run digits) digits)) (true && (slice_index digits 0 == 48))
  where
    by : (natural zeros : Bool) → HasQuotes (option_map {T = Lexeme × ℕ} (λ t. (t.0, t.1 + 1)) (if natural then (if zeros then None else Some (Number, run digits)) else None)) bytes
    by true true = tt
    by true false = tt
    by false zeros = tt

text_quotes : (byte : ℕ) (more : List ℕ) → byte ≡ 34 → HasQuotes (text_at more) (byte ∷ more)
text_quotes byte more is = by (text_len false more) refl
  where
    by : (len : Option ℕ) → text_len false more ≡ len → HasQuotes (option_map (λ n. (Text, n + 2)) len) (byte ∷ more)
    by None some = tt
    by (Some n) some =
        let behind : n + 2 - 1 ≡ suc n = omega arith in
        (is, subst (λ k. get_or (byte ∷ more) k 0 ≡ 34) (sym behind) (text_end false more n some), omega arith)

symbol_quotes : (long short : Option Symbol) (bytes : List ℕ) → HasQuotes (or_else (signed 2 long) (signed 1 short)) bytes
symbol_quotes (Some symbol) short bytes = tt
symbol_quotes None (Some symbol) bytes = tt
symbol_quotes None None bytes = tt

token_quotes : (bytes : List ℕ) → HasQuotes (token_at bytes) bytes
token_quotes [] = tt
token_quotes (byte ∷ more) = by (is_letter byte) (is_digit byte) ((byte == 45) && is_digit (slice_index more 0)) (byte == 34) refl
  where
    by : (letter digit minus quote : Bool) → (byte == 34) ≡ quote
        → HasQuotes (if letter then Some (Word, run (byte ∷ more)) else (if digit then number_at false (byte ∷ more) else (if minus then behind_minus more else (if quote then text_at more else symbol_at byte (slice_index more 0))))) (byte ∷ more)
    by true digit minus quote is = refl
    by false true minus quote is = number_quotes false (byte ∷ more) (byte ∷ more)
    by false false true quote is = minus_quotes more (byte ∷ more)
    by false false false true is = text_quotes byte more (eqb-true byte 34 is)
    by false false false false is = symbol_quotes (long_symbol byte (slice_index more 0)) (short_symbol byte) (byte ∷ more)

-- in the line, the token stands where it was cut off
in_line : (lexeme : Lexeme) (line : List ℕ) (place len : ℕ) → QuotesBy lexeme (drop place line) len → IsQuoted line (record { lexeme = lexeme; start = place; end = place + len })
in_line lexeme line place len quotes = record {
  opens = λ is.
      let front : place + 0 ≡ place = omega arith in
      ap (λ k. get_or line k 0) (sym front) ∙ sym (get_or-drop place line 0 0) ∙ (text is).0;
  closes = λ is.
      let some : 0 < len = (text is).2 in
      let behind : place + (len - 1) ≡ place + len - 1 = omega (arith, some) in
      ap (λ k. get_or line k 0) (sym behind) ∙ sym (get_or-drop place line (len - 1) 0) ∙ (text is).1;
}
  where
    text : lexeme ≡ Text → QuotesBy Text (drop place line) len
    text is = subst (λ l. QuotesBy l (drop place line) len) is quotes

-- what holds of each token that is cut off holds of all
cut_all : (P : Token → Type 0) (line : List ℕ) → ((lexeme : Lexeme) (place len : ℕ) → QuotesBy lexeme (drop place line) len → P (record { lexeme = lexeme; start = place; end = place + len }))
    → (n at : ℕ) (bytes : List ℕ) → bytes ≡ drop at line → All P (cut n at bytes).0
unfolding cut
cut_all P line each zero at bytes is = All-nil P
cut_all P line each (suc n) at bytes is =
    by (is_over (drop (blanks bytes) bytes)) (token_at (drop (blanks bytes) bytes)) (token_quotes (drop (blanks bytes) bytes)) (λ next rest same. cut_all P line each n next rest same)
  where
    here : drop (blanks bytes) bytes ≡ drop (at + blanks bytes) line
    here = ap (drop (blanks bytes)) is ∙ drop-drop (blanks bytes) at line

    by : (over : Bool) (token : Option (Lexeme × ℕ)) → HasQuotes token (drop (blanks bytes) bytes) → ((next : ℕ) (rest : List ℕ) → rest ≡ drop next line → All P (cut n next rest).0)
        → All P (if over then ([], Over) else first_token token (at + blanks bytes) (λ len. cut n (at + blanks bytes + len) (drop len (drop (blanks bytes) bytes)))).0
    by true token quotes again = All-nil P
    by false None quotes again = All-nil P
    by false (Some t) quotes again =
        All-cons P (record { lexeme = t.0; start = at + blanks bytes; end = at + blanks bytes + t.1 }) (cut n (at + blanks bytes + t.1) (drop t.1 (drop (blanks bytes) bytes))).0
        (each t.0 (at + blanks bytes) t.1 (subst (λ bs. QuotesBy t.0 bs t.1) here quotes))
        (again (at + blanks bytes + t.1) (drop t.1 (drop (blanks bytes) bytes)) (ap (drop t.1) here ∙ drop-drop t.1 (at + blanks bytes) line))

pub quoted_tokens : (line : List ℕ) (tokens : List Token) → (tokens, Over) ≡ cut 512 0 line → All (IsQuoted line) tokens
quoted_tokens line tokens is = subst (All (IsQuoted line)) (ap (λ r. r.0) (sym is)) (cut_all (IsQuoted line) line (λ lexeme place len quotes. in_line lexeme line place len quotes) 512 0 line refl)

-- a word byte is ASCII
not_le : (a b : ℕ) → b < a → nat_le a b ≡ false
not_le a b less = by (nat_le a b) refl
  where
    by : (le : Bool) → nat_le a b ≡ le → le ≡ false
    by true is = absurd (omega (arith, leb-true a b is, less))
    by false is = refl

word_low : (byte : ℕ) → is_word_byte byte ≡ true → byte < 128
word_low byte is = elim (cases_lt byte 128) [ inl low ↦ low | inr high ↦ absurd (false≢true (sym (none high) ∙ is)) ]
  where
    over : (a c g : Bool) → (((a && false) || (c && false) || false) || (g && false)) ≡ false
    over true true true = refl
    over true true false = refl
    over true false true = refl
    over true false false = refl
    over false true true = refl
    over false true false = refl
    over false false true = refl
    over false false false = refl

    none : 128 ≤ byte → is_word_byte byte ≡ false
    none high =
        ap (λ b. ((nat_le 65 byte && b) || (nat_le 97 byte && nat_le byte 122) || (byte == 95)) || (nat_le 48 byte && nat_le byte 57)) (not_le byte 90 (omega (arith, high)))
        ∙ ap (λ b. ((nat_le 65 byte && false) || (nat_le 97 byte && b) || (byte == 95)) || (nat_le 48 byte && nat_le byte 57)) (not_le byte 122 (omega (arith, high)))
        ∙ ap (λ b. ((nat_le 65 byte && false) || (nat_le 97 byte && false) || b) || (nat_le 48 byte && nat_le byte 57)) (not_byte byte 95 high (omega arith))
        ∙ ap (λ b. ((nat_le 65 byte && false) || (nat_le 97 byte && false) || false) || (nat_le 48 byte && b)) (not_le byte 57 (omega (arith, high)))
        ∙ over (nat_le 65 byte) (nat_le 97 byte) (nat_le 48 byte)

run_utf8 : (bytes : List ℕ) → IsUtf8 (take (run bytes) bytes)
run_utf8 [] = IsUtf8-nil
run_utf8 (byte ∷ bytes) = by (is_word_byte byte) refl (run_utf8 bytes)
  where
    by : (word : Bool) → is_word_byte byte ≡ word → IsUtf8 (take (run bytes) bytes) → IsUtf8 (take (if word then 1 + run bytes else 0) (byte ∷ bytes))
    by true is again =
        let one : 1 + run bytes ≡ suc (run bytes) = omega arith in
        subst (λ n. IsUtf8 (take n (byte ∷ bytes))) (sym one) (utf8_one byte (take (run bytes) bytes) (word_low byte is) again)
    by false is again = IsUtf8-nil

-- a word is UTF-8
abbrev pub IsUtf8Word : Seen → Type 0
IsUtf8Word (seen_token.Word bytes) = IsUtf8 bytes
IsUtf8Word (seen_token.Number value) = Unit {0}
IsUtf8Word (seen_token.Text value) = Unit {0}
IsUtf8Word (seen_token.Sign symbol) = Unit {0}

word_in_line : (line : List ℕ) (lexeme : Lexeme) (place len : ℕ) → QuotesBy lexeme (drop place line) len → IsUtf8Word (seen line (record { lexeme = lexeme; start = place; end = place + len }))
word_in_line line Word place len is =
    let same : place + len - place ≡ len = omega arith in
    subst (λ n. IsUtf8 (take n (drop place line))) (sym (same ∙ is)) (run_utf8 (drop place line))
word_in_line line Number place len is = tt
word_in_line line Text place len is = tt
word_in_line line (Sign symbol) place len is = tt

pub utf8_words : (line : List ℕ) (tokens : List Token) → (tokens, Over) ≡ cut 512 0 line → All IsUtf8Word (map (seen line) tokens)
utf8_words line tokens is =
    All-map IsUtf8Word (seen line) tokens
    (subst (All (λ t. IsUtf8Word (seen line t))) (ap (λ r. r.0) (sym is)) (cut_all (λ t. IsUtf8Word (seen line t)) line (λ lexeme place len quotes. word_in_line line lexeme place len quotes) 512 0 line refl))

-- what stands between the quotes
pub between_quotes : (line : List ℕ) (token : Token) → IsUtf8 line → IsWithin (length line) token → IsQuoted line token → token.lexeme ≡ Text
    → IsUtf8 (slice_range line (token.start + 1) (token.end - 1))
between_quotes line token utf8 within quoted is =
    let room : token.start + 2 ≤ token.end = within.quotes is in
    let first : get_or line token.start 0 < 128 = omega (arith, quoted.opens is) in
    let last : get_or line (token.end - 1) 0 < 128 = omega (arith, quoted.closes is) in
    IsUtf8-between line (token.start + 1) (token.end - 1) utf8 (omega (arith, room))
    (IsCharBoundary-after_ascii line token.start utf8 (omega (arith, room, within.end)) first)
    (IsCharBoundary-before_ascii line (token.end - 1) (omega (arith, room, within.end)) last)
