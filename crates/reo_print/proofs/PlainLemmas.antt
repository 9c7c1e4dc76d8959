-- What is written is UTF-8, with no byte below 32.
use lib.Utf8.{scalar, scalars, encode, encodes}
use Rattle.std.proofs.Common.{◌≡◌, inl, inr, ℕ, ℤ, pos, negsuc, suc, nat_abs, ◌^◌, ◌<◌, ◌≤◌, ◌==◌, nat_lt, nat_le, Bool, true, false, ◌&&◌, ◌||◌, if◌then◌else◌, List, [], ◌∷◌, ◌++◌, length, get_or, flat_map, codes, decimal, IsUtf8, refl, sym, ap, subst, ◌∙◌, arith, append-nil}
use Rattle.std.specs.Fmt.{signed_decimal}
use Rattle.std.specs.List.{list_all}
use Rattle.std.proofs.lemmas.Bool.{and_parts, and_from, or_cases, eqb-true, leb-true, le-leb, ltb-true, ltb-false, false≢true}
use Rattle.std.proofs.lemmas.List.Folds.{list_all-append}
use Rattle.std.proofs.lemmas.Str.{IsUtf8-append, IsUtf8-nil, encode_ascii, inside_one}
use Rattle.reo_token.specs.declared.token.Symbol.{Symbol}
use Rattle.reo_token.specs.declared.token.Symbol.TheVariants.{Arrow, LessOrEqual, GreaterOrEqual, NotEqual, Less, Greater, Equal, Plus, Minus, Star, Open, Close, OpenBrace, CloseBrace, Comma}
use Rattle.reo_token.specs.Bytes.{is_letter, is_digit, is_word_byte}
use Rattle.reo_grammar.specs.Token.{Token, Word, Number, Text, Sign}
use Rattle.reo_trace.specs.ReportText.{escaped}
use Rattle.reo_sentence.proofs.Utf8Lemmas.{not_byte, utf8_one}
use Rattle.reo_print.specs.Laws.{can_be_a_name, can_be_spelled}
use Rattle.reo_print.specs.Tokens.{symbol_text, written, CanBeWritten, IsWritten, over, blank, opens, token}
use Rattle.reo_print.proofs.NumberLemmas.{digits_of, digits_words}
use Rattle.reo_print.proofs.TokenLemmas.{letter_word}

-- UTF-8 from 32 on
pub record IsPlain (bytes : List ℕ) : Type 0 where
  pub utf8 : IsUtf8 bytes
  pub high : list_all (nat_le 32) bytes ≡ true

none_plain : IsPlain []
none_plain = record { utf8 = IsUtf8-nil; high = refl }

plain_append : (xs ys : List ℕ) → IsPlain xs → IsPlain ys → IsPlain (xs ++ ys)
plain_append xs ys front back = record {
  utf8 = IsUtf8-append xs ys front.utf8 back.utf8;
  high = list_all-append (nat_le 32) xs ys ∙ and_from (list_all (nat_le 32) xs) (list_all (nat_le 32) ys) front.high back.high;
}

plain_one : (byte : ℕ) (bytes : List ℕ) → byte < 128 → 32 ≤ byte → IsPlain bytes → IsPlain (byte ∷ bytes)
plain_one byte bytes low high is = record {
  utf8 = utf8_one byte bytes low is.utf8;
  high = and_from (nat_le 32 byte) (list_all (nat_le 32) bytes) (le-leb 32 byte high) is.high;
}

word_bounds : (byte : ℕ) → is_word_byte byte ≡ true → (byte < 128) × (32 ≤ byte)
word_bounds byte is =
    elim (or_cases (is_letter byte) (is_digit byte) is) [
      | inl letter ↦ elim (or_cases ((nat_le 65 byte && nat_le byte 90) || (nat_le 97 byte && nat_le byte 122)) (byte == 95) letter) [
        | inl either ↦ elim (or_cases (nat_le 65 byte && nat_le byte 90) (nat_le 97 byte && nat_le byte 122) either) [
          | inl upper ↦ let parts = and_parts (nat_le 65 byte) (nat_le byte 90) upper in within 65 90 byte (leb-true 65 byte parts.0) (leb-true byte 90 parts.1) (omega arith) (omega arith)
          | inr lower ↦ let parts = and_parts (nat_le 97 byte) (nat_le byte 122) lower in within 97 122 byte (leb-true 97 byte parts.0) (leb-true byte 122 parts.1) (omega arith) (omega arith)
        ]
        | inr line ↦ let is_line : byte ≡ 95 = eqb-true byte 95 line in (omega (arith, is_line), omega (arith, is_line))
      ]
      | inr digit ↦ let parts = and_parts (nat_le 48 byte) (nat_le byte 57) digit in within 48 57 byte (leb-true 48 byte parts.0) (leb-true byte 57 parts.1) (omega arith) (omega arith)
    ]
  where
    within : (least most byte : ℕ) → least ≤ byte → byte ≤ most → 32 ≤ least → most < 128 → (byte < 128) × (32 ≤ byte)
    within least most byte low high from to = (omega (arith, high, to), omega (arith, low, from))

words_plain : (bytes : List ℕ) → list_all is_word_byte bytes ≡ true → IsPlain bytes
words_plain [] all = none_plain
words_plain (byte ∷ bytes) all =
    let parts = and_parts (is_word_byte byte) (list_all is_word_byte bytes) all in
    let bounds = word_bounds byte parts.0 in
    plain_one byte bytes bounds.0 bounds.1 (words_plain bytes parts.1)

name_plain : (name : List ℕ) → can_be_a_name name ≡ true → IsPlain name
name_plain [] can = none_plain
name_plain (byte ∷ bytes) can =
    let parts = and_parts (is_letter byte) (list_all is_word_byte bytes) can in
    words_plain (byte ∷ bytes) (and_from (is_word_byte byte) (list_all is_word_byte bytes) (letter_word byte parts.0) parts.1)

number_plain : (z : ℤ) → nat_abs z < 2 ^ 64 → IsPlain (signed_decimal z)
number_plain (pos n) small = words_plain (decimal n) (digits_words (decimal n) (digits_of n small).all)
number_plain (negsuc n) small = plain_one 45 (decimal (suc n)) (omega arith) (omega arith) (words_plain (decimal (suc n)) (digits_words (decimal (suc n)) (digits_of (suc n) small).all))

ascii_plain : (byte : ℕ) → byte < 128 → 32 ≤ byte → IsPlain (byte ∷ [])
ascii_plain byte low high = plain_one byte [] low high none_plain

two_plain : (byte next : ℕ) → byte < 128 → 32 ≤ byte → next < 128 → 32 ≤ next → IsPlain (byte ∷ next ∷ [])
two_plain byte next low high next_low next_high = plain_one byte (next ∷ []) low high (ascii_plain next next_low next_high)

symbol_plain : (symbol : Symbol) → IsPlain (symbol_text symbol)
symbol_plain Arrow = two_plain 45 62 (omega arith) (omega arith) (omega arith) (omega arith)
symbol_plain LessOrEqual = two_plain 60 61 (omega arith) (omega arith) (omega arith) (omega arith)
symbol_plain GreaterOrEqual = two_plain 62 61 (omega arith) (omega arith) (omega arith) (omega arith)
symbol_plain NotEqual = two_plain 33 61 (omega arith) (omega arith) (omega arith) (omega arith)
symbol_plain Less = ascii_plain 60 (omega arith) (omega arith)
symbol_plain Greater = ascii_plain 62 (omega arith) (omega arith)
symbol_plain Equal = ascii_plain 61 (omega arith) (omega arith)
symbol_plain Plus = ascii_plain 43 (omega arith) (omega arith)
symbol_plain Minus = ascii_plain 45 (omega arith) (omega arith)
symbol_plain Star = ascii_plain 42 (omega arith) (omega arith)
symbol_plain Open = ascii_plain 40 (omega arith) (omega arith)
symbol_plain Close = ascii_plain 41 (omega arith) (omega arith)
symbol_plain OpenBrace = ascii_plain 123 (omega arith) (omega arith)
symbol_plain CloseBrace = ascii_plain 125 (omega arith) (omega arith)
symbol_plain Comma = ascii_plain 44 (omega arith) (omega arith)

-- an escaped byte has no byte below 32
escaped_high : (byte : ℕ) → can_be_spelled byte ≡ true → list_all (nat_le 32) (escaped byte) ≡ true
escaped_high byte can = by (byte == 34) (byte == 92) (byte == 10) (byte == 9) refl refl
  where
    plain : (feed tab : Bool) → ((feed || tab) || nat_le 32 byte) ≡ true → feed ≡ false → tab ≡ false → (nat_le 32 byte && true) ≡ true
    plain true tab is f t = absurd (false≢true (sym f))
    plain false true is f t = absurd (false≢true (sym t))
    plain false false is f t = ap (λ b. b && true) is

    by : (quote slash feed tab : Bool) → (byte == 10) ≡ feed → (byte == 9) ≡ tab
        → list_all (nat_le 32) (if quote then codes "\\\"" else (if slash then codes "\\\\" else (if feed then codes "\\n" else (if tab then codes "\\t" else byte ∷ [])))) ≡ true
    by true slash feed tab f t = refl
    by false true feed tab f t = refl
    by false false true tab f t = refl
    by false false false true f t = refl
    by false false false false f t = plain (byte == 10) (byte == 9) can f t

text_high : (text : List ℕ) → list_all can_be_spelled text ≡ true → list_all (nat_le 32) (flat_map escaped text) ≡ true
text_high [] can = refl
text_high (byte ∷ text) can =
    let parts = and_parts (can_be_spelled byte) (list_all can_be_spelled text) can in
    list_all-append (nat_le 32) (escaped byte) (flat_map escaped text)
    ∙ and_from (list_all (nat_le 32) (escaped byte)) (list_all (nat_le 32) (flat_map escaped text)) (escaped_high byte parts.0) (text_high text parts.1)

-- each byte is above ASCII
abbrev AllHigh : List ℕ → Type 0
AllHigh bytes = (k : ℕ) → k < length bytes → 128 ≤ get_or bytes k 0

-- bytes above ASCII are written as they are
high_escaped : (bytes rest : List ℕ) → AllHigh bytes → flat_map escaped (bytes ++ rest) ≡ bytes ++ flat_map escaped rest
high_escaped [] rest high = refl
high_escaped (byte ∷ bytes) rest high =
    let here : 128 ≤ byte = high 0 (omega arith) in
    let again : flat_map escaped (bytes ++ rest) ≡ bytes ++ flat_map escaped rest = high_escaped bytes rest (λ k within. high (suc k) (omega (arith, within))) in
    ap (λ b. (if b then codes "\\\"" else (if byte == 92 then codes "\\\\" else (if byte == 10 then codes "\\n" else (if byte == 9 then codes "\\t" else byte ∷ [])))) ++ flat_map escaped (bytes ++ rest)) (not_byte byte 34 here (omega arith))
    ∙ ap (λ b. (if b then codes "\\\\" else (if byte == 10 then codes "\\n" else (if byte == 9 then codes "\\t" else byte ∷ []))) ++ flat_map escaped (bytes ++ rest)) (not_byte byte 92 here (omega arith))
    ∙ ap (λ b. (if b then codes "\\n" else (if byte == 9 then codes "\\t" else byte ∷ [])) ++ flat_map escaped (bytes ++ rest)) (not_byte byte 10 here (omega arith))
    ∙ ap (λ b. (if b then codes "\\t" else byte ∷ []) ++ flat_map escaped (bytes ++ rest)) (not_byte byte 9 here (omega arith))
    ∙ ap (λ bs. byte ∷ bs) again

encode_high : (c : ℕ) → 128 ≤ c → AllHigh (encode c)
encode_high c high k here = by (nat_lt (get_or (encode c) k 0) 128) refl
  where
    by : (low : Bool) → nat_lt (get_or (encode c) k 0) 128 ≡ low → 128 ≤ get_or (encode c) k 0
    by true is =
        let small : get_or (encode c) k 0 < 128 = ltb-true (get_or (encode c) k 0) 128 is in
        let same : c ≡ get_or (encode c) k 0 = inside_one c [] (encode c) k (sym (append-nil (encode c))) here small in
        absurd (omega (arith, same, high, small))
    by false is = ltb-false (get_or (encode c) k 0) 128 is

low_escaped : (byte : ℕ) (rest : List ℕ) → byte < 128 → IsUtf8 rest → IsUtf8 (escaped byte ++ rest)
low_escaped byte rest low utf8 = by (byte == 34) (byte == 92) (byte == 10) (byte == 9)
  where
    slashed : (next : ℕ) → next < 128 → IsUtf8 (92 ∷ next ∷ rest)
    slashed next small = utf8_one 92 (next ∷ rest) (omega arith) (utf8_one next rest small utf8)

    by : (quote slash feed tab : Bool)
        → IsUtf8 ((if quote then codes "\\\"" else (if slash then codes "\\\\" else (if feed then codes "\\n" else (if tab then codes "\\t" else byte ∷ [])))) ++ rest)
    by true slash feed tab = slashed 34 (omega arith)
    by false true feed tab = slashed 92 (omega arith)
    by false false true tab = slashed 110 (omega arith)
    by false false false true = slashed 116 (omega arith)
    by false false false false = utf8_one byte rest low utf8

first_escaped : (c : ℕ) (rest : List ℕ) → scalar c ≡ true → IsUtf8 (flat_map escaped rest) → IsUtf8 (flat_map escaped (encode c ++ rest))
first_escaped c rest is again = by (nat_lt c 128) refl
  where
    by : (low : Bool) → nat_lt c 128 ≡ low → IsUtf8 (flat_map escaped (encode c ++ rest))
    by true low =
        let small : c < 128 = ltb-true c 128 low in
        subst (λ bytes. IsUtf8 (flat_map escaped (bytes ++ rest))) (sym (encode_ascii c small)) (low_escaped c (flat_map escaped rest) small again)
    by false high =
        subst IsUtf8 (sym (high_escaped (encode c) rest (encode_high c (ltb-false c 128 high))))
        (c ∷ again.0, (ap (λ b. b && scalars again.0) is ∙ again.1.0, ap (λ bs. encode c ++ bs) again.1.1))

chars_escaped : (cs : List ℕ) → scalars cs ≡ true → IsUtf8 (flat_map escaped (encodes cs))
chars_escaped [] is = IsUtf8-nil
chars_escaped (c ∷ cs) is =
    let parts = and_parts (scalar c) (scalars cs) is in
    first_escaped c (encodes cs) parts.0 (chars_escaped cs parts.1)

text_utf8 : (text : List ℕ) → IsUtf8 text → IsUtf8 (flat_map escaped text)
text_utf8 text utf8 = subst (λ bytes. IsUtf8 (flat_map escaped bytes)) utf8.1.1 (chars_escaped utf8.0 utf8.1.0)

token_plain : (first : Token) → CanBeWritten first → IsPlain (written first)
token_plain (Word bytes) can = name_plain bytes can
token_plain (Number value) can = number_plain value can
token_plain (Text value) can =
    plain_one 34 (flat_map escaped value ++ codes "\"") (omega arith) (omega arith)
    (plain_append (flat_map escaped value) (codes "\"") (record { utf8 = text_utf8 value can.1; high = text_high value can.0 }) (ascii_plain 34 (omega arith) (omega arith)))
token_plain (Sign symbol) can = symbol_plain symbol

pub line_plain : (line : List ℕ) (tokens : List Token) → IsWritten line tokens → IsPlain line
line_plain _ _ over = none_plain
line_plain _ _ (blank bytes tokens more) = plain_one 32 bytes (omega arith) (omega arith) (line_plain bytes tokens more)
line_plain _ _ (opens bytes tokens more) = plain_one 40 bytes (omega arith) (omega arith) (line_plain bytes tokens more)
line_plain _ _ (token first bytes tokens can breaks more) = plain_append (written first) bytes (token_plain first can) (line_plain bytes tokens more)
