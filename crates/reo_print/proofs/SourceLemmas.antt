-- What the tokens of a line are: names, and texts that can be spelled.
use Rattle.std.proofs.Common.{◌≡◌, inl, inr, ℕ, zero, suc, ◌+◌, ◌-◌, ◌<◌, ◌≤◌, ◌==◌, nat_lt, nat_le, Bool, true, false, cond, ◌&&◌, ◌||◌, List, [], ◌∷◌, length, map, take, drop, get_or, slice_index, Option, Some, None, IsUtf8, refl, sym, ap, subst, ◌∙◌, arith, if◌then◌else◌}
use Rattle.std.specs.Option.{option_map}
use Rattle.std.specs.List.{list_all}
use Rattle.std.proofs.lemmas.Bool.{and_from, or_cases, eqb-true, ltb-false, le-leb, cases_lt}
use Rattle.std.proofs.lemmas.Option.{none-some, same_Some}
use Rattle.std.proofs.lemmas.List.{get_or-drop, get_or_past, drop-drop}
use Rattle.std.proofs.lemmas.Str.{IsUtf8-between, IsCharBoundary-before_ascii, IsCharBoundary-after_ascii}
use Rattle.reo_token.specs.declared.token.Symbol.{Symbol}
use Rattle.reo_token.specs.declared.token.Lexeme.{Lexeme}
use Rattle.reo_token.specs.declared.token.Lexeme.TheVariants as lexeme
use Rattle.reo_token.specs.declared.token.End.TheVariants.{Over}
use Rattle.reo_token.specs.Bytes.{is_letter, is_digit, is_word_byte, can_be_escaped}
use Rattle.reo_token.specs.Cut.{blanks, run, is_over, is_natural, number_at, behind_minus, text_by, text_len, text_at, long_symbol, short_symbol, signed, or_else, symbol_at, token_at, first_token, cut}
use Rattle.reo_sentence.specs.Seen.{meant, behind_byte, unescaped_from, unescaped, seen}
use Rattle.reo_sentence.proofs.Utf8Lemmas.{unescaped_utf8}
use Rattle.reo_print.specs.Laws.{can_be_a_name, can_be_spelled}
use Rattle.reo_print.specs.Trees.{IsSpellable, AreSpellable}
use Rattle.reo_print.proofs.TokenLemmas.{letter_word}

by_test : {S R : Type 0} (P : R → Type 0) (f : S → R) (test : Bool) (x y : S) → (test ≡ true → P (f x)) → (test ≡ false → P (f y)) → P (f (if test then x else y))
by_test P f true x y yes_so not_so = yes_so refl
by_test P f false x y yes_so not_so = not_so refl

-- where a text ends, and what it means
record IsText (escaped : Bool) (bytes : List ℕ) (n : ℕ) : Type 0 where
  ends : get_or bytes n 0 ≡ 34
  spelled : list_all can_be_spelled (unescaped_from escaped (take n bytes)) ≡ true

escaped_spelled : (byte : ℕ) → can_be_escaped byte ≡ true → can_be_spelled (meant byte) ≡ true
escaped_spelled byte can =
    elim (or_cases (((byte == 34) || (byte == 92)) || (byte == 110)) (byte == 116) can) [
      | inl more ↦ elim (or_cases ((byte == 34) || (byte == 92)) (byte == 110) more) [
        | inl either ↦ elim (or_cases (byte == 34) (byte == 92) either) [ inl is ↦ at 34 is refl | inr is ↦ at 92 is refl ]
        | inr is ↦ at 110 is refl
      ]
      | inr is ↦ at 116 is refl
    ]
  where
    at : (other : ℕ) → (byte == other) ≡ true → can_be_spelled (meant other) ≡ true → can_be_spelled (meant byte) ≡ true
    at other is holds = subst (λ b. can_be_spelled (meant b) ≡ true) (sym (eqb-true byte other is)) holds

high_spelled : (byte : ℕ) → nat_lt byte 32 ≡ false → can_be_spelled byte ≡ true
high_spelled byte high =
    by (byte == 10) (byte == 9) (le-leb 32 byte (ltb-false byte 32 high))
  where
    by : (feed tab : Bool) → nat_le 32 byte ≡ true → ((feed || tab) || nat_le 32 byte) ≡ true
    by true tab is = refl
    by false true is = refl
    by false false is = is

text_is : (escaped : Bool) (bytes : List ℕ) (n : ℕ) → text_len escaped bytes ≡ Some n → IsText escaped bytes n
unfolding text_len unescaped_from
text_is escaped [] n is = absurd (none-some n is)
text_is escaped (byte ∷ bytes) n is = by escaped is (λ next m some. text_is next bytes m some)
  where
    into : (old next : Bool) (len : Option ℕ) → ((m : ℕ) → len ≡ Some m → IsText next bytes m)
        → ((m : ℕ) → list_all can_be_spelled (unescaped_from next (take m bytes)) ≡ true → list_all can_be_spelled (unescaped_from old (byte ∷ take m bytes)) ≡ true)
        → option_map suc len ≡ Some n → IsText old (byte ∷ bytes) n
    into old next None again step is = absurd (none-some n is)
    into old next (Some m) again step is =
        let rest = again m refl in
        subst (IsText old (byte ∷ bytes)) (same_Some (suc m) n is) (record { ends = rest.ends; spelled = step m rest.spelled })

    plain : (byte == 92) ≡ false → nat_lt byte 32 ≡ false → (m : ℕ) → list_all can_be_spelled (unescaped_from false (take m bytes)) ≡ true
        → list_all can_be_spelled (unescaped_from false (byte ∷ take m bytes)) ≡ true
    plain not_slash high m rest =
        ap (λ b. list_all can_be_spelled (behind_byte (if b then None else Some byte) (λ next. unescaped_from next (take m bytes)))) not_slash
        ∙ and_from (can_be_spelled byte) (list_all can_be_spelled (unescaped_from false (take m bytes))) (high_spelled byte high) rest

    slash : (byte == 92) ≡ true → (m : ℕ) → list_all can_be_spelled (unescaped_from true (take m bytes)) ≡ true
        → list_all can_be_spelled (unescaped_from false (byte ∷ take m bytes)) ≡ true
    slash is m rest = ap (λ b. list_all can_be_spelled (behind_byte (if b then None else Some byte) (λ next. unescaped_from next (take m bytes)))) is ∙ rest

    by : (e : Bool) → text_len e (byte ∷ bytes) ≡ Some n → ((next : Bool) (m : ℕ) → text_len next bytes ≡ Some m → IsText next bytes m) → IsText e (byte ∷ bytes) n
    by true is again =
        by_test (λ r. r ≡ Some n → IsText true (byte ∷ bytes) n) (λ step. text_by step (λ next. text_len next bytes)) (can_be_escaped byte) _ _
        (λ can. into true false (text_len false bytes) (again false) (λ m rest. and_from (can_be_spelled (meant byte)) (list_all can_be_spelled (unescaped_from false (take m bytes))) (escaped_spelled byte can) rest))
        (λ cannot none. absurd (none-some n none)) is
    by false is again =
        by_test (λ r. r ≡ Some n → IsText false (byte ∷ bytes) n) (λ step. text_by step (λ next. text_len next bytes)) (byte == 34) _ _
        (λ quote here. subst (IsText false (byte ∷ bytes)) (same_Some 0 n here) (record { ends = eqb-true byte 34 quote; spelled = refl }))
        (λ other. by_test (λ r. r ≡ Some n → IsText false (byte ∷ bytes) n) (λ step. text_by step (λ next. text_len next bytes)) (byte == 92) _ _
        (λ is. into false true (text_len true bytes) (again true) (slash is))
        (λ not_slash. by_test (λ r. r ≡ Some n → IsText false (byte ∷ bytes) n) (λ step. text_by step (λ next. text_len next bytes)) (nat_lt byte 32) _ _
        (λ low none. absurd (none-some n none)) (λ high. into false false (text_len false bytes) (again false) (plain not_slash high)))) is

-- a text at the front of these bytes
record IsTextToken (bytes : List ℕ) (len : ℕ) : Type 0 where
  opens : get_or bytes 0 0 ≡ 34
  closes : get_or bytes (len - 1) 0 ≡ 34
  long : 2 ≤ len
  spelled : list_all can_be_spelled (unescaped (take (len - 1 - 1) (drop 1 bytes))) ≡ true

abbrev IsSpelledBy : Lexeme → List ℕ → ℕ → Type 0
IsSpelledBy lexeme.Word bytes len = can_be_a_name (take len bytes) ≡ true
IsSpelledBy lexeme.Number bytes len = Unit {0}
IsSpelledBy lexeme.Text bytes len = IsTextToken bytes len
IsSpelledBy (lexeme.Sign symbol) bytes len = Unit {0}

abbrev IsSpelled : Option (Lexeme × ℕ) → List ℕ → Type 0
IsSpelled None bytes = Unit {0}
IsSpelled (Some t) bytes = IsSpelledBy t.0 bytes t.1

run_words : (bytes : List ℕ) → list_all is_word_byte (take (run bytes) bytes) ≡ true
run_words [] = refl
run_words (byte ∷ bytes) = by (is_word_byte byte) refl (run_words bytes)
  where
    by : (word : Bool) → is_word_byte byte ≡ word → list_all is_word_byte (take (run bytes) bytes) ≡ true → list_all is_word_byte (take (cond word (1 + run bytes) 0) (byte ∷ bytes)) ≡ true
    by true is again =
        let one : 1 + run bytes ≡ suc (run bytes) = omega arith in
        subst (λ n. list_all is_word_byte (take n (byte ∷ bytes)) ≡ true) (sym one) (and_from (is_word_byte byte) (list_all is_word_byte (take (run bytes) bytes)) is again)
    by false is again = refl

word_spelled : (byte : ℕ) (bytes : List ℕ) → is_letter byte ≡ true → can_be_a_name (take (run (byte ∷ bytes)) (byte ∷ bytes)) ≡ true
word_spelled byte bytes letter =
    let one : 1 + run bytes ≡ suc (run bytes) = omega arith in
    ap (λ b. can_be_a_name (take (cond b (1 + run bytes) 0) (byte ∷ bytes))) (letter_word byte letter) ∙ ap (λ n. can_be_a_name (take n (byte ∷ bytes))) one
    ∙ and_from (is_letter byte) (list_all is_word_byte (take (run bytes) bytes)) letter (run_words bytes)

number_spelled : (negative : Bool) (digits bytes : List ℕ) → IsSpelled (number_at negative digits) bytes
number_spelled negative digits bytes = by (is_natural (take (run digits) digits)) (negative && (slice_index digits 0 == 48))
  where
    by : (natural zeros : Bool) → IsSpelled (if natural then (if zeros then None else Some (lexeme.Number, run digits)) else None) bytes
    by true true = tt
    by true false = tt
    by false zeros = tt

minus_spelled : (digits bytes : List ℕ) → IsSpelled (behind_minus digits) bytes
minus_spelled digits bytes = by (is_natural (take (run digits) digits)) (true && (slice_index digits 0 == 48))
  where
    by : (natural zeros : Bool) → IsSpelled (option_map {T = Lexeme × ℕ} (λ t. (t.0, t.1 + 1)) (if natural then (if zeros then None else Some (lexeme.Number, run digits)) else None)) bytes
    by true true = tt
    by true false = tt
    by false zeros = tt

text_spelled : (byte : ℕ) (more : List ℕ) → byte ≡ 34 → IsSpelled (text_at more) (byte ∷ more)
text_spelled byte more is = by (text_len false more) refl
  where
    by : (len : Option ℕ) → text_len false more ≡ len → IsSpelled (option_map (λ n. (lexeme.Text, n + 2)) len) (byte ∷ more)
    by None some = tt
    by (Some n) some =
        let text = text_is false more n some in
        let behind : n + 2 - 1 ≡ suc n = omega arith in
        let inner : n + 2 - 1 - 1 ≡ n = omega arith in
        record {
          opens = is;
          closes = subst (λ k. get_or (byte ∷ more) k 0 ≡ 34) (sym behind) text.ends;
          long = omega arith;
          spelled = subst (λ k. list_all can_be_spelled (unescaped (take k more)) ≡ true) (sym inner) text.spelled;
        }

symbol_spelled : (long short : Option Symbol) (bytes : List ℕ) → IsSpelled (or_else (signed 2 long) (signed 1 short)) bytes
symbol_spelled (Some symbol) short bytes = tt
symbol_spelled None (Some symbol) bytes = tt
symbol_spelled None None bytes = tt

token_spelled : (bytes : List ℕ) → IsSpelled (token_at bytes) bytes
token_spelled [] = tt
token_spelled (byte ∷ more) = by (is_letter byte) (is_digit byte) ((byte == 45) && is_digit (slice_index more 0)) (byte == 34) refl refl
  where
    by : (letter digit minus quote : Bool) → is_letter byte ≡ letter → (byte == 34) ≡ quote
        → IsSpelled (if letter then Some (lexeme.Word, run (byte ∷ more)) else (if digit then number_at false (byte ∷ more) else (if minus then behind_minus more else (if quote then text_at more else symbol_at byte (slice_index more 0))))) (byte ∷ more)
    by true digit minus quote is q = word_spelled byte more is
    by false true minus quote is q = number_spelled false (byte ∷ more) (byte ∷ more)
    by false false true quote is q = minus_spelled more (byte ∷ more)
    by false false false true is q = text_spelled byte more (eqb-true byte 34 q)
    by false false false false is q = symbol_spelled (long_symbol byte (slice_index more 0)) (short_symbol byte) (byte ∷ more)

-- a quote stands in the line
quote_within : (line : List ℕ) (k : ℕ) → get_or line k 0 ≡ 34 → k < length line
quote_within line k is =
    elim (cases_lt k (length line)) [ inl within ↦ within | inr past ↦ absurd (omega (arith, is, get_or_past line k 0 past)) ]

text_seen : (line : List ℕ) (place len : ℕ) → IsUtf8 line → IsTextToken (drop place line) len → IsSpellable (seen line (record { lexeme = lexeme.Text; start = place; end = place + len }))
text_seen line place len utf8 is =
    let long : 2 ≤ len = is.long in
    let front : place + 0 ≡ place = omega arith in
    let back : place + (len - 1) ≡ place + len - 1 = omega (arith, long) in
    let opens : get_or line place 0 ≡ 34 = ap (λ k. get_or line k 0) (sym front) ∙ sym (get_or-drop place line 0 0) ∙ is.opens in
    let closes : get_or line (place + len - 1) 0 ≡ 34 = ap (λ k. get_or line k 0) (sym back) ∙ sym (get_or-drop place line (len - 1) 0) ∙ is.closes in
    let first : get_or line place 0 < 128 = omega (arith, opens) in
    let last : get_or line (place + len - 1) 0 < 128 = omega (arith, closes) in
    let count : place + len - 1 - (place + 1) ≡ len - 1 - 1 = omega arith in (
      ap (λ n. list_all can_be_spelled (unescaped (take n (drop (place + 1) line)))) count
          ∙ ap (λ bs. list_all can_be_spelled (unescaped (take (len - 1 - 1) bs))) (sym (drop-drop 1 place line)) ∙ is.spelled,
      unescaped_utf8 (take (place + len - 1 - (place + 1)) (drop (place + 1) line))
          (IsUtf8-between line (place + 1) (place + len - 1) utf8 (omega (arith, long)) (IsCharBoundary-after_ascii line place utf8 (quote_within line place opens) first)
          (IsCharBoundary-before_ascii line (place + len - 1) (quote_within line (place + len - 1) closes) last)),
    )

seen_spellable : (line : List ℕ) (kind : Lexeme) (place len : ℕ) → IsUtf8 line → IsSpelledBy kind (drop place line) len
    → IsSpellable (seen line (record { lexeme = kind; start = place; end = place + len }))
seen_spellable line lexeme.Word place len utf8 is =
    let count : place + len - place ≡ len = omega arith in
    ap (λ n. can_be_a_name (take n (drop place line))) count ∙ is
seen_spellable line lexeme.Number place len utf8 is = tt
seen_spellable line lexeme.Text place len utf8 is = text_seen line place len utf8 is
seen_spellable line (lexeme.Sign symbol) place len utf8 is = tt

cut_spellable : (line : List ℕ) → IsUtf8 line → (n at : ℕ) (bytes : List ℕ) → bytes ≡ drop at line → AreSpellable (map (seen line) (cut n at bytes).0)
unfolding cut
cut_spellable line utf8 zero at bytes is = tt
cut_spellable line utf8 (suc n) at bytes is =
    by (is_over (drop (blanks bytes) bytes)) (token_at (drop (blanks bytes) bytes)) (token_spelled (drop (blanks bytes) bytes)) (λ next rest same. cut_spellable line utf8 n next rest same)
  where
    here : drop (blanks bytes) bytes ≡ drop (at + blanks bytes) line
    here = ap (drop (blanks bytes)) is ∙ drop-drop (blanks bytes) at line

    by : (over : Bool) (token : Option (Lexeme × ℕ)) → IsSpelled token (drop (blanks bytes) bytes)
        → ((next : ℕ) (rest : List ℕ) → rest ≡ drop next line → AreSpellable (map (seen line) (cut n next rest).0))
        → AreSpellable (map (seen line) (if over then ([], Over) else first_token token (at + blanks bytes) (λ len. cut n (at + blanks bytes + len) (drop len (drop (blanks bytes) bytes)))).0)
    by true token spelled again = tt
    by false None spelled again = tt
    by false (Some t) spelled again = (
      seen_spellable line t.0 (at + blanks bytes) t.1 utf8 (subst (λ bs. IsSpelledBy t.0 bs t.1) here spelled),
      again (at + blanks bytes + t.1) (drop t.1 (drop (blanks bytes) bytes)) (ap (drop t.1) here ∙ drop-drop t.1 (at + blanks bytes) line),
    )

pub line_spellable : (line : List ℕ) → IsUtf8 line → AreSpellable (map (seen line) (cut 512 0 line).0)
line_spellable line utf8 = cut_spellable line utf8 512 0 line refl

-- no more tokens are cut off than may come
cut_few : (n at : ℕ) (bytes : List ℕ) → length (cut n at bytes).0 ≤ n
unfolding cut
cut_few zero at bytes = omega arith
cut_few (suc n) at bytes = by (is_over (drop (blanks bytes) bytes)) (token_at (drop (blanks bytes) bytes)) (λ next rest. cut_few n next rest)
  where
    by : (over : Bool) (token : Option (Lexeme × ℕ)) → ((next : ℕ) (rest : List ℕ) → length (cut n next rest).0 ≤ n)
        → length (if over then ([], Over) else first_token token (at + blanks bytes) (λ len. cut n (at + blanks bytes + len) (drop len (drop (blanks bytes) bytes)))).0 ≤ suc n
    by true token again = omega arith
    by false None again = omega arith
    by false (Some t) again = omega (arith, again (at + blanks bytes + t.1) (drop t.1 (drop (blanks bytes) bytes)))

pub line_few : (line : List ℕ) → length (cut 512 0 line).0 ≤ 512
line_few line = cut_few 512 0 line
