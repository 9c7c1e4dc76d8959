-- A number, as it is written and as it is read again.
use Rattle.std.proofs.Common.{◌≡◌, ℕ, ℤ, pos, negsuc, neg_ℤ, nat_abs, zero, suc, ◌+◌, ◌-◌, ◌*◌, ◌/◌, ◌%◌, ◌^◌, ◌<◌, ◌≤◌, ◌==◌, nat_lt, nat_le, Bool, true, false, ◌&&◌, ◌||◌, List, [], ◌∷◌, ◌++◌, length, take, slice_index, Some, decimal, refl, sym, ap, subst, ◌∙◌, arith}
use Rattle.std.specs.Fmt.{signed_decimal}
use Rattle.std.specs.List.{list_all}
use Rattle.std.specs.Option.{option_map}
use Rattle.std.proofs.lemmas.Bool.{and_parts, and_from, lt-ltb, le-leb, leb-true, eqb-true}
use Rattle.std.proofs.lemmas.Fmt.{decimal_by_steps}
use Rattle.std.proofs.lemmas.List.Folds.{list_all-append}
use Rattle.reo_token.specs.declared.token.Lexeme.{Lexeme}
use Rattle.reo_token.specs.declared.token.Lexeme.TheVariants as lexeme
use Rattle.reo_token.specs.Bytes.{is_letter, is_digit, is_word_byte}
use Rattle.reo_token.specs.Cut.{run, is_natural, number_at, token_at}
use Rattle.reo_grammar.specs.Token.{Number}
use Rattle.reo_sentence.specs.Seen.{seen, decimal_after, decimal_value, number_value}
use Rattle.reo_print.specs.Laws.{ends_a_word}
use Rattle.reo_print.proofs.NameLemmas.{it_is, run_again, front}
use Rattle.reo_print.proofs.TextLemmas.{not_so}

-- what the digits of a number are
pub record AreDigits (n : ℕ) (digits : List ℕ) : Type 0 where
  pub first : ℕ
  pub more : List ℕ
  pub is : digits ≡ first ∷ more
  pub all : list_all is_digit digits ≡ true
  lead : 1 ≤ n → 48 < first
  single : n < 10 → more ≡ []
  value : decimal_after 0 digits ≡ n

digit_is : (digit : ℕ) → digit < 10 → is_digit (48 + digit) ≡ true
digit_is digit low = and_from (nat_le 48 (48 + digit)) (nat_le (48 + digit) 57) (le-leb 48 (48 + digit) (omega arith)) (le-leb (48 + digit) 57 (omega (arith, low)))

after_append : (n : ℕ) (digits : List ℕ) (last : ℕ) → decimal_after n (digits ++ last ∷ []) ≡ 10 * decimal_after n digits + (last - 48)
after_append n [] last = refl
after_append n (digit ∷ digits) last = after_append (10 * n + (digit - 48)) digits last

one_digit : (n : ℕ) → n < 10 → AreDigits n ((48 + n) ∷ [])
one_digit n low = record {
  first = 48 + n;
  more = [];
  is = refl;
  all = ap (λ b. b && true) (digit_is n low);
  lead = λ some. omega (arith, some);
  single = λ less. refl;
  value = omega arith;
}

more_digits : (n : ℕ) (digits : List ℕ) → 10 ≤ n → AreDigits (n / 10) digits → AreDigits n (digits ++ ((48 + n % 10) ∷ []))
more_digits n digits high are = record {
  first = are.first;
  more = are.more ++ ((48 + n % 10) ∷ []);
  is = ap (λ ds. ds ++ ((48 + n % 10) ∷ [])) are.is;
  all = list_all-append is_digit digits ((48 + n % 10) ∷ []) ∙ ap (λ b. b && (is_digit (48 + n % 10) && true)) are.all ∙ ap (λ b. b && true) (digit_is (n % 10) (omega arith));
  lead = λ some. are.lead (omega (arith, high));
  single = λ less. absurd (omega (arith, less, high));
  value =
      let last : 10 * (n / 10) + (48 + n % 10 - 48) ≡ n = omega arith in
      after_append 0 digits (48 + n % 10) ∙ ap (λ v. 10 * v + (48 + n % 10 - 48)) are.value ∙ last;
}

pub digits_of : (n : ℕ) → n < 2 ^ 64 → AreDigits n (decimal n)
digits_of n small = decimal_by_steps AreDigits one_digit more_digits n small

pub digit_word : (byte : ℕ) → is_digit byte ≡ true → is_word_byte byte ≡ true
digit_word byte is = ap (λ d. is_letter byte || d) is ∙ by (is_letter byte)
  where
    by : (letter : Bool) → (letter || true) ≡ true
    by true = refl
    by false = refl

pub digits_words : (digits : List ℕ) → list_all is_digit digits ≡ true → list_all is_word_byte digits ≡ true
digits_words [] all = refl
digits_words (digit ∷ digits) all =
    let parts = and_parts (is_digit digit) (list_all is_digit digits) all in
    and_from (is_word_byte digit) (list_all is_word_byte digits) (digit_word digit parts.0) (digits_words digits parts.1)

natural : (n : ℕ) (digits : List ℕ) → AreDigits n digits → is_natural digits ≡ true
natural n digits are = subst (λ ds. is_natural ds ≡ true) (sym are.is) (and_from (list_all is_digit (are.first ∷ are.more)) (nat_lt 48 are.first || (length are.more == 0)) (subst (λ ds. list_all is_digit ds ≡ true) are.is are.all) (by n are.lead are.single))
  where
    by : (k : ℕ) → (1 ≤ k → 48 < are.first) → (k < 10 → are.more ≡ []) → (nat_lt 48 are.first || (length are.more == 0)) ≡ true
    by zero lead single = ap (λ ds. nat_lt 48 are.first || (length ds == 0)) (single (omega arith)) ∙ or_true (nat_lt 48 are.first)
      where
        or_true : (b : Bool) → (b || true) ≡ true
        or_true true = refl
        or_true false = refl
    by (suc k) lead single = ap (λ b. b || (length are.more == 0)) (lt-ltb 48 are.first (lead (omega arith)))

not_le : (a b : ℕ) → b < a → nat_le a b ≡ false
not_le a b less = by (nat_le a b) refl
  where
    by : (le : Bool) → nat_le a b ≡ le → le ≡ false
    by true is = absurd (omega (arith, leb-true a b is, less))
    by false is = refl

pub not_same : (a b : ℕ) → (a ≡ b → ⊥) → (a == b) ≡ false
not_same a b differs = by (a == b) refl
  where
    by : (same : Bool) → (a == b) ≡ same → same ≡ false
    by true is = absurd (differs (eqb-true a b is))
    by false is = refl

digit_no_letter : (byte : ℕ) → 48 ≤ byte → byte ≤ 57 → is_letter byte ≡ false
digit_no_letter byte high low =
    ap (λ a. (a && nat_le byte 90) || (nat_le 97 byte && nat_le byte 122) || (byte == 95)) (not_le 65 byte (omega (arith, low)))
    ∙ ap (λ a. (false && nat_le byte 90) || (a && nat_le byte 122) || (byte == 95)) (not_le 97 byte (omega (arith, low)))
    ∙ ap (λ a. (false && nat_le byte 90) || (false && nat_le byte 122) || a) (not_same byte 95 (λ same. far low same))
  where
    far : byte ≤ 57 → byte ≡ 95 → ⊥
    far low same = omega (arith, low, same)

token_digit : (first : ℕ) (tail : List ℕ) → is_digit first ≡ true → is_letter first ≡ false → token_at (first ∷ tail) ≡ number_at false (first ∷ tail)
token_digit first tail digit no_letter = not_so (λ t. t) (is_letter first) _ _ no_letter ∙ it_is (λ t. t) (is_digit first) _ _ digit

-- the run of digits is the number
module _ (n : ℕ) (digits rest : List ℕ) (are : AreDigits n digits) (ends : ends_a_word rest ≡ true) where
  whole_run : run (digits ++ rest) ≡ length digits
  whole_run = run_again digits rest (digits_words digits are.all) ends

  whole : is_natural (take (run (digits ++ rest)) (digits ++ rest)) ≡ true
  whole = ap (λ k. is_natural (take k (digits ++ rest))) whole_run ∙ ap is_natural (front digits rest) ∙ natural n digits are

  positive_at : number_at false (digits ++ rest) ≡ Some (lexeme.Number, length digits)
  positive_at = it_is (λ t. t) (is_natural (take (run (digits ++ rest)) (digits ++ rest))) _ _ whole ∙ ap (λ k. Some (lexeme.Number, k)) whole_run

  pub first_digit : is_digit are.first ≡ true
  first_digit = (and_parts (is_digit are.first) (list_all is_digit are.more) (subst (λ ds. list_all is_digit ds ≡ true) are.is are.all)).0

  first_high : 48 ≤ are.first
  first_high = leb-true 48 are.first (and_parts (nat_le 48 are.first) (nat_le are.first 57) first_digit).0

  first_low : are.first ≤ 57
  first_low = leb-true are.first 57 (and_parts (nat_le 48 are.first) (nat_le are.first 57) first_digit).1

  starts : slice_index (digits ++ rest) 0 ≡ are.first
  starts = ap (λ ds. slice_index (ds ++ rest) 0) are.is

  negative_at : 1 ≤ n → number_at true (digits ++ rest) ≡ Some (lexeme.Number, length digits)
  negative_at some =
      it_is (λ t. t) (is_natural (take (run (digits ++ rest)) (digits ++ rest))) _ _ whole
      ∙ not_so (λ t. t) (true && (slice_index (digits ++ rest) 0 == 48)) _ _ (ap (λ b. b == 48) starts ∙ not_same are.first 48 (λ same. omega_absurd (are.lead some) same))
      ∙ ap (λ k. Some (lexeme.Number, k)) whole_run
    where
      omega_absurd : 48 < are.first → are.first ≡ 48 → ⊥
      omega_absurd more same = omega (arith, more, same)

  cut_positive : token_at (digits ++ rest) ≡ Some (lexeme.Number, length digits)
  cut_positive = subst (λ ds. token_at (ds ++ rest) ≡ number_at false (ds ++ rest)) (sym are.is) (token_digit are.first (are.more ++ rest) first_digit (digit_no_letter are.first first_high first_low)) ∙ positive_at

  cut_negative : 1 ≤ n → token_at (45 ∷ (digits ++ rest)) ≡ Some (lexeme.Number, length digits + 1)
  cut_negative some =
      it_is (λ t. t) (is_digit (slice_index (digits ++ rest) 0)) _ _ (ap is_digit starts ∙ first_digit)
      ∙ ap (option_map {T = Lexeme × ℕ} (λ t. (t.0, t.1 + 1))) (negative_at some)

  means_positive : number_value digits ≡ pos n
  means_positive =
      subst (λ ds. number_value ds ≡ pos (decimal_value ds)) (sym are.is)
      (not_so (λ z. z) (are.first == 45) _ _ (not_same are.first 45 (λ same. high_absurd first_high same))) ∙ ap pos are.value
    where
      high_absurd : 48 ≤ are.first → are.first ≡ 45 → ⊥
      high_absurd high same = omega (arith, high, same)

pub number_cut : (z : ℤ) (rest : List ℕ) → nat_abs z < 2 ^ 64 → ends_a_word rest ≡ true → token_at (signed_decimal z ++ rest) ≡ Some (lexeme.Number, length (signed_decimal z))
number_cut (pos n) rest small ends = cut_positive n (decimal n) rest (digits_of n small) ends
number_cut (negsuc n) rest small ends =
    let one_more : length (decimal (suc n)) + 1 ≡ length (45 ∷ decimal (suc n)) = omega arith in
    cut_negative (suc n) (decimal (suc n)) rest (digits_of (suc n) small) ends (omega arith) ∙ ap (λ k. Some (lexeme.Number, k)) one_more

means : (z : ℤ) → nat_abs z < 2 ^ 64 → number_value (signed_decimal z) ≡ z
means (pos n) small = means_positive n (decimal n) [] (digits_of n small) refl
means (negsuc n) small = ap (λ v. neg_ℤ (pos v)) ((digits_of (suc n) small).value)

pub number_meant : (z : ℤ) (rest : List ℕ) → nat_abs z < 2 ^ 64 → seen (signed_decimal z ++ rest) (record { lexeme = lexeme.Number; start = 0; end = length (signed_decimal z) }) ≡ Number z
number_meant z rest small =
    let count : length (signed_decimal z) - 0 ≡ length (signed_decimal z) = omega arith in
    ap (λ k. Number (number_value (take k (signed_decimal z ++ rest)))) count ∙ ap (λ ds. Number (number_value ds)) (front (signed_decimal z) rest) ∙ ap Number (means z small)
