-- What words ask for where they are three, or five and more; and what digits parse to.
use Rattle.std.proofs.Common.{◌≡◌, ℕ, ◌<◌, ◌≤◌, true, ◌&&◌, nat_lt, List, [], ◌∷◌, length, map, Bor, rules, Some, None, inl, inr, refl, ap, arith, if◌then◌else◌}
use Rattle.std.specs.Prelude.{Result, Ok, Err}
use Rattle.std.specs.List.{list_all}
use Rattle.std.specs.Result.{OkIff, result_ok}
use Rattle.std.specs.Str.Parse.{ParsesUnsigned, digits_value}
use Rattle.std.proofs.lemmas.Bool.{and_parts, lt-ltb, le-ltb, cases_lt}
use Rattle.std.proofs.lemmas.Str.Parse.{IsDigitsTest, IsNumeralModel, numerals_by_value, parse_digits}
use Rattle.reo_tool.specs.Words.{is_digit, is_numeral, command_of}

pub of_three : (words : List (Bor (List ℕ))) → 3 ≤ length words → length words < 4 → None ≡ command_of (map (λ word. word.now) words)
of_three [] low high = absurd (omega arith)
of_three (x ∷ []) low high = absurd (omega arith)
of_three (x ∷ y ∷ []) low high = absurd (omega arith)
of_three (x ∷ y ∷ z ∷ []) low high = refl
of_three (x ∷ y ∷ z ∷ w ∷ words) low high = absurd (omega arith)

pub of_many : (words : List (Bor (List ℕ))) → 5 ≤ length words → None ≡ command_of (map (λ word. word.now) words)
of_many [] low = absurd (omega arith)
of_many (x ∷ []) low = absurd (omega arith)
of_many (x ∷ y ∷ []) low = absurd (omega arith)
of_many (x ∷ y ∷ z ∷ []) low = absurd (omega arith)
of_many (x ∷ y ∷ z ∷ w ∷ []) low = absurd (omega arith)
of_many (x ∷ y ∷ z ∷ w ∷ v ∷ words) low = refl

nonempty : (word : List ℕ) → is_numeral word ≡ true → 0 < length word
nonempty [] is = cc
nonempty (digit ∷ digits) is = omega arith

own_digits : IsDigitsTest (λ ds. list_all is_digit ds ≡ true)
own_digits = search rules

own : IsNumeralModel (λ ds. list_all is_digit ds ≡ true) (digits_value 10)
own = numerals_by_value _ own_digits

parsed_cases : {E : Type 0} (word : List ℕ) (r : Result ℕ E) → is_numeral word ≡ true → OkIff r ((0 < length word) × (digits_value 10 word < 18446744073709551616)) (digits_value 10 word)
    → result_ok r ≡ (if is_numeral word && nat_lt (digits_value 10 word) 18446744073709551616 then Some (digits_value 10 word) else None)
parsed_cases word (Ok value) is ok = rw (is, lt-ltb (digits_value 10 word) 18446744073709551616 ok.0.1) (ap Some ok.1)
parsed_cases word (Err fault) is wrong = elim (cases_lt (digits_value 10 word) 18446744073709551616) [
  | inl below ↦ absurd (wrong (nonempty word is, below))
  | inr above ↦ rw (is, le-ltb (digits_value 10 word) 18446744073709551616 above) refl
]

-- what parsing a numeral as a number of 64 bits gives
pub numeral_parsed : {E : Type 0} (word : List ℕ) (r : Result ℕ E) → is_numeral word ≡ true → ParsesUnsigned 64 10 word r
    → result_ok r ≡ (if is_numeral word && nat_lt (digits_value 10 word) 18446744073709551616 then Some (digits_value 10 word) else None)
numeral_parsed word r is parses = parsed_cases word r is (parse_digits own 64 word r parses (and_parts (list_all is_digit word) _ is).0)
