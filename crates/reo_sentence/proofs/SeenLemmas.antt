-- Numbers and texts, read byte by byte.
use Rattle.std.proofs.Common.{◌≡◌, ℕ, ◌+◌, ◌-◌, ◌*◌, ◌<◌, ◌≤◌, ◌==◌, nat_le, Bool, true, false, ◌||◌, if◌then◌else◌, List, [], ◌∷◌, ◌++◌, length, drop, get_or, Some, None, refl, sym, ap, ◌∙◌, arith, add-one, drop-cons, drop_of_length-le, append_assoc, append-nil}
use Rattle.std.specs.List.{list_any}
use borrow.Author.Tests.{leb-true}
use Rattle.std.proofs.lemmas.Bool.{false≢true}
use Rattle.reo_sentence.specs.Seen.{decimal_after, decimal_value, byte_step, behind_byte, unescaped_from, unescaped}
use Rattle.reo_sentence.specs.Limits.{up_to}

-- more digits make no lesser number
pub decimal_grows : (n : ℕ) (digits : List ℕ) → n ≤ decimal_after n digits
decimal_grows n [] = omega arith
decimal_grows n (digit ∷ digits) = omega (arith, decimal_grows (10 * n + (digit - 48)) digits)

-- the digits read so far
pub record ReadDigits (digits : List ℕ) (at value : ℕ) : Type 0 where
  pub so_far : decimal_value digits ≡ decimal_after value (drop at digits)

pub digits-start : (digits : List ℕ) → ReadDigits digits 0 0
digits-start digits = record { so_far = refl }

digits-next : (digits : List ℕ) (at value : ℕ) → at < length digits → decimal_after value (drop at digits) ≡ decimal_after (10 * value + (get_or digits at 0 - 48)) (drop (at + 1) digits)
digits-next digits at value here = rw (add-one, drop-cons digits at 0) refl

pub too_many : (most : ℕ) (digits : List ℕ) (n : ℕ) → most < decimal_value digits → None ≡ up_to most (decimal_value digits)
too_many most digits n above = by (nat_le most most) (nat_le (decimal_value digits) most) refl
  where
    by : Bool → (small : Bool) → nat_le (decimal_value digits) most ≡ small → None ≡ (if small then Some (decimal_value digits) else None)
    by b true is = absurd (omega (arith, above, leb-true (decimal_value digits) most is))
    by b false is = refl

pub grows_too_large : (digits : List ℕ) (at value : ℕ) → ReadDigits digits at value → at < length digits → 461168601842738790 < value
    → None ≡ up_to 4611686018427387904 (decimal_value digits)
grows_too_large digits at value reads here above =
    too_many 4611686018427387904 digits 0
    (omega (arith, reads.so_far, digits-next digits at value here, decimal_grows (10 * value + (get_or digits at 0 - 48)) (drop (at + 1) digits)))

pub digits-step : (digits : List ℕ) (at value step : ℕ) → ReadDigits digits at value → at < length digits → step ≡ get_or digits at 0 - 48 → ReadDigits digits (at + 1) (10 * value + step)
digits-step digits at value step reads here is = record {
  so_far = reads.so_far ∙ digits-next digits at value here ∙ ap (λ n. decimal_after (10 * value + n) (drop (at + 1) digits)) (sym is);
}

-- the bytes of a text read so far
pub record ReadBytes (text : List ℕ) (at : ℕ) (escaped : Bool) (value : List ℕ) : Type 0 where
  pub so_far : unescaped text ≡ value ++ unescaped_from escaped (drop at text)

pub bytes-start : (text : List ℕ) → ReadBytes text 0 false []
bytes-start text = record { so_far = refl }

bytes-next : (text : List ℕ) (at : ℕ) (escaped : Bool) → at < length text
    → unescaped_from escaped (drop at text) ≡ behind_byte (byte_step escaped (get_or text at 0)) (λ next. unescaped_from next (drop (at + 1) text))
unfolding unescaped_from
bytes-next text at escaped here = rw (add-one, drop-cons text at 0) refl

pub bytes-some : (text : List ℕ) (at : ℕ) (escaped next : Bool) (value after : List ℕ) (byte : ℕ) → ReadBytes text at escaped value → at < length text
    → Some byte ≡ byte_step escaped (get_or text at 0) → next ≡ false → after ≡ value ++ byte ∷ [] → ReadBytes text (at + 1) next after
bytes-some text at escaped next value after byte reads here is plain pushed = record {
  so_far =
      reads.so_far ∙ ap (λ bytes. value ++ bytes) (bytes-next text at escaped here ∙ ap (λ b. behind_byte b (λ n. unescaped_from n (drop (at + 1) text))) (sym is))
      ∙ sym (append_assoc value (byte ∷ []) (unescaped_from false (drop (at + 1) text)))
      ∙ ap (λ bytes. bytes ++ unescaped_from false (drop (at + 1) text)) (sym pushed) ∙ ap (λ n. after ++ unescaped_from n (drop (at + 1) text)) (sym plain);
}

pub bytes-none : (text : List ℕ) (at : ℕ) (escaped next : Bool) (value after : List ℕ) → ReadBytes text at escaped value → at < length text → None ≡ byte_step escaped (get_or text at 0)
    → next ≡ true → after ≡ value → ReadBytes text (at + 1) next after
bytes-none text at escaped next value after reads here is turned same = record {
  so_far =
      reads.so_far ∙ ap (λ bytes. value ++ bytes) (bytes-next text at escaped here ∙ ap (λ b. behind_byte b (λ n. unescaped_from n (drop (at + 1) text))) (sym is))
      ∙ ap (λ bytes. bytes ++ unescaped_from true (drop (at + 1) text)) (sym same) ∙ ap (λ n. after ++ unescaped_from n (drop (at + 1) text)) (sym turned);
}

pub bytes-end : (text : List ℕ) (at : ℕ) (escaped : Bool) (value : List ℕ) → ReadBytes text at escaped value → length text ≤ at → value ≡ unescaped text
unfolding unescaped_from
bytes-end text at escaped value reads over = sym (reads.so_far ∙ ap (λ bytes. value ++ unescaped_from escaped bytes) (drop_of_length-le text over) ∙ append-nil value)

-- a text without a backslash is its value
pub unescaped-plain : (text : List ℕ) → list_any (λ byte. byte == 92) text ≡ false → unescaped text ≡ text
unfolding unescaped_from
unescaped-plain [] none = refl
unescaped-plain (byte ∷ text) none = by (byte == 92) refl none (unescaped-plain text)
  where
    by : (same : Bool) → byte == 92 ≡ same → list_any (λ b. b == 92) (byte ∷ text) ≡ false → (list_any (λ b. b == 92) text ≡ false → unescaped text ≡ text)
        → behind_byte (if same then None else Some byte) (λ next. unescaped_from next text) ≡ byte ∷ text
    by true is any each = absurd (false≢true (sym any ∙ ap (λ b. b || list_any (λ b. b == 92) text) is))
    by false is any each = ap (λ bytes. byte ∷ bytes) (each (sym (ap (λ b. b || list_any (λ b. b == 92) text) is) ∙ any))
