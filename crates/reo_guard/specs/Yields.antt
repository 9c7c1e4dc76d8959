-- What a function yields at a datum.
use Rattle.std.specs.Prelude.{◌≡◌, ◌≢◌, ℕ, ℤ, pos, ◌<◌, ◌+ℤ◌, ◌-ℤ◌, ◌*ℤ◌, neg_ℤ, List, length, slice_get, Some}
use Rattle.reo_value.specs.Num.{IsNumber}
use Rattle.reo_value.specs.declared.value.Value.{Value}
use Rattle.reo_value.specs.declared.value.Value.TheVariants.{Int, Sym}
use Rattle.reo_guard.specs.declared.fun.Fun.{Fun}
use Rattle.reo_guard.specs.declared.fun.Fun.TheVariants.{Add, Sub, Mul, Neg, Len, Map}
use Rattle.reo_value.specs.Lexicon.{text_at}

-- the value is this integer, which is in range
abbrev pub IsIntegerInRange : ℤ → Value → Type 0
IsIntegerInRange integer value = IsNumber integer × (value ≡ Int integer)

-- at an integer the function of integers yields its result, where that is in range; at a text nothing
abbrev pub YieldsInteger : (ℤ → ℤ) → Value → Value → Type 0
YieldsInteger f (Int i) value = IsIntegerInRange (f i) value
YieldsInteger f (Sym t) value = ⊥

-- at a text its number of bytes, at an integer nothing
abbrev pub YieldsLength : List (List ℕ) → Value → Value → Type 0
YieldsLength texts (Int i) value = ⊥
YieldsLength texts (Sym t) value = value ≡ Int (pos (length (text_at texts t)))

-- the second of the first pair whose first is the datum
pub record YieldsFirst (pairs : List (Value × Value)) (datum value : Value) : Type 0 where
  pub place : ℕ
  pub at : slice_get pairs place ≡ Some (datum, value)
  pub first : (earlier : ℕ) (other : Value × Value) → earlier < place → slice_get pairs earlier ≡ Some other → other.0 ≢ datum

-- the function yields this value at the datum
abbrev pub Yields : List (List ℕ) → Fun → Value → Value → Type 0
Yields texts (Add k) datum value = YieldsInteger (λ i. i +ℤ k) datum value
Yields texts (Sub k) datum value = YieldsInteger (λ i. i -ℤ k) datum value
Yields texts (Mul k) datum value = YieldsInteger (λ i. i *ℤ k) datum value
Yields texts Neg datum value = YieldsInteger neg_ℤ datum value
Yields texts Len datum value = YieldsLength texts datum value
Yields texts (Map pairs) datum value = YieldsFirst pairs datum value
