-- Lists of views, read in the table's words.
use Rattle.std.proofs.Common.{◌≡◌, ℕ, zero, suc, List, [], ◌∷◌, slice_get, Some, sym, ap}
use mathlib.Core.Option.{some, some-injective, some-ne-none}
use lib.ListN.{get_elem?}

module _ {A : Type 0} where
  pub found : (xs : List A) (i : ℕ) (x : A) → get_elem? xs i ≡ some x → slice_get xs i ≡ Some x
  found [] i x is = absurd (some-ne-none x (sym is))
  found (y ∷ xs) zero x is = ap Some (some-injective y x is)
  found (y ∷ xs) (suc i) x is = found xs i x is
