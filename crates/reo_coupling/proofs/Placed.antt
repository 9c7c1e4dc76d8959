-- Where the places of a port are in the history.
use Rattle.std.proofs.Common.{◌≡◌, ℕ, suc, ◌+◌, List, [], ◌∷◌, slice_get, All, Option, Some, None, refl, arith}
use Rattle.std.proofs.lemmas.List.Elements.{All-nil, All-cons}
use Rattle.reo_value.specs.declared.value.Value.{Value}
use Rattle.reo_fabric.specs.declared.entry.Entry.{Entry}
use Rattle.reo_coupling.specs.Ports.{datum_at, with_datum, places_of}

-- the place is that of an entry which has the port
pub record Placed (port first : ℕ) (entries : List Entry) (place : ℕ × Value) : Type 0 where
  pub index : ℕ
  pub numbered : place.0 ≡ first + index
  pub entry : Entry
  pub found : slice_get entries index ≡ Some entry
  pub datum : datum_at entry port ≡ Some place.1

pub in_history : (port first : ℕ) (entries : List Entry) → All (Placed port first entries) (places_of port first entries)
in_history port first [] = All-nil (Placed port first [])
in_history port first (entry ∷ entries) =
    go (datum_at entry port) refl (λ k d lt.
    let place = in_history port (first + 1) entries k d lt in
    record { index = suc place.index; numbered = omega (arith, place.numbered); entry = place.entry; found = place.found; datum = place.datum })
  where
    go : (datum : Option Value) → datum_at entry port ≡ datum → All (Placed port first (entry ∷ entries)) (places_of port (first + 1) entries)
        → All (Placed port first (entry ∷ entries)) (with_datum first datum (places_of port (first + 1) entries))
    go None is rest = rest
    go (Some v) is rest =
        All-cons (Placed port first (entry ∷ entries)) (first, v) (places_of port (first + 1) entries) (record { index = 0; numbered = omega arith; entry = entry; found = refl; datum = is }) rest
