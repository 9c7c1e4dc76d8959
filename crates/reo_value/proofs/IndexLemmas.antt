-- What an `IndexSet` of strings answers, as the place of a text.
use Rattle.std.proofs.Common.{◌≡◌, ℕ, suc, ◌+◌, Bool, true, false, not, cond, ◌||◌, List, [], ◌∷◌, ◌++◌, length, map, position, Option, Some, None, is_some, refl, ap, ◌∙◌, arith}
use Rattle.std.specs.Bool.{nat_lt}
use Rattle.std.specs.List.{list_any, position_or_len}
use Rattle.std.specs.Option.{option_map}
use Rattle.std.specs.Str.{bytes_eq}
use Rattle.std.proofs.lemmas.Bool.Decides.{nat_tests}
use Rattle.std.proofs.lemmas.List.{map-append}
use Rattle.indexmap.specs.IndexSet.{insert_key}
use Rattle.reo_value.specs.Lexicon.{place_of}

-- one place further
next_place : (n len : ℕ) → cond (nat_lt (1 + n) (suc len)) (Some (1 + n)) None ≡ option_map suc (cond (nat_lt n len) (Some n) None)
next_place n len = grind (arith, nat_tests)

module _ {K : Type 0} (bytes : K → List ℕ) (text : List ℕ) where
  -- the index of a key by its bytes
  pub position-place_of : (keys : List K) → position (λ k. bytes_eq text (bytes k)) keys ≡ place_of (map bytes keys) text
  position-place_of [] = refl
  position-place_of (k ∷ keys) = by (bytes_eq text (bytes k)) (position-place_of keys)
    where
      by : (same : Bool) → position (λ k. bytes_eq text (bytes k)) keys ≡ place_of (map bytes keys) text
          → cond (nat_lt (cond (not same) (1 + position_or_len (λ k. bytes_eq text (bytes k)) keys) 0) (length (k ∷ keys))) (Some (cond (not same) (1 + position_or_len (λ k. bytes_eq text (bytes k)) keys) 0)) None
          ≡ cond same (Some 0) (option_map suc (place_of (map bytes keys) text))
      by true rest = grind (arith, nat_tests)
      by false rest = next_place (position_or_len (λ k. bytes_eq text (bytes k)) keys) (length keys) ∙ ap (option_map suc) rest

  -- whether a key has these bytes
  pub list_any-place_of : (keys : List K) → list_any (λ k. bytes_eq text (bytes k)) keys ≡ is_some (place_of (map bytes keys) text)
  list_any-place_of [] = refl
  list_any-place_of (k ∷ keys) = by (bytes_eq text (bytes k)) (place_of (map bytes keys) text) (list_any-place_of keys)
    where
      by : (same : Bool) (rest : Option ℕ) → list_any (λ k. bytes_eq text (bytes k)) keys ≡ is_some rest
          → (same || list_any (λ k. bytes_eq text (bytes k)) keys) ≡ is_some (cond same (Some 0) (option_map suc rest))
      by true rest is = refl
      by false None is = is
      by false (Some m) is = is

-- the bytes after a key that is not there is inserted
pub map-insert_key : {K : Type 0} (bytes : K → List ℕ) (keys : List K) (key : K) → place_of (map bytes keys) (bytes key) ≡ None
    → map bytes (insert_key (λ x y. bytes_eq (bytes x) (bytes y)) keys key) ≡ map bytes keys ++ bytes key ∷ []
map-insert_key bytes keys key absent =
    ap (λ there. map bytes (cond there keys (keys ++ key ∷ []))) (list_any-place_of bytes (bytes key) keys ∙ ap is_some absent)
    ∙ map-append bytes keys (key ∷ [])
