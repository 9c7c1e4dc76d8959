-- Words that mirror the code: the automata of a region, by the numbers of their regions.
use Rattle.std.specs.Prelude.{◌≡◌, ℕ, ◌<◌, nat_eq, List, [], ◌∷◌, ◌++◌, length, filter, get_or, slice_index_or, Bool, false, cond, Option, None}
use Rattle.std.specs.List.{range_with_len}
use Rattle.std.specs.Option.{option_map_or}

-- whether this is the region's number
abbrev pub is_of : ℕ → Option ℕ → Bool
is_of region entry = option_map_or (λ number. nat_eq number region) entry false

-- whether the automaton with this number is of the region
abbrev pub is_at : List (Option ℕ) → ℕ → ℕ → Bool
is_at region_of region number = is_of region (get_or region_of number None)

-- the numbers of the region's automata
abbrev pub numbers_of : List (Option ℕ) → ℕ → List ℕ
numbers_of region_of region = filter (is_at region_of region) (range_with_len 0 (length region_of))

-- the list of each region, by the region of each automaton
pub record AreMembers (region_of : List (Option ℕ)) (regions : ℕ) (lists : List (List ℕ)) : Type 0 where
  pub long : length lists ≡ regions
  pub each : (region : ℕ) → region < regions → slice_index_or lists region [] ≡ numbers_of region_of region

-- the number comes at the end of the list of the entry's region, and each other is as it was
pub record AddsMember (entry : Option ℕ) (number : ℕ) (old new : List (List ℕ)) : Type 0 where
  pub long : length new ≡ length old
  pub each : (region : ℕ) → region < length old → slice_index_or new region [] ≡ slice_index_or old region [] ++ cond (is_of region entry) (number ∷ []) []
