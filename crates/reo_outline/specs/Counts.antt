-- How many automata each region has.
use Rattle.std.specs.Prelude.{◌≡◌, ℕ, ◌+◌, ◌<◌, List, length, slice_index_or, count_by, Option, cond}
use Rattle.reo_outline.specs.Outline.{is_of}

-- the count of the entry's region is one more, and each other is as it was
pub record CountsOne (entry : Option ℕ) (old new : List ℕ) : Type 0 where
  pub len : length new ≡ length old
  pub each : (region d : ℕ) → region < length old → slice_index_or new region d ≡ slice_index_or old region d + cond (is_of region entry) 1 0

-- each number below so many has its count
pub record AreCounts (regions : ℕ) (entries : List (Option ℕ)) (counts : List ℕ) : Type 0 where
  pub len : length counts ≡ regions
  pub each : (region d : ℕ) → region < regions → slice_index_or counts region d ≡ count_by (is_of region) entries
