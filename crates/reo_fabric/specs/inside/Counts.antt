-- Counts for all regions, made one element after the other.
use Rattle.std.specs.Prelude.{◌≡◌, ℕ, ◌+◌, ◌<◌, List, length, slice_index_or, count_by, nat_eq, Bool, cond}
use Rattle.reo_fabric.specs.Room.{RoomState, empty_entry}

-- the region's count is one more, and each other is as it was
pub record CountsOne (region : ℕ) (old new : List ℕ) : Type 0 where
  pub len : length new ≡ length old
  pub each : (number d : ℕ) → number < length old → slice_index_or new number d ≡ slice_index_or old number d + cond (nat_eq region number) 1 0

-- each region has the count of the elements that pass its test
pub record AreCounts {A : Type 0} (test : ℕ → A → Bool) (regions : ℕ) (xs : List A) (counts : List ℕ) : Type 0 where
  pub len : length counts ≡ regions
  pub each : (region d : ℕ) → region < regions → slice_index_or counts region d ≡ count_by (test region) xs

-- a room of a region for so many cells that it takes from, cells that it fills, and ports
abbrev pub room_for : ℕ → ℕ → ℕ → ℕ → RoomState
room_for region takes fills ports = record { entry = empty_entry region 0; most_takes = takes; most_fills = fills; most_puts = ports; most_gets = ports }
