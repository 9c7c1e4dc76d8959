-- The readings of all regions, as places are listed one after the other.
use Rattle.std.specs.Prelude.{◌≡◌, ℕ, List, [], ◌∷◌, ◌++◌, length, map, Bool, cond}
use Rattle.reo_fabric.specs.declared.reading.Reading.{Reading}
use Rattle.reo_fabric.specs.inside.Whole.{EachAt}

-- a reading of a region with these cells and ports, of no round and no clock
pub record HasPlaces (cells ports : ℕ → List ℕ) (region : ℕ) (reading : Reading) : Type 0 where
  pub region_is : reading.region ≡ region
  pub no_round : reading.round ≡ 0
  pub no_clock : reading.clock ≡ 0
  pub cells_are : map (λ p. p.0) reading.cells ≡ cells region
  pub ports_are : map (λ p. p.0) reading.ports ≡ ports region

-- one for each region
pub record AreReadings (regions : ℕ) (cells ports : ℕ → List ℕ) (readings : List Reading) : Type 0 where
  pub len : length readings ≡ regions
  pub each : EachAt (HasPlaces cells ports) readings

-- the lists, with this place at the end of those of the regions that pass the test
abbrev pub listed : (ℕ → Bool) → ℕ → (ℕ → List ℕ) → ℕ → List ℕ
listed test place lists region = lists region ++ cond (test region) (place ∷ []) []
