-- The table of a region.
use Rattle.std.specs.Prelude.{◌≡◌, ℕ, ◌<◌, ◌≤◌, ◌⊎◌, List, length, Bool}
use Rattle.std.specs.List.Sorted.{IsStrictlyIncreasing, IsStrictlySortedBy}
use Rattle.reo_net.specs.declared.circuit.RawCircuit.{RawCircuit}
use Rattle.reo_net.specs.Regions.{Automaton, IsConnectedFiring}
use Rattle.reo_growth.specs.Lists.{has, Among, AtMostOne}
use Rattle.reo_growth.specs.Table.{table_cmp}
use Rattle.reo_product.specs.declared.table.Firing.{Firing}
use Rattle.reo_product.specs.declared.table.ProductRefusal.{ProductRefusal}
use Rattle.reo_product.specs.declared.table.ProductRefusal.TheVariants.{TooLarge, NoMemory}
use Rattle.reo_product.specs.Growth.{HasGrowth}

-- these names, which rise, are a connected firing of the region
pub record IsFiring (c : RawCircuit) (root : Automaton) (names : List ℕ) : Type 0 where
  pub connected : IsConnectedFiring c root (has names)
  pub rising : IsStrictlyIncreasing names

-- these are the connected firings of the region, each once
pub record AreFirings (c : RawCircuit) (root : Automaton) (firings : List (List ℕ)) : Type 0 where
  pub only : (names : List ℕ) → Among names firings → IsFiring c root names
  pub all : (fires : ℕ → Bool) → IsConnectedFiring c root fires → (names : List ℕ) × Among names firings × ((name : ℕ) → has names name ≡ fires name)
  pub once : (names : List ℕ) → AtMostOne (λ other. other ≡ names) firings

-- there are so many connected firings
pub record HasFirings (c : RawCircuit) (root : Automaton) (count : ℕ) : Type 0 where
  pub firings : List (List ℕ)
  pub are_all : AreFirings c root firings
  pub are_so_many : length firings ≡ count

-- The connected firings of a region, each once, in table order, where neither they nor the vertices are too many.
pub record IsTableOf (c : RawCircuit) (root : Automaton) (growth : ℕ) (firings : List (List ℕ)) : Type 0 where
  pub counted : HasGrowth c root growth
  pub grown : growth ≤ 65536
  pub listed : AreFirings c root firings
  pub few : length firings ≤ 4096
  pub ordered : IsStrictlySortedBy table_cmp firings

-- why a region has no table: more than 65,536 vertices grow in it, and then 65,537 is told; or else there are more than
-- 4,096 connected firings, and then their number
abbrev pub IsTooLarge : RawCircuit → Automaton → ℕ → Type 0
IsTooLarge c root count =
    ((growth : ℕ) × HasGrowth c root growth × (65536 < growth) × (count ≡ 65537))
    ⊎ ((growth : ℕ) × HasGrowth c root growth × (growth ≤ 65536) × (4096 < count) × HasFirings c root count)

-- what a firing fires
abbrev pub names_in : Firing → List ℕ
names_in firing = firing.names

-- why there is no table
abbrev pub Refuses : RawCircuit → Automaton → ℕ → ProductRefusal → Type 0
Refuses c root region (TooLarge number count) = (number ≡ region) × IsTooLarge c root count
Refuses c root region NoMemory = Unit {0}
