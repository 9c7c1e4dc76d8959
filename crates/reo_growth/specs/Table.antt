-- The firings of a web, and how they are listed.
use Rattle.std.specs.Prelude.{◌≡◌, ℕ, ◌<◌, ◌≤◌, ◌⊎◌, List, length, Bool}
use Rattle.std.specs.Ordering.{ordering_then, nat_cmp}
use Rattle.std.specs.declared.cmp.Ordering.{Ordering}
use Rattle.std.specs.Cmp.Lexicographic.{slice_cmp}
use Rattle.std.specs.List.Sorted.{IsStrictlyIncreasing, IsStrictlySortedBy}
use Rattle.reo_growth.specs.declared.web.Web.{Web}
use Rattle.reo_growth.specs.declared.table.TableRefusal.{TableRefusal}
use Rattle.reo_growth.specs.declared.table.TableRefusal.TheVariants.{TooLarge, NoMemory}
use Rattle.reo_growth.specs.Lists.{has, Among, AtMostOne}
use Rattle.reo_growth.specs.Web.{IsConnected}
use Rattle.reo_growth.specs.Growth.{growth_count}

-- table order: more names come first; of equally many, the lesser rising list
abbrev pub table_cmp : List ℕ → List ℕ → Ordering
table_cmp one other = ordering_then (nat_cmp (length other) (length one)) (slice_cmp nat_cmp one other)

-- these names, which rise, are a connected firing
pub record IsFiring (w : Web) (names : List ℕ) : Type 0 where
  pub connected : IsConnected w (has names)
  pub rising : IsStrictlyIncreasing names

-- these are the connected firings of the web, each once
pub record AreFirings (w : Web) (firings : List (List ℕ)) : Type 0 where
  pub only : (names : List ℕ) → Among names firings → IsFiring w names
  pub all : (F : ℕ → Bool) → IsConnected w F → (names : List ℕ) × Among names firings × ((name : ℕ) → has names name ≡ F name)
  pub once : (names : List ℕ) → AtMostOne (λ other. other ≡ names) firings

-- how many connected firings there are
pub record HasFirings (w : Web) (count : ℕ) : Type 0 where
  pub firings : List (List ℕ)
  pub are_all : AreFirings w firings
  pub are_so_many : length firings ≡ count

-- The connected firings, each once, in table order, where neither they nor the vertices are too many.
pub record IsTableOf (w : Web) (growth : ℕ) (firings : List (List ℕ)) : Type 0 where
  pub counted : growth ≡ growth_count w
  pub grown : growth ≤ 65536
  pub listed : AreFirings w firings
  pub few : length firings ≤ 4096
  pub ordered : IsStrictlySortedBy table_cmp firings

-- why a web has no table: there are more than 65,536 vertices, and then 65,537 is told; or else more than 4,096 connected
-- firings, and then their number
abbrev pub Refuses : Web → TableRefusal → Type 0
Refuses w (TooLarge count) = ((65536 < growth_count w) × (count ≡ 65537)) ⊎ ((growth_count w ≤ 65536) × (4096 < count) × HasFirings w count)
Refuses w NoMemory = Unit {0}
