-- The edges of a list as vertices themselves, as the code goes about them.
use Rattle.std.specs.Prelude.{◌≡◌, ℕ, ◌<◌, Bool, true, List, All, map, nat_eq, slice_get, Some}
use Rattle.std.specs.Option.{unwrap_or}
use Rattle.std.specs.Ordering.{nat_cmp, is_eq}
use Rattle.std.specs.Map.{lookup}
use Rattle.reo_graph.specs.Closure.{bit}

-- a mark for each two edges of which one ends where the other begins
abbrev pub following : List (ℕ × ℕ) → List (List Bool)
following edges = map (λ edge. map (λ next. nat_eq edge.1 next.0) edges) edges

-- the rank that the entries of a map have for a vertex, or 0
abbrev pub rank_in : List (ℕ × ℕ) → ℕ → ℕ
rank_in ranks vertex = unwrap_or (lookup (λ key. is_eq (nat_cmp vertex key)) ranks) 0

-- each edge leads to a greater rank
abbrev pub Rise : (ℕ → ℕ) → List (ℕ × ℕ) → Type 0
Rise rank edges = All (λ edge. rank edge.0 < rank edge.1) edges

-- one of the first edges, so many, begins at the vertex, and the table marks it in its own row
pub record IsLooped (edges : List (ℕ × ℕ)) (table : List (List Bool)) (below vertex : ℕ) : Type 0 where
  pub place : ℕ
  pub edge : ℕ × ℕ
  pub within : place < below
  pub found : slice_get edges place ≡ Some edge
  pub begins : edge.0 ≡ vertex
  pub marked : bit table place place ≡ true
