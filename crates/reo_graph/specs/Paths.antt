-- Paths along edges, and loops.
use Rattle.std.specs.Prelude.{◌≡◌, ℕ, ◌≤◌, Bool, true, ◌&&◌, List, nat_eq, Option, Some, None}
use Rattle.std.specs.List.{list_any}

-- one edge or more lead from i to a vertex
pub data Path (edge : ℕ → ℕ → Bool) (i : ℕ) : ℕ → Type 0 where
  one : {j : ℕ} → edge i j ≡ true → Path edge i j
  more : {j k : ℕ} → Path edge i j → edge j k ≡ true → Path edge i k

-- whether one of these edges leads from i to j
abbrev pub has_edge : List (ℕ × ℕ) → ℕ → ℕ → Bool
has_edge edges i j = list_any (λ edge. nat_eq edge.0 i && nat_eq edge.1 j) edges

-- a path along these edges leads from the vertex back to it
abbrev pub IsOnLoop : List (ℕ × ℕ) → ℕ → Type 0
IsOnLoop edges vertex = Path (has_edge edges) vertex vertex

-- the least number of which P holds, if there is any
abbrev pub IsLeast : (ℕ → Type 0) → Option ℕ → Type 0
IsLeast P None = (n : ℕ) → P n → ⊥
IsLeast P (Some n) = P n × ((m : ℕ) → P m → n ≤ m)
