-- Paths by way of the first vertices alone, which can be decided, and the rank of a vertex.
use Rattle.std.specs.Prelude.{◌≡◌, ℕ, zero, suc, ◌+◌, ◌<◌, Bool, true, false, ◌||◌, ◌&&◌, List, [], map, slice_index_or, cond, Vec}
use Rattle.std.specs.Global.{Global}

-- whether a path leads from i to j whose vertices between the two are all below n
unfoldable pub goes : (ℕ → ℕ → Bool) → ℕ → ℕ → ℕ → Bool
goes edge zero i j = edge i j
goes edge (suc n) i j = goes edge n i j || (goes edge n i n && goes edge n n j)

-- edges join numbers below n alone
abbrev pub AreBelow : (ℕ → ℕ → Bool) → ℕ → Type 0
AreBelow edge n = (i j : ℕ) → edge i j ≡ true → (i < n) × (j < n)

-- how many numbers below n pass the test
unfoldable pub count_below : (ℕ → Bool) → ℕ → ℕ
count_below test zero = 0
count_below test (suc n) = cond (test n) 1 0 + count_below test n

-- from how many vertices below n a path leads to the vertex
abbrev pub rank : (ℕ → ℕ → Bool) → ℕ → ℕ → ℕ
rank edge n vertex = count_below (λ i. goes edge n i vertex) n

-- the marks of a table, row by row
abbrev pub rows : List (Vec Bool Global) → List (List Bool)
rows table = map (λ row. row.items) table

-- whether a row has a mark at place j
abbrev pub mark : List Bool → ℕ → Bool
mark row j = slice_index_or row j false

-- whether the table has one in row i at place j
abbrev pub bit : List (List Bool) → ℕ → ℕ → Bool
bit table i j = mark (slice_index_or table i []) j
