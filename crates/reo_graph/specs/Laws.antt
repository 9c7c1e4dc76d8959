-- What the closure decides, and how ranks go.
use Rattle.std.specs.Prelude.{◌≡◌, ℕ, ◌<◌, ◌↔◌, Bool, true}
use Rattle.reo_graph.specs.Paths.{Path}
use Rattle.reo_graph.specs.Closure.{goes, AreBelow, rank}

-- by way of all vertices, it says where paths lead
abbrev pub ClosureDecides : Type 0
ClosureDecides = (edge : ℕ → ℕ → Bool) (n : ℕ) → AreBelow edge n → (i j : ℕ) → (goes edge n i j ≡ true) ↔ Path edge i j

-- where no vertex is on a loop, an edge leads to a greater rank
abbrev pub RanksRise : Type 0
RanksRise =
    (edge : ℕ → ℕ → Bool) (n : ℕ) → AreBelow edge n → ((vertex : ℕ) → Path edge vertex vertex → ⊥) → (i j : ℕ) → edge i j ≡ true → rank edge n i < rank edge n j
