-- What reads and writes do to the bytes that a source has left and a sink holds, and to the count of reads, where these are told.
use Rattle.std.specs.Prelude.{◌≡◌, ℕ, ◌<◌, ◌≤◌, List, [], ◌+◌, ◌++◌, length, Some, IfOk, Result}
use Rattle.std.specs.declared.option.Option.{Option}
use Rattle.std.specs.Io.KnownBytes.{Consumes}
use Rattle.reo_base.specs.Faults.{counted}

-- at `Ok(n)`, n is at most the length of the buffer, and at least 1 where that is not empty
abbrev pub TakesSome : {E : Type 0} → Result ℕ E → List ℕ → Type 0
TakesSome result buf = IfOk result (λ n. (n ≤ length buf) × (0 < length buf → 0 < n))

-- where told, these bytes are all that was left, and nothing is left now
abbrev pub IsReadWhole : Option (List ℕ) → Option (List ℕ) → List ℕ → Type 0
IsReadWhole old new bytes = (input : List ℕ) → old ≡ Some input → (bytes ≡ input) × (new ≡ Some [])

-- where told, the first bytes are gone, and there were this many of them
abbrev pub LosesFirst : Option (List ℕ) → Option (List ℕ) → ℕ → Type 0
LosesFirst old new count = (bytes : List ℕ) × Consumes old new bytes × (length bytes ≡ count)

-- where told, some first bytes are gone, no more than this many
abbrev pub LosesAtMost : Option (List ℕ) → Option (List ℕ) → ℕ → Type 0
LosesAtMost old new most = (bytes : List ℕ) × Consumes old new bytes × (length bytes ≤ most)

-- where told, more than this many bytes are left
abbrev pub HasMoreThan : Option (List ℕ) → ℕ → Type 0
HasMoreThan old count = (input : List ℕ) → old ≡ Some input → count < length input

-- where told, no more than this many bytes are left
abbrev pub HasAtMost : Option (List ℕ) → ℕ → Type 0
HasAtMost old count = (input : List ℕ) → old ≡ Some input → length input ≤ count

-- where told, these bytes were appended
abbrev pub IsExtended : Option (List ℕ) → Option (List ℕ) → List ℕ → Type 0
IsExtended old new bytes = (before : List ℕ) → old ≡ Some before → new ≡ Some (before ++ bytes)

-- where counted, one call more was made
abbrev pub CountsOne : Option ℕ → Option ℕ → Type 0
CountsOne old new = (before : ℕ) → old ≡ Some before → new ≡ Some (counted before)

-- where counted, no more calls than this were made
abbrev pub RisesAtMost : Option ℕ → Option ℕ → ℕ → Type 0
RisesAtMost old new most = (before : ℕ) → old ≡ Some before → (after : ℕ) × (new ≡ Some after) × (after ≤ before + most)
