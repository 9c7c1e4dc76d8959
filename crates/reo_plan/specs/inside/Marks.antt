-- Words of bits that tell which of the first facts are so, and which are not.
use Rattle.std.specs.Prelude.{◌≡◌, ℕ, ◌^◌, ◌<◌, List, Bool, true, not}
use Rattle.std.specs.List.{list_all}
use Rattle.std.specs.Int.{bit_at}
use Rattle.std.specs.Int.RustNames.{bit_and}
use Rattle.reo_growth.specs.Lists.{has}
use Rattle.reo_plan.specs.declared.marks.Marks.{Marks}

-- the word has no bit of a number that passes the test
abbrev pub Misses : (ℕ → Bool) → ℕ → Type 0
Misses p word = (j : ℕ) → p j ≡ true → bit_and word (2 ^ j) ≡ 0

-- what is marked as met passes the test, and what is marked as failed does not
pub record AreMarks (p : ℕ → Bool) (marks : Marks) : Type 0 where
  pub met : Misses (λ j. not (p j)) marks.met
  pub failed : Misses p marks.failed

-- where all of the numbers pass a test, the mask shares no bit with a word that misses what passes
abbrev pub IsMask : List ℕ → ℕ → Type 0
IsMask numbers mask = (p : ℕ → Bool) (word : ℕ) → Misses p word → list_all p numbers ≡ true → bit_and word mask ≡ 0

-- each of these numbers that is below 64 has its bit in the mask
abbrev pub IsMarked : List ℕ → ℕ → Type 0
IsMarked numbers mask = (n : ℕ) → has numbers n ≡ true → n < 64 → bit_at mask n ≡ 1
