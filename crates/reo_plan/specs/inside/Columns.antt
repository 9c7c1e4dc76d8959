-- The rows of a table as bits, a word for each 64 of them.
use Rattle.std.specs.Prelude.{◌≡◌, ℕ, ◌+◌, ◌*◌, ◌/◌, ◌%◌, ◌<◌, List, [], get_or, slice_get, Bool, true, not}
use Rattle.std.specs.Option.{option_map_or}
use Rattle.std.specs.Int.{bit_at}
use Rattle.reo_growth.specs.Lists.{has}
use Rattle.reo_plan.specs.declared.asks.Asks.{Asks}

-- the words have no bit of a row that passes
abbrev pub MissesRows : (ℕ → Bool) → List ℕ → Type 0
MissesRows p words = (row : ℕ) → p row ≡ true → bit_at (get_or words (row / 64) 0) (row % 64) ≡ 0

-- the bit of a row in the column of a number: 64 words are a column
abbrev pub column_bit : List ℕ → ℕ → ℕ → ℕ
column_bit columns number row = bit_at (get_or columns (64 * number + row / 64) 0) (row % 64)

-- no column has the bit of one of the first 4,096 rows that passes with the column's number
abbrev pub MissesAsks : (ℕ → ℕ → Bool) → List ℕ → Type 0
MissesAsks p columns = (number row : ℕ) → row < 4096 → p number row ≡ true → column_bit columns number row ≡ 0

-- the numbers that a row asks
abbrev pub numbers_at : List Asks → ℕ → List ℕ
numbers_at asks row = option_map_or (λ own. own.numbers) (slice_get asks row) []

-- each column has bits of rows alone that ask its number
abbrev pub AreColumns : List Asks → List ℕ → Type 0
AreColumns asks columns = MissesAsks (λ number row. not (has (numbers_at asks row) number)) columns
