use Rattle.std.specs.Prelude.{◌≡◌, ℕ, ◌+◌, ◌-◌, ◌*◌, ◌%◌, ◌^◌, ◌<◌, ◌⊎◌, pos, negsuc}
use Rattle.reo_value.specs.Num.{IsNumber}
use Rattle.reo_value.specs.declared.value.Value.{Value}
use Rattle.reo_value.specs.declared.value.Value.TheVariants.{Int, Sym}

-- the code of a value: an odd number for an integer, an even one from 2 on for a text
abbrev pub code_of : Value → ℕ
code_of (Int (pos n)) = 2 * (n + 2 ^ 62) + 1
code_of (Int (negsuc n)) = 2 * (2 ^ 62 - (n + 1)) + 1
code_of (Sym text) = 2 * (text + 1)

-- a value of the program: its integer is in range, and its text has a number of 32 bits
abbrev pub IsValue : Value → Type 0
IsValue (Int number) = IsNumber number
IsValue (Sym text) = text < 2 ^ 32

-- a word that is no value's code: 0, or an even one past the last text's
abbrev pub IsNoCode : ℕ → Type 0
IsNoCode word = (word ≡ 0) ⊎ ((word % 2 ≡ 0) × (2 ^ 33 < word))

-- no two values have one code
abbrev pub CodesDiffer : Type 0
CodesDiffer = (v w : Value) → IsValue v → IsValue w → code_of v ≡ code_of w → v ≡ w

-- the code of each value is a word of 64 bits that is a code
abbrev pub CodesAreWords : Type 0
CodesAreWords = (v : Value) → IsValue v → (code_of v < 2 ^ 64) × ¬ IsNoCode (code_of v)

-- each other word of 64 bits is the code of a value
abbrev pub WordsAreCodes : Type 0
WordsAreCodes = (word : ℕ) → word < 2 ^ 64 → ¬ IsNoCode word → (v : Value) × (IsValue v × (code_of v ≡ word))
