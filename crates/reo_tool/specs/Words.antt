-- What the words of a call ask for.
use Rattle.std.specs.Prelude.{ℕ, ◌≤◌, ◌==◌, nat_lt, nat_le, if◌then◌else◌, Bool, ◌&&◌, ◌||◌, List, [], ◌∷◌, length, slice_index, Option, Some, None, codes}
use Rattle.std.specs.List.{list_all}
use Rattle.std.specs.Option.{option_map}
use Rattle.std.specs.Str.{bytes_eq}
use Rattle.std.specs.Str.Parse.{digits_value}
use Rattle.reo_tool.specs.declared.command.Command.{Command}
use Rattle.reo_tool.specs.declared.command.Command.TheVariants.{Run, Show, Plan}

-- the most steps of a run
abbrev pub most_steps : ℕ
most_steps = 100000

-- 0 to 9
abbrev pub is_digit : ℕ → Bool
is_digit byte = nat_le 48 byte && nat_le byte 57

-- digits, of which the first is above 0 or the only one
abbrev pub is_numeral : List ℕ → Bool
is_numeral word = list_all is_digit word && (nat_lt 48 (slice_index word 0) || (length word == 1))

-- a number from 1 to the most steps
abbrev pub limit_from : ℕ → Option ℕ
limit_from number = if nat_le 1 number && nat_le number most_steps then Some number else None

-- the limit that a word spells, with no sign and no leading zero
abbrev pub limit_of : List ℕ → Option ℕ
limit_of word = if is_numeral word then limit_from (digits_value 10 word) else None

abbrev pub one_word : List ℕ → Option Command
one_word command = if bytes_eq command (codes "show") then Some Show else (if bytes_eq command (codes "plan") then Some Plan else None)

abbrev pub two_words : List ℕ → List ℕ → Option Command
two_words command flag = if bytes_eq command (codes "run") && bytes_eq flag (codes "--plain") then Some (Run most_steps) else None

-- `--plain` and `--limit N`, in any order
abbrev pub flags : List ℕ → List ℕ → List ℕ → Option Command
flags first second third =
    if bytes_eq first (codes "--plain") && bytes_eq second (codes "--limit") then option_map Run (limit_of third)
    else (if bytes_eq first (codes "--limit") && bytes_eq third (codes "--plain") then option_map Run (limit_of second) else None)

abbrev pub four_words : List ℕ → List ℕ → List ℕ → List ℕ → Option Command
four_words command first second third = if bytes_eq command (codes "run") then flags first second third else None

-- what the words ask for, if it is something
abbrev pub command_of : List (List ℕ) → Option Command
command_of (command ∷ []) = one_word command
command_of (command ∷ flag ∷ []) = two_words command flag
command_of (command ∷ first ∷ second ∷ third ∷ []) = four_words command first second third
command_of words = None

-- a run has at least one step to make, and no more than there may be
abbrev pub HasRoom : Command → Type 0
HasRoom (Run limit) = (1 ≤ limit) × (limit ≤ most_steps)
HasRoom Show = Unit {0}
HasRoom Plan = Unit {0}
