-- The lines of a text.
use Rattle.std.specs.Prelude.{ℕ, ◌-◌, ◌==◌, if◌then◌else◌, Bool, false, List, [], ◌∷◌, length, map, take, slice_get, Option, Some, None}

-- a byte before some lines: it belongs to the first of them
abbrev pub onto_first : ℕ → List (List ℕ) → List (List ℕ)
onto_first byte [] = (byte ∷ []) ∷ []
onto_first byte (line ∷ lines) = (byte ∷ line) ∷ lines

-- what stands between the LFs (10), before the first one and behind the last
unfoldable pub parts_of : List ℕ → List (List ℕ)
parts_of [] = [] ∷ []
parts_of (byte ∷ bytes) = if byte == 10 then [] ∷ parts_of bytes else onto_first byte (parts_of bytes)

abbrev pub ends_in_cr : Option ℕ → Bool
ends_in_cr None = false
ends_in_cr (Some byte) = byte == 13

-- a line without the CR (13) at its end, if it has one there
abbrev pub without_end : List ℕ → List ℕ
without_end line = if ends_in_cr (slice_get line (length line - 1)) then take (length line - 1) line else line

abbrev pub lines_of : List ℕ → List (List ℕ)
lines_of bytes = map without_end (parts_of bytes)

-- the lines that follow a line
abbrev pub lines_behind : Option (List ℕ) → List (List ℕ)
lines_behind None = []
lines_behind (Some bytes) = lines_of bytes
