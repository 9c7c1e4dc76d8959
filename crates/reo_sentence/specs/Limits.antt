-- Numbers out of range, and texts that are too long.
use Rattle.std.specs.Prelude.{ℕ, ℤ, pos, negsuc, nat_lt, nat_le, if◌then◌else◌, Bool, false, ◌&&◌, ◌||◌, not, List, [], ◌∷◌, length, Option, Some, None, is_none, ◌-◌}
use Rattle.std.specs.Option.{option_map, option_and_then}
use Rattle.reo_grammar.specs.Token.{Const, Integer, Phrase}
use Rattle.reo_grammar.specs.Guards.{Atom, Compare, Mod, IsInt, IsText, LenAtMost, Starts, Guard, Test, Both, Either, Fails}
use Rattle.reo_grammar.specs.Functions.{Function, Add, Sub, Mul, Neg, Len, Map}
use Rattle.reo_grammar.specs.Lines.{Kind, SyncKind, LossyKind, DrainKind, FifoKind, FilterKind, TransformKind, Sentence, PortLine, ChannelLine, ComponentLine, PutLine, GetLine}

abbrev pub up_to : ℕ → ℕ → Option ℕ
up_to most n = if nat_le n most then Some n else None

-- from -2^62 to 2^62 - 1
abbrev pub is_number : ℤ → Bool
is_number (pos n) = nat_lt n 4611686018427387904
is_number (negsuc n) = nat_lt n 4611686018427387904

abbrev pub in_range : ℤ → Option ℤ
in_range z = if is_number z then Some z else None

abbrev pub is_wide_number : ℤ → Bool
is_wide_number z = not (is_number z)

-- the natural number that this is, where it is between these
abbrev pub natural_in : ℕ → ℕ → ℤ → Option ℕ
natural_in least most (pos n) = if nat_le least n && nat_le n most then Some n else None
natural_in least most (negsuc n) = None

-- from 1 to 1,000,000, and then from 0 to one less
abbrev pub small_remainder : ℤ → ℤ → Option (ℕ × ℕ)
small_remainder divisor remainder =
    option_and_then (λ d. option_map (λ r. (d, r)) (natural_in 0 (d - 1) remainder)) (natural_in 1 1000000 divisor)

-- from 0 to 255
abbrev pub small_length : ℤ → Option ℕ
small_length most = natural_in 0 255 most

abbrev pub is_wide_const : Const → Bool
is_wide_const (Integer z) = is_wide_number z
is_wide_const (Phrase text) = false

abbrev pub is_wide_atom : Atom → Bool
is_wide_atom (Compare cmp constant) = is_wide_const constant
is_wide_atom (Mod divisor remainder) = is_none (small_remainder divisor remainder)
is_wide_atom IsInt = false
is_wide_atom IsText = false
is_wide_atom (LenAtMost most) = is_none (small_length most)
is_wide_atom (Starts front) = false

unfoldable pub is_wide_guard : Guard → Bool
is_wide_guard (Test atom) = is_wide_atom atom
is_wide_guard (Both left right) = is_wide_guard left || is_wide_guard right
is_wide_guard (Either left right) = is_wide_guard left || is_wide_guard right
is_wide_guard (Fails inner) = is_wide_guard inner

unfoldable pub are_wide_pairs : List (Const × Const) → Bool
are_wide_pairs [] = false
are_wide_pairs (pair ∷ pairs) = (is_wide_const pair.0 || is_wide_const pair.1) || are_wide_pairs pairs

abbrev pub is_wide_function : Function → Bool
is_wide_function (Add more) = is_wide_number more
is_wide_function (Sub less) = is_wide_number less
is_wide_function (Mul factor) = is_wide_number factor
is_wide_function Neg = false
is_wide_function Len = false
is_wide_function (Map pairs) = are_wide_pairs pairs

abbrev pub is_wide_kind : Kind → Bool
is_wide_kind SyncKind = false
is_wide_kind LossyKind = false
is_wide_kind DrainKind = false
is_wide_kind (FifoKind None) = false
is_wide_kind (FifoKind (Some constant)) = is_wide_const constant
is_wide_kind (FilterKind guard) = is_wide_guard guard
is_wide_kind (TransformKind function) = is_wide_function function

-- some number of the line is out of its range
abbrev pub is_wide : Sentence → Bool
is_wide (PortLine way node) = false
is_wide (ChannelLine kind a b) = is_wide_kind kind
is_wide (ComponentLine name) = false
is_wide (PutLine node constant) = is_wide_const constant
is_wide (GetLine node) = false

-- of more than 255 bytes
abbrev pub is_long_text : List ℕ → Bool
is_long_text text = nat_lt 255 (length text)

abbrev pub is_long_const : Const → Bool
is_long_const (Integer z) = false
is_long_const (Phrase text) = is_long_text text

abbrev pub is_long_atom : Atom → Bool
is_long_atom (Compare cmp constant) = is_long_const constant
is_long_atom (Mod divisor remainder) = false
is_long_atom IsInt = false
is_long_atom IsText = false
is_long_atom (LenAtMost most) = false
is_long_atom (Starts front) = is_long_text front

unfoldable pub is_long_guard : Guard → Bool
is_long_guard (Test atom) = is_long_atom atom
is_long_guard (Both left right) = is_long_guard left || is_long_guard right
is_long_guard (Either left right) = is_long_guard left || is_long_guard right
is_long_guard (Fails inner) = is_long_guard inner

unfoldable pub are_long_pairs : List (Const × Const) → Bool
are_long_pairs [] = false
are_long_pairs (pair ∷ pairs) = (is_long_const pair.0 || is_long_const pair.1) || are_long_pairs pairs

abbrev pub is_long_function : Function → Bool
is_long_function (Add more) = false
is_long_function (Sub less) = false
is_long_function (Mul factor) = false
is_long_function Neg = false
is_long_function Len = false
is_long_function (Map pairs) = are_long_pairs pairs

abbrev pub is_long_kind : Kind → Bool
is_long_kind SyncKind = false
is_long_kind LossyKind = false
is_long_kind DrainKind = false
is_long_kind (FifoKind None) = false
is_long_kind (FifoKind (Some constant)) = is_long_const constant
is_long_kind (FilterKind guard) = is_long_guard guard
is_long_kind (TransformKind function) = is_long_function function

-- some text of the line is too long
abbrev pub is_long : Sentence → Bool
is_long (PortLine way node) = false
is_long (ChannelLine kind a b) = is_long_kind kind
is_long (ComponentLine name) = false
is_long (PutLine node constant) = is_long_const constant
is_long (GetLine node) = false
