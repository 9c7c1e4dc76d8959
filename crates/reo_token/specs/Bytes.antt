-- Kinds of bytes.
use Rattle.std.specs.Prelude.{ℕ, ◌==◌, nat_le, Bool, ◌&&◌, ◌||◌}
use Rattle.reo_token.specs.declared.bytes.TheConstants.{SPACE, TAB, QUOTE, BACKSLASH}

-- A to Z, a to z, or _
abbrev pub is_letter : ℕ → Bool
is_letter byte = (nat_le 65 byte && nat_le byte 90) || (nat_le 97 byte && nat_le byte 122) || (byte == 95)

-- 0 to 9
abbrev pub is_digit : ℕ → Bool
is_digit byte = nat_le 48 byte && nat_le byte 57

abbrev pub is_word_byte : ℕ → Bool
is_word_byte byte = is_letter byte || is_digit byte

abbrev pub is_blank : ℕ → Bool
is_blank byte = (byte == SPACE) || (byte == TAB)

-- behind a backslash in a text: a quote, a backslash, n or t
abbrev pub can_be_escaped : ℕ → Bool
can_be_escaped byte = (byte == QUOTE) || (byte == BACKSLASH) || (byte == 110) || (byte == 116)
