-- Bytes that stand between quotes as they are.
use Rattle.std.specs.Prelude.{ℕ, ◌==◌, if◌then◌else◌, Bool, true, false}

abbrev pub is_plain : ℕ → Bool
is_plain byte = if byte == 34 then false else (if byte == 92 then false else (if byte == 10 then false else (if byte == 9 then false else true)))
