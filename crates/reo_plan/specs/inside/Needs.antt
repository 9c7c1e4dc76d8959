-- Which ports have offers, by the remainders of their numbers.
use Rattle.std.specs.Prelude.{ℕ, ◌%◌, nat_eq, ◌&&◌, Bool, List}
use Rattle.std.specs.List.{list_any}

-- the port's number has this remainder by 64, and something is offered there
abbrev pub offers_at : ℕ → ℕ × ℕ × ℕ → Bool
offers_at remainder words = nat_eq (words.0 % 64) remainder && nat_eq words.1 1

-- so it is with some port
abbrev pub some_offer : List (ℕ × ℕ × ℕ) → ℕ → Bool
some_offer ports remainder = list_any (offers_at remainder) ports
