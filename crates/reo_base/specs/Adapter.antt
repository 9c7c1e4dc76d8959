use Rattle.std.specs.Prelude.{ℕ}

-- a stream of std, and how many of its calls have failed
pub record Adapter (R : Type 0) : Type 0 where
  pub inner : R
  pub faults : ℕ
