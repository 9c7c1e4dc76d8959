-- What the pushes do to a buffer. They fail only where its room is missing, and its room never shrinks.
use Rattle.std.specs.Prelude.{◌≡◌, ℕ, ◌+◌, ◌<◌, ◌≤◌, List, ◌++◌, length, take, Result, Ok, Err, Vec, vec_len, vec_capacity}

-- the buffer has the text at its end
pub record HasTaken {Z : Type 0} (old new : Vec ℕ Z) (text : List ℕ) : Type 0 where
  pub items : new.items ≡ old.items ++ text
  pub len : vec_len new ≡ vec_len old + length text
  pub capacity : vec_capacity old ≤ vec_capacity new

-- the buffer had no room for the text
pub record LacksRoom {Z : Type 0} (old new : Vec ℕ Z) (text : List ℕ) : Type 0 where
  pub full : vec_capacity old < vec_len old + length text
  pub len : vec_len old ≤ vec_len new
  pub capacity : vec_capacity old ≤ vec_capacity new

abbrev pub Takes : {Z T E : Type 0} → Vec ℕ Z → Vec ℕ Z → Result T E → List ℕ → Type 0
Takes old new (Ok done) text = HasTaken old new text
Takes old new (Err error) text = LacksRoom old new text

-- the text stands behind the bytes that were used, and those up to its end are used now
pub record HasWritten (old : List ℕ) (used : ℕ) (new : List ℕ) (end : ℕ) (text : List ℕ) : Type 0 where
  pub items : take end new ≡ take used old ++ text
  pub len : end ≡ used + length text
  pub within : end ≤ length new
