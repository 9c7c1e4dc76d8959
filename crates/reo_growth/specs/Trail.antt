-- Words that mirror the code of growth: marks that are changed back.
use Rattle.std.specs.Prelude.{◌≡◌, ℕ, ◌<◌, List, [], ◌∷◌, ◌++◌, length, slice_index_or, nat_eq, if◌then◌else◌}
use Rattle.reo_growth.specs.declared.marks.Mark.{Mark}
use Rattle.reo_growth.specs.declared.trail.Old.{Old}
use Rattle.reo_growth.specs.declared.trail.Trail.{Trail}
use Rattle.reo_growth.specs.Lists.{Among}

-- the mark of a place when these changes are changed back: what it was before the first of them
abbrev pub undone : List Old → ℕ → Mark → Mark
undone [] place mark = mark
undone (old ∷ olds) place mark = if nat_eq old.place place then old.mark else undone olds place mark

-- some changes lead from the one to the other, and all of them are logged
pub record Undoes (old new : Trail) : Type 0 where
  pub changes : List Old
  pub logged : new.log.items ≡ old.log.items ++ changes
  pub long : length new.marks.items ≡ length old.marks.items
  pub within : (change : Old) → Among change changes → change.place < length old.marks.items
  pub back : (k : ℕ) (d : Mark) → k < length old.marks.items → undone changes k (slice_index_or new.marks.items k d) ≡ slice_index_or old.marks.items k d

-- marks and log are the same
pub record AreSame (one other : Trail) : Type 0 where
  pub marks : one.marks.items ≡ other.marks.items
  pub log : one.log.items ≡ other.log.items

-- the marks come from some with so many changes
pub record CanUndo (changes : ℕ) (now : Trail) : Type 0 where
  pub before : Trail
  pub so_many : length before.log.items ≡ changes
  pub undoes : Undoes before now

-- from wherever changes led to the one, the other is there again
abbrev pub IsBack : ℕ → Trail → Trail → Type 0
IsBack changes now after = (before : Trail) → length before.log.items ≡ changes → Undoes before now → AreSame before after
