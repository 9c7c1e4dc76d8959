-- Parents in place of labels, while regions are joined: each number leads to a lesser one of its region, or is the least of it.
use Rattle.std.specs.Prelude.{◌≡◌, ℕ, ◌<◌, ◌≤◌, List, length}
use Rattle.reo_cut.specs.Labels.{label_at, AreLabels}

-- no parent is greater than its number
abbrev pub DoNotRise : List ℕ → Type 0
DoNotRise parents = (x : ℕ) → x < length parents → label_at parents x ≤ x

-- the parents lead to these labels
pub record LeadTo (labels parents : List ℕ) : Type 0 where
  pub len : length parents ≡ length labels
  pub falls : (x : ℕ) → x < length labels → label_at parents x ≤ x
  pub same : (x : ℕ) → x < length labels → label_at labels (label_at parents x) ≡ label_at labels x
  pub ends : (x : ℕ) → x < length labels → label_at parents x ≡ x → label_at labels x ≡ x

-- they lead to the least of the numbers that pairs link
pub record AreParents (pairs : List (ℕ × ℕ)) (n : ℕ) (parents : List ℕ) : Type 0 where
  pub labels : List ℕ
  pub are : AreLabels pairs n labels
  pub lead : LeadTo labels parents

-- on the way from a number to the least of its region, with parents that lead where the old ones did
pub record IsOnTheWay (number : ℕ) (old parents : List ℕ) (place : ℕ) : Type 0 where
  pub len : length parents ≡ length old
  pub within : place < length parents
  pub falls : DoNotRise parents
  pub kept : (labels : List ℕ) → LeadTo labels old → LeadTo labels parents × (label_at labels place ≡ label_at labels number)

-- the first parents, so many, are labels now, and the others are as they were
pub record IsSettledUpTo (i : ℕ) (old new : List ℕ) : Type 0 where
  pub len : length new ≡ length old
  pub done : (labels : List ℕ) → LeadTo labels old → (k : ℕ) → k < i → label_at new k ≡ label_at labels k
  pub rest : (k : ℕ) → i ≤ k → label_at new k ≡ label_at old k
