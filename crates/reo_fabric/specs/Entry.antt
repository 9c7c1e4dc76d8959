-- What an entry asks of a state, and the state that it leaves.
use Rattle.std.specs.Prelude.{◌≡◌, ℕ, ◌+◌, ◌≤◌, List, [], ◌∷◌, length, map, slice_get, slice_index_or, All, Option, Some, None, nat_eq}
use Rattle.std.specs.List.{range_with_len}
use Rattle.std.specs.Map.{lookup}
use Rattle.reo_value.specs.declared.value.Value.{Value}
use Rattle.reo_fabric.specs.declared.entry.Entry.{Entry}

-- A state has, for each cell, what is in it, or none.
abbrev pub State : Type 0
State = List (Option Value)

-- what is in a cell
abbrev pub content_at : State → ℕ → Option Value
content_at state cell = slice_index_or state cell None

-- a list that has, at each place of this one, what a function gives for the place
abbrev pub at_each_place : {A B : Type 0} → (ℕ → B) → List A → List B
at_each_place f xs = map f (range_with_len 0 (length xs))

-- what the list has at a place
abbrev pub at_place : {A : Type 0} → List (ℕ × A) → ℕ → Option A
at_place places place = lookup (nat_eq place) places

-- the places rise, from `low` on
abbrev pub RisesFrom : {A : Type 0} → ℕ → List (ℕ × A) → Type 0
RisesFrom low [] = Unit {0}
RisesFrom low (p ∷ places) = (low ≤ p.0) × RisesFrom (p.0 + 1) places

-- each cell that is taken from is full, of that value, and each that is filled is empty
pub record Agrees (state : State) (entry : Entry) : Type 0 where
  pub takes : All (λ p. slice_get state p.0 ≡ Some (Some p.1)) entry.takes
  pub fills : All (λ p. slice_get state p.0 ≡ Some None) entry.fills

-- what is in a cell after an entry, by what it takes from the cell and what it fills it with
abbrev pub content_after : Option Value → Option Value → Option Value → Option Value
content_after (Some taken) fill held = None
content_after None (Some filled) held = Some filled
content_after None None held = held

-- the state after an entry: the cells that it takes from are empty, and those that it fills are full
abbrev pub carried_out : State → Entry → State
carried_out state entry =
    at_each_place (λ cell. content_after (at_place entry.takes cell) (at_place entry.fills cell) (content_at state cell)) state
