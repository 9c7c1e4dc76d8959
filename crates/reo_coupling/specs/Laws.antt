-- What follows from the parts.
use Rattle.std.specs.Prelude.{◌≡◌, ℕ, ◌<◌, List, map, slice_get, Option, Some, None, nat_eq, if◌then◌else◌}
use Rattle.reo_fabric.specs.declared.entry.Entry.{Entry}
use Rattle.reo_fabric.specs.declared.entry.Numbered.{Numbered}
use Rattle.reo_fabric.specs.Entry.{Agrees, at_place, RisesFrom, carried_out}
use Rattle.reo_coupling.specs.Moment.{Setting, Moment, state_of}
use Rattle.reo_coupling.specs.Parts.{view_of, AreCounted}
use Rattle.reo_coupling.specs.Whole.{StandsFor}
use Rattle.reo_coupling.specs.Steps.{Begins, ReadsClock, SeesCell, SeesPort, SeesOffer, Commits, SetsCell, SetsGot, Answers}

-- entries by their numbers
abbrev pub by_number : List Numbered → List (ℕ × Entry)
by_number entries = map (λ x. (x.number, x.entry)) entries

-- the entry, where it is of the region
abbrev pub entry_of : ℕ → Option Entry → Option Entry
entry_of region None = None
entry_of region (Some entry) = if nat_eq region entry.region then Some entry else None

-- The numbers in a region's list rise. At each number stands the history's entry of that number, where it is of the region, and
-- else none. So each number below the commit word is in the list of one region, the one of its entry, and no other number is
-- in a list.
pub record EachNumberStandsOnce (setting : Setting) (moment : Moment) : Type 0 where
  pub rise : (region : ℕ) → region < setting.fabric.regions → RisesFrom 0 (by_number (view_of moment region).entries)
  pub entries : (region number : ℕ) → region < setting.fabric.regions → at_place (by_number (view_of moment region).entries) number ≡ entry_of region (slice_get moment.history number)

abbrev pub NumbersStandOnce : Type 0
NumbersStandOnce = (setting : Setting) (moment : Moment) → AreCounted setting moment → EachNumberStandsOnce setting moment

abbrev pub LeavesTheHistory : (Setting → ℕ → Moment → Moment → Type 0) → Type 0
LeavesTheHistory Step =
    (setting : Setting) (region : ℕ) (before after : Moment) → Step setting region before after → (after.history ≡ before.history) × (state_of setting after ≡ state_of setting before)

-- A commit carries its entry out, which agrees with the state.
abbrev pub CommitsCarryOut : Type 0
CommitsCarryOut =
    (setting : Setting) (region : ℕ) (before after : Moment) → region < setting.fabric.regions → StandsFor setting before → (step : Commits setting region before after)
    → Agrees (state_of setting before) step.entry × (state_of setting after ≡ carried_out (state_of setting before) step.entry)

-- Only commits change the history and the state.
pub record OnlyCommitsChangeTheState : Type 0 where
  pub begins : LeavesTheHistory Begins
  pub reads_clock : LeavesTheHistory ReadsClock
  pub sees_cell : LeavesTheHistory SeesCell
  pub sees_port : LeavesTheHistory SeesPort
  pub sees_offer : LeavesTheHistory SeesOffer
  pub sets_cell : LeavesTheHistory SetsCell
  pub sets_got : LeavesTheHistory SetsGot
  pub answers : LeavesTheHistory Answers
  pub commits : CommitsCarryOut
