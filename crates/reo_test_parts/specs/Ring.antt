-- Two regions that pass one datum round, through two cells.
use Rattle.std.specs.Prelude.{◌≡◌, ◌≢◌, ℕ, [], ◌∷◌, ◌++◌, Option, Some, None, pos}
use Rattle.reo_value.specs.declared.value.Value.{Value}
use Rattle.reo_fabric.specs.declared.entry.Entry.{Entry}
use Rattle.reo_value.specs.declared.value.Value.TheVariants.{Int}
use Rattle.reo_fabric.specs.declared.fabric.Fabric.{Fabric}
use Rattle.reo_fabric.specs.Fabric.{IsTaker, IsFiller}
use Rattle.reo_coupling.specs.PortParts.{OwesNothing}
use Rattle.reo_table.specs.Shared.{WordsState, SeatState}

-- region 1 takes from cell 0 and fills cell 1, and region 0 the other way; cell 0 has a 7 in it
abbrev pub ring : Fabric
ring = record {
  regions = 2;
  parties = 0;
  cells = record { filler = 0; taker = 1; first = Some (Int (pos 7)) } ∷ record { filler = 1; taker = 0; first = None } ∷ [];
  ports = [];
}

-- the seat's region takes from one cell and fills another, and owes nothing
pub record CanPass (words : WordsState) (seat : SeatState) (region from to : ℕ) : Type 0 where
  pub own : seat.id ≡ words.id
  pub region_is : seat.view.cells.region ≡ region
  pub taker : IsTaker words.setting.fabric region from
  pub filler : IsFiller words.setting.fabric region to
  pub apart : from ≢ to
  pub quiet : OwesNothing seat.view

-- the entry that moves a value from one cell to another
abbrev pub moved : ℕ → ℕ → ℕ → Value → Entry
moved region from to value = record { region = region; choice = 0; takes = (from, value) ∷ []; fills = (to, value) ∷ []; puts = []; gets = [] }

-- a value was moved by an entry with this number
pub record Moved (old new : SeatState) (region from to number : ℕ) : Type 0 where
  pub value : Value
  pub entries : new.view.cells.entries ≡ old.view.cells.entries ++ record { number = number; entry = moved region from to value } ∷ []

-- what came of a turn: an entry more, or none
abbrev pub Turned : SeatState → SeatState → ℕ → ℕ → ℕ → Option ℕ → Type 0
Turned old new region from to None = new.view.cells.entries ≡ old.view.cells.entries
Turned old new region from to (Some number) = Moved old new region from to number

-- both regions of the ring are ready to move data
pub record IsOpen (words : WordsState) (zero one : SeatState) : Type 0 where
  pub zero_can : CanPass words zero 0 1 0
  pub one_can : CanPass words one 1 0 1
