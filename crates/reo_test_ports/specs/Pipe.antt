-- A region that hands on what one party puts to another party that gets.
use Rattle.std.specs.Prelude.{◌≡◌, ℕ, [], ◌∷◌, Some}
use Rattle.reo_value.specs.declared.value.Value.{Value}
use Rattle.reo_value.specs.Code.{code_of, IsValue}
use Rattle.reo_value.specs.declared.op.Way.TheVariants.{Put, Get}
use Rattle.reo_fabric.specs.declared.entry.Entry.{Entry}
use Rattle.reo_fabric.specs.declared.fabric.Fabric.{Fabric}
use Rattle.reo_coupling.specs.Parts.{NothingDue}
use Rattle.reo_coupling.specs.PortParts.{OwesNothing}
use Rattle.reo_table.specs.Shared.{WordsState, SeatState, RootState}
use Rattle.reo_port.specs.Party.{PartyValue, IsPartyOf}

-- one region and no cell; party 0 puts at port 0, and party 1 gets at port 1
abbrev pub pipe : Fabric
pipe = record {
  regions = 1;
  parties = 2;
  cells = [];
  ports = record { way = Put; region = 0; owner = Some 0 } ∷ record { way = Get; region = 0; owner = Some 1 } ∷ [];
}

-- the entry that hands a value on
abbrev pub piped : Value → Entry
piped value = record { region = 0; choice = 0; takes = []; fills = []; puts = (0, value) ∷ []; gets = (1, value) ∷ [] }

-- the seat is that of the region of a pipe
pub record IsOfPipe (words : WordsState) (seat : SeatState) : Type 0 where
  pub own : seat.id ≡ words.id
  pub region_is : seat.view.cells.region ≡ 0
  pub fabric : words.setting.fabric ≡ pipe

-- the region can hand on
pub record CanServe (words : WordsState) (seat : SeatState) : Type 0 where
  pub pipe_is : IsOfPipe words seat
  pub quiet : OwesNothing seat.view

-- the region has to store the value of the get, which has this code, and both answers
pub record OwesAnswers (words : WordsState) (seat : SeatState) (code number : ℕ) : Type 0 where
  pub pipe_is : IsOfPipe words seat
  pub value : Value
  pub real : IsValue value
  pub code_is : code_of value ≡ code
  pub cells : NothingDue seat.view.cells
  pub gots : seat.view.ports.gots_due ≡ (1, value) ∷ []
  pub answers : seat.view.ports.answers_due ≡ (0, number) ∷ (1, number) ∷ []
  pub last : seat.view.ports.last ≡ number

-- the words of a pipe with the seats that their root gave away
pub record IsOpen (words : WordsState) (root : RootState) (seat : SeatState) (putter getter : PartyValue) : Type 0 where
  pub root_own : root.id ≡ words.id
  pub region : CanServe words seat
  pub putter_own : IsPartyOf words putter
  pub getter_own : IsPartyOf words getter
