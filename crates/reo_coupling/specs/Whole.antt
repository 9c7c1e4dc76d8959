-- What the words and views stand for, and what it is to keep it.
use Rattle.std.specs.Prelude.{ℕ, ◌<◌}
use Rattle.reo_coupling.specs.Moment.{Setting, Moment}
use Rattle.reo_coupling.specs.Parts.{HasItsWords, AreNamed, AreCounted, IsLawful, CellsShow, NotesStand, DuesAreOfTheLast, KeepsTheLimit, RoundsAreTold}
use Rattle.reo_coupling.specs.PortParts.{PortsStand, OffersAreNoted, StoresComeFirst, AnswersAreOfTheLast, CallsStand, PartiesAreNamed}

-- The words and views at a moment stand for its history.
pub record StandsFor (setting : Setting) (moment : Moment) : Type 0 where
  pub sized : HasItsWords setting moment
  pub named : AreNamed setting moment
  pub counted : AreCounted setting moment
  pub lawful : IsLawful setting moment
  pub cells : CellsShow setting moment
  pub notes : NotesStand setting moment
  pub dues : DuesAreOfTheLast setting moment
  pub limit : KeepsTheLimit setting moment
  pub rounds : RoundsAreTold setting moment
  pub ports : PortsStand setting moment
  pub offers : OffersAreNoted setting moment
  pub stores : StoresComeFirst setting moment
  pub answers : AnswersAreOfTheLast setting moment
  pub calls : CallsStand setting moment
  pub parties : PartiesAreNamed setting moment

-- where the words stand for the history before a step of a region, the part holds after it
abbrev pub KeepsPart : (Setting → ℕ → Moment → Moment → Type 0) → (Setting → Moment → Type 0) → Type 0
KeepsPart Step Part =
    (setting : Setting) (region : ℕ) (before after : Moment) → region < setting.fabric.regions → StandsFor setting before → Step setting region before after → Part setting after

-- A step keeps each part that speaks of cells, rounds and the history,
pub record KeepsCellParts (Step : Setting → ℕ → Moment → Moment → Type 0) : Type 0 where
  pub sized : KeepsPart Step HasItsWords
  pub named : KeepsPart Step AreNamed
  pub counted : KeepsPart Step AreCounted
  pub lawful : KeepsPart Step IsLawful
  pub cells : KeepsPart Step CellsShow
  pub notes : KeepsPart Step NotesStand
  pub dues : KeepsPart Step DuesAreOfTheLast
  pub limit : KeepsPart Step KeepsTheLimit
  pub rounds : KeepsPart Step RoundsAreTold

-- and each part that speaks of ports.
pub record KeepsPortParts (Step : Setting → ℕ → Moment → Moment → Type 0) : Type 0 where
  pub ports : KeepsPart Step PortsStand
  pub offers : KeepsPart Step OffersAreNoted
  pub stores : KeepsPart Step StoresComeFirst
  pub answers : KeepsPart Step AnswersAreOfTheLast
  pub calls : KeepsPart Step CallsStand
  pub parties : KeepsPart Step PartiesAreNamed

-- A step keeps each part. So after it the words stand for the history again.
pub record KeepsEachPart (Step : Setting → ℕ → Moment → Moment → Type 0) : Type 0 where
  pub of_cells : KeepsCellParts Step
  pub of_ports : KeepsPortParts Step
