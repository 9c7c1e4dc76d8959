-- Words that mirror the code of growth: a web made ready, and the marks of a list.
use Rattle.std.specs.Prelude.{◌≡◌, ℕ, ◌<◌, ◌^◌, List, length, All, Bool, nat_eq, ◌&&◌, ◌||◌}
use Rattle.std.specs.List.{list_any}
use Rattle.reo_growth.specs.declared.ground.Ground.{Ground}
use Rattle.reo_growth.specs.declared.trail.Marking.{Marking}
use Rattle.reo_growth.specs.declared.web.Web.{Web}
use Rattle.reo_growth.specs.Lists.{has}
use Rattle.reo_growth.specs.Web.{IsWeb}
use Rattle.reo_growth.specs.Growth.{Vertex}
use Rattle.reo_growth.specs.Marks.{AreBelow, AreHolders, automaton_marks, holders_at, name_marks}
use Rattle.reo_growth.specs.Trail.{AreSame}

-- these two names are the ends of the FIFO1
abbrev pub joins : ℕ → ℕ → ℕ × ℕ → Bool
joins one other cell = (nat_eq cell.0 one && nat_eq cell.1 other) || (nat_eq cell.1 one && nat_eq cell.0 other)

-- the table has for each name the other ends of the FIFO1s that end with it, and may end before a name that has none
pub record ArePartners (w : Web) (partners : List (List ℕ)) : Type 0 where
  pub below : All (AreBelow w.names) partners
  pub have : (one other : ℕ) → one < w.names → has (holders_at partners one) other ≡ list_any (joins one other) w.cells

pub record IsGround (ground : Ground) : Type 0 where
  pub is_web : IsWeb ground.web
  pub held : AreHolders ground.web ground.holders
  pub joined : ArePartners ground.web ground.partners
  pub few : length ground.web.automata < 2 ^ 32
  pub small : ground.web.names < 2 ^ 32

-- there is a mark for each automaton, and one for each name
pub record AreLong (w : Web) (marking : Marking) : Type 0 where
  pub automata : length marking.automata.marks.items ≡ length w.automata
  pub names : length marking.names.marks.items ≡ w.names

-- these are the marks of the list
pub record AreMarksOf (w : Web) (v : Vertex) (marking : Marking) : Type 0 where
  pub automata : marking.automata.marks.items ≡ automaton_marks w v
  pub names : marking.names.marks.items ≡ name_marks w v

-- all marks are as they were
pub record AreUnchanged (old new : Marking) : Type 0 where
  pub automata : AreSame old.automata new.automata
  pub names : AreSame old.names new.names
