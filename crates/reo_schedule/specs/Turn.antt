-- The turns of the plain schedule.
use Rattle.std.specs.Prelude.{ℕ, ◌+◌, ◌<◌, nat_lt, if◌then◌else◌, List, [], ◌∷◌, length, map, Some, None}
use Rattle.reo_value.specs.declared.op.Op.{Op}
use Rattle.reo_net.specs.declared.circuit.RawCircuit.{RawCircuit}
use Rattle.reo_net.specs.declared.circuit.Step.{Step}
use Rattle.reo_net.specs.Steps.{State}
use Rattle.reo_net.specs.Runs.{initial_state}
use Rattle.reo_fabric.specs.declared.entry.Entry.{Entry}
use Rattle.reo_fabric.specs.declared.fabric.Fabric.{Fabric}
use Rattle.reo_fabric.specs.declared.reading.Reading.{Reading}
use Rattle.reo_fabric.specs.History.{state_after}
use Rattle.reo_fabric.specs.Reading.{reading_of}
use Rattle.reo_flow.specs.Step.{IsStepOf}
use Rattle.reo_flow.specs.Allows.{Table, Allows, IsFirstChoice}
use Rattle.reo_trace.specs.Lawful.{AllAnswered, next_ops}
use Rattle.reo_schedule.specs.Offers.{offers_in}
use Rattle.reo_schedule.specs.Calls.{calls_of}

-- an entry that is carried out, with its step
pub record Turn : Type 0 where
  pub entry : Entry
  pub step : Step

abbrev pub entries_of : List Turn → List Entry
entries_of turns = map (λ turn. turn.entry) turns

abbrev pub steps_of : List Turn → List Step
steps_of turns = map (λ turn. turn.step) turns

-- after these turns: the state
abbrev pub state_of : RawCircuit → List Turn → State
state_of c turns = state_after (initial_state c) (entries_of turns)

-- the next operations of the components
abbrev pub ops_of : List (List Op) → List Turn → List Op
ops_of scripts turns = next_ops scripts (calls_of scripts (steps_of turns))

-- what a region reads, where these operations are offered
abbrev pub reads : RawCircuit → Fabric → List (List Op) → List Turn → ℕ → Reading
reads c fabric scripts turns region = reading_of fabric region (state_of c turns) (offers_in (ops_of scripts turns) (length c.ports))

-- the place from which the regions are tried: behind the last turn's region, or 0
abbrev pub place_of : List Turn → ℕ
place_of [] = 0
place_of (turn ∷ []) = turn.entry.region + 1
place_of (turn ∷ (next ∷ turns)) = place_of (next ∷ turns)

-- where a region stands in cyclic order from a place on: first those from the place on, then those below it
abbrev pub rank_from : ℕ → ℕ → ℕ → ℕ
rank_from regions place region = if nat_lt region place then region + regions else region

-- the reading allows the region the turn's entry, which has the turn's step
pub record AllowsTurn (c : RawCircuit) (texts : List (List ℕ)) (tables : List Table) (region : ℕ) (reading : Reading) (turn : Turn) : Type 0 where
  pub allowed : Allows c texts tables region reading turn.entry
  pub is_step : IsStepOf c texts allowed.names turn.entry turn.step

-- The turn comes next after others.
pub record IsNext (c : RawCircuit) (texts : List (List ℕ)) (scripts : List (List Op)) (fabric : Fabric) (tables : List Table) (limit : ℕ) (before : List Turn) (turn : Turn) : Type 0 where
  -- an operation is left, and the steps are fewer than the limit
  pub left : AllAnswered scripts (calls_of scripts (steps_of before)) → ⊥
  pub few : length before < limit
  -- its region's first choice
  pub region : turn.entry.region < fabric.regions
  pub allowed : AllowsTurn c texts tables turn.entry.region (reads c fabric scripts before turn.entry.region) turn
  pub first : IsFirstChoice (Allows c texts tables turn.entry.region (reads c fabric scripts before turn.entry.region)) (Some turn.entry.choice)
  -- and no region before it has a choice
  pub passed : (region : ℕ) → region < fabric.regions → rank_from fabric.regions (place_of before) region < rank_from fabric.regions (place_of before) turn.entry.region
      → IsFirstChoice (Allows c texts tables region (reads c fabric scripts before region)) None
