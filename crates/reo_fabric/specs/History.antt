-- Entries one after the other.
use Rattle.std.specs.Prelude.{List, [], ◌∷◌}
use Rattle.reo_fabric.specs.declared.entry.Entry.{Entry}
use Rattle.reo_fabric.specs.Entry.{State, Agrees, carried_out}

-- the state after these entries
abbrev pub state_after : State → List Entry → State
state_after state [] = state
state_after state (entry ∷ entries) = state_after (carried_out state entry) entries

-- each entry agrees with the state that those before it leave
abbrev pub IsLawfulHistory : State → List Entry → Type 0
IsLawfulHistory state [] = Unit {0}
IsLawfulHistory state (entry ∷ entries) = Agrees state entry × IsLawfulHistory (carried_out state entry) entries
