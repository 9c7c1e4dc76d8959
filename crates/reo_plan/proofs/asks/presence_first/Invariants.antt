use Rattle.std.proofs.Common.{◌≡◌, ℕ, List, drop, ◌&&◌}
use Rattle.std.specs.List.{list_all}
use Rattle.reo_net.specs.declared.circuit.RawCircuit.{RawCircuit}
use Rattle.reo_fabric.specs.declared.reading.Reading.{Reading}
use Rattle.reo_plan.specs.inside.Asks.{so_in}
use Rattle.reo_plan.proofs.asks.presence_first.Given as goal

abbrev pub invariant-loop-place : goal.invariant-loop-place
invariant-loop-place l =
    (c : RawCircuit) (texts : List (List ℕ)) (reading : Reading)
    → ((list_all (so_in c texts reading l.slots) l.first && list_all (so_in c texts reading l.slots) l.second) && list_all (so_in c texts reading l.slots) (drop l.place l.facts)) ≡ list_all (so_in c texts reading l.slots) l.facts
