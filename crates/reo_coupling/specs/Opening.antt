-- How the words and the views begin.
use Rattle.std.specs.Prelude.{ℕ, ◌+◌, ◌*◌, ◌<◌, ◌≤◌, ◌^◌, List, [], ◌∷◌, ◌++◌, length, map, replicate}
use Rattle.reo_fabric.specs.declared.fabric.Fabric.{Fabric}
use Rattle.reo_fabric.specs.Fabric.{IsLawfulFabric, first_state}
use Rattle.reo_fabric.specs.Reading.{cell_word}
use Rattle.reo_fabric.specs.Laws.{AreValues}
use Rattle.reo_coupling.specs.declared.view.RootView.{RootView}
use Rattle.reo_coupling.specs.declared.view.Mark.TheVariants.{Fresh}
use Rattle.reo_coupling.specs.declared.view.View.TheVariants as seat
use Rattle.reo_coupling.specs.Moment.{Setting}
use Rattle.reo_coupling.specs.Seats.{IsCoupled}

-- 0 for the commit word and for each round, then the words of the cells' first values, and then 0 for each word of a port
abbrev pub first_words : Fabric → List ℕ
first_words fabric = (replicate (1 + fabric.regions) 0 ++ map (λ spec. cell_word spec.first) fabric.cells) ++ replicate (2 * length fabric.ports) 0

-- no seat is made yet
abbrev pub first_root : Setting → RootView
first_root setting = record { limit = setting.limit; regions = replicate setting.fabric.regions Fresh; parties = replicate setting.fabric.parties Fresh; regions_home = []; parties_home = [] }

-- The first words and the root's first view are coupled.
abbrev pub OpensCoupled : Type 0
OpensCoupled =
    (setting : Setting) → IsLawfulFabric setting.fabric → AreValues (first_state setting.fabric) → 1 ≤ setting.limit → setting.limit < 2 ^ 31
    → IsCoupled setting (first_words setting.fabric) (seat.Root (first_root setting) ∷ [])
