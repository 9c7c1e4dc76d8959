-- The shared words at one moment, with what is known of them then.
use Rattle.std.specs.Prelude.{ℕ, ◌+◌, ◌*◌, List, length}
use Rattle.reo_fabric.specs.declared.entry.Entry.{Entry}
use Rattle.reo_fabric.specs.declared.fabric.Fabric.{Fabric}
use Rattle.reo_fabric.specs.Entry.{State}
use Rattle.reo_fabric.specs.Fabric.{first_state}
use Rattle.reo_fabric.specs.History.{state_after}
use Rattle.reo_coupling.specs.declared.view.RegionView.{RegionView}
use Rattle.reo_coupling.specs.declared.view.PartyView.{PartyView}

-- what was fixed when the words were made
pub record Setting : Type 0 where
  pub fabric : Fabric
  -- a region commits only where it read a commit word below this
  pub limit : ℕ

pub record Moment : Type 0 where
  pub words : List ℕ
  -- the entries that were committed, in their order
  pub history : List Entry
  -- what the region with a number knows
  pub book : ℕ → RegionView
  -- what the party with a number knows
  pub folk : ℕ → PartyView

-- the state that the history leaves
abbrev pub state_of : Setting → Moment → State
state_of setting moment = state_after (first_state setting.fabric) moment.history

-- Word 0 is the commit word. Then comes the round word of each region, then the word of each cell, and then the state word and
-- the data word of each port.
abbrev pub round_place : ℕ → ℕ
round_place region = 1 + region

abbrev pub cell_place : Fabric → ℕ → ℕ
cell_place fabric cell = 1 + fabric.regions + cell

abbrev pub state_place : Fabric → ℕ → ℕ
state_place fabric port = 1 + fabric.regions + length fabric.cells + 2 * port

abbrev pub data_place : Fabric → ℕ → ℕ
data_place fabric port = 2 + fabric.regions + length fabric.cells + 2 * port
