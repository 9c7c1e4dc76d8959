-- What each kind of step makes of all that a region knows.
use Rattle.std.specs.Prelude.{ℕ}
use Rattle.reo_fabric.specs.declared.entry.Entry.{Entry}
use Rattle.reo_coupling.specs.declared.view.RegionView.{RegionView}
use Rattle.reo_coupling.specs.Views.{after_load, after_begin, after_clock, after_see_cell, after_commit, after_set_cell}
use Rattle.reo_coupling.specs.PortViews.{ports_after_begin, after_see_port, after_see_offer, ports_after_commit, after_set_got, after_answer}

abbrev pub region_after_begin : RegionView → RegionView
region_after_begin view = record view { cells = after_begin view.cells; ports = ports_after_begin view.ports }

abbrev pub region_after_clock : RegionView → ℕ → RegionView
region_after_clock view clock = record view { cells = after_clock view.cells clock }

abbrev pub region_after_see_cell : RegionView → ℕ → ℕ → ℕ → RegionView
region_after_see_cell view cell place word = record view { cells = after_see_cell view.cells cell place word }

abbrev pub region_after_see_port : RegionView → ℕ → ℕ → ℕ → RegionView
region_after_see_port view port place word = record view { cells = after_load view.cells place word; ports = after_see_port view.ports port word }

abbrev pub region_after_see_offer : RegionView → ℕ → ℕ → ℕ → RegionView
region_after_see_offer view port place word = record view { cells = after_load view.cells place word; ports = after_see_offer view.ports port word }

abbrev pub region_after_commit : RegionView → ℕ → Entry → RegionView
region_after_commit view number entry = record view { cells = after_commit view.cells number entry; ports = ports_after_commit number entry }

abbrev pub region_after_set_cell : RegionView → ℕ → ℕ → RegionView
region_after_set_cell view cell word = record view { cells = after_set_cell view.cells cell word }

abbrev pub region_after_set_got : RegionView → ℕ → RegionView
region_after_set_got view port = record view { ports = after_set_got view.ports port }

abbrev pub region_after_answer : RegionView → ℕ → RegionView
region_after_answer view port = record view { ports = after_answer view.ports port }
