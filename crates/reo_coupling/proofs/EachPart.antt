-- Each step of a region keeps each part.
use Rattle.reo_coupling.specs.Steps.{Begins, ReadsClock, SeesCell, SeesPort, SeesOffer, Commits, SetsCell, SetsGot, Answers}
use Rattle.reo_coupling.specs.Whole.{KeepsEachPart}
use Rattle.reo_coupling.proofs.Quiet.{begin_cells, clock_cells, see_cell_cells}
use Rattle.reo_coupling.proofs.PortQuiet.{begin_ports, clock_ports, see_cell_ports, see_port_cells, see_port_ports, see_offer_cells, see_offer_ports, set_cell_ports}
use Rattle.reo_coupling.proofs.Commit.{commit_cells}
use Rattle.reo_coupling.proofs.PortCommit.{commit_ports}
use Rattle.reo_coupling.proofs.Store.{set_cell_cells}
use Rattle.reo_coupling.proofs.PortStores.{set_got_cells, set_got_ports, answer_cells, answer_ports}

pub begin_keeps : KeepsEachPart Begins
begin_keeps = record { of_cells = begin_cells; of_ports = begin_ports }

pub clock_keeps : KeepsEachPart ReadsClock
clock_keeps = record { of_cells = clock_cells; of_ports = clock_ports }

pub see_cell_keeps : KeepsEachPart SeesCell
see_cell_keeps = record { of_cells = see_cell_cells; of_ports = see_cell_ports }

pub see_port_keeps : KeepsEachPart SeesPort
see_port_keeps = record { of_cells = see_port_cells; of_ports = see_port_ports }

pub see_offer_keeps : KeepsEachPart SeesOffer
see_offer_keeps = record { of_cells = see_offer_cells; of_ports = see_offer_ports }

pub commit_keeps : KeepsEachPart Commits
commit_keeps = record { of_cells = commit_cells; of_ports = commit_ports }

pub set_cell_keeps : KeepsEachPart SetsCell
set_cell_keeps = record { of_cells = set_cell_cells; of_ports = set_cell_ports }

pub set_got_keeps : KeepsEachPart SetsGot
set_got_keeps = record { of_cells = set_got_cells; of_ports = set_got_ports }

pub answer_keeps : KeepsEachPart Answers
answer_keeps = record { of_cells = answer_cells; of_ports = answer_ports }
