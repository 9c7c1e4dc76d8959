use Rattle.reo_fabric.proofs.HistoryLemmas.{act_cell_by_cell}
use Rattle.reo_fabric.proofs.laws.entries_act_cell_by_cell.Goals as goal

pub returns : goal.returns
returns c = act_cell_by_cell
