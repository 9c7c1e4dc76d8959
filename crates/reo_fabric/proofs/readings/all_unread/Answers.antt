use Rattle.reo_fabric.proofs.ReadingLemmas.{readings_unread}
use Rattle.reo_fabric.proofs.readings.all_unread.Goals as goal

pub returns-clause-unread : goal.returns-clause-unread
returns-clause-unread c =
    let f = c.args.fabric.now in
    readings_unread f _ _ _ c.as_slice.ensures c.as_slice-2.ensures (c.in_ok-list_ports.ensures.are f.regions _ (c.in_ok-list_cells.ensures.are f.regions _ c.in_ok-readings.ensures))
