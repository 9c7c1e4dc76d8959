use Rattle.reo_fabric.proofs.ReadingLemmas.{cell_pushed}
use Rattle.reo_fabric.proofs.readings.push_cell.Goals as goal

pub returns-clause-are : goal.returns-clause-are
returns-clause-are c regions cells ports are =
    cell_pushed regions cells ports c.args.readings.now.items are c.args.region c.args.place c.requires c.index_mut.result.now c.index_mut.ensures.value c.push.new.self c.in_ok-push.ensures.ok
