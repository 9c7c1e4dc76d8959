use Rattle.reo_fabric.specs.Engine.{offers_of}
use Rattle.reo_fabric.proofs.WordLemmas.{reading_anew}
use Rattle.reo_fabric.proofs.words.read_region.Goals as goal

pub returns : goal.returns
returns c = λ fabric region unread.
    reading_anew fabric region c.args.cells.now (offers_of c.args.ports.now) c.args.reading.now c.read_cells.new.words c.read_ports.new.words unread c.read_cells.ensures c.read_ports.ensures
