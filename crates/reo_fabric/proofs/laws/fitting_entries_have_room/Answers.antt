use Rattle.reo_fabric.proofs.FittingLemmas.{fitting_have_room}
use Rattle.reo_fabric.proofs.laws.fitting_entries_have_room.Goals as goal

pub returns : goal.returns
returns c = fitting_have_room
