use Rattle.reo_coupling.proofs.Sources.{takes_have_sources}
use Rattle.reo_coupling.proofs.laws.takes_have_sources.Goals as goal

pub returns : goal.returns
returns c = takes_have_sources
