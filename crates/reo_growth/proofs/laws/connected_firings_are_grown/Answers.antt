use Rattle.reo_growth.proofs.SoundLemmas.{grows_only}
use Rattle.reo_growth.proofs.InsideLemmas.{grows_all}
use Rattle.reo_growth.proofs.OnceLemmas.{grows_once}
use Rattle.reo_growth.proofs.laws.connected_firings_are_grown.Goals as goal

pub returns-clause-all : goal.returns-clause-all
returns-clause-all c = grows_all

pub returns-clause-only : goal.returns-clause-only
returns-clause-only c = grows_only

pub returns-clause-once : goal.returns-clause-once
returns-clause-once c = grows_once
