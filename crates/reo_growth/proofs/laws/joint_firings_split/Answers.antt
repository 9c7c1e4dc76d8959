use Rattle.reo_growth.proofs.SplitLemmas.{splits, share_nothing}
use Rattle.reo_growth.proofs.laws.joint_firings_split.Goals as goal

pub returns-clause-parts : goal.returns-clause-parts
returns-clause-parts c = splits

pub returns-clause-apart : goal.returns-clause-apart
returns-clause-apart c = share_nothing
