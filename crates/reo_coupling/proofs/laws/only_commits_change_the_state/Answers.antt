use Rattle.reo_coupling.proofs.Numbers.{only_commits}
use Rattle.reo_coupling.proofs.laws.only_commits_change_the_state.Goals as goal

pub returns : goal.returns
returns c = only_commits
