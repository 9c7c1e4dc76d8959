use Rattle.reo_coupling.specs.Steps.{Commits}
use Rattle.reo_coupling.proofs.EachPart.{commit_keeps}
use Rattle.reo_coupling.proofs.Seating.{whole, keeps_the_rule}
use Rattle.reo_coupling.proofs.laws.commit_keeps.Goals as goal

pub returns : goal.returns
returns c = record { parts = commit_keeps; whole = whole Commits commit_keeps; seats = keeps_the_rule Commits commit_keeps }
