use Rattle.reo_print.proofs.TreeLemmas.{trees_mean, guard_shortest}
use Rattle.reo_print.proofs.GuardWriteLemmas.{guard_writes}
use Rattle.reo_print.proofs.laws.written_guards_are_trees.Goals as goal

pub returns-clause-mean : goal.returns-clause-mean
returns-clause-mean c = trees_mean

pub returns-clause-shortest : goal.returns-clause-shortest
returns-clause-shortest c = guard_shortest

pub returns-clause-written : goal.returns-clause-written
returns-clause-written c = guard_writes
