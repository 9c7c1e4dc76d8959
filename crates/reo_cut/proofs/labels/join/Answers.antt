use Rattle.std.proofs.Common.{arith}
use Rattle.reo_cut.proofs.ParentLemmas.{second_to_first, first_to_second}
use Rattle.reo_cut.proofs.labels.join.Goals as goal

pub returns-then-first-second-clause-one_pair_more : goal.returns-then-first-second-clause-one_pair_more
returns-then-first-second-clause-one_pair_more c = λ pairs n are.
    second_to_first c.args.one c.args.other c.args.parents.now c.root-first.new.parents c.root-second.new.parents c.root-first.result c.root-second.result
    c.root-first.ensures.way c.root-first.ensures.end c.root-second.ensures.way c.root-second.ensures.end c.requires.one c.requires.other pairs n are (omega (arith, c.if-first-second.true))

pub returns-else-first-second-clause-one_pair_more : goal.returns-else-first-second-clause-one_pair_more
returns-else-first-second-clause-one_pair_more c = λ pairs n are.
    first_to_second c.args.one c.args.other c.args.parents.now c.root-first.new.parents c.root-second.new.parents c.root-first.result c.root-second.result
    c.root-first.ensures.way c.root-first.ensures.end c.root-second.ensures.way c.root-second.ensures.end c.requires.one c.requires.other pairs n are c.if-first-second.false
