use Rattle.reo_cut.proofs.ParentLemmas.{settled_none, settled_more, settled_within, settled_all}
use Rattle.reo_cut.proofs.labels.settle.Goals as goal

pub loop-number-init : goal.loop-number-init
loop-number-init c = settled_none c.args.parents.now

pub bounds-parents-parent : goal.bounds-parents-parent
bounds-parents-parent c = settled_within c.loop-number.number c.args.parents.now c.loop-number.parents c.loop-number-test.true c.requires.falls c.loop-number.invariant

pub loop-number-preserved : goal.loop-number-preserved
loop-number-preserved c = settled_more c.loop-number.number c.args.parents.now c.loop-number.parents c.loop-number-test.true c.requires.falls c.loop-number.invariant

pub returns : goal.returns
returns c = settled_all c.loop-number.number c.args.parents.now c.loop-number.parents c.loop-number-test.false c.loop-number.invariant
