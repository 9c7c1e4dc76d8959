use Rattle.std.proofs.Common.{arith}
use Rattle.reo_cut.specs.Labels.{label_at}
use Rattle.reo_cut.proofs.ParentLemmas.{at_start, step_up}
use Rattle.reo_cut.proofs.labels.root.Goals as goal

pub loop-parents-init : goal.loop-parents-init
loop-parents-init c = at_start c.args.number c.args.parents.now c.requires.within c.requires.falls

pub bounds-parents-place : goal.bounds-parents-place
bounds-parents-place c = c.loop-parents.invariant.within

pub bounds-parents-place-in-loop-parents : goal.bounds-parents-place-in-loop-parents
bounds-parents-place-in-loop-parents c = c.loop-parents.invariant.within

pub bounds-parents-place-in-loop-parents-2 : goal.bounds-parents-place-in-loop-parents-2
bounds-parents-place-in-loop-parents-2 c = c.loop-parents.invariant.within

pub loop-parents-smaller : goal.loop-parents-smaller
loop-parents-smaller c =
    let way = c.loop-parents.invariant in
    omega (arith, c.loop-parents-test.true, way.within, way.falls (label_at c.loop-parents.parents c.loop-parents.place))

pub loop-parents-preserved : goal.loop-parents-preserved
loop-parents-preserved c = step_up c.args.number c.args.parents.now c.loop-parents.parents c.loop-parents.place c.loop-parents.invariant

pub returns-clause-way : goal.returns-clause-way
returns-clause-way c = c.loop-parents.invariant

pub returns-clause-end : goal.returns-clause-end
returns-clause-end c = omega (arith, c.loop-parents-test.false, c.loop-parents.invariant.falls c.loop-parents.place c.loop-parents.invariant.within)
