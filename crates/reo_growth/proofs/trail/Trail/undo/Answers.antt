use Rattle.std.proofs.Common.{refl, arith}
use Rattle.std.proofs.lemmas.Grind.{common_steps}
use Rattle.reo_growth.proofs.TrailLemmas.{last_within, one_undone, all_undone}
use Rattle.reo_growth.proofs.trail.Trail.undo.Goals as goal

pub index_mut-requires : goal.index_mut-requires
index_mut-requires c =
    let before = c.requires.before in
    let u = c.loop-self.invariant before c.requires.so_many c.requires.undoes in
    let within = last_within before c.loop-self.self c.loop-self.self c.pop.new.self.items c.in-Some.old u c.in-Some.ensures.items (omega (arith, c.requires.so_many, c.loop-self-test.true, c.len.ensures)) in
    grind (arith, common_steps, within)

pub loop-self-preserved : goal.loop-self-preserved
loop-self-preserved c = λ before so_many undoes.
    let u = c.loop-self.invariant before so_many undoes in
    one_undone before c.loop-self.self _ c.pop.new.self.items c.in-Some.old u c.in-Some.ensures.items (omega (arith, so_many, c.loop-self-test.true, c.len.ensures)) refl refl

pub returns-after-loop-self : goal.returns-after-loop-self
returns-after-loop-self c = λ before so_many undoes.
    all_undone before c.loop-self.self (c.loop-self.invariant before so_many undoes) (omega (arith, so_many, c.loop-self-test.false, c.len.ensures))
