use Rattle.std.proofs.Common.{◌+◌, take, refl}
use Rattle.reo_growth.specs.declared.marks.Mark.TheVariants.{Fires}
use Rattle.reo_growth.specs.Lists.{has}
use Rattle.reo_growth.proofs.MarkLemmas.{changes_twice, has_more}
use Rattle.reo_growth.proofs.TrailLemmas.{more_changed}
use Rattle.reo_growth.proofs.marks.mark_fired.Goals as goal

pub loop-name-preserved : goal.loop-name-preserved
loop-name-preserved c = record {
  changed = changes_twice (λ _. Fires) (λ m. refl) (has (take c.loop-name.name-index c.args.link.now)) _ (has (take (c.loop-name.name-index + 1) c.args.link.now)) (λ k. has_more c.args.link.now c.loop-name.name-index k c.loop-name-test.true)
      c.args.names.now.marks.items c.loop-name.names.marks.items c.fire.new.names.marks.items c.loop-name.invariant.changed c.in_ok-fire.ensures.changed;
  undo = more_changed c.args.names.now c.loop-name.names c.fire.new.names c.loop-name.invariant.undo c.in_ok-fire.ensures.undo;
}
