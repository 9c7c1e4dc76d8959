use Rattle.std.proofs.Common.{◌+◌, take}
use Rattle.reo_growth.specs.Lists.{has}
use Rattle.reo_growth.specs.Marks.{met}
use Rattle.reo_growth.proofs.MarkLemmas.{changes_twice, has_more, met_again}
use Rattle.reo_growth.proofs.TrailLemmas.{more_changed}
use Rattle.reo_growth.proofs.marks.mark_known.Goals as goal

pub loop-name-preserved : goal.loop-name-preserved
loop-name-preserved c = record {
  changed = changes_twice met met_again (has (take c.loop-name.name-index c.args.its.now)) _ (has (take (c.loop-name.name-index + 1) c.args.its.now)) (λ k. has_more c.args.its.now c.loop-name.name-index k c.loop-name-test.true)
      c.args.names.now.marks.items c.loop-name.names.marks.items c.meet.new.names.marks.items c.loop-name.invariant.changed c.in_ok-meet.ensures.changed;
  undo = more_changed c.args.names.now c.loop-name.names c.meet.new.names c.loop-name.invariant.undo c.in_ok-meet.ensures.undo;
}
