use Rattle.std.proofs.Common.{sym}
use Rattle.reo_plan.specs.inside.Asks.{number_so}
use Rattle.reo_plan.proofs.first.found_so.Goals as goal

pub returns-then-is_known-clause-so : goal.returns-then-is_known-clause-so
returns-then-is_known-clause-so c =
    sym (c.is_known.ensures (number_so c.args.net.now c.args.texts.now c.args.reading.now c.args.slots.now c.args.facts.now) c.requires c.if-is_known.true)

pub returns-clause-marks : goal.returns-clause-marks
returns-clause-marks c =
    c.mark.ensures (number_so c.args.net.now c.args.texts.now c.args.reading.now c.args.slots.now c.args.facts.now) (sym c.number_so-is_so.ensures) c.requires
