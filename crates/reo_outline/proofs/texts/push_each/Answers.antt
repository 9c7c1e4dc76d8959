use Rattle.std.proofs.Common.{arith}
use Rattle.reo_outline.proofs.TextLemmas.{none_taken, each_more}
use Rattle.reo_outline.proofs.texts.push_each.Goals as goal

pub loop-name-init : goal.loop-name-init
loop-name-init c = (omega arith, none_taken c.args.net.now c.args.nodes.now _ c.args.run.from)

pub loop-name-preserved : goal.loop-name-preserved
loop-name-preserved c =
    (omega (arith, c.loop-name.invariant.0), each_more c.args.net.now c.args.nodes.now _ _ _ c.args.run.from c.loop-name.name c.loop-name.invariant.0 c.loop-name.invariant.1 c.in_ok-push_name_part.ensures)
