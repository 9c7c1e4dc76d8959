use Rattle.std.proofs.Common.{sym}
use Rattle.reo_outline.specs.Outline.{region_lines}
use Rattle.reo_outline.proofs.AddsLemmas.{numbered_more, region_added}
use Rattle.reo_outline.proofs.outline.push_regions.Goals as goal

pub loop-number-preserved : goal.loop-number-preserved
loop-number-preserved c =
    numbered_more (region_lines c.args.net.now c.args.nodes.now c.args.cut.now) _ _ _ _ _ c.index-tables-number.result _ c.loop-number-test.true (sym c.index-tables-number.is) c.loop-number.invariant
    (region_added c.args.net.now c.args.nodes.now c.args.cut.now _ _ c.loop-number.number _ c.index-tables-number.result (c.requires.counts.each c.loop-number.number 0 c.loop-number-test.true) c.in_ok-push_region.ensures)
