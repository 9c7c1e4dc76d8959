use Rattle.std.proofs.Common.{arith}
use Rattle.reo_outline.proofs.TextLemmas.{part_added}
use Rattle.reo_outline.proofs.texts.push_run.Goals as goal

pub returns : goal.returns
returns c =
    part_added c.args.net.now c.args.nodes.now _ _ _ c.args.texts.now _ c.args.run c.place_of-place.result c.requires.texts c.as_slice.ensures.value c.requires.run.order
    (omega (arith, c.if-run-names.false, c.names.ensures.names)) c.place_of-place.ensures.from c.place_of-place.ensures.to c.push_bytes.ensures
