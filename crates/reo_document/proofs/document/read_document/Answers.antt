use Rattle.reo_document.proofs.document.read_document.Goals as goal

pub invariant_of-result : goal.invariant_of-result
invariant_of-result c = record { bytes = c.args.bytes.now; spells = c.in_ok-parts.ensures.spells }
