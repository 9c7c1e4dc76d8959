use Rattle.reo_outline.proofs.TextLemmas.{held_on}
use Rattle.reo_outline.proofs.texts.held_with.Goals as goal

pub returns-then-name-run-clause-held : goal.returns-then-name-run-clause-held
returns-then-name-run-clause-held c = held_on c.args.net.now c.args.nodes.now _ c.args.run c.args.name c.requires.run.order c.if-name-run.true
