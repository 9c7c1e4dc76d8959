use Rattle.std.proofs.Common.{sym, subst}
use Rattle.std.proofs.lemmas.List.{take_more}
use Rattle.reo_outline.specs.Texts.{IsHeld}
use Rattle.reo_outline.proofs.TextLemmas.{held_none, held_more}
use Rattle.reo_outline.proofs.texts.push_names.Goals as goal

pub loop-name-init : goal.loop-name-init
loop-name-init c = (c.before-run.ensures.run, held_none c.args.net.now c.args.nodes.now _ c.before-run.result c.before-run.ensures.none)

pub loop-name-preserved : goal.loop-name-preserved
loop-name-preserved c = (
  c.in_ok-run.ensures.run,
  subst (λ l. IsHeld c.args.net.now c.args.nodes.now c.args.buffer.now c.held_with.new.buffer c.in_ok-run.run' l)
      (sym (take_more c.args.names.now c.loop-name.name-index 0 c.loop-name-test.true))
      (held_more c.args.net.now c.args.nodes.now _ _ _ c.loop-name.run c.in_ok-run.run' _ _ c.loop-name.invariant.1 c.in_ok-run.ensures.held),
)
