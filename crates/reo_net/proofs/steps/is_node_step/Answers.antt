use Rattle.std.proofs.Common.{sym, ◌∙◌}
use Rattle.std.proofs.lemmas.Bool.{false≢true}
use Rattle.reo_net.proofs.StepLemmas.{node_step_from, alone_from_step, get_from_step}
use Rattle.reo_net.specs.Steps.{datum}
use Rattle.reo_net.proofs.steps.is_node_step.Goals as goal

pub returns-then-is_alone : goal.returns-then-is_alone
returns-then-is_alone c =
    let has = sym c.in-Some-datum_at.ensures in (
      λ e. node_step_from c.args.net.now c.args.node (datum c.args.step.now) c.in-Some.input c.in-Some-datum_at.value c.in-Some.ensures has (c.has_output.ensures.0 c.if-not-has_output.false) (c.is_alone.ensures.0 c.if-is_alone.true) (c.all_get.ensures.0 e),
      λ moves. c.all_get.ensures.1 (get_from_step c.args.net.now c.args.node (datum c.args.step.now) c.in-Some.input c.in-Some-datum_at.value c.in-Some.ensures has moves),
    )

pub returns-else-is_alone : goal.returns-else-is_alone
returns-else-is_alone c =
    let has = sym c.in-Some-datum_at.ensures in (
      λ e. absurd (false≢true (sym c.if-is_alone.false ∙ e)),
      λ moves. c.is_alone.ensures.1 (alone_from_step c.args.net.now c.args.node (datum c.args.step.now) c.in-Some.input c.in-Some-datum_at.value c.in-Some.ensures has moves),
    )
