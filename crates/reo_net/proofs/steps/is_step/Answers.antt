use Rattle.std.proofs.Common.{refl, sym, ◌∙◌, length}
use Rattle.std.proofs.lemmas.Bool.{false≢true, eqb-false}
use Rattle.reo_net.specs.Names.{name_count}
use Rattle.reo_net.proofs.StepLemmas.{is_step_from, known_from_step, rising_from_step}
use Rattle.reo_net.proofs.steps.is_step.Goals as goal

pub returns-then-is_rising : goal.returns-then-is_rising
returns-then-is_rising c =
    let pairs = c.as_slice-pairs.result.now in (
      λ e. is_step_from c.args.net.now c.args.step.now pairs c.names.result c.as_slice-pairs.ensures c.names.ensures.names (eqb-false (length pairs) 0 (sym c.is_empty.ensures ∙ c.if-is_empty.false)) (c.is_rising.ensures.0 c.if-is_rising.true) (c.are_below.ensures.0 e),
      λ is_step. c.are_below.ensures.1 (known_from_step c.args.net.now c.args.step.now pairs c.names.result c.as_slice-pairs.ensures c.names.ensures.names is_step),
    )

pub returns-else-is_rising : goal.returns-else-is_rising
returns-else-is_rising c = (
  λ e. absurd (false≢true (sym c.if-is_rising.false ∙ e)),
  λ is_step. c.is_rising.ensures.1 (rising_from_step c.args.net.now c.args.step.now c.as_slice-pairs.result.now (name_count c.args.net.now) c.as_slice-pairs.ensures refl is_step),
)
