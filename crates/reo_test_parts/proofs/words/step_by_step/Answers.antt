use Rattle.std.proofs.Common.{◌∙◌}
use Rattle.reo_test_parts.proofs.RingLemmas.{fill_still_due}
use Rattle.reo_test_parts.proofs.words.step_by_step.Goals as goal

pub set_cell-requires-2-clause-due : goal.set_cell-requires-2-clause-due
set_cell-requires-2-clause-due c =
    fill_still_due c.see_cell-empty.new.self c.commit-number.new.self c.set_cell.new.self c.lent.result c.commit-number.result c.args.regions.1 c.args.from c.args.to c.see_cell-full.result c.in-Some.value c.commit-number.ensures.view c.set_cell.ensures
    (c.lent.ensures ∙ c.in_ok-entry.ensures) c.in-Some.ensures.code
