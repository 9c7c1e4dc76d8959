use Rattle.std.proofs.Common.{ap, ◌∙◌}
use Rattle.reo_fabric.specs.Entry.{at_place}
use Rattle.reo_plan.proofs.BackLaw.{cell_back}
use Rattle.reo_plan.proofs.sources.taken_from.Goals as goal

pub returns : goal.returns
returns c = cell_back c.args.entry.now c.args.cell c.value_at.result (c.value_at.ensures.found ∙ ap (λ places. at_place places c.args.cell) c.takes.ensures) c.value_at.ensures.value
