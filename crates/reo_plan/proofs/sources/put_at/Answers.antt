use Rattle.std.proofs.Common.{ap, ◌∙◌}
use Rattle.reo_fabric.specs.Entry.{at_place}
use Rattle.reo_plan.proofs.BackLaw.{port_back}
use Rattle.reo_plan.proofs.sources.put_at.Goals as goal

pub returns : goal.returns
returns c = port_back c.args.entry.now c.args.port c.value_at.result (c.value_at.ensures.found ∙ ap (λ places. at_place places c.args.port) c.puts.ensures) c.value_at.ensures.value
