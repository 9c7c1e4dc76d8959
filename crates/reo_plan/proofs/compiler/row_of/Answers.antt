use Rattle.reo_plan.proofs.compiler.row_of.Goals as goal

pub fill_slots-requires-clause-names : goal.fill_slots-requires-clause-names
fill_slots-requires-clause-names c = c.requires.names.below
