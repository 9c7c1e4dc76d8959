use Rattle.reo_plan.proofs.TablesLaw.{tables_names, tables_small}
use Rattle.reo_plan.proofs.plans.compile.Goals as goal

pub plans_of-requires-clause-names : goal.plans_of-requires-clause-names
plans_of-requires-clause-names c = tables_names c.args.net.now c.args.tables.now c.requires.tables

pub plans_of-requires-clause-small : goal.plans_of-requires-clause-small
plans_of-requires-clause-small c = tables_small c.args.net.now c.args.tables.now c.requires.tables
