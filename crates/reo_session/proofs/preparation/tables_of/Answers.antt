use Rattle.std.proofs.Common.{arith}
use Rattle.reo_session.specs.Prepared.{Declines}
use Rattle.reo_session.proofs.PrepareLemmas.{more_tables, all_tables, declined, passed_on}
use Rattle.reo_session.proofs.preparation.tables_of.Goals as goal

pub loop-region-preserved : goal.loop-region-preserved
loop-region-preserved c =
    more_tables c.args.net.now c.args.cut.now c.loop-region.tables c.keep.new.tables c.loop-region.region c.in_ok-table.table c.loop-region.invariant c.in_ok-keep.ensures c.in_ok-table.ensures.table

pub returns-clause-tables : goal.returns-clause-tables
returns-clause-tables c = all_tables c.args.net.now c.args.cut.now c.loop-region.tables (grind (arith, c.loop-region.invariant))

pub returns-in_err-table-clause-refused : goal.returns-in_err-table-clause-refused
returns-in_err-table-clause-refused c =
    passed_on c.from_residual-in_err-table.result c.in_err-table.field-0.0 (Declines c.args.net.now) c.from_residual-in_err-table.ensures.1
    (declined c.args.net.now c.args.cut.now c.nodes.ensures.checked c.requires.cut c.loop-region.tables c.loop-region.region c.loop-region.invariant (grind (arith, c.loop-region-test.true)) c.in_err-table.field-0.0 c.in_err-table.ensures.refused)
