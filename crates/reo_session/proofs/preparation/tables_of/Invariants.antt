use Rattle.reo_session.proofs.PrepareLemmas.{AreFirstTables}
use Rattle.reo_session.proofs.preparation.tables_of.Given as goal

abbrev pub invariant-loop-region : goal.invariant-loop-region
invariant-loop-region l = AreFirstTables l.net l.cut l.tables l.region
