use Rattle.reo_session.proofs.preparation.table_at.Goals as goal

pub returns-in-Ok-clause-table : goal.returns-in-Ok-clause-table
returns-in-Ok-clause-table c is_cut root at = record { number = c.in-Ok.ensures.region; is_table = c.in-Ok.ensures.table is_cut root at }
