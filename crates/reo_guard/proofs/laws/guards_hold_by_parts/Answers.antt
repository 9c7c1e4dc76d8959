use Rattle.reo_guard.proofs.HoldsLemmas.{and_is_both, or_is_either, not_is_none}
use Rattle.reo_guard.proofs.laws.guards_hold_by_parts.Goals as goal

pub returns-clause-both : goal.returns-clause-both
returns-clause-both c = and_is_both

pub returns-clause-either : goal.returns-clause-either
returns-clause-either c = or_is_either

pub returns-clause-none : goal.returns-clause-none
returns-clause-none c = not_is_none
