use Rattle.reo_growth.proofs.RuleLemmas.{vertices_by_rule}
use Rattle.reo_growth.proofs.DistinctLemmas.{vertices_once}
use Rattle.reo_growth.proofs.laws.vertices_are_by_rule.Goals as goal

pub returns-clause-rule : goal.returns-clause-rule
returns-clause-rule c = vertices_by_rule

pub returns-clause-once : goal.returns-clause-once
returns-clause-once c = vertices_once
