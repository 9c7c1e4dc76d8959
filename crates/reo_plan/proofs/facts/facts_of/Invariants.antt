use Rattle.std.proofs.Common.{◌≡◌, take, Bool}
use Rattle.std.specs.List.{list_all}
use Rattle.reo_flow.specs.declared.fact.Fact.{Fact}
use Rattle.reo_plan.specs.inside.Rows.{slot_facts}
use Rattle.reo_plan.proofs.facts.facts_of.Given as goal

abbrev pub invariant-loop-name : goal.invariant-loop-name
invariant-loop-name l = (p : Fact → Bool) → list_all p l.facts ≡ list_all (λ name. list_all p (slot_facts l.net l.table name)) (take l.name-index l.names)
