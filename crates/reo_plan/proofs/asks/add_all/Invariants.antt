use Rattle.std.proofs.Common.{◌≡◌, take, Bool, ◌&&◌}
use Rattle.std.specs.List.{list_all}
use Rattle.reo_flow.specs.declared.fact.Fact.{Fact}
use Rattle.reo_plan.proofs.asks.add_all.Given as goal

abbrev pub invariant-loop-fact : goal.invariant-loop-fact
invariant-loop-fact l = (p : Fact → Bool) → list_all p l.facts ≡ (list_all p l.initial.facts && list_all p (take l.fact-index l.more))
