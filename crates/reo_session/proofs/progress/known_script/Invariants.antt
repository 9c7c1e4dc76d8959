use Rattle.std.proofs.Common.{All, IfSome, take}
use Rattle.reo_value.specs.Code.{IsValue}
use Rattle.reo_schedule.specs.Offers.{offered_by}
use Rattle.reo_session.proofs.progress.known_script.Given as goal

abbrev pub invariant-loop-op : goal.invariant-loop-op
invariant-loop-op l = All (λ op. IfSome (offered_by op) IsValue) (take l.op-index l.script)
