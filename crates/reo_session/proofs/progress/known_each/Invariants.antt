use Rattle.std.proofs.Common.{All, IfSome, take}
use Rattle.reo_value.specs.Code.{IsValue}
use Rattle.reo_schedule.specs.Offers.{offered_by}
use Rattle.reo_session.proofs.progress.known_each.Given as goal

abbrev pub invariant-loop-script : goal.invariant-loop-script
invariant-loop-script l = All (λ script. All (λ op. IfSome (offered_by op) IsValue) script) (take l.script-index l.scripts)
