use Rattle.std.proofs.Common.{take}
use Rattle.std.specs.Prelude.{All}
use Rattle.reo_session.specs.Posted.{IsAnswered}
use Rattle.reo_session.specs.Watch.{TakesAnswers}
use Rattle.reo_session.proofs.collect.collect_from.Given as goal

-- the answers at the places so far are taken
abbrev pub invariant-loop-place : goal.invariant-loop-place
invariant-loop-place g l = record {
  takes : TakesAnswers l.scripts l.initial.engine l.initial.watch l.initial.calls l.engine l.watch l.calls;
  cleared : All (λ place. IsAnswered l.engine.ports place.0 → ⊥) (take l.place-index l.places);
}
