use Rattle.std.proofs.Common.{ℕ, subst}
use Rattle.std.proofs.lemmas.List.{take_all}
use Rattle.std.specs.Prelude.{All}
use Rattle.reo_value.specs.declared.value.Value.{Value}
use Rattle.reo_session.specs.Posted.{IsAnswered}
use Rattle.reo_session.proofs.TakeLemmas.{takes_more, clears_more}
use Rattle.reo_session.proofs.collect.collect_from.Goals as goal

pub loop-place-preserved : goal.loop-place-preserved
loop-place-preserved g c =
    let l = c.loop-place in
    let one = c.in_ok-collect_at.ensures in
    let cleared = subst (λ (place : ℕ × Value). IsAnswered c.collect_at.new.engine.ports place.0 → ⊥) c.place-item.is one.cleared in
    record {
      takes = takes_more c.args.scripts.now c.args.engine.now l.engine c.collect_at.new.engine c.args.watch.now l.watch c.collect_at.new.watch c.args.calls.now l.calls c.collect_at.new.calls l.invariant.takes one.takes;
      cleared = clears_more c.args.scripts.now l.engine c.collect_at.new.engine l.watch c.collect_at.new.watch l.calls c.collect_at.new.calls c.args.places.now l.place-index _ c.loop-place-test.true l.invariant.cleared one.takes cleared;
    }

pub returns-clause-cleared : goal.returns-clause-cleared
returns-clause-cleared g c =
    subst (All (λ place. IsAnswered c.loop-place.engine.ports place.0 → ⊥)) (take_all c.loop-place.place-index c.args.places.now c.loop-place-test.false) c.loop-place.invariant.cleared
