use Rattle.std.proofs.Common.{subst}
use Rattle.std.specs.Prelude.{All}
use Rattle.reo_session.specs.Posted.{IsAnswered}
use Rattle.reo_session.proofs.TakeLemmas.{posted_then, calls_then}
use Rattle.reo_session.proofs.collect.collect_both.Goals as goal

pub returns-clause-calls : goal.returns-clause-calls
returns-clause-calls g c =
    let first = c.in_ok-collect_from.ensures in
    let second = c.in_ok-collect_from-2.ensures in
    calls_then c.args.scripts.now c.args.last.now.puts.items c.args.last.now.gets.items c.args.engine.now c.collect_from.new.engine c.collect_from-2.new.engine c.args.watch.now c.collect_from.new.watch c.collect_from-2.new.watch
    c.args.calls.now c.collect_from.new.calls c.collect_from-2.new.calls c.requires.may c.requires.answered first.takes
    (subst (All (λ place. IsAnswered c.collect_from.new.engine.ports place.0 → ⊥)) c.as_slice.ensures.value first.cleared) second.takes
    (subst (All (λ place. IsAnswered c.collect_from-2.new.engine.ports place.0 → ⊥)) c.as_slice-2.ensures.value second.cleared)

pub returns-clause-posted : goal.returns-clause-posted
returns-clause-posted g c =
    let first = c.in_ok-collect_from.ensures in
    let second = c.in_ok-collect_from-2.ensures in
    posted_then c.args.scripts.now c.args.last.now.puts.items c.args.last.now.gets.items c.args.engine.now c.collect_from.new.engine c.collect_from-2.new.engine c.args.watch.now c.collect_from.new.watch c.collect_from-2.new.watch
    c.args.calls.now c.collect_from.new.calls c.collect_from-2.new.calls c.requires.may c.requires.answered first.takes
    (subst (All (λ place. IsAnswered c.collect_from.new.engine.ports place.0 → ⊥)) c.as_slice.ensures.value first.cleared) second.takes
    (subst (All (λ place. IsAnswered c.collect_from-2.new.engine.ports place.0 → ⊥)) c.as_slice-2.ensures.value second.cleared)
