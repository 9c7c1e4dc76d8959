use Rattle.std.proofs.Common.{◌+◌, sym, ap, ◌∙◌, subst, slice_get}
use Rattle.reo_fabric.specs.Engine.{EngineState, engine_reading, with_port}
use Rattle.reo_fabric.specs.declared.port_state.PortState.TheVariants.{Idle}
use Rattle.reo_session.specs.Posted.{MayPost}
use Rattle.reo_session.proofs.EngineLemmas.{taken_some}
use Rattle.reo_session.proofs.WatchLemmas.{answer_keeps}
use Rattle.reo_session.proofs.collect.collect_own.Goals as goal

pub post-requires-clause-may : goal.post-requires-clause-may
post-requires-clause-may g c op at =
    let e = c.args.engine.now in
    let place = c.len-place.ensures in
    let next = ap (slice_get c.args.script.now) (sym place) ∙ sym c.in-Some.ensures in
    let behind = ap (λ n. slice_get c.args.script.now (n + 1)) (sym place) ∙ at in
    let may = c.requires.may.then_posts c.in-Some.op.now op next behind in
    let taken = c.answer.ensures.after ∙ taken_some e c.port_of.result c.in-Some-answer.value c.in-Some-answer.number (sym c.in-Some-answer.ensures.answer) in
    subst (λ (x : EngineState g.row.D.Denot). MayPost x.fabric x.ports op) (sym (taken ∙ ap (λ p. with_port e p Idle) c.port_of.ensures)) may

pub returns-clause-asleep : goal.returns-clause-asleep
returns-clause-asleep g c region asleep =
    let then = c.post.ensures.asleep region asleep in
    (then.0, then.1 ∙ ap (λ (x : EngineState g.row.D.Denot). engine_reading x region) c.answer.ensures.after ∙ answer_keeps c.args.engine.now c.port_of.result region)
