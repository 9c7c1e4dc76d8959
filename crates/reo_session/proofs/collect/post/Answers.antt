use Rattle.std.proofs.Common.{◌≡◌, Some, sym, ap, ◌∙◌, subst, slice_get, arith}
use Rattle.std.specs.Option.{IsSome}
use Rattle.std.proofs.lemmas.Option.{same_Some, slice_get_within}
use Rattle.reo_value.specs.declared.op.Way.TheVariants.{Put}
use Rattle.reo_fabric.specs.declared.fabric.PortSpec.{PortSpec}
use Rattle.reo_fabric.specs.declared.port_state.PortState.TheVariants.{Idle, Offered}
use Rattle.reo_fabric.specs.Engine.{EngineState, engine_reading}
use Rattle.reo_session.proofs.EngineLemmas.{way_offers}
use Rattle.reo_session.proofs.WatchLemmas.{post_keeps}
use Rattle.reo_session.proofs.collect.post.Goals as goal

pub post-requires-clause-idle : goal.post-requires-clause-idle
post-requires-clause-idle g c =
    let may = c.requires.may c.in-Some.op.now (sym c.in-Some.ensures) in
    subst (λ p. slice_get c.args.engine.now.ports p ≡ Some Idle) (sym c.port_of-port.ensures) may.idle

pub post-requires-clause-way : goal.post-requires-clause-way
post-requires-clause-way g c spec found =
    let may = c.requires.may c.in-Some.op.now (sym c.in-Some.ensures) in
    let same = same_Some spec may.spec (sym found ∙ ap (slice_get c.args.engine.now.fabric.ports) c.port_of-port.ensures ∙ may.found) in
    subst (λ o. (spec.way ≡ Put → IsSome o) × (IsSome o → spec.way ≡ Put)) (sym c.offered_by.ensures) (way_offers c.in-Some.op.now spec.way (ap (λ (s : PortSpec). s.way) same ∙ may.way))

pub wait-requires : goal.wait-requires
wait-requires g c =
    let may = c.requires.may c.in-Some.op.now (sym c.in-Some.ensures) in
    let below = slice_get_within c.args.engine.now.fabric.ports _ may.spec may.found in
    omega (arith, below, c.port_of-port.ensures, c.requires.waiting)

pub returns-in-Some-clause-asleep : goal.returns-in-Some-clause-asleep
returns-in-Some-clause-asleep g c region asleep = (
  c.wait.ensures.were region asleep,
  ap (λ (x : EngineState g.row.D.Denot). engine_reading x region) c.post.ensures
      ∙ post_keeps c.args.engine.now c.args.watch.now c.requires.watch c.port_of-port.result (Offered c.offered_by.result) region (c.wait.ensures.apart region asleep),
)
