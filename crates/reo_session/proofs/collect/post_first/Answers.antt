use Rattle.std.proofs.Common.{◌<◌, length, slice_get, Some, sym, ap, ◌∙◌, subst, arith}
use Rattle.std.proofs.lemmas.Grind.{common_steps}
use Rattle.std.proofs.lemmas.Option.{slice_get-get_or}
use Rattle.reo_fabric.specs.Engine.{EngineState}
use Rattle.reo_session.specs.Posted.{MayPost, with_posted}
use Rattle.reo_session.proofs.PostLemmas.{may_post_first, post_more, knows_more, knows_all}
use Rattle.reo_session.proofs.CollectLemmas.{long_waiting}
use Rattle.reo_session.proofs.WatchLemmas.{still_watch}
use Rattle.reo_session.proofs.collect.post_first.Goals as goal

pub post-requires-clause-may : goal.post-requires-clause-may
post-requires-clause-may g c op first =
    let e = c.args.engine.now in
    let scripts = c.args.scripts.now in
    let i = c.loop-component.component in
    let below : i < length scripts = grind (arith, common_steps, c.loop-component-test.true) in
    let of_script = slice_get-get_or scripts i c.index-scripts-component.result below ∙ ap Some (sym c.index-scripts-component.is ∙ sym c.as_slice.ensures) in
    let may = may_post_first scripts e.fabric c.requires.fit (length e.ports) c.requires.long i c.loop-component.engine.ports c.loop-component.invariant.posting c.as_slice.result.now of_script op first in
    subst (λ (x : EngineState g.row.D.Denot). MayPost x.fabric c.loop-component.engine.ports op) (sym c.loop-component.invariant.engine) may

pub loop-component-preserved : goal.loop-component-preserved
loop-component-preserved g c =
    let e = c.args.engine.now in
    let scripts = c.args.scripts.now in
    let i = c.loop-component.component in
    let below : i < length scripts = grind (arith, common_steps, c.loop-component-test.true) in
    let of_script = slice_get-get_or scripts i c.index-scripts-component.result below ∙ ap Some (sym c.index-scripts-component.is ∙ sym c.as_slice.ensures) in
    let ports = ap (λ (x : EngineState g.row.D.Denot). x.ports) c.post.ensures.engine in
    record {
      posting = post_more scripts e.fabric c.requires.fit (length e.ports) c.requires.long i c.loop-component.engine.ports c.loop-component.invariant.posting c.as_slice.result.now of_script c.post.new.engine.ports ports;
      engine = c.post.ensures.engine ∙ ap (λ (x : EngineState g.row.D.Denot). record x { ports = with_posted c.loop-component.engine.ports (slice_get c.as_slice.result.now 0) }) c.loop-component.invariant.engine
          ∙ ap (λ ps. record e { ports = ps }) (sym ports);
      watch = still_watch e.fabric c.loop-component.watch c.post.new.watch c.loop-component.invariant.watch c.post.ensures.places;
      waiting = ap length c.post.ensures.waiting ∙ long_waiting c.loop-component.watch.waiting.items i (slice_get c.as_slice.result.now 0) ∙ c.loop-component.invariant.waiting;
      knows = knows_more scripts e.fabric c.requires.fit (length e.ports) c.requires.long i c.loop-component.engine.ports c.loop-component.invariant.posting c.as_slice.result.now of_script
          c.loop-component.watch.waiting.items c.post.new.watch.waiting.items c.loop-component.invariant.waiting c.loop-component.invariant.knows c.post.ensures.waiting;
      awake = λ region asleep. c.loop-component.invariant.awake region (c.post.ensures.asleep region asleep).0;
    }

pub returns-clause-knows : goal.returns-clause-knows
returns-clause-knows g c =
    knows_all c.args.scripts.now c.loop-component.component c.loop-component.watch.waiting.items (omega (arith, c.loop-component-test.false)) c.loop-component.invariant.knows
