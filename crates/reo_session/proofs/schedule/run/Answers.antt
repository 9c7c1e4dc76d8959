use Rattle.std.proofs.Common.{◌≡◌, [], List, length, map, sym, ap, ◌∙◌, subst}
use Rattle.std.specs.Borrow.{Bor}
use Rattle.std.proofs.lemmas.List.{length-map}
use Rattle.reo_fabric.specs.declared.fabric.Fabric.{Fabric}
use Rattle.reo_fabric.specs.declared.port_state.PortState.TheVariants.{Idle}
use Rattle.reo_fabric.specs.Engine.{EngineState, port_at}
use Rattle.reo_trace.specs.declared.report.Called.{Called}
use Rattle.reo_session.specs.Posted.{ScriptsFitFabric}
use Rattle.reo_session.specs.Running.{IsRunning, IsPosting}
use Rattle.reo_session.specs.Session.{firings_of}
use Rattle.reo_session.specs.Watch.{IsWatch, Knows}
use Rattle.reo_session.proofs.SessionLaw.{all_idle, starts}
use Rattle.reo_session.proofs.TurnLemmas.{scripts_fit_fabric}
use Rattle.reo_session.proofs.schedule.run.Goals as goal

pub post_first-requires-clause-fit : goal.post_first-requires-clause-fit
post_first-requires-clause-fit g c =
    let b = c.args.board in
    subst (λ (x : EngineState (Bor g.row.P.Denot)). ScriptsFitFabric x.fabric b.scripts.now) (sym c.in_ok-engine.ensures)
    (scripts_fit_fabric b.net.now c.args.fabric (firings_of b.tables.now) c.requires.set.board b.scripts.now c.requires.set.fit)

pub post_first-requires-clause-idle : goal.post_first-requires-clause-idle
post_first-requires-clause-idle g c port =
    subst (λ (x : EngineState (Bor g.row.P.Denot)). port_at x.ports port ≡ Idle) (sym c.in_ok-engine.ensures) (all_idle c.args.fabric.ports port)

pub run_on-requires-clause-running : goal.run_on-requires-clause-running
run_on-requires-clause-running g c =
    let b = c.args.board in
    let ports = c.post_first.new.engine.ports in
    let begun = c.in_ok-engine.ensures in
    let long : length c.in_ok-engine.engine.ports ≡ length c.args.fabric.ports = ap (λ (x : EngineState (Bor g.row.P.Denot)). length x.ports) begun ∙ length-map c.args.fabric.ports (λ port. Idle) in
    let posting = subst (λ n. IsPosting b.scripts.now (length b.scripts.now) n ports) long c.post_first.ensures.posted in
    let same = c.post_first.ensures.engine ∙ ap (λ (x : EngineState (Bor g.row.P.Denot)). record x { ports = ports }) begun in
    let kept = g.R.Recorder.has_kept c.args.recorder.now c.args.recorder.now in
    let at_first = starts b.net.now b.texts.now b.scripts.now c.args.fabric (firings_of b.tables.now) b.limit _ _ _ _ c.requires.set c.args.plan kept c.requires.none ports posting in
    (subst (λ (cs : List (List Called)). IsRunning b.net.now b.texts.now b.scripts.now c.post_first.new.engine.fabric (firings_of b.tables.now) b.limit c.post_first.new.engine.decider c.post_first.new.engine kept cs 0) (sym c.in_ok-no_calls.ensures)
    (subst (λ (x : EngineState (Bor g.row.P.Denot)). IsRunning b.net.now b.texts.now b.scripts.now x.fabric (firings_of b.tables.now) b.limit x.decider x kept (map (λ script. []) b.scripts.now) 0) (sym same) at_first))

pub post_first-requires-clause-watch : goal.post_first-requires-clause-watch
post_first-requires-clause-watch g c =
    subst (λ (x : EngineState (Bor g.row.P.Denot)). IsWatch x.fabric c.in_ok-watch.watch) (sym c.in_ok-engine.ensures) c.in_ok-watch.ensures.watch

pub run_on-requires-clause-watching : goal.run_on-requires-clause-watching
run_on-requires-clause-watching g c =
    let first = c.post_first.ensures in
    let fabric = ap (λ (x : EngineState (Bor g.row.P.Denot)). x.fabric) first.engine in
    record {
      is_watch = subst (λ (f : Fabric). IsWatch f c.post_first.new.watch) (sym fabric) first.watch;
      waiting = first.waiting ∙ ap (λ (f : Fabric). length f.ports) (sym fabric);
      knows = subst (λ (cs : List (List Called)). Knows c.args.board.scripts.now cs c.post_first.new.watch.waiting.items) (sym c.in_ok-no_calls.ensures) first.knows;
      quiet = λ region asleep. absurd (first.awake region asleep);
    }
