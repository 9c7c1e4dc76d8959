use Rattle.std.proofs.Common.{◌+◌, ◌<◌, ◌≤◌, List, sym, ap, ◌∙◌, subst}
use Rattle.std.specs.Borrow.{Bor}
use Rattle.reo_fabric.specs.Engine.{EngineState}
use Rattle.reo_trace.specs.declared.report.Called.{Called}
use Rattle.reo_trace.specs.declared.report.Ending.TheVariants.{Stuck}
use Rattle.reo_session.specs.Running.{same_lengths}
use Rattle.reo_session.specs.Session.{Reports, firings_of}
use Rattle.reo_session.specs.Turn.{AreQuiet}
use Rattle.reo_session.proofs.ProgressLemmas.{not_all}
use Rattle.reo_session.proofs.SessionLaw.{at_engine, unkept, from_engine, reports_done, reports_limit, reports_stuck}
use Rattle.reo_session.proofs.schedule.run_on.Goals as goal

pub returns-then-all_answered : goal.returns-then-all_answered
returns-then-all_answered g c =
    let b = c.args.board in
    let e = c.args.engine.now in
    let p = c.loop-turn.progress in
    record {
      plain = reports_done b.net.now b.texts.now b.scripts.now e.fabric (firings_of b.tables.now) b.limit _ _ _ _ c.requires.set e.decider c.requires.some c.loop-turn.engine (g.R.Recorder.has_kept c.args.recorder.now c.loop-turn.recorder) p.calls.items c.loop-turn.place c.loop-turn.invariant.running
          (ap (same_lengths b.scripts.now) (sym c.deref.ensures.value) ∙ sym c.if-all_answered.ensures);
    }

pub turn-requires-clause-left : goal.turn-requires-clause-left
turn-requires-clause-left g c =
    not_all c.args.board.scripts.now c.loop-turn.progress.calls.items (ap (same_lengths c.args.board.scripts.now) (sym c.deref.ensures.value) ∙ sym c.if-all_answered.ensures)

pub turn-requires-clause-running : goal.turn-requires-clause-running
turn-requires-clause-running g c =
    let b = c.args.board in
    let e = c.args.engine.now in
    let l = c.loop-turn in
    let kept = g.R.Recorder.has_kept c.args.recorder.now l.recorder in
    unkept b.net.now b.texts.now b.scripts.now l.engine.fabric (firings_of b.tables.now) b.limit l.engine.decider l.engine kept l.progress.calls.items l.place
    (at_engine b.net.now b.texts.now b.scripts.now e.fabric (firings_of b.tables.now) b.limit e.decider l.engine kept l.progress.calls.items l.place l.invariant.running)

pub returns-in-None : goal.returns-in-None
returns-in-None g c =
    let b = c.args.board in
    let e = c.args.engine.now in
    let p = c.loop-turn.progress in
    let quiet = rw c.in-None.is at c.in_ok-next.ensures.quiet in
    let same_engine = rw c.in-None.is at c.in_ok-next.ensures.same_engine in
    let same_steps = rw c.in-None.is at c.in_ok-next.ensures.same_steps in
    let same_calls = rw c.in-None.is at c.in_ok-next.ensures.same_calls in
    let below : c.loop-turn.engine.count < b.limit = subst (λ n. n < b.limit) (sym c.loop-turn.invariant.counted) c.loop-turn-test.true in
    let quiet_before = subst (λ n. AreQuiet (g.P.Decider.first_choice c.args.plan.now) c.loop-turn.engine 0 n) c.requires.regions (subst (λ (x : EngineState (Bor g.row.P.Denot)). AreQuiet (g.P.Decider.first_choice c.args.plan.now) x 0 c.args.board.regions) same_engine quiet) in
    let stuck = reports_stuck b.net.now b.texts.now b.scripts.now e.fabric (firings_of b.tables.now) b.limit _ _ _ _ c.requires.set e.decider c.requires.some c.loop-turn.engine (g.R.Recorder.has_kept c.args.recorder.now c.loop-turn.recorder) p.calls.items c.loop-turn.place c.loop-turn.invariant.running
    (ap (same_lengths b.scripts.now) (sym c.deref.ensures.value) ∙ sym c.if-all_answered.ensures) below quiet_before in
    record {
      plain = subst (λ (r : g.row.R.Denot). Reports b.net.now b.texts.now b.scripts.now b.limit (g.R.Recorder.has_kept c.args.recorder.now r) c.turn.new.progress.calls.items Stuck) (sym same_steps)
          (subst (λ (cs : List (List Called)). Reports b.net.now b.texts.now b.scripts.now b.limit (g.R.Recorder.has_kept c.args.recorder.now c.loop-turn.recorder) cs Stuck) (sym same_calls) stuck);
    }

pub loop-turn-preserved : goal.loop-turn-preserved
loop-turn-preserved g c =
    let b = c.args.board in
    let e = c.args.engine.now in
    let r = c.loop-turn.invariant.running in
    let more = rw c.in-Some.is at c.in_ok-next.ensures.running in
    let running = more c.args.recorder.now (at_engine b.net.now b.texts.now b.scripts.now e.fabric (firings_of b.tables.now) b.limit e.decider c.loop-turn.engine (g.R.Recorder.has_kept c.args.recorder.now c.loop-turn.recorder) c.loop-turn.progress.calls.items c.loop-turn.place r) in
    let one_step = rw c.in-Some.is at c.in_ok-next.ensures.one_step in
    record {
      running = from_engine b.net.now b.texts.now b.scripts.now e.fabric (firings_of b.tables.now) b.limit e.decider c.loop-turn.engine c.turn.new.engine (g.R.Recorder.has_kept c.args.recorder.now c.turn.new.recorder) c.turn.new.progress.calls.items c.in-Some.next r.fabric_is r.decider_is running;
      watching = rw c.in-Some.is at c.in_ok-next.ensures.watching;
      counted = one_step ∙ ap (λ n. n + 1) c.loop-turn.invariant.counted;
    }

pub returns-then-all_answered-2 : goal.returns-then-all_answered-2
returns-then-all_answered-2 g c =
    let b = c.args.board in
    let e = c.args.engine.now in
    let p = c.loop-turn.progress in
    record {
      plain = reports_done b.net.now b.texts.now b.scripts.now e.fabric (firings_of b.tables.now) b.limit _ _ _ _ c.requires.set e.decider c.requires.some c.loop-turn.engine (g.R.Recorder.has_kept c.args.recorder.now c.loop-turn.recorder) p.calls.items c.loop-turn.place c.loop-turn.invariant.running
          (ap (same_lengths b.scripts.now) (sym c.deref-2.ensures.value) ∙ sym c.if-all_answered-2.ensures);
    }

pub returns-else-all_answered-2 : goal.returns-else-all_answered-2
returns-else-all_answered-2 g c =
    let b = c.args.board in
    let e = c.args.engine.now in
    let p = c.loop-turn.progress in
    record {
      plain = reports_limit b.net.now b.texts.now b.scripts.now e.fabric (firings_of b.tables.now) b.limit _ _ _ _ c.requires.set e.decider c.requires.some c.loop-turn.engine (g.R.Recorder.has_kept c.args.recorder.now c.loop-turn.recorder) p.calls.items c.loop-turn.place c.loop-turn.invariant.running
          (ap (same_lengths b.scripts.now) (sym c.deref-2.ensures.value) ∙ sym c.if-all_answered-2.ensures) (subst (λ n. b.limit ≤ n) (sym c.loop-turn.invariant.counted) c.loop-turn-test.false);
    }
