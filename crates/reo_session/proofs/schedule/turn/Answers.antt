use Rattle.std.proofs.Common.{ℕ, ◌+◌, List, length, refl, sym, ap, ◌∙◌, subst}
use Rattle.std.specs.Borrow.{Bor}
use Rattle.reo_value.specs.declared.value.Value.{Value}
use Rattle.reo_fabric.specs.Engine.{EngineState}
use Rattle.reo_session.specs.Running.{FiresNext, any_steps}
use Rattle.reo_session.specs.Session.{firings_of}
use Rattle.reo_session.specs.declared.watch.Watch.{Watch}
use Rattle.reo_session.specs.Watch.{AreAnsweredAt, AsleepAreQuiet}
use Rattle.reo_session.proofs.TakeLemmas.{may_then, watching_then}
use Rattle.reo_session.proofs.WatchLemmas.{still_watch}
use Rattle.reo_session.proofs.TurnLemmas.{scripts_fit_fabric, answered_fired, open_fired, long_fired, running_more}
use Rattle.reo_session.proofs.schedule.turn.Goals as goal

pub fire_next-requires-clause-asleep : goal.fire_next-requires-clause-asleep
fire_next-requires-clause-asleep g c =
    subst (λ (d : g.row.P.Denot). AsleepAreQuiet (g.P.Decider.first_choice d) c.args.engine.now c.args.watch.now.awake.items) (sym c.requires.chooser) c.requires.watching.quiet

pub keep_step-requires : goal.keep_step-requires
keep_step-requires g c =
    let s = c.requires.set in
    let e = c.args.engine.now in
    let next = subst (λ (d : g.row.P.Denot). FiresNext (g.P.Decider.allows d) (g.P.Decider.first_choice d) e c.fire_next.new.engine c.args.place c.in-Some.region) c.requires.chooser c.in-Some.ensures.fires in
    record { last = (next.fires.entry, ap (λ (x : EngineState (Bor g.row.P.Denot)). x.last) next.fires.after, s.by_tables.stepped c.in-Some.region _ next.fires.entry next.fires.chosen.allowed) }

pub collect-requires-clause-may : goal.collect-requires-clause-may
collect-requires-clause-may g c =
    let s = c.requires.set in
    let r = c.requires.running in
    let e = c.args.engine.now in
    let b = c.args.board in
    let next = subst (λ (d : g.row.P.Denot). FiresNext (g.P.Decider.allows d) (g.P.Decider.first_choice d) e c.fire_next.new.engine c.args.place c.in-Some.region) c.requires.chooser c.in-Some.ensures.fires in
    let last = ap (λ (x : EngineState (Bor g.row.P.Denot)). x.last) next.fires.after in
    let kept = c.in_ok-keep_step.ensures.step next.fires.entry last in
    let watching = c.requires.watching in
    let wakes = c.in_ok-keep_step.ensures.wakes next.fires.entry last in
    let fabric = ap (λ (x : EngineState (Bor g.row.P.Denot)). x.fabric) next.fires.after in
    let was : Watch = record c.args.watch.now { awake = c.fire_next.new.awake } in
    let is = still_watch e.fabric c.args.watch.now was watching.is_watch (record { awake = c.in-Some.ensures.long; regions = refl; fillers = refl; takers = refl }) in
    let may = may_then b.scripts.now e c.fire_next.new.engine was c.keep_step.new.watch next.fires.entry c.args.progress.now.calls.items fabric
    (scripts_fit_fabric b.net.now e.fabric (firings_of b.tables.now) s.board b.scripts.now s.fit)
    (long_fired b.net.now s.checked b.texts.now b.scripts.now s.fit s.put_values e.fabric (firings_of b.tables.now) s.board b.limit e.decider _ _ _ _ s.by_tables e any_steps c.args.progress.now.calls.items c.args.place r c.requires.left c.requires.below c.fire_next.new.engine c.in-Some.region next kept.step kept.is_such ∙ r.ports_long ∙ sym s.board.is_fabric.as_many)
    (ap length r.calls_are ∙ r.under_way.lawful.components)
    (open_fired b.net.now s.checked b.texts.now b.scripts.now s.fit s.put_values e.fabric (firings_of b.tables.now) s.board b.limit e.decider _ _ _ _ s.by_tables e any_steps c.args.progress.now.calls.items c.args.place r c.requires.left c.requires.below c.fire_next.new.engine c.in-Some.region next kept.step kept.is_such) is watching.waiting watching.knows wakes in
    may

pub collect-requires-clause-answered : goal.collect-requires-clause-answered
collect-requires-clause-answered g c =
    let s = c.requires.set in
    let r = c.requires.running in
    let e = c.args.engine.now in
    let b = c.args.board in
    let next = subst (λ (d : g.row.P.Denot). FiresNext (g.P.Decider.allows d) (g.P.Decider.first_choice d) e c.fire_next.new.engine c.args.place c.in-Some.region) c.requires.chooser c.in-Some.ensures.fires in
    let last = ap (λ (x : EngineState (Bor g.row.P.Denot)). x.last) next.fires.after in
    let kept = c.in_ok-keep_step.ensures.step next.fires.entry last in
    subst (λ (puts : List (ℕ × Value)). AreAnsweredAt puts c.keep_step.new.last.gets.items c.fire_next.new.engine.ports) (sym (c.in_ok-keep_step.ensures.puts next.fires.entry last))
    (subst (λ (gets : List (ℕ × Value)). AreAnsweredAt next.fires.entry.puts gets c.fire_next.new.engine.ports) (sym (c.in_ok-keep_step.ensures.gets next.fires.entry last))
    (answered_fired b.net.now s.checked b.texts.now b.scripts.now s.fit s.put_values e.fabric (firings_of b.tables.now) s.board b.limit e.decider _ _ _ _ s.by_tables e any_steps c.args.progress.now.calls.items c.args.place r c.requires.left c.requires.below c.fire_next.new.engine c.in-Some.region next kept.step kept.is_such))

pub returns-clause-running : goal.returns-clause-running
returns-clause-running g c start r =
    let s = c.requires.set in
    let e = c.args.engine.now in
    let b = c.args.board in
    let next = subst (λ (d : g.row.P.Denot). FiresNext (g.P.Decider.allows d) (g.P.Decider.first_choice d) e c.fire_next.new.engine c.args.place c.in-Some.region) c.requires.chooser c.in-Some.ensures.fires in
    let last = ap (λ (x : EngineState (Bor g.row.P.Denot)). x.last) next.fires.after in
    let kept = c.in_ok-keep_step.ensures.step next.fires.entry last in
    running_more b.net.now s.checked b.texts.now b.scripts.now s.fit s.put_values e.fabric (firings_of b.tables.now) s.board b.limit e.decider _ _ _ _ s.by_tables e (g.R.Recorder.has_kept start c.args.recorder.now) c.args.progress.now.calls.items c.args.place r c.requires.left c.requires.below c.fire_next.new.engine c.in-Some.region next kept.step kept.is_such
    c.collect.new.engine (g.R.Recorder.has_kept start c.keep_step.new.recorder) c.collect.new.calls.items (c.in-Some.region + 1) c.in_ok-collect.ensures.takes.engine (kept.keeps start) c.in_ok-collect.ensures.calls refl
    c.in_ok-collect.ensures.takes.collected.ports_long c.in_ok-collect.ensures.posted

pub returns-clause-watching : goal.returns-clause-watching
returns-clause-watching g c =
    let s = c.requires.set in
    let r = c.requires.running in
    let e = c.args.engine.now in
    let b = c.args.board in
    let next = subst (λ (d : g.row.P.Denot). FiresNext (g.P.Decider.allows d) (g.P.Decider.first_choice d) e c.fire_next.new.engine c.args.place c.in-Some.region) c.requires.chooser c.in-Some.ensures.fires in
    let last = ap (λ (x : EngineState (Bor g.row.P.Denot)). x.last) next.fires.after in
    let kept = c.in_ok-keep_step.ensures.step next.fires.entry last in
    let watching = c.requires.watching in
    let wakes = c.in_ok-keep_step.ensures.wakes next.fires.entry last in
    let fabric = ap (λ (x : EngineState (Bor g.row.P.Denot)). x.fabric) next.fires.after in
    let was : Watch = record c.args.watch.now { awake = c.fire_next.new.awake } in
    let is = still_watch e.fabric c.args.watch.now was watching.is_watch (record { awake = c.in-Some.ensures.long; regions = refl; fillers = refl; takers = refl }) in
    let may = may_then b.scripts.now e c.fire_next.new.engine was c.keep_step.new.watch next.fires.entry c.args.progress.now.calls.items fabric
    (scripts_fit_fabric b.net.now e.fabric (firings_of b.tables.now) s.board b.scripts.now s.fit)
    (long_fired b.net.now s.checked b.texts.now b.scripts.now s.fit s.put_values e.fabric (firings_of b.tables.now) s.board b.limit e.decider _ _ _ _ s.by_tables e any_steps c.args.progress.now.calls.items c.args.place r c.requires.left c.requires.below c.fire_next.new.engine c.in-Some.region next kept.step kept.is_such ∙ r.ports_long ∙ sym s.board.is_fabric.as_many)
    (ap length r.calls_are ∙ r.under_way.lawful.components)
    (open_fired b.net.now s.checked b.texts.now b.scripts.now s.fit s.put_values e.fabric (firings_of b.tables.now) s.board b.limit e.decider _ _ _ _ s.by_tables e any_steps c.args.progress.now.calls.items c.args.place r c.requires.left c.requires.below c.fire_next.new.engine c.in-Some.region next kept.step kept.is_such) is watching.waiting watching.knows wakes in
    watching_then (g.P.Decider.first_choice c.args.plan.now) b.scripts.now e c.fire_next.new.engine c.collect.new.engine was c.keep_step.new.watch c.collect.new.watch next.fires.entry
    c.args.progress.now.calls.items c.collect.new.calls.items is
    (subst (λ (d : g.row.P.Denot). AsleepAreQuiet (g.P.Decider.first_choice d) e c.fire_next.new.awake.items) c.requires.chooser c.in-Some.ensures.asleep)
    next.fires.after wakes may c.in_ok-collect.ensures.takes

pub returns-clause-one_step : goal.returns-clause-one_step
returns-clause-one_step g c =
    ap (λ (x : EngineState (Bor g.row.P.Denot)). x.count) c.in_ok-collect.ensures.takes.engine ∙ ap (λ (x : EngineState (Bor g.row.P.Denot)). x.count) c.in-Some.ensures.fires.fires.after
