use Rattle.std.proofs.Common.{◌≡◌}
use Rattle.reo_session.specs.Running.{IsRunning}
use Rattle.reo_session.specs.Session.{firings_of}
use Rattle.reo_session.specs.Watch.{IsWatching}
use Rattle.reo_session.proofs.schedule.run_on.Given as goal

abbrev pub invariant-loop-turn : goal.invariant-loop-turn
invariant-loop-turn g l = record {
  running : IsRunning l.board.net.now l.board.texts.now l.board.scripts.now l.initial.engine.fabric (firings_of l.board.tables.now) l.board.limit l.initial.engine.decider l.engine (g.R.Recorder.has_kept l.initial.recorder l.recorder) l.progress.calls.items l.place;
  watching : IsWatching (g.P.Decider.first_choice l.plan) l.board.scripts.now l.engine l.watch l.progress.calls.items;
  counted : l.engine.count ≡ l._turn;
}
