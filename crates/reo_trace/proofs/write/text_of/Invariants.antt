use Rattle.std.proofs.Common.{◌≡◌, take}
use Rattle.reo_trace.specs.Lines.{no_lines, after_steps}
use Rattle.reo_trace.proofs.write.text_of.Given as goal

abbrev pub invariant-loop-step : goal.invariant-loop-step
invariant-loop-step l = l.lines ≡ after_steps (no_lines l.net l.nodes l.texts) (take l.step-index l.step-items)
