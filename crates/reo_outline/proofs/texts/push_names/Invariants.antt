use Rattle.std.proofs.Common.{take}
use Rattle.reo_outline.specs.Texts.{IsRun, IsHeld}
use Rattle.reo_outline.proofs.texts.push_names.Given as goal

abbrev pub invariant-loop-name : goal.invariant-loop-name
invariant-loop-name l = IsRun l.run × IsHeld l.net l.nodes l.initial.buffer l.buffer l.run (take l.name-index l.names)
