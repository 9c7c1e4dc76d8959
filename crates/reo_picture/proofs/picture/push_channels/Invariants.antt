use Rattle.std.proofs.Common.{take}
use Rattle.reo_trace.specs.Passes.{numbered}
use Rattle.reo_trace.specs.Buffer.{HasTaken}
use Rattle.reo_picture.specs.Picture.{ended, channel_line}
use Rattle.reo_picture.proofs.picture.push_channels.Given as goal

abbrev pub invariant-loop-number : goal.invariant-loop-number
invariant-loop-number l = HasTaken l.initial.buffer l.buffer (numbered (λ number channel. ended (channel_line l.texts number channel)) 0 (take l.number l.channels))
