use Rattle.std.proofs.Common.{◌≡◌, take}
use Rattle.std.specs.List.{filter_map}
use Rattle.reo_document.specs.Document.{channel_in}
use Rattle.reo_document.proofs.document.channels_in.Given as goal

abbrev pub invariant-loop-line : goal.invariant-loop-line
invariant-loop-line l = l.channels.items ≡ filter_map channel_in (take l.line-index l.lines)
