use Rattle.std.proofs.Common.{◌≡◌, take}
use Rattle.std.specs.List.{filter_map}
use Rattle.reo_document.specs.Document.{port_in}
use Rattle.reo_document.proofs.document.ports_in.Given as goal

abbrev pub invariant-loop-line : goal.invariant-loop-line
invariant-loop-line l = l.ports.items ≡ filter_map port_in (take l.line-index l.lines)
