use Rattle.std.proofs.Common.{◌-◌, ◌≤◌}
use Rattle.std.specs.List.{range_with_len, flat_map}
use Rattle.reo_trace.specs.Buffer.{HasTaken}
use Rattle.reo_outline.specs.Outline.{name_part}
use Rattle.reo_outline.proofs.texts.push_each.Given as goal

abbrev pub invariant-loop-name : goal.invariant-loop-name
invariant-loop-name l =
    (l.fn.run.from ≤ l.name) × HasTaken l.initial.buffer l.buffer (flat_map (name_part l.net l.nodes) (range_with_len l.fn.run.from (l.name - l.fn.run.from)))
