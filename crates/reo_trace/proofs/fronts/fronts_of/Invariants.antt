use Rattle.std.proofs.Common.{◌≡◌, ◌+◌, length, map}
use Rattle.std.specs.Prelude.{vec_len}
use Rattle.std.specs.List.{range_with_len}
use Rattle.reo_trace.specs.Fronts.{front_text}
use Rattle.reo_trace.specs.Parts.{parts_below}
use Rattle.reo_trace.proofs.fronts.fronts_of.Given as goal

abbrev pub invariant-loop-name : goal.invariant-loop-name
invariant-loop-name l =
    (l.bytes.items ≡ parts_below (front_text l.net l.nodes) l.name)
    × (vec_len l.bytes ≡ length (parts_below (front_text l.net l.nodes) l.name))
    × (l.starts.items ≡ map (λ name. length (parts_below (front_text l.net l.nodes) name)) (range_with_len 0 (l.name + 1)))
