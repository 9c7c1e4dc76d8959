use Rattle.std.proofs.Common.{◌≡◌, ◌+◌, length, map}
use Rattle.std.specs.Prelude.{vec_len}
use Rattle.std.specs.List.{range_with_len}
use Rattle.reo_outline.specs.Texts.{texts_below}
use Rattle.reo_outline.proofs.texts.texts_of.Given as goal

abbrev pub invariant-loop-name : goal.invariant-loop-name
invariant-loop-name l =
    (l.bytes.items ≡ texts_below l.net l.nodes l.name)
    × (vec_len l.bytes ≡ length (texts_below l.net l.nodes l.name))
    × (l.starts.items ≡ map (λ name. length (texts_below l.net l.nodes name)) (range_with_len 0 (l.name + 1)))
