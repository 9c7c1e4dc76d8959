use Rattle.std.proofs.Common.{◌≡◌, ◌+◌, length, map}
use Rattle.std.specs.Prelude.{vec_len}
use Rattle.std.specs.List.{range_with_len}
use Rattle.reo_trace.specs.Fronts.{quoted_text}
use Rattle.reo_trace.specs.Parts.{parts_below}
use Rattle.reo_trace.proofs.quotes.quotes_of.Given as goal

abbrev pub invariant-loop-text : goal.invariant-loop-text
invariant-loop-text l =
    (l.bytes.items ≡ parts_below (quoted_text l.texts) l.text)
    × (vec_len l.bytes ≡ length (parts_below (quoted_text l.texts) l.text))
    × (l.starts.items ≡ map (λ name. length (parts_below (quoted_text l.texts) name)) (range_with_len 0 (l.text + 1)))
