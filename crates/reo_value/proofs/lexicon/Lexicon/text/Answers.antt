use Rattle.std.proofs.Common.{sym, ap, ◌∙◌}
use Rattle.std.specs.Option.{option_map}
use Rattle.std.specs.String.{string_bytes}
use Rattle.std.proofs.lemmas.Option.{slice_get-map}
use Rattle.reo_value.proofs.LexiconLemmas.{length-slice_get}
use Rattle.reo_value.proofs.lexicon.Lexicon.text.Goals as goal

pub returns-clause-short : goal.returns-clause-short
returns-clause-short c =
    let at = slice_get-map string_bytes c.self.inside.texts.keys c.args.number ∙ ap (option_map string_bytes) (sym c.in_ok-text.ensures.key) in
    rw c.as_str.ensures.value (length-slice_get _ _ _ c.self.invariant.short at)
