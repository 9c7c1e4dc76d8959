use Rattle.std.proofs.Common.{◌≡◌, Some, None, sym, ap, ◌∙◌}
use Rattle.std.specs.String.{string_bytes}
use Rattle.reo_value.specs.Lexicon.{place_of}
use Rattle.reo_value.proofs.IndexLemmas.{position-place_of}
use Rattle.reo_value.proofs.LexiconLemmas.{slice_get-place_of, place_of-None}
use Rattle.reo_value.proofs.lexicon.Lexicon.find.Goals as goal

pub returns : goal.returns
returns c =
    let place : Some c.in_ok-number.number ≡ place_of c.args.self.now c.args.text.now =
    c.in_ok-number.ensures.index ∙ position-place_of string_bytes c.args.text.now c.self.inside.texts.keys ∙ ap (λ texts. place_of texts c.args.text.now) c.self.view_is
    in record { place = place; found = slice_get-place_of _ _ _ (sym place); absent = tt }

pub returns-in_err-number : goal.returns-in_err-number
returns-in_err-number c =
    let place : None ≡ place_of c.args.self.now c.args.text.now =
    c.in_err-number.ensures.index ∙ position-place_of string_bytes c.args.text.now c.self.inside.texts.keys ∙ ap (λ texts. place_of texts c.args.text.now) c.self.view_is
    in rw c.from_residual.ensures (record { place = place; found = tt; absent = place_of-None _ _ (sym place) })
