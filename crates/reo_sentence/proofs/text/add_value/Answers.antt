use Rattle.std.proofs.Common.{IsUtf8, sym, subst, ◌∙◌, IfOk}
use Rattle.reo_sentence.specs.Numbered.{AddsText}
use Rattle.reo_sentence.proofs.SeenLemmas.{unescaped-plain}
use Rattle.reo_sentence.proofs.Utf8Lemmas.{unescaped_utf8}
use Rattle.reo_sentence.proofs.text.add_value.Goals as goal

pub returns-then-not-is_escaped : goal.returns-then-not-is_escaped
returns-then-not-is_escaped c =
    subst (λ value. IfOk c.add.result (AddsText value c.args.texts.now c.add.new.texts)) (sym (unescaped-plain c.args.text.now (sym c.is_escaped.ensures ∙ c.if-not-is_escaped.true))) c.add.ensures

pub add-requires-2-clause-utf8 : goal.add-requires-2-clause-utf8
add-requires-2-clause-utf8 c = subst IsUtf8 (sym (c.as_slice.ensures.value ∙ c.in_ok-value.ensures)) (unescaped_utf8 c.args.text.now c.requires.utf8)
