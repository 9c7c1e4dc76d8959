use Rattle.std.proofs.Common.{◌∙◌}
use Rattle.reo_guard.proofs.FrontLemmas.{text_begins}
use Rattle.reo_guard.proofs.guard.starts_with.Goals as goal

pub returns-in-Sym : goal.returns-in-Sym
returns-in-Sym c =
    text_begins c.args.texts.now c.args.datum.now c.in-Sym.text _ _ _ c.starts_with.result c.in-Sym.is (c.as_bytes-bytes.ensures.value ∙ c.text_or_empty.ensures.text) (c.as_bytes.ensures.value ∙ c.text_or_empty-in-Sym.ensures.text) c.starts_with.ensures.value
