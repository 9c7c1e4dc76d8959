use Rattle.std.proofs.Common.{◌≡◌, rules}
use Rattle.reo_print.specs.Canonical.{canonical_text}
use Rattle.reo_print.proofs.SpelledAgainLemmas.{text_again}
use Rattle.reo_print.proofs.document.print_document.Goals as goal

pub returns-clause-again : goal.returns-clause-again
returns-clause-again c =
    let text : c.push_scripts.new.buffer.items ≡ canonical_text c.args.document.now = search rules in
    text_again c.args.document.now c.push_scripts.new.buffer.items text c.scripts.ensures.spelled
