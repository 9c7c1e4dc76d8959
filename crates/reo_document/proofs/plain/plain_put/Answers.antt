use Rattle.std.proofs.Common.{sym, ◌∙◌, arith}
use Rattle.std.proofs.lemmas.List.{take_rest}
use Rattle.reo_document.proofs.PlainLineLemmas.{is_plain_put}
use Rattle.reo_document.proofs.plain.plain_put.Goals as goal

pub returns : goal.returns
returns c =
    is_plain_put c.args.bytes.now c.args.rest.now c.in_ok-digits.digits.now c.name.result c.in_ok-len.len c.in_ok-value.value c.in_ok-value.size _ c.in_ok-number.number c.requires c.in_ok-len.ensures
    (sym (take_rest c.args.rest.now c.in_ok-len.len) ∙ c.in_ok-digits.ensures) c.in_ok-value.ensures c.in_ok-number.ensures.value c.name.ensures.start c.name.ensures.end (omega arith)
