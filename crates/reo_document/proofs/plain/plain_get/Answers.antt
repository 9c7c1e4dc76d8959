use Rattle.std.proofs.Common.{sym, ◌∙◌, arith}
use Rattle.std.proofs.lemmas.List.{take_rest}
use Rattle.reo_document.proofs.PlainLineLemmas.{is_plain_get}
use Rattle.reo_document.proofs.plain.plain_get.Goals as goal

pub returns : goal.returns
returns c =
    is_plain_get c.args.bytes.now c.args.rest.now c.in_ok-_more._more.now c.name.result c.in_ok-len.len _ c.requires c.in_ok-len.ensures
    (sym (take_rest c.args.rest.now c.in_ok-len.len) ∙ c.in_ok-_more.ensures) c.name.ensures.start c.name.ensures.end (omega arith)
