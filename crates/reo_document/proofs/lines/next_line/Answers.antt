use Rattle.std.proofs.Common.{◌+◌, [], ◌∷◌, map, take, drop, IsUtf8, sym, ap, subst, ◌∙◌}
use Rattle.std.proofs.lemmas.List.{take_rest}
use Rattle.reo_document.specs.Lines.{parts_of, without_end}
use Rattle.reo_document.proofs.LineLemmas.{lacks-before, lacks-None, parts-at, parts_of-cut, parts_of-last}
use Rattle.reo_document.proofs.RoomLemmas.{utf8_line, utf8_before, utf8_behind}
use Rattle.reo_document.proofs.lines.next_line.Goals as goal

pub returns-in-Some-clause-exact : goal.returns-in-Some-clause-exact
returns-in-Some-clause-exact c =
    let bytes = c.args.bytes.now in
    let at = c.in-Some.at in
    ap (λ ps. map without_end ps) (ap parts_of (parts-at 10 bytes at (sym c.in-Some.ensures.place)) ∙ parts_of-cut (take at bytes) (drop (at + 1) bytes) (lacks-before 10 bytes at (sym c.in-Some.ensures.place)))
    ∙ ap (λ line. line ∷ map without_end (parts_of (drop (at + 1) bytes))) (sym c.without_end.ensures.exact)
    ∙ ap (λ rest. c.without_end.result.now ∷ map without_end (parts_of rest)) (sym (take_rest bytes (at + 1)))

pub returns-in-None-clause-exact : goal.returns-in-None-clause-exact
returns-in-None-clause-exact c =
    ap (λ ps. map without_end ps) (parts_of-last c.args.bytes.now (lacks-None 10 c.args.bytes.now (sym c.in-None.ensures.place))) ∙ ap (λ line. line ∷ []) (sym c.without_end-in-None.ensures.exact)

pub returns-in-Some-clause-utf8 : goal.returns-in-Some-clause-utf8
returns-in-Some-clause-utf8 c =
    subst IsUtf8 (sym c.without_end.ensures.exact) (utf8_line (take c.in-Some.at c.args.bytes.now) (utf8_before c.args.bytes.now c.in-Some.at c.requires (sym c.in-Some.ensures.place)))

pub returns-in-Some-clause-rest : goal.returns-in-Some-clause-rest
returns-in-Some-clause-rest c =
    subst IsUtf8 (sym (take_rest c.args.bytes.now (c.in-Some.at + 1))) (utf8_behind c.args.bytes.now c.in-Some.at c.requires (sym c.in-Some.ensures.place))

pub returns-in-None-clause-utf8 : goal.returns-in-None-clause-utf8
returns-in-None-clause-utf8 c = subst IsUtf8 (sym c.without_end-in-None.ensures.exact) (utf8_line c.args.bytes.now c.requires)
