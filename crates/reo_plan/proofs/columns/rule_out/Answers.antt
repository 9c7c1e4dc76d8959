use Rattle.std.proofs.Common.{◌≡◌, ◌+◌, ◌-◌, ◌*◌, ◌%◌, get_or, take, drop, sym, ap, ◌∙◌, arith}
use Rattle.std.specs.Int.{bit_at}
use Rattle.std.proofs.lemmas.List.{get_or-take, get_or-drop}
use Rattle.reo_plan.proofs.ColumnLemmas.{rows_more}
use Rattle.reo_plan.proofs.columns.rule_out.Goals as goal

pub loop-word-preserved : goal.loop-word-preserved
loop-word-preserved c = λ p none misses.
    let word = c.loop-word.word in
    let from = 64 * c.args.number in
    let columns = c.args.columns.now in
    let read : get_or (take (from + 64 - from) (drop from columns)) word 0 ≡ get_or columns (from + word) 0 =
    get_or-take (from + 64 - from) (drop from columns) word 0 (omega arith) ∙ get_or-drop from columns word 0 in
    rows_more p c.loop-word.out.words word _ (omega arith)
    (λ row is passes. ap (λ w. bit_at w (row % 64)) (read ∙ ap (λ k. get_or columns (from + k) 0) (sym is)) ∙ none row (omega (arith, is)) passes)
    (c.loop-word.invariant p none misses)
