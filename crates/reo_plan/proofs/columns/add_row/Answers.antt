use Rattle.std.proofs.Common.{◌≡◌, ◌+◌, ◌*◌, ◌/◌, ◌%◌, ◌^◌, get_or, set, refl, sym, ap, ◌∙◌, subst, arith}
use Rattle.std.specs.Int.RustNames.{bit_or}
use Rattle.std.proofs.lemmas.List.{get_or_read_under}
use Rattle.reo_plan.specs.inside.Columns.{MissesAsks}
use Rattle.reo_plan.proofs.ColumnLemmas.{column_more}
use Rattle.reo_plan.proofs.columns.add_row.Goals as goal

pub returns-then-row-clause-kept : goal.returns-then-row-clause-kept
returns-then-row-clause-kept c = λ P misses asked.
    let columns = c.args.columns.now.items in
    let at = 64 * c.args.number + c.args.row / 64 in
    let old : get_or columns at 0 ≡ c.index_mut.result.now =
    sym (get_or_read_under columns at 4096 c.index_mut.result.now 0 c.index_mut.ensures.value (omega arith) (sym c.requires)) in
    let word : bit_or (get_or columns at 0) (2 ^ (c.args.row % 64)) ≡ bit_or c.index_mut.result.now c.row_bit.result =
    ap (λ w. bit_or w (2 ^ (c.args.row % 64))) old ∙ ap (bit_or c.index_mut.result.now) (sym c.row_bit.ensures) in
    subst (λ w. MissesAsks P (set columns at w)) word
    (column_more P columns c.args.number c.args.row at (omega arith) refl (omega (arith, c.requires)) asked misses)
