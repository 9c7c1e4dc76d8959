use Rattle.std.proofs.Common.{get_or, nat_eq, refl, arith}
use Rattle.std.proofs.lemmas.Bool.{eq-eqb}
use Rattle.std.proofs.lemmas.List.Folds.{list_any_at}
use Rattle.reo_plan.proofs.columns.add_numbers.Goals as goal

pub loop-number-preserved : goal.loop-number-preserved
loop-number-preserved c =
    let numbers = c.args.numbers.now in
    let n = get_or numbers c.loop-number.number-index 0 in
    record {
      len = c.add_row.ensures.len;
      kept = λ P misses none.
          c.add_row.ensures.kept P (c.loop-number.invariant.kept P misses none)
          (none n (list_any_at (λ x. nat_eq x n) numbers c.loop-number.number-index 0 (omega arith) (eq-eqb n n refl)));
    }
