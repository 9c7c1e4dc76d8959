use Rattle.std.proofs.Common.{⊎_elim, arith}
use Rattle.std.proofs.lemmas.Bool.{cases_lt}
use Rattle.reo_plan.proofs.ColumnLemmas.{passed_up_to, passed_to_end}
use Rattle.reo_plan.proofs.columns.next_row.Goals as goal

pub returns-then-kept-ne0-clause-passed : goal.returns-then-kept-ne0-clause-passed
returns-then-kept-ne0-clause-passed c = λ p misses row after before.
    ⊎_elim (λ early. c.loop-row.invariant.passed p misses row after early)
    (λ late. passed_up_to p c.args.out.now.words misses c.loop-row.row c.word_of.result c.word_of.ensures c.word_of.type_inv c.if-kept-ne0.true row late before) (cases_lt row c.loop-row.row)

pub loop-row-preserved : goal.loop-row-preserved
loop-row-preserved c = record {
  after = omega (arith, c.loop-row.invariant.after);
  passed = λ p misses row after before.
      ⊎_elim (λ early. c.loop-row.invariant.passed p misses row after early)
      (λ late. passed_to_end p c.args.out.now.words misses c.loop-row.row c.word_of.result c.word_of.ensures c.word_of.type_inv c.if-kept-ne0.false row late before) (cases_lt row c.loop-row.row);
}
