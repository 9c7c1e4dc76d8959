use Rattle.std.proofs.Common.{sym, ◌∙◌, ◌+◌, ap, arith}
use Rattle.reo_document.proofs.PlainLineLemmas.{read_one}
use Rattle.reo_document.proofs.plain.natural.Goals as goal

pub loop-byte-preserved : goal.loop-byte-preserved
loop-byte-preserved c = record {
  reads =
      read_one c.args.digits.now c.loop-byte.byte-index c.loop-byte.value c.from.result c.loop-byte.invariant.reads c.loop-byte-test.true (sym c.is_digit.ensures ∙ c.if-not-is_digit.false) c.from.ensures
      (omega (arith, c.if-value-ge-LIMIT.false));
  count = ap (λ n. n + 1) c.loop-byte.invariant.count;
}
