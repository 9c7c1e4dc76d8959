use Rattle.std.proofs.Common.{arith, rules}
use Rattle.std.proofs.lemmas.Fmt.{length-decimal-le}
use Rattle.reo_trace.proofs.numbers.StepFront.new.Goals as goal

pub write_digits-digits-requires : goal.write_digits-digits-requires
write_digits-digits-requires c = (omega (arith, length-decimal-le 20 c.args.number (omega arith) (omega arith) c.ranges.number.fits), search rules)

pub put_before-start-requires : goal.put_before-start-requires
put_before-start-requires c =
    let long = length-decimal-le 20 c.args.number (omega arith) (omega arith) c.ranges.number.fits in
    (omega (arith, long, c.write_digits-digits.ensures.start), omega (arith, c.write_digits-digits.ensures.start))
