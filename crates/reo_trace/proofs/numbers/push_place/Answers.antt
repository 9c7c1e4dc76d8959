use Rattle.std.proofs.Common.{◌≡◌, ℕ, ◌-◌, List, ◌++◌, length, take, drop, replicate, sym, ap, ◌∙◌, arith, rules, codes, decimal, OnOk, append_assoc, length-append, subst}
use Rattle.std.proofs.lemmas.Fmt.{length-decimal-le}
use Rattle.std.proofs.lemmas.List.{drop-replicate}
use Rattle.std.proofs.Math.Seq.{take-append_seam}
use Rattle.reo_trace.specs.Buffer.{HasTaken}
use Rattle.reo_trace.proofs.numbers.push_place.Goals as goal

pub write_digits-digits-requires : goal.write_digits-digits-requires
write_digits-digits-requires c = (omega (arith, length-decimal-le 20 c.args.number (omega arith) (omega arith) c.ranges.number.fits), search rules)

pub put_before-first-requires : goal.put_before-first-requires
put_before-first-requires c =
    let long = length-decimal-le 20 c.args.number (omega arith) (omega arith) c.ranges.number.fits in
    (omega (arith, long, c.write_digits-digits.ensures.start), omega (arith, c.write_digits-digits.ensures.start))

pub returns-clause-taken : goal.returns-clause-taken
returns-clause-taken c =
    let first = c.put_before-first in
    let digits = decimal c.args.number in
    let whole = codes " at " ++ digits ++ codes "\n" in
    let rest : List ℕ = replicate 32 10 in
    let made : drop first.result first.new.made ≡ whole ++ rest =
    first.ensures.made ∙ ap (λ l. codes " at " ++ l) (c.write_digits-digits.ensures.written ∙ ap (λ l. digits ++ l) (drop-replicate 31 64 10) ∙ sym (append_assoc digits (codes "\n") rest)) in
    let long : 32 - first.result ≡ length whole =
    omega (arith, first.ensures.start, c.write_digits-digits.ensures.start, length-append digits (codes "\n")) in
    subst (λ l. OnOk c.append_short.result (HasTaken c.args.buffer.now c.append_short.new.buffer l))
    (ap (take (32 - first.result)) made ∙ ap (λ n. take n (whole ++ rest)) long ∙ take-append_seam whole rest) c.append_short.ensures.taken
