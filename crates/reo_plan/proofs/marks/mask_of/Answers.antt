use Rattle.std.proofs.Common.{get_or, sym, subst, arith}
use Rattle.std.proofs.lemmas.List.{take_all}
use Rattle.std.proofs.lemmas.Option.{slice_get-get_or}
use Rattle.reo_plan.specs.inside.Marks.{IsMask, IsMarked}
use Rattle.reo_plan.proofs.MarkLemmas.{mask_more, marked_more}
use Rattle.reo_plan.proofs.PlaceSlotLemmas.{take_more}
use Rattle.reo_plan.proofs.marks.mask_of.Goals as goal

pub loop-number-preserved : goal.loop-number-preserved
loop-number-preserved c =
    let numbers = c.args.numbers.now in
    let n = c.loop-number.number-index in
    let number = get_or numbers n 0 in
    let more = sym (take_more numbers n number (slice_get-get_or numbers n 0 (omega arith))) in
    record {
      mask = subst (λ l. IsMask l c.with_bit-mask.result) more (mask_more _ number c.loop-number.mask c.with_bit-mask.result c.loop-number.invariant.mask c.with_bit-mask.ensures.misses);
      marked = subst (λ l. IsMarked l c.with_bit-mask.result) more (marked_more _ number c.loop-number.mask c.with_bit-mask.result c.loop-number.invariant.marked c.with_bit-mask.ensures.sets c.with_bit-mask.ensures.keeps);
    }

pub returns : goal.returns
returns c =
    let all = take_all c.loop-number.number-index c.args.numbers.now (omega arith) in
    record {
      mask = subst (λ l. IsMask l c.loop-number.mask) all c.loop-number.invariant.mask;
      marked = subst (λ l. IsMarked l c.loop-number.mask) all c.loop-number.invariant.marked;
    }
