use Rattle.std.proofs.Common.{◌≡◌, ◌+◌, ◌++◌, ℕ, arith, drop, length-take, refl, subst, sym, take, ◌∙◌}
use Rattle.std.proofs.lemmas.List.{take-append-le}
use Rattle.std.proofs.lemmas.Grind.{common_steps}
use Rattle.std.proofs.KnownBytes.{Consumes-trans}
use Rattle.std.specs.Io.KnownBytes.{Consumes}
use Rattle.reo_base.proofs.Streams.{LosesFirst-read, LosesAtMost-from_first, RisesAtMost-one_more}
use Rattle.reo_base.proofs.whole_read.read_all.Goals as goal

pub returns-then-count-free-clause-taken : goal.returns-then-count-free-clause-taken
returns-then-count-free-clause-taken g c = λ _.
    LosesFirst-read _ _ _ _ _ _ _ c.pieces.invariant.consumed c.in_ok-count.ensures.bytes.0 c.in_ok-count.ensures.bound.1
    (omega (arith, c.in_ok-count.ensures.bound.0, c.read.auto.buf, c.pieces.bytes.ok, length-take {A = ℕ}))

pub returns-in_err-count-clause-calls : goal.returns-in_err-count-clause-calls
returns-in_err-count-clause-calls g c = RisesAtMost-one_more _ _ _ _ _ c.pieces.invariant.calls c.in_err-count.ensures.counted (omega (arith, c.pieces.invariant.within))

pub returns-then-count-eq0-clause-calls : goal.returns-then-count-eq0-clause-calls
returns-then-count-eq0-clause-calls g c = RisesAtMost-one_more _ _ _ _ _ c.pieces.invariant.calls c.in_ok-count.ensures.counted (omega (arith, c.pieces.invariant.within))

pub returns-then-count-free-clause-calls : goal.returns-then-count-free-clause-calls
returns-then-count-free-clause-calls g c = RisesAtMost-one_more _ _ _ _ _ c.pieces.invariant.calls c.in_ok-count.ensures.counted (omega (arith, c.pieces.invariant.within))

pub returns-in_err-extend_from_slice-clause-calls : goal.returns-in_err-extend_from_slice-clause-calls
returns-in_err-extend_from_slice-clause-calls g c = RisesAtMost-one_more _ _ _ _ _ c.pieces.invariant.calls c.in_ok-count.ensures.counted (omega (arith, c.pieces.invariant.within))

pub pieces-preserved : goal.pieces-preserved
pieces-preserved g c =
    let read : take c.in_ok-count.count (c.read.new.buf ++ drop (c.min-room.result + 1) c.pieces.buffer) ≡ take c.in_ok-count.count c.read.new.buf =
    take-append-le c.in_ok-count.count c.read.new.buf _ c.in_ok-count.ensures.bound.0 in
    let items : c.extend_from_slice.new.self.items ≡ c.pieces.bytes.items ++ take c.in_ok-count.count c.read.new.buf = grind (arith, common_steps, read) in
    record {
      within = grind (arith, common_steps, length-take);
      kept = c.in_ok-count.ensures.cause.kept ∙ c.pieces.invariant.kept;
      consumed = subst (Consumes _ _) (sym items) (Consumes-trans _ _ _ _ _ c.pieces.invariant.consumed c.in_ok-count.ensures.bytes.0);
      calls = RisesAtMost-one_more _ _ _ _ _ c.pieces.invariant.calls c.in_ok-count.ensures.counted (grind (arith, common_steps, length-take));
    }

pub returns-in_err-extend_from_slice-clause-untaken : goal.returns-in_err-extend_from_slice-clause-untaken
returns-in_err-extend_from_slice-clause-untaken g c = λ _.
    LosesAtMost-from_first _ _ _ _
    (LosesFirst-read _ _ _ _ _ _ _ c.pieces.invariant.consumed c.in_ok-count.ensures.bytes.0 c.in_ok-count.ensures.bound.1 refl)
    (omega (arith, c.if-count-free.false, c.pieces.invariant.within))
