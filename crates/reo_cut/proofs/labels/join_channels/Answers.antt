use Rattle.std.proofs.Common.{◌≡◌, ◌+◌, ◌∷◌, length, refl, sym, ap, ◌∙◌, subst, arith}
use Rattle.std.proofs.lemmas.Option.{slice_get_read}
use Rattle.reo_cut.specs.Labels.{AreLabels, pairs_below}
use Rattle.reo_cut.specs.Parents.{DoNotRise, AreParents}
use Rattle.reo_cut.proofs.PairLemmas.{joined_next, same_next}
use Rattle.reo_cut.proofs.labels.join_channels.Goals as goal
use Rattle.reo_cut.proofs.labels.join_channels.Goals.{then-not-is_fifo, else-not-is_fifo}

pub loop-number-preserved : goal.loop-number-preserved
loop-number-preserved c =
    let channels = c.args.channels.now in
    let k = c.loop-number.number in
    let channel = c.index-channels-number.result in
    let found = slice_get_read channels (length channels) k channel refl c.loop-number-test.true c.index-channels-number.is in
    elim c.if-not-is_fifo.branch [
      | then-not-is_fifo w ↦ record {
        len = ap length w.parents-is ∙ (w.join-then-not-is_fifo.ensures.len ∙ (w.join.ensures.len ∙ c.loop-number.invariant.len));
        falls = subst DoNotRise (sym w.parents-is) w.join-then-not-is_fifo.ensures.falls;
        so_far = λ n own.
            subst (AreParents (pairs_below channels (k + 1)) n) (sym w.parents-is)
            (joined_next (λ pairs. AreParents pairs n w.join-then-not-is_fifo.new.parents) channels k channel found (sym c.is_fifo.ensures ∙ w.if-not-is_fifo.true)
            (w.join-then-not-is_fifo.ensures.one_pair_more ((k, length channels + channel.a) ∷ pairs_below channels k) n (w.join.ensures.one_pair_more (pairs_below channels k) n (c.loop-number.invariant.so_far n own))));
      }
      | else-not-is_fifo w ↦ record {
        len = ap length w.parents-is ∙ c.loop-number.invariant.len;
        falls = subst DoNotRise (sym w.parents-is) c.loop-number.invariant.falls;
        so_far = λ n own.
            subst (AreParents (pairs_below channels (k + 1)) n) (sym w.parents-is)
            (same_next (λ pairs. AreParents pairs n c.loop-number.parents) channels k channel found (sym c.is_fifo.ensures ∙ w.if-not-is_fifo.false) (c.loop-number.invariant.so_far n own));
      }
    ]

pub returns-clause-joined : goal.returns-clause-joined
returns-clause-joined c = λ n own.
    let channels = c.args.channels.now in
    let all : c.loop-number.number ≡ length channels = omega (arith, c.loop-number-test.false, c.loop-number.auto.number-end) in
    let joined = subst (λ k. AreParents (pairs_below channels k) n c.loop-number.parents) all (c.loop-number.invariant.so_far n own) in
    subst (AreLabels (pairs_below channels (length channels)) n) (sym (c.settle.ensures joined.labels joined.lead)) joined.are
