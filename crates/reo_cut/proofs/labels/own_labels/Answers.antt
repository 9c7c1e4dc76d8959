use Rattle.std.proofs.Common.{◌∷◌, [], ◌++◌, sym, ap, ◌∙◌}
use Rattle.reo_cut.proofs.LabelLemmas.{range_more}
use Rattle.reo_cut.proofs.labels.own_labels.Goals as goal

pub loop-label-preserved : goal.loop-label-preserved
loop-label-preserved c = c.in_ok-push.ensures.items ∙ (ap (λ l. l ++ c.loop-label.label ∷ []) c.loop-label.invariant ∙ sym (range_more c.loop-label.label))
