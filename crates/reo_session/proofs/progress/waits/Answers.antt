use Rattle.std.proofs.Common.{◌<◌, length, eqb, sym, ap, ◌∙◌, subst}
use Rattle.reo_session.proofs.ProgressLemmas.{one_waits, not_true}
use Rattle.reo_session.proofs.progress.waits.Goals as goal

pub returns : goal.returns
returns c =
    λ differ. one_waits c.args.component c.args.scripts.now c.args.calls.now c.index-scripts-component.result c.index-calls-component.result c.requires.component (subst (λ n. c.args.component < n) c.requires.as_many c.requires.component)
    c.index-scripts-component.is c.index-calls-component.is (ap (λ n. eqb n (length c.index-calls-component.result)) (sym c.len.ensures) ∙ ap (eqb c.len.result) (sym c.len-2.ensures) ∙ not_true (eqb c.len.result c.len-2.result) differ)
