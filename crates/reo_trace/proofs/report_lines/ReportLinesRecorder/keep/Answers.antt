use Rattle.std.proofs.Common.{◌∙◌}
use Rattle.reo_trace.proofs.ReportLemmas.{kept_more, one_more}
use Rattle.reo_trace.proofs.report_lines.ReportLinesRecorder.keep.Goals as goal

pub returns : goal.returns
returns c =
    λ start steps before.
    kept_more start _ _ steps (record { pairs = c.args.pairs.now }) (one_more _ (record { pairs = c.args.pairs.now }) _ _ c.in_ok-self-inside.ensures.written.items c.advance.ensures) (c.self.view_is ∙ before)
