use Rattle.std.proofs.Common.{◌++◌, List, ℕ, take, ap, ◌∙◌, subst, codes, decimal}
use Rattle.std.specs.Prelude.{IfOk}
use Rattle.reo_trace.specs.Buffer.{HasWritten}
use Rattle.reo_trace.specs.ReportText.{pair_text}
use Rattle.reo_trace.proofs.RoomLemmas.{written-trans, written-on, written-back, if_written, line_parts}
use Rattle.reo_trace.proofs.lines.push_step.Goals as goal

pub returns-clause-written : goal.returns-clause-written
returns-clause-written c =
    let number : List ℕ = decimal c.args.front.now in
    let front = written-on _ _ _ _ _ (codes "step " ++ number) (ap (take c.args.used) c.as_mut_slice-room.ensures.value ∙ c.in_ok-make_room.ensures.kept) c.put-begun.ensures.written in
    let first = written-back _ _ _ _ _ _ _ (c.write_run-run.ensures.length ∙ c.put-begun.ensures.length ∙ c.as_mut_slice-room.ensures.len)
    (written-trans _ _ _ _ _ _ (codes "step " ++ number) _ front c.write_run-run.ensures.written) in
    subst (λ l. IfOk c.push_rest.result (λ end. HasWritten c.args.buffer.now.items c.args.used c.push_rest.new.buffer.items end l))
    (line_parts (pair_text c.args.net.now c.args.nodes.now c.args.texts.now) (codes "step " ++ number) (codes "\n") c.write_run-run.result.pairs _ c.args.pairs.now c.write_run-run.ensures.pairs)
    (if_written c.args.buffer.now.items _ c.push_rest.new.buffer.items c.args.used _ c.push_rest.result _ _ first c.push_rest.ensures.written)
