use Rattle.std.proofs.Common.{◌++◌, sym, ap, ◌∙◌, append_assoc, codes, decimal, OnOk, subst}
use Rattle.reo_trace.specs.Buffer.{HasTaken}
use Rattle.reo_trace.specs.ReportText.{value_text, op_text}
use Rattle.reo_trace.proofs.BufferLemmas.{HasTaken-trans, taken-trans}
use Rattle.reo_trace.proofs.calls.push_call.Goals as goal

pub returns-clause-line : goal.returns-clause-line
returns-clause-line c =
    let call = c.args.call.now in
    let front = codes "call " ++ c.args.person.now ++ op_text c.args.net.now c.args.nodes.now call.op ++ codes " " in
    let valued = front ++ value_text c.args.texts.now call.value in
    let same = sym (append_assoc valued (codes " at " ++ decimal call.number) (codes "\n")) ∙ ap (λ l. l ++ codes "\n") (sym (append_assoc valued (codes " at ") (decimal call.number))) in
    let first = subst (λ l. HasTaken c.args.buffer.now c.append.new.buffer l) (c.as_slice.ensures.value ∙ c.in_ok-turn_to_op.ensures.bytes) c.in_ok-append.ensures in
    subst (λ l. OnOk c.push_place.result (HasTaken c.args.buffer.now c.push_place.new.buffer l)) same
    (taken-trans _ _ _ _ valued (codes " at " ++ decimal call.number ++ codes "\n") (HasTaken-trans _ _ _ front _ first c.in_ok-push_datum.ensures.taken) c.push_place.ensures.taken)
