use Rattle.std.proofs.Common.{ℕ, List, sym, subst, ◌∙◌, ap}
use Rattle.std.proofs.lemmas.List.{take_all}
use Rattle.std.specs.List.{flat_map}
use Rattle.reo_value.specs.Lexicon.{text_at}
use Rattle.reo_trace.specs.declared.report.Called.{Called}
use Rattle.reo_trace.specs.Buffer.{HasTaken}
use Rattle.reo_trace.specs.Passes.{numbered}
use Rattle.reo_trace.specs.ReportText.{call_line}
use Rattle.reo_trace.proofs.BufferLemmas.{HasTaken-numbered}
use Rattle.reo_trace.proofs.ListLemmas.{call_lines-numbered}
use Rattle.reo_trace.proofs.calls.push_calls.Goals as goal

pub loop-number-preserved : goal.loop-number-preserved
loop-number-preserved c =
    HasTaken-numbered (λ k. flat_map (call_line c.args.net.now c.args.nodes.now c.args.texts.now (text_at c.args.people.now k))) _ _ _ _ _ c.index-calls-number.result _ c.loop-number-test.true (sym c.index-calls-number.is) c.loop-number.invariant
    (rw (c.bytes_at-person.ensures, c.as_slice-own.ensures) at c.in_ok-push_own_calls.ensures)

pub returns : goal.returns
returns c =
    let lines : ℕ → List Called → List ℕ = λ k. flat_map (call_line c.args.net.now c.args.nodes.now c.args.texts.now (text_at c.args.people.now k)) in
    let all = take_all c.loop-number.number c.args.calls.now c.loop-number-test.false in
    subst (λ l. HasTaken c.args.buffer.now c.loop-number.buffer l)
    (ap (numbered lines 0) all ∙ sym (call_lines-numbered c.args.net.now c.args.nodes.now c.args.texts.now c.args.people.now 0 c.args.calls.now)) c.loop-number.invariant
