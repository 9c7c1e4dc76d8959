-- The lines of steps, one step after the other, and the whole text.
use Rattle.std.proofs.Common.{◌≡◌, ℕ, ◌+◌, List, [], ◌∷◌, ◌++◌, length, ap, ◌∙◌, sym, arith, append_assoc, append-nil, length-append}
use Rattle.reo_net.specs.declared.circuit.RawCircuit.{RawCircuit}
use Rattle.reo_net.specs.declared.circuit.Step.{Step}
use Rattle.reo_trace.specs.declared.report.Called.{Called}
use Rattle.reo_trace.specs.declared.report.Ending.{Ending}
use Rattle.reo_trace.specs.Lines.{LinesState, no_lines, after_steps}
use Rattle.reo_trace.specs.ReportText.{step_line, step_lines, call_lines, end_line, report_text}
use Rattle.reo_trace.proofs.ListLemmas.{step_lines-append}

after_more : (start : LinesState) (steps more : List Step) → after_steps (after_steps start steps) more ≡ after_steps start (steps ++ more)
after_more start steps more =
    let lines : List Step → List ℕ = step_lines start.circuit start.nodes start.texts start.count in
    let rest : List ℕ = step_lines start.circuit start.nodes start.texts (start.count + length steps) more in
    let text : start.text ++ lines steps ++ rest ≡ start.text ++ lines (steps ++ more) =
    append_assoc start.text (lines steps) rest
    ∙ ap (λ l. start.text ++ l) (sym (step_lines-append start.circuit start.nodes start.texts start.count steps more)) in
    let count : start.count + length steps + length more ≡ start.count + length (steps ++ more) = omega (arith, length-append steps more) in
    λ i. record { circuit = start.circuit; nodes = start.nodes; texts = start.texts; text = text i; count = count i }

-- one step more
pub kept_more : (start old new : LinesState) (steps : List Step) (step : Step) → new ≡ after_steps old (step ∷ []) → old ≡ after_steps start steps
    → new ≡ after_steps start (steps ++ step ∷ [])
kept_more start old new steps step one before = one ∙ ap (λ s. after_steps s (step ∷ [])) before ∙ after_more start steps (step ∷ [])

-- a line more
pub one_more : (old : LinesState) (step : Step) (text : List ℕ) (count : ℕ) → text ≡ old.text ++ step_line old.circuit old.nodes old.texts old.count step → count ≡ old.count + 1
    → ◌≡◌ {A = LinesState} (record { circuit = old.circuit; nodes = old.nodes; texts = old.texts; text = text; count = count }) (after_steps old (step ∷ []))
one_more old step text count is more =
    let whole = is ∙ ap (λ l. old.text ++ l) (sym (append-nil (step_line old.circuit old.nodes old.texts old.count step))) in
    λ i. record { circuit = old.circuit; nodes = old.nodes; texts = old.texts; text = whole i; count = more i }

-- the lines of all steps, then those of the calls and of the end
pub whole_text : (c : RawCircuit) (nodes texts people : List (List ℕ)) (steps : List Step) (calls : List (List Called)) (ending : Ending) (lines : LinesState) (text : List ℕ)
    → text ≡ lines.text ++ call_lines lines.circuit lines.nodes lines.texts people 0 calls ++ end_line ending → lines ≡ after_steps (no_lines c nodes texts) steps
    → text ≡ report_text c nodes texts people (record { steps = steps; calls = calls; ending = ending })
whole_text c nodes texts people steps calls ending lines text is kept =
    is ∙ ap (λ s. s.text ++ call_lines s.circuit s.nodes s.texts people 0 calls ++ end_line ending) kept
