use Rattle.std.proofs.Common.{ℕ, List, ◌∙◌, subst}
use Rattle.reo_trace.specs.Buffer.{HasTaken}
use Rattle.reo_trace.proofs.BufferLemmas.{HasTaken-trans}
use Rattle.reo_picture.specs.Picture.{quoted}
use Rattle.reo_picture.proofs.AddsLemmas.{Adds-trans, taken}
use Rattle.reo_picture.proofs.lines.push_arrow.Goals as goal

pub returns : goal.returns
returns c =
    let mark = subst (λ (mark : List ℕ). HasTaken c.push_arrow_head.new.buffer c.push_quoted.new.buffer (quoted mark)) (c.as_slice.ensures.value ∙ c.in_ok-mark.ensures) c.in_ok-push_quoted.ensures in
    Adds-trans _ _ _ _ _ _ (HasTaken-trans _ _ _ _ _ c.in_ok-push_arrow_head.ensures mark) (taken _ _ _ _ c.push_bytes.ensures)
