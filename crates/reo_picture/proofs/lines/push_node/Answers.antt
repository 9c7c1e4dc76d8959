use Rattle.std.proofs.Common.{ℕ, List, subst}
use Rattle.reo_trace.specs.Buffer.{HasTaken}
use Rattle.reo_trace.proofs.BufferLemmas.{HasTaken-trans}
use Rattle.reo_picture.specs.Picture.{quoted}
use Rattle.reo_picture.proofs.AddsLemmas.{Adds-trans, taken}
use Rattle.reo_picture.proofs.lines.push_node.Goals as goal

pub returns : goal.returns
returns c =
    let name = subst (λ (name : List ℕ). HasTaken c.push_node_front.new.buffer c.push_quoted.new.buffer (quoted name)) c.bytes_at.ensures c.in_ok-push_quoted.ensures in
    Adds-trans _ _ _ _ _ _ (HasTaken-trans _ _ _ _ _ (HasTaken-trans _ _ _ _ _ c.in_ok-push_node_front.ensures name) c.in_ok-push_bytes.ensures) (taken _ _ _ _ c.push_bytes-2.ensures)
