use Rattle.reo_trace.proofs.BufferLemmas.{HasTaken-trans}
use Rattle.reo_outline.proofs.AddsLemmas.{Adds-trans}
use Rattle.reo_outline.proofs.lines.push_head.Goals as goal

pub returns : goal.returns
returns c =
    Adds-trans _ _ _ _ _ _
    (HasTaken-trans _ _ _ _ _ (HasTaken-trans _ _ _ _ _ (HasTaken-trans _ _ _ _ _ (HasTaken-trans _ _ _ _ _ (HasTaken-trans _ _ _ _ _ (HasTaken-trans _ _ _ _ _ (HasTaken-trans _ _ _ _ _
    c.in_ok-push_bytes.ensures c.in_ok-push_from_one.ensures) c.in_ok-push_bytes-2.ensures) c.in_ok-push_decimal.ensures) c.in_ok-push_bytes-3.ensures) c.in_ok-push_count.ensures) c.in_ok-push_bytes-4.ensures) c.in_ok-push_growth.ensures)
    c.push_bytes-5.ensures
