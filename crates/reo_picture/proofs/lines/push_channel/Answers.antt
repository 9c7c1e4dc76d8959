use Rattle.reo_picture.proofs.AddsLemmas.{Adds-trans, taken}
use Rattle.reo_picture.proofs.lines.push_channel.Goals as goal

pub returns : goal.returns
returns c = Adds-trans _ _ _ _ _ _ c.in_ok-push_bare_channel.ensures (taken _ _ _ _ c.push_bytes.ensures)
