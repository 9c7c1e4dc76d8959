use Rattle.std.proofs.Common.{ℕ, List, ap, ◌∙◌, subst}
use Rattle.reo_picture.specs.Buffer.{Adds}
use Rattle.reo_picture.specs.Picture.{node_front}
use Rattle.reo_picture.proofs.AddsLemmas.{taken}
use Rattle.reo_picture.proofs.lines.push_node_front.Goals as goal

pub returns : goal.returns
returns c =
    subst (λ (text : List ℕ). Adds c.args.buffer.now c.push_bytes.new.buffer c.push_bytes.result text)
    (c.as_bytes.ensures.value ∙ (c.in_ok-front.ensures ∙ ap (λ (region : ℕ). node_front region c.args.node) c.region_of_node.ensures)) (taken _ _ _ _ c.push_bytes.ensures)
