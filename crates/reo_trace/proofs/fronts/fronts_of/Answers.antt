use Rattle.std.proofs.Common.{◌≡◌, sym, ap, ◌∙◌, ◌++◌, ◌+◌, length, replicate, arith}
use Rattle.reo_net.specs.Names.{name_count}
use Rattle.reo_trace.specs.Fronts.{front_text}
use Rattle.reo_trace.proofs.PartLemmas.{below_more, part_long, starts_more}
use Rattle.reo_trace.proofs.PlaceLemmas.{are_parts}
use Rattle.reo_trace.proofs.fronts.fronts_of.Goals as goal

pub loop-name-preserved : goal.loop-name-preserved
loop-name-preserved c =
    let front = front_text c.args.net.now c.args.nodes.now in
    let name = c.loop-name.name in
    let bytes = c.in_ok-push_front.ensures.items ∙ ap (λ l. l ++ front name) c.loop-name.invariant.0 ∙ sym (below_more front name) in
    let long = c.in_ok-push_front.ensures.len ∙ ap (λ n. n + length (front name)) c.loop-name.invariant.1 ∙ sym (part_long front name) in
    (bytes, long, starts_more front _ _ name _ c.loop-name.invariant.2 (c.len.ensures ∙ long) c.in_ok-push.ensures.items)

pub returns : goal.returns
returns c =
    let all : c.loop-name.name ≡ name_count c.args.net.now = omega (arith, c.loop-name-test.false, c.loop-name.auto.name-end, c.names-name-end.ensures.names) in
    are_parts (front_text c.args.net.now c.args.nodes.now) _ c.loop-name.name _ all (c.in_ok-extend_from_slice.ensures.items ∙ ap (λ l. l ++ replicate 32 0) c.loop-name.invariant.0) c.loop-name.invariant.2
