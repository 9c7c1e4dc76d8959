use Rattle.std.proofs.Common.{◌≡◌, sym, ap, ◌∙◌, ◌++◌, ◌+◌, length, replicate, arith}
use Rattle.reo_trace.specs.Fronts.{quoted_text}
use Rattle.reo_trace.proofs.PartLemmas.{below_more, part_long, starts_more}
use Rattle.reo_trace.proofs.PlaceLemmas.{are_parts}
use Rattle.reo_trace.proofs.quotes.quotes_of.Goals as goal

pub loop-text-preserved : goal.loop-text-preserved
loop-text-preserved c =
    let quoted = quoted_text c.args.texts.now in
    let text = c.loop-text.text in
    let bytes = c.in_ok-push_quoted.ensures.items ∙ ap (λ l. l ++ quoted text) c.loop-text.invariant.0 ∙ sym (below_more quoted text) in
    let long = c.in_ok-push_quoted.ensures.len ∙ ap (λ n. n + length (quoted text)) c.loop-text.invariant.1 ∙ sym (part_long quoted text) in
    (bytes, long, starts_more quoted _ _ text _ c.loop-text.invariant.2 (c.len.ensures ∙ long) c.in_ok-push.ensures.items)

pub returns : goal.returns
returns c =
    let all : c.loop-text.text ≡ length c.args.texts.now = omega (arith, c.loop-text-test.false, c.loop-text.auto.text-end, c.len-text-end.ensures.len) in
    are_parts (quoted_text c.args.texts.now) _ c.loop-text.text _ all (c.in_ok-extend_from_slice.ensures.items ∙ ap (λ l. l ++ replicate 32 0) c.loop-text.invariant.0) c.loop-text.invariant.2
