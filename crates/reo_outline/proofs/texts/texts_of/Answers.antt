use Rattle.std.proofs.Common.{◌≡◌, sym, ap, ◌∙◌, ◌++◌, ◌+◌, length, arith, length-append}
use Rattle.reo_net.specs.Names.{name_count}
use Rattle.reo_outline.specs.Outline.{name_part}
use Rattle.reo_outline.specs.Texts.{texts_below}
use Rattle.reo_outline.proofs.TextLemmas.{below_more, starts_more, are_texts}
use Rattle.reo_outline.proofs.texts.texts_of.Goals as goal

pub loop-name-preserved : goal.loop-name-preserved
loop-name-preserved c =
    let more = below_more c.args.net.now c.args.nodes.now c.loop-name.name in
    let bytes = c.in_ok-push_name_part.ensures.items ∙ ap (λ l. l ++ name_part c.args.net.now c.args.nodes.now c.loop-name.name) c.loop-name.invariant.0 ∙ sym more in
    let long = c.in_ok-push_name_part.ensures.len ∙ ap (λ n. n + length (name_part c.args.net.now c.args.nodes.now c.loop-name.name)) c.loop-name.invariant.1
    ∙ sym (ap length more ∙ length-append (texts_below c.args.net.now c.args.nodes.now c.loop-name.name) (name_part c.args.net.now c.args.nodes.now c.loop-name.name)) in
    (bytes, long, starts_more c.args.net.now c.args.nodes.now _ _ c.loop-name.name _ c.loop-name.invariant.2 (c.len.ensures ∙ long) c.in_ok-push.ensures.items)

pub returns : goal.returns
returns c =
    let all : c.loop-name.name ≡ name_count c.args.net.now = omega (arith, c.loop-name-test.false, c.loop-name.auto.name-end, c.names-name-end.ensures.names) in
    are_texts c.args.net.now c.args.nodes.now _ c.loop-name.name all c.loop-name.invariant.0 c.loop-name.invariant.2
