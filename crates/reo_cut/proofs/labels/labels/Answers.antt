use Rattle.std.proofs.Common.{◌≡◌, ◌+◌, List, [], length, sym, ap, ◌∙◌, subst, arith}
use Rattle.std.specs.List.{range_with_len}
use Rattle.std.proofs.lemmas.List.FromFn.{length-range_with_len}
use Rattle.reo_net.specs.declared.circuit.Channel.{Channel}
use Rattle.reo_cut.specs.Labels.{AreLabels, pairs_below}
use Rattle.reo_cut.proofs.LabelLemmas.{ends_fit, written_back}
use Rattle.reo_cut.specs.Parents.{DoNotRise, AreParents}
use Rattle.reo_cut.proofs.ParentLemmas.{own_parents, own_fall}
use Rattle.reo_cut.proofs.labels.labels.Goals as goal

pub join_channels-requires-clause-ends_a : goal.join_channels-requires-clause-ends_a
join_channels-requires-clause-ends_a c =
    ends_fit c.args.net.now (λ (channel : Channel). channel.a) c.channels-channels.result.now _ c.in_ok-labels.labels.items c.deref_mut.result.now c.channels-channels.ensures.channels (ap (λ n. length c.channels-channels.result.now + n) c.nodes.ensures.nodes) c.in_ok-labels.ensures c.deref_mut.ensures.value c.nodes.ensures.checked.circuit.known.ends_a

pub join_channels-requires-clause-ends_b : goal.join_channels-requires-clause-ends_b
join_channels-requires-clause-ends_b c =
    ends_fit c.args.net.now (λ (channel : Channel). channel.b) c.channels-channels.result.now _ c.in_ok-labels.labels.items c.deref_mut.result.now c.channels-channels.ensures.channels (ap (λ n. length c.channels-channels.result.now + n) c.nodes.ensures.nodes) c.in_ok-labels.ensures c.deref_mut.ensures.value c.nodes.ensures.checked.circuit.known.ends_b

pub join_channels-requires-clause-fit : goal.join_channels-requires-clause-fit
join_channels-requires-clause-fit c =
    let len = ap length c.deref_mut.ensures.value ∙ (ap length c.in_ok-labels.ensures ∙ length-range_with_len 0 _) in
    let few = c.nodes.ensures.checked.circuit.few_nodes in
    let short = c.nodes.ensures.checked.few_channels in
    let chs = ap length c.channels-channels.ensures.channels in
    omega (arith, len, few, short, chs, c.nodes.ensures.nodes)

pub join_channels-requires-clause-falls : goal.join_channels-requires-clause-falls
join_channels-requires-clause-falls c = subst DoNotRise (sym (c.deref_mut.ensures.value ∙ c.in_ok-labels.ensures)) (own_fall _)

pub returns-clause-labels : goal.returns-clause-labels
returns-clause-labels c =
    let net = c.args.net.now in
    let count = length net.channels + net.nodes in
    let lent = c.deref_mut.ensures.value ∙ (c.in_ok-labels.ensures ∙ ap (range_with_len 0) (ap (λ (chs : List Channel). length chs + c.nodes.result) c.channels-channels.ensures.channels ∙ ap (λ n. length net.channels + n) c.nodes.ensures.nodes)) in
    let labels = subst (λ (chs : List Channel). AreLabels (pairs_below chs (length chs)) count c.join_channels.new.parents) c.channels-channels.ensures.channels
    (c.join_channels.ensures.joined count (subst (AreParents [] count) (sym lent) (own_parents count))) in
    let len : length c.in_ok-labels.labels.items ≡ c.in_ok-labels.labels.len = sym (ap length c.deref_mut.ensures.value) ∙ c.deref_mut.ensures.len in
    subst (AreLabels (pairs_below net.channels (length net.channels)) count) (sym (written_back c.join_channels.new.parents c.in_ok-labels.labels.items c.in_ok-labels.labels.len len (c.join_channels.ensures.len ∙ ap length c.deref_mut.ensures.value))) labels
