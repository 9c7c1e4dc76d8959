use Rattle.std.proofs.Common.{◌+◌, length, refl, sym, ap, ◌∙◌, subst, arith}
use Rattle.std.proofs.lemmas.List.{length-map}
use Rattle.reo_cut.specs.Labels.{AreLabels, label_at, pairs_below}
use Rattle.reo_cut.specs.Numbers.{is_root}
use Rattle.reo_cut.proofs.CutLaw.{is_cut, counts_long, numbers_fit}
use Rattle.reo_cut.proofs.cut.cut_of.Goals as goal

pub counts-requires : goal.counts-requires
counts-requires c =
    let checked = c.in_ok-found.ensures.checked in
    let len = ap length c.as_slice-labels.ensures.value ∙ c.in_ok-found.ensures.labels.len in
    let few = checked.circuit.few_nodes in
    let short = checked.few_channels in
    omega (arith, len, few, short)

pub numbers-requires : goal.numbers-requires
numbers-requires c =
    let net = c.args.net.now in
    let labels = c.as_slice-labels.result.now in
    let are = subst (AreLabels (pairs_below net.channels (length net.channels)) (length net.channels + net.nodes)) (sym c.as_slice-labels.ensures.value) c.in_ok-found.ensures.labels in
    numbers_fit net (c.in_ok-found.ensures.checked.circuit) labels are c.as_slice-counts.result.now (c.as_slice-counts.ensures.value ∙ c.in_ok-counted.ensures)

pub bounds-counts-labels : goal.bounds-counts-labels
bounds-counts-labels c =
    let net = c.args.net.now in
    let labels = c.as_slice-labels.result.now in
    let long = counts_long (is_root net labels) labels c.as_slice-counts.result.now (c.as_slice-counts.ensures.value ∙ c.in_ok-counted.ensures) in
    omega (arith, long)

pub region_of-requires : goal.region_of-requires
region_of-requires c =
    let checked = c.in_ok-found.ensures.checked in
    let len = ap length c.as_slice-labels.ensures.value ∙ c.in_ok-found.ensures.labels.len in
    let same = ap length c.as_slice-numbers.ensures.value ∙ (ap length c.in_ok-numbered.ensures ∙ length-map c.as_slice-labels.result.now (label_at c.as_slice-counts.result.now)) in
    let few = checked.circuit.few_nodes in
    let short = checked.few_channels in
    omega (arith, len, same, few, short)

pub returns : goal.returns
returns c =
    let net = c.args.net.now in
    let labels = c.as_slice-labels.result.now in
    let numbers = c.as_slice-numbers.result.now in
    let are = subst (AreLabels (pairs_below net.channels (length net.channels)) (length net.channels + net.nodes)) (sym c.as_slice-labels.ensures.value) c.in_ok-found.ensures.labels in
    let cut = is_cut net (c.in_ok-found.ensures.checked.circuit) labels are c.as_slice-counts.result.now numbers (c.as_slice-counts.ensures.value ∙ c.in_ok-counted.ensures) (c.as_slice-numbers.ensures.value ∙ c.in_ok-numbered.ensures) _ refl in
    record { exact = rw (c.in_ok-region_of.ensures, c.in_ok-cells.ensures, c.in_ok-port_region.ensures) cut }
