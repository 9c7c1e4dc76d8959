use Rattle.std.proofs.Common.{ap, ◌∙◌, arith, length, slice_index_or}
use Rattle.reo_net.specs.Names.{name_count}
use Rattle.reo_outline.proofs.TextLemmas.{below_longer}
use Rattle.reo_outline.proofs.texts.place_of.Goals as goal

pub returns-clause-order : goal.returns-clause-order
returns-clause-order c =
    let texts = c.requires.texts in
    let from = ap (λ l. slice_index_or l c.args.run.from 0) c.as_slice-starts.ensures.value ∙ texts.starts c.args.run.from 0 (omega (arith, c.requires.order, c.requires.within)) in
    let to = ap (λ l. slice_index_or l c.args.run.to 0) c.as_slice-starts.ensures.value ∙ texts.starts c.args.run.to 0 c.requires.within in
    omega (arith, from, to, below_longer c.args.net.now c.args.nodes.now c.args.run.from c.args.run.to c.requires.order)

pub returns-clause-within : goal.returns-clause-within
returns-clause-within c =
    let texts = c.requires.texts in
    let to = ap (λ l. slice_index_or l c.args.run.to 0) c.as_slice-starts.ensures.value ∙ texts.starts c.args.run.to 0 c.requires.within in
    omega (arith, to, ap length texts.bytes, below_longer c.args.net.now c.args.nodes.now c.args.run.to (name_count c.args.net.now) c.requires.within)
