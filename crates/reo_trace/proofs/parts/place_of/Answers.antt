use Rattle.std.proofs.Common.{◌+◌, ◌≤◌, ap, ◌∙◌, arith}
use Rattle.std.specs.Prelude.{slice_index_or}
use Rattle.reo_trace.proofs.PartLemmas.{below_longer}
use Rattle.reo_trace.proofs.PlaceLemmas.{is_place}
use Rattle.reo_trace.proofs.parts.place_of.Goals as goal

pub returns : goal.returns
returns c = λ part count are.
    let number = c.args.number in
    let within : number + 1 ≤ count = omega (arith, c.requires, are.long) in
    let from = ap (λ l. slice_index_or l number 0) c.as_slice-starts.ensures.value ∙ are.starts number 0 (omega (arith, within)) in
    let to = ap (λ l. slice_index_or l (number + 1) 0) c.as_slice-starts.ensures.value ∙ are.starts (number + 1) 0 within in
    is_place part c.args.parts.now count number _ are within from (omega (arith, from, to, below_longer part number (number + 1) (omega arith)))
