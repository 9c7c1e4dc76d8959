use Rattle.std.proofs.Common.{◌≡◌, slice_get, Some, sym, ap, ◌∙◌, subst, arith}
use Rattle.std.proofs.lemmas.Option.{slice_get-get_or, slice_get_within, get_or_from_slice_get}
use Rattle.reo_plan.specs.inside.Plans.{fits}
use Rattle.reo_plan.specs.inside.Asks.{number_so, IsAsks}
use Rattle.reo_plan.proofs.AskLemmas.{asks_at, position_some, position_none}
use Rattle.reo_plan.proofs.first.first_of_few.Goals as goal

pub loop-row-init : goal.loop-row-init
loop-row-init c = record {
  marks = c.no_marks-marks.ensures (number_so c.args.net.now c.args.texts.now c.args.reading.now c.args.shared.now.slots c.args.shared.now.facts);
  before = λ k d less. absurd (omega (arith, less));
}

pub bounds-asks-row : goal.bounds-asks-row
bounds-asks-row c =
    let rows = c.args.rows.now in
    let row = c.index-rows-row.result in
    let found = slice_get-get_or rows c.loop-row.row row (omega arith) ∙ ap Some (sym c.index-rows-row.is) in
    let at = asks_at c.args.net.now c.args.shared.now.slots c.args.shared.now.facts rows c.args.shared.now.asks c.requires.asks c.loop-row.row row found in
    slice_get_within c.as_slice-asks.result.now c.loop-row.row at.0 (ap (λ all. slice_get all c.loop-row.row) c.as_slice-asks.ensures ∙ at.1)

pub row_fits-requires-clause-asks : goal.row_fits-requires-clause-asks
row_fits-requires-clause-asks c =
    let rows = c.args.rows.now in
    let row = c.index-rows-row.result in
    let found = slice_get-get_or rows c.loop-row.row row (omega arith) ∙ ap Some (sym c.index-rows-row.is) in
    let at = asks_at c.args.net.now c.args.shared.now.slots c.args.shared.now.facts rows c.args.shared.now.asks c.requires.asks c.loop-row.row row found in
    let same : c.index-asks-row.result ≡ at.0 =
    c.index-asks-row.is ∙ get_or_from_slice_get c.as_slice-asks.result.now c.loop-row.row at.0 _ (ap (λ all. slice_get all c.loop-row.row) c.as_slice-asks.ensures ∙ at.1) in
    subst (IsAsks c.args.net.now c.args.shared.now.slots c.args.shared.now.facts row) (sym same) at.2

pub returns-then-row_fits : goal.returns-then-row_fits
returns-then-row_fits c =
    let row = c.index-rows-row.result in
    position_some (fits c.args.net.now c.args.texts.now c.args.reading.now) c.args.rows.now c.loop-row.row row (omega arith) (λ k less. c.loop-row.invariant.before k row less)
    (ap (fits c.args.net.now c.args.texts.now c.args.reading.now) (sym c.index-rows-row.is) ∙ sym (c.row_fits.ensures.fits ∙ ap (λ reading. fits c.args.net.now c.args.texts.now reading row) c.new-view.ensures) ∙ c.if-row_fits.true)

pub returns : goal.returns
returns c = position_none (fits c.args.net.now c.args.texts.now c.args.reading.now) c.args.rows.now (λ k d less. c.loop-row.invariant.before k d (omega (arith, less)))
