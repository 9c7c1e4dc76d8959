use Rattle.std.proofs.Common.{◌≡◌, ◌+◌, ⊎_elim, slice_get, Some, false, sym, ap, ◌∙◌, subst, arith}
use Rattle.std.proofs.lemmas.Option.{slice_get-get_or, slice_get_within, get_or_from_slice_get}
use Rattle.std.proofs.lemmas.Bool.{cases_lt}
use Rattle.reo_plan.specs.inside.Plans.{fits}
use Rattle.reo_plan.specs.inside.Asks.{number_so, IsAsks}
use Rattle.reo_plan.specs.inside.Marks.{AreMarks}
use Rattle.reo_plan.proofs.AskLemmas.{asks_at, fits_at, fits_there, column_of_failed, position_some, position_none}
use Rattle.reo_plan.proofs.first.first_of_many.Goals as goal

pub loop-row-init : goal.loop-row-init
loop-row-init c =
    let p = fits_at c.args.net.now c.args.texts.now c.args.reading.now c.args.rows.now in
    record {
      marks = c.no_marks-marks.ensures (number_so c.args.net.now c.args.texts.now c.args.reading.now c.args.shared.now.slots c.args.shared.now.facts);
      out = c.none_out-out.ensures p;
      before = λ k less. c.next_row-row.ensures.passed p (c.none_out-out.ensures p) k (omega arith) less;
    }

pub bounds-asks-row : goal.bounds-asks-row
bounds-asks-row c =
    let rows = c.args.rows.now in
    let row = c.index-rows-row.result in
    let found = slice_get-get_or rows c.loop-row.row row (omega arith) ∙ ap Some (sym c.index-rows-row.is) in
    let at = asks_at c.args.net.now c.args.shared.now.slots c.args.shared.now.facts rows c.args.shared.now.asks c.requires.asks c.loop-row.row row found in
    slice_get_within c.as_slice-asks.result.now c.loop-row.row at.0 (ap (λ all. slice_get all c.loop-row.row) c.as_slice-asks.ensures ∙ at.1)

pub fits_or_rules_out-requires-clause-asks : goal.fits_or_rules_out-requires-clause-asks
fits_or_rules_out-requires-clause-asks c =
    let rows = c.args.rows.now in
    let row = c.index-rows-row.result in
    let found = slice_get-get_or rows c.loop-row.row row (omega arith) ∙ ap Some (sym c.index-rows-row.is) in
    let at = asks_at c.args.net.now c.args.shared.now.slots c.args.shared.now.facts rows c.args.shared.now.asks c.requires.asks c.loop-row.row row found in
    let same : c.index-asks-row.result ≡ at.0 =
    c.index-asks-row.is ∙ get_or_from_slice_get c.as_slice-asks.result.now c.loop-row.row at.0 _ (ap (λ all. slice_get all c.loop-row.row) c.as_slice-asks.ensures ∙ at.1) in
    subst (IsAsks c.args.net.now c.args.shared.now.slots c.args.shared.now.facts row) (sym same) at.2

pub returns-then-fits_or_rules_out : goal.returns-then-fits_or_rules_out
returns-then-fits_or_rules_out c =
    let row = c.index-rows-row.result in
    position_some (fits c.args.net.now c.args.texts.now c.args.reading.now) c.args.rows.now c.loop-row.row row (omega arith)
    (λ k less. fits_there c.args.net.now c.args.texts.now c.args.reading.now c.args.rows.now k row (omega (arith, less)) ∙ c.loop-row.invariant.before k less)
    (ap (fits c.args.net.now c.args.texts.now c.args.reading.now) (sym c.index-rows-row.is) ∙ sym (c.fits_or_rules_out.ensures.fits ∙ ap (λ reading. fits c.args.net.now c.args.texts.now reading row) c.new-view.ensures) ∙ c.if-fits_or_rules_out.true)

pub loop-row-preserved : goal.loop-row-preserved
loop-row-preserved c =
    let net = c.args.net.now in
    let texts = c.args.texts.now in
    let reading = c.args.reading.now in
    let rows = c.args.rows.now in
    let shared = c.args.shared.now in
    let at = c.loop-row.row in
    let row = c.index-rows-row.result in
    let p = fits_at net texts reading rows in
    let out = c.fits_or_rules_out.ensures.out p
    (λ number k small fit fails. column_of_failed net rows shared c.requires texts reading number k small fit (subst (λ r. number_so net texts r shared.slots shared.facts number ≡ false) c.new-view.ensures fails))
    c.loop-row.invariant.out in
    let here : p at ≡ false =
    sym (fits_there net texts reading rows at row (omega arith)) ∙ ap (fits net texts reading) (sym c.index-rows-row.is)
    ∙ sym (c.fits_or_rules_out.ensures.fits ∙ ap (λ r. fits net texts r row) c.new-view.ensures) ∙ c.if-fits_or_rules_out.false in
    record {
      marks = subst (λ r. AreMarks (number_so net texts r shared.slots shared.facts) c.fits_or_rules_out.new.marks) c.new-view.ensures c.fits_or_rules_out.ensures.marks;
      out = out;
      before = λ k less.
          ⊎_elim (λ early. c.loop-row.invariant.before k early)
          (λ late. ⊎_elim (λ below. ap p (let e : k ≡ at = omega (arith, late, below) in e) ∙ here) (λ after. c.next_row-row-in-loop-row.ensures.passed p out k after less) (cases_lt k (at + 1)))
          (cases_lt k at);
    }

pub returns : goal.returns
returns c =
    position_none (fits c.args.net.now c.args.texts.now c.args.reading.now) c.args.rows.now
    (λ k d less. fits_there c.args.net.now c.args.texts.now c.args.reading.now c.args.rows.now k d less ∙ c.loop-row.invariant.before k (omega (arith, less)))
