use Rattle.std.proofs.Common.{Bool, List, sym, ap, ◌∙◌}
use Rattle.std.specs.List.{list_all}
use Rattle.reo_flow.specs.declared.fact.Fact.{Fact}
use Rattle.reo_flow.specs.declared.giver.Giver.{Giver}
use Rattle.reo_plan.specs.inside.Asks.{so_in}
use Rattle.reo_plan.proofs.AskLemmas.{unoffered_fails, masked_fails, own_fails}
use Rattle.reo_plan.proofs.first.row_fits.Goals as goal

pub returns-then-missing-asks-ne0-clause-fits : goal.returns-then-missing-asks-ne0-clause-fits
returns-then-missing-asks-ne0-clause-fits c =
    unoffered_fails c.args.net.now c.args.texts.now c.args.reading.now c.args.shared.now.slots c.args.shared.now.facts c.args.row.now c.args.asks.now c.requires.asks c.args.missing c.requires.missing
    c.if-missing-asks-ne0.true

pub returns-then-marks-asks-ne0-clause-fits : goal.returns-then-marks-asks-ne0-clause-fits
returns-then-marks-asks-ne0-clause-fits c =
    masked_fails c.args.net.now c.args.texts.now c.args.reading.now c.args.shared.now.slots c.args.shared.now.facts c.args.row.now c.args.asks.now c.requires.asks c.args.marks.now c.requires.marks
    c.if-marks-asks-ne0.true

pub returns-then-not-all_so-clause-fits : goal.returns-then-not-all_so-clause-fits
returns-then-not-all_so-clause-fits c =
    let row = c.args.row.now in
    let asks = c.args.asks.now in
    let so : List Giver → Fact → Bool = so_in c.args.net.now c.args.texts.now c.args.reading.now in
    own_fails c.args.net.now c.args.texts.now c.args.reading.now c.args.shared.now.slots c.args.shared.now.facts row asks c.requires.asks
    (sym c.if-not-all_so.true ∙ c.all_so.ensures ∙ ap (λ own. list_all (so own) c.as_slice-rest.result.now) c.as_slice-own.ensures ∙ ap (list_all (so row.slots)) c.as_slice-rest.ensures)
