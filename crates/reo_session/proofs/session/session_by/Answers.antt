use Rattle.std.proofs.Common.{◌≡◌, ℕ, List, length, Option, sym, ap, ◌∙◌, subst}
use Rattle.std.proofs.lemmas.List.{length-replicate}
use Rattle.reo_product.specs.declared.table.RegionTable.{RegionTable}
use Rattle.reo_session.specs.Session.{IsSet, firings_of}
use Rattle.reo_session.proofs.BoardLaw.{is_board, fits_fabric}
use Rattle.reo_session.proofs.session.session_by.Goals as goal

pub run-requires-clause-set : goal.run-requires-clause-set
run-requires-clause-set g c =
    let p = c.args.prepared.now in
    let is = c.requires.prepared in
    let each : length c.deref.result.now ≡ length p.net.ports = ap (λ (os : List (Option ℕ)). length os) (c.deref.ensures.value ∙ c.in_ok-owners.ensures) ∙ length-replicate {A = Option ℕ} (length c.ports.result.now) _ ∙ ap length c.ports.ensures.ports in
    subst (λ (ts : List RegionTable). IsSet p.net c.args.texts.now c.args.scripts.now c.in_ok-fabric.fabric (firings_of ts) (g.P.Decider.allows c.args.plan.now) (g.P.Decider.first_choice c.args.plan.now) (g.P.Stepper.may_step c.args.plan.now) (g.P.Stepper.has_step c.args.plan.now)) (sym c.as_slice.ensures)
    (record {
      checked = is.checked;
      brings = c.known_circuit.ensures;
      fit = c.requires.fit;
      put_values = c.known_scripts.ensures;
      board = is_board p.net p.cut is.is_cut p.tables is.are_tables c.deref.result.now each 0 c.in_ok-fabric.fabric c.in_ok-fabric.ensures.fabric;
      by_tables = c.requires.plan;
    })

pub run-requires-clause-fits : goal.run-requires-clause-fits
run-requires-clause-fits g c =
    let p = c.args.prepared.now in
    let is = c.requires.prepared in
    let each : length c.deref.result.now ≡ length p.net.ports = ap (λ (os : List (Option ℕ)). length os) (c.deref.ensures.value ∙ c.in_ok-owners.ensures) ∙ length-replicate {A = Option ℕ} (length c.ports.result.now) _ ∙ ap length c.ports.ensures.ports in
    fits_fabric p.net p.cut is.is_cut p.tables is.are_tables c.deref.result.now each 0 c.in_ok-fabric.fabric c.in_ok-fabric.ensures.fabric is.checked c.args.texts.now
    (g.P.Decider.allows c.args.plan.now) (g.P.Decider.first_choice c.args.plan.now) (g.P.Stepper.may_step c.args.plan.now) (g.P.Stepper.has_step c.args.plan.now) c.requires.plan
