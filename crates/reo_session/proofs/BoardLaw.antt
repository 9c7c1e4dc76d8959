-- A prepared circuit has a board.
use Rattle.std.proofs.Common.{◌≡◌, ℕ, slice_get, List, length, map, Option, sym, ap, ◌∙◌, subst}
use Rattle.std.proofs.lemmas.Option.{same_Some}
use Rattle.std.proofs.lemmas.List.{length-map}
use Rattle.reo_net.specs.declared.circuit.RawCircuit.{RawCircuit}
use Rattle.reo_net.specs.declared.circuit.Step.{Step}
use Rattle.reo_net.specs.Checks.{IsChecked}
use Rattle.reo_cut.specs.declared.cut.Cut.{Cut}
use Rattle.reo_cut.specs.Cut.{IsCut}
use Rattle.reo_product.specs.declared.table.RegionTable.{RegionTable}
use Rattle.reo_product.specs.Table.{IsTableOf, names_in}
use Rattle.reo_fabric.specs.declared.entry.Entry.{Entry}
use Rattle.reo_fabric.specs.declared.fabric.Fabric.{Fabric}
use Rattle.reo_fabric.specs.declared.reading.Reading.{Reading}
use Rattle.reo_fabric.specs.Decider.{Fits}
use Rattle.reo_flow.specs.Allows.{Table, AreTables, Allows}
use Rattle.reo_flow.specs.Flow.{IsPlanned, planned_choice}
use Rattle.reo_flow.specs.Step.{IsStepOf}
use Rattle.reo_flow.proofs.PlanLaw.{planned_are_allowed, planned_is_first}
use Rattle.reo_plan.specs.Fabric.{IsFabricOf}
use Rattle.reo_plan.proofs.FitLaw.{plans_fit}
use Rattle.reo_schedule.specs.Board.{IsBoard}
use Rattle.reo_schedule.proofs.QuietLaw.{mapped_at}
use Rattle.reo_session.specs.Plan.{GoesByTables, IsAllowedSomewhere, IsStepWherever}
use Rattle.reo_session.specs.Prepared.{AreRegionTables}
use Rattle.reo_session.specs.Session.{firings_of}

module _ (c : RawCircuit) (cut : Cut) (is_cut : IsCut c cut) (tables : List RegionTable) (are : AreRegionTables c cut tables) where
  pub are_tables : AreTables c (firings_of tables)
  are_tables = record {
    roots = is_cut.roots;
    regions = is_cut.regions;
    as_many = length-map tables (λ table. map names_in table.firings) ∙ are.as_many ∙ is_cut.count;
    each = λ region root table at_root at.
        let found = mapped_at (λ (t : RegionTable). map names_in t.firings) tables region table at in
        let stands = are.each is_cut region root at_root in
        let same = same_Some stands.table found.0 (sym stands.found ∙ found.1) in
        (stands.table.growth, subst (IsTableOf c root stands.table.growth) (ap (λ (t : RegionTable). map names_in t.firings) same ∙ found.2) stands.is.is_table);
  }

  module _ (owners : List (Option ℕ)) (each : length owners ≡ length c.ports) (parties : ℕ) (fabric : Fabric) (is_fabric : IsFabricOf c cut owners parties fabric) where
    pub is_board : IsBoard c fabric (firings_of tables)
    is_board = record { cut = cut; is_cut = is_cut; owners = owners; each_owner = each; parties = parties; is_fabric = is_fabric; are_tables = are_tables }

    -- one who goes by the tables fits the fabric
    pub fits_fabric : IsChecked c → (texts : List (List ℕ)) (allows : ℕ → Reading → Entry → Type 0) (first_choice : ℕ → Reading → Option ℕ) (may_step : Entry → Type 0) (has_step : Entry → Step → Type 0) → GoesByTables c texts (firings_of tables) allows first_choice may_step has_step → Fits fabric allows
    fits_fabric checked texts allows first_choice may_step has_step by_tables region reading entry below is_reading allowed =
        plans_fit c cut texts (firings_of tables) owners parties fabric checked is_cut are_tables each is_fabric region reading entry below is_reading
        ((planned_are_allowed c texts (firings_of tables) checked are_tables region reading entry).1 ((by_tables.allowed region reading entry).0 allowed))

-- a plan goes by its tables
pub plan_goes_by_tables : (c : RawCircuit) (texts : List (List ℕ)) (tables : List Table) → IsChecked c → AreTables c tables
    → GoesByTables c texts tables (IsPlanned c texts tables) (planned_choice c texts tables) (IsAllowedSomewhere c texts tables) (IsStepWherever c texts tables)
plan_goes_by_tables c texts tables checked are = record {
  allowed = planned_are_allowed c texts tables checked are;
  first = planned_is_first c texts tables checked are;
  stepped = λ region reading entry planned.
      let allowed = (planned_are_allowed c texts tables checked are region reading entry).0 planned in
      (reading, subst (λ r. Allows c texts tables r reading entry) (sym allowed.of_region) allowed);
  steps = λ entry step each region reading is.
      let own = subst (λ r. Allows c texts tables r reading entry) (sym is.of_region) is in
      let table = same_Some own.table is.table (sym own.tabled ∙ ap (slice_get tables) is.of_region ∙ is.tabled) in
      let names = same_Some own.names is.names (sym own.firing ∙ ap (λ t. slice_get t entry.choice) table ∙ is.firing) in
      let same : step ≡ own.step = λ i. record { pairs = each reading own i } in
      subst (λ s. IsStepOf c texts is.names entry s) (sym same) (subst (λ ns. IsStepOf c texts ns entry own.step) names own.is_step);
}
