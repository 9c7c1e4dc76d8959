-- The tables of a circuit's regions have the circuit's names, and not too many firings.
use Rattle.std.proofs.Common.{◌≡◌, ℕ, ◌<◌, ◌≤◌, List, [], length, map, slice_get, get_or, Some, All, sym, ap, ◌∙◌, subst, arith}
use Rattle.std.proofs.lemmas.List.{length-map, get_or-map}
use Rattle.std.proofs.lemmas.Option.{slice_get-get_or, slice_get_within}
use Rattle.reo_net.specs.declared.circuit.RawCircuit.{RawCircuit}
use Rattle.reo_net.proofs.NameLemmas.{slice_get_found}
use Rattle.reo_growth.specs.Lists.{has}
use Rattle.reo_growth.proofs.ListLemmas.{among_at}
use Rattle.reo_product.specs.declared.table.RegionTable.{RegionTable}
use Rattle.reo_product.specs.Table.{names_in}
use Rattle.reo_flow.specs.Allows.{AreTables}
use Rattle.reo_flow.proofs.StepLaw.{firing_of_table, firing_below}
use Rattle.reo_flow.proofs.FlowLemmas.{has_among}
use Rattle.reo_plan.specs.Plan.{firings_in}
use Rattle.reo_plan.specs.inside.Plans.{IsOfNames}

module _ (c : RawCircuit) (tables : List RegionTable) (are : AreTables c (map firings_in tables)) where
  table_found : (k : ℕ) (d : RegionTable) → k < length tables → slice_get (map firings_in tables) k ≡ Some (firings_in (get_or tables k d))
  table_found k d within =
      slice_get-get_or (map firings_in tables) k [] (subst (λ n. k < n) (sym (length-map tables firings_in)) within) ∙ ap Some (get_or-map firings_in tables k d [] within)

  pub tables_names : All (λ table. All (λ firing. IsOfNames c firing.names) table.firings) tables
  tables_names = λ k d within i e inside.
      let firings = (get_or tables k d).firings in
      let names = (get_or firings i e).names in
      let found = slice_get-get_or (map names_in firings) i [] (subst (λ n. i < n) (sym (length-map firings names_in)) inside) ∙ ap Some (get_or-map names_in firings i e [] inside) in
      let tabled = firing_of_table c (map firings_in tables) are k i (firings_in (get_or tables k d)) names (table_found k d within) found in
      record {
        below = λ j f below. firing_below c tabled.root (has names) tabled.firing.connected (get_or names j f) (has_among names (get_or names j f) (among_at names j f below));
        rising = tabled.firing.rising;
      }

  pub tables_small : All (λ table. length table.firings ≤ 4096) tables
  tables_small = λ k d within.
      let table = get_or tables k d in
      let found = table_found k d within in
      let root = slice_get_found are.roots k (subst (λ n. k < n) are.as_many (slice_get_within (map firings_in tables) k (firings_in table) found)) in
      let is_table = are.each k root.0 (firings_in table) root.1 found in
      omega (arith, is_table.1.few, length-map table.firings names_in)
