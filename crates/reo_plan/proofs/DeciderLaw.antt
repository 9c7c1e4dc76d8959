-- What a plan chooses and writes is what is calculated.
use Rattle.std.proofs.Common.{◌≡◌, ℕ, ◌<◌, List, [], slice_get, get_or, position, Option, Some, None, refl, sym, ap, ◌∙◌, arith}
use Rattle.std.proofs.lemmas.List.Quantifiers.{position-Some}
use Rattle.std.proofs.lemmas.Option.{none-some, slice_get-get_or}
use Rattle.reo_net.specs.declared.circuit.RawCircuit.{RawCircuit}
use Rattle.reo_fabric.specs.declared.entry.Entry.{Entry}
use Rattle.reo_fabric.specs.declared.reading.Reading.{Reading}
use Rattle.reo_flow.specs.Places.{entry_of}
use Rattle.reo_flow.specs.Allows.{Table, Allows}
use Rattle.reo_flow.specs.Flow.{sources_of, data_in, is_allowed, table_at, planned_entry, planned_choice}
use Rattle.reo_flow.proofs.PlanLaw.{planned_of, table_is}
use Rattle.reo_plan.specs.declared.row.Row.{Row}
use Rattle.reo_plan.specs.inside.Rows.{IsRow}
use Rattle.reo_plan.specs.inside.Plans.{ArePlans, fits}
use Rattle.reo_plan.specs.inside.Sides.{entry_in}
use Rattle.reo_plan.proofs.PlanLemmas.{same_position, rows_at, no_rows, row_at}

empty_row : Row
empty_row = record { slots = []; facts = []; takes = []; fills = []; puts = []; gets = []; named = [] }

module _ (c : RawCircuit) (texts : List (List ℕ)) (tables : List Table) (plans : List (List Row)) (are : ArePlans c tables plans) (region : ℕ) (reading : Reading) where
  pub no_choice : slice_get plans region ≡ None → None ≡ planned_choice c texts tables region reading
  no_choice none = sym (ap (position (is_allowed c texts reading)) (no_rows c tables plans are region none))

  pub choice_of : (rows : List Row) → slice_get plans region ≡ Some rows → position (fits c texts reading) rows ≡ planned_choice c texts tables region reading
  choice_of rows found = same_position c texts reading (table_at tables region) rows (rows_at c tables plans are region rows found).0

  pub choice_small : (rows : List Row) (first : ℕ) → slice_get plans region ≡ Some rows → position (fits c texts reading) rows ≡ Some first → first < 4294967296
  choice_small rows first found is =
      omega (arith, (position-Some (fits c texts reading) rows first empty_row is).0, (rows_at c tables plans are region rows found).1)

  -- the row of the choice, and the entry that it makes
  pub record ChosenRow (choice : ℕ) : Type 0 where
    pub rows : List Row
    pub rows_found : slice_get plans region ≡ Some rows
    pub row : Row
    pub row_found : slice_get rows choice ≡ Some row
    pub planned : planned_entry c texts tables region reading choice ≡ Some (entry_in c texts reading row region choice)

  pub chosen_row : (choice : ℕ) → planned_choice c texts tables region reading ≡ Some choice → ChosenRow choice
  chosen_row choice chosen =
      let first = position-Some (is_allowed c texts reading) (table_at tables region) choice [] chosen in
      let names = get_or (table_at tables region) choice [] in
      let found = slice_get-get_or (table_at tables region) choice [] first.0 in
      let rows = rows_there (slice_get plans region) refl in
      let row = row_at c (table_at tables region) rows.0 (rows_at c tables plans are region rows.0 rows.1).0 choice names found in
      record {
        rows = rows.0;
        rows_found = rows.1;
        row = row.0;
        row_found = row.1;
        planned = planned_of c texts tables region reading choice names found first.1 ∙ ap Some (sym (made row.0 names row.2));
      }
    where
      rows_there : (o : Option (List Row)) → slice_get plans region ≡ o → (rows : List Row) × (slice_get plans region ≡ Some rows)
      rows_there None e = absurd (none-some choice (no_choice e ∙ chosen))
      rows_there (Some rows) e = (rows, e)

      made : (row : Row) (names : List ℕ) → IsRow c names row → entry_in c texts reading row region choice ≡ entry_of c region choice (data_in c texts (sources_of reading) names)
      made row names is = λ i. record {
        region = region;
        choice = choice;
        takes = is.takes texts (sources_of reading) i;
        fills = is.fills texts (sources_of reading) i;
        puts = is.puts texts (sources_of reading) i;
        gets = is.gets texts (sources_of reading) i;
      }

  -- the row of an entry that is allowed
  pub record EntryRow (choice : ℕ) (names : List ℕ) : Type 0 where
    pub rows : List Row
    pub rows_found : slice_get plans region ≡ Some rows
    pub row : Row
    pub row_found : slice_get rows choice ≡ Some row
    pub is_row : IsRow c names row

  pub entry_row : (entry : Entry) (allowed : Allows c texts tables region reading entry) → EntryRow entry.choice allowed.names
  entry_row entry allowed =
      let found = ap (λ t. slice_get t entry.choice) (table_is c texts tables region reading allowed.table allowed.tabled) ∙ allowed.firing in
      let rows = rows_there found (slice_get plans region) refl in
      let row = row_at c (table_at tables region) rows.0 (rows_at c tables plans are region rows.0 rows.1).0 entry.choice allowed.names found in
      record { rows = rows.0; rows_found = rows.1; row = row.0; row_found = row.1; is_row = row.2 }
    where
      none_in : (names : List ℕ) → slice_get [] entry.choice ≡ Some names → ⊥
      none_in names found = cc

      rows_there : slice_get (table_at tables region) entry.choice ≡ Some allowed.names → (o : Option (List Row)) → slice_get plans region ≡ o → (rows : List Row) × (slice_get plans region ≡ Some rows)
      rows_there found None e = absurd (none_in allowed.names (ap (λ t. slice_get t entry.choice) (sym (no_rows c tables plans are region e)) ∙ found))
      rows_there found (Some rows) e = (rows, e)
