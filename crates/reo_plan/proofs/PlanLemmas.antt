-- The rows of firings, one after the other, and the first of them that fits.
use Rattle.std.proofs.Common.{◌≡◌, ℕ, zero, suc, ◌+◌, ◌≤◌, List, [], ◌∷◌, ◌++◌, length, map, take, slice_get, position, Some, None, not, cond, nat_lt, refl, sym, ap, ◌∙◌, subst, arith}
use Rattle.std.specs.List.{position_or_len}
use Rattle.std.proofs.lemmas.List.{map-append}
use Rattle.std.proofs.lemmas.Option.{same_Some}
use Rattle.reo_net.specs.declared.circuit.RawCircuit.{RawCircuit}
use Rattle.reo_product.specs.declared.table.Firing.{Firing}
use Rattle.reo_product.specs.declared.table.RegionTable.{RegionTable}
use Rattle.reo_product.specs.Table.{names_in}
use Rattle.reo_fabric.specs.declared.reading.Reading.{Reading}
use Rattle.reo_flow.specs.Allows.{Table}
use Rattle.reo_flow.specs.Flow.{is_allowed, table_at}
use Rattle.reo_plan.specs.declared.row.Row.{Row}
use Rattle.reo_plan.specs.Plan.{firings_in}
use Rattle.reo_plan.specs.inside.Rows.{IsRow}
use Rattle.reo_plan.specs.inside.Plans.{AreRows, ArePlans, fits}
use Rattle.reo_plan.proofs.PlaceSlotLemmas.{take_more}

rows-push : (c : RawCircuit) (table : Table) (rows : List Row) (names : List ℕ) (row : Row) → AreRows c table rows → IsRow c names row → AreRows c (table ++ names ∷ []) (rows ++ row ∷ [])
rows-push c [] [] names row are is = (is, tt)
rows-push c (x ∷ xs) (r ∷ rs) names row are is = (are.0, rows-push c xs rs names row are.1 is)
rows-push c [] (r ∷ rs) names row are is = absurd are
rows-push c (x ∷ xs) [] names row are is = absurd are

plans-push : (c : RawCircuit) (tables : List Table) (plans : List (List Row)) (table : Table) (rows : List Row) → ArePlans c tables plans → length table ≤ 4096 → AreRows c table rows → ArePlans c (tables ++ table ∷ []) (plans ++ rows ∷ [])
plans-push c [] [] table rows are small is = (small, is, tt)
plans-push c (x ∷ xs) (r ∷ rs) table rows are small is = (are.0, are.1, plans-push c xs rs table rows are.2 small is)
plans-push c [] (r ∷ rs) table rows are small is = absurd are
plans-push c (x ∷ xs) [] table rows are small is = absurd are

pub rows_more : (c : RawCircuit) (firings : List Firing) (i : ℕ) (firing : Firing) (rows : List Row) (row : Row) → slice_get firings i ≡ Some firing → AreRows c (map names_in (take i firings)) rows → IsRow c firing.names row
    → AreRows c (map names_in (take (i + 1) firings)) (rows ++ row ∷ [])
rows_more c firings i firing rows row found are is =
    subst (λ table. AreRows c table (rows ++ row ∷ [])) (sym (ap (map names_in) (take_more firings i firing found) ∙ map-append names_in (take i firings) (firing ∷ [])))
    (rows-push c (map names_in (take i firings)) rows firing.names row are is)

pub plans_more : (c : RawCircuit) (tables : List RegionTable) (i : ℕ) (table : RegionTable) (plans : List (List Row)) (rows : List Row) → slice_get tables i ≡ Some table → ArePlans c (map firings_in (take i tables)) plans → length (firings_in table) ≤ 4096
    → AreRows c (firings_in table) rows → ArePlans c (map firings_in (take (i + 1) tables)) (plans ++ rows ∷ [])
plans_more c tables i table plans rows found are small is =
    subst (λ ts. ArePlans c ts (plans ++ rows ∷ [])) (sym (ap (map firings_in) (take_more tables i table found) ∙ map-append firings_in (take i tables) (table ∷ [])))
    (plans-push c (map firings_in (take i tables)) plans (firings_in table) rows are small is)

module _ (c : RawCircuit) (texts : List (List ℕ)) (reading : Reading) where
  same_place : (table : Table) (rows : List Row) → AreRows c table rows → position_or_len (fits c texts reading) rows ≡ position_or_len (is_allowed c texts reading) table
  same_place [] [] are = refl
  same_place (names ∷ table) (row ∷ rows) are =
      ap (λ b. cond (not b) (1 + position_or_len (fits c texts reading) rows) 0) (are.0.facts texts reading)
      ∙ ap (λ n. cond (not (is_allowed c texts reading names)) (1 + n) 0) (same_place table rows are.1)
  same_place [] (row ∷ rows) are = absurd are
  same_place (names ∷ table) [] are = absurd are

  same_length : (table : Table) (rows : List Row) → AreRows c table rows → length rows ≡ length table
  same_length [] [] are = refl
  same_length (names ∷ table) (row ∷ rows) are = ap suc (same_length table rows are.1)
  same_length [] (row ∷ rows) are = absurd are
  same_length (names ∷ table) [] are = absurd are

  -- the first row that fits is of the first firing that is allowed
  pub same_position : (table : Table) (rows : List Row) → AreRows c table rows → position (fits c texts reading) rows ≡ position (is_allowed c texts reading) table
  same_position table rows are =
      ap (λ n. cond (nat_lt n (length rows)) (Some n) None) (same_place table rows are)
      ∙ ap (λ n. cond (nat_lt (position_or_len (is_allowed c texts reading) table) n) (Some (position_or_len (is_allowed c texts reading) table)) None) (same_length table rows are)

-- the rows of a region
pub rows_at : (c : RawCircuit) (tables : List Table) (plans : List (List Row)) → ArePlans c tables plans → (region : ℕ) (rows : List Row) → slice_get plans region ≡ Some rows → AreRows c (table_at tables region) rows × (length rows ≤ 4096)
rows_at c [] [] are region rows found = cc
rows_at c (table ∷ tables) (r ∷ rs) are zero rows found =
    let same = same_Some r rows found in
    (subst (AreRows c table) same are.1, omega (arith, are.0, ap length (sym same), rows_length table r are.1))
  where
    rows_length : (t : Table) (x : List Row) → AreRows c t x → length x ≡ length t
    rows_length [] [] is = refl
    rows_length (names ∷ t) (row ∷ x) is = ap suc (rows_length t x is.1)
    rows_length [] (row ∷ x) is = absurd is
    rows_length (names ∷ t) [] is = absurd is
rows_at c (table ∷ tables) (r ∷ rs) are (suc region) rows found = rows_at c tables rs are.2 region rows found
rows_at c [] (r ∷ rs) are region rows found = absurd are
rows_at c (table ∷ tables) [] are region rows found = absurd are

pub no_rows : (c : RawCircuit) (tables : List Table) (plans : List (List Row)) → ArePlans c tables plans → (region : ℕ) → slice_get plans region ≡ None → table_at tables region ≡ []
no_rows c [] [] are region none = refl
no_rows c (table ∷ tables) (r ∷ rs) are zero none = cc
no_rows c (table ∷ tables) (r ∷ rs) are (suc region) none = no_rows c tables rs are.2 region none
no_rows c [] (r ∷ rs) are region none = absurd are
no_rows c (table ∷ tables) [] are region none = absurd are

pub row_at : (c : RawCircuit) (table : Table) (rows : List Row) → AreRows c table rows → (i : ℕ) (names : List ℕ) → slice_get table i ≡ Some names → (row : Row) × (slice_get rows i ≡ Some row) × IsRow c names row
row_at c [] [] are i names found = cc
row_at c (x ∷ xs) (r ∷ rs) are zero names found = (r, refl, subst (λ ns. IsRow c ns r) (same_Some x names found) are.0)
row_at c (x ∷ xs) (r ∷ rs) are (suc i) names found = row_at c xs rs are.1 i names found
row_at c [] (r ∷ rs) are i names found = absurd are
row_at c (x ∷ xs) [] are i names found = absurd are
