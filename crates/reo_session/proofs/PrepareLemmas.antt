-- The tables of regions, one after the other.
use Rattle.std.proofs.Common.{Result, Ok, Err, IfErr, IsErrAnd, ◌≡◌, ℕ, ◌+◌, ◌<◌, ◌≤◌, ⊎_elim, List, [], ◌∷◌, ◌++◌, length, map, slice_get, Some, sym, ap, ◌∙◌, subst, arith, length-append}
use Rattle.std.proofs.lemmas.Bool.{cases_lt}
use Rattle.std.proofs.lemmas.Option.{slice_get_within}
use Rattle.reo_net.specs.declared.circuit.RawCircuit.{RawCircuit}
use Rattle.reo_net.specs.Checks.{IsChecked}
use Rattle.reo_net.specs.Regions.{Automaton}
use Rattle.reo_net.proofs.NameLemmas.{slice_get_found}
use Rattle.reo_cut.specs.declared.cut.Cut.{Cut}
use Rattle.reo_cut.specs.Cut.{IsCut}
use Rattle.reo_product.specs.declared.table.RegionTable.{RegionTable}
use Rattle.reo_product.specs.Table.{names_in}
use Rattle.reo_schedule.proofs.CallLemmas.{push_old, push_last}
use Rattle.reo_session.specs.declared.preparation.SessionRefusal.{SessionRefusal}
use Rattle.reo_session.specs.declared.preparation.SessionRefusal.TheVariants.{Check, TooLarge, NoMemory}
use Rattle.reo_session.specs.Prepared.{IsTableOfRegion, IsTableAt, AreRegionTables, Declines, DeclinesRegion}

-- the tables of the first regions, so many
pub record AreFirstTables (c : RawCircuit) (cut : Cut) (tables : List RegionTable) (count : ℕ) : Type 0 where
  pub long : length tables ≡ count
  pub each : (is_cut : IsCut c cut) (region : ℕ) (root : Automaton) → region < count → slice_get is_cut.roots region ≡ Some root → IsTableAt c tables region root

module _ (c : RawCircuit) (cut : Cut) where
  pub no_tables : AreFirstTables c cut [] 0
  no_tables = record { long = omega arith; each = λ is_cut region root below at. absurd (omega (arith, below)) }

  pub more_tables : (tables new : List RegionTable) (count : ℕ) (table : RegionTable) → AreFirstTables c cut tables count → new ≡ tables ++ table ∷ []
      → ((is_cut : IsCut c cut) (root : Automaton) → slice_get is_cut.roots count ≡ Some root → IsTableOfRegion c count root table) → AreFirstTables c cut new (count + 1)
  more_tables tables new count table are is_new is = subst (λ ts. AreFirstTables c cut ts (count + 1)) (sym is_new) (record {
    long = omega (arith, length-append tables (table ∷ []), are.long);
    each = λ is_cut region root below at.
        ⊎_elim
        (λ (earlier : region < count). let old = are.each is_cut region root earlier at in record { table = old.table; found = push_old tables table region old.table old.found; is = old.is })
        (λ (not_earlier : count ≤ region).
        let last : count ≡ region = omega (arith, below, not_earlier) in
        record {
          table = table;
          found = ap (slice_get (tables ++ table ∷ [])) (sym last ∙ sym are.long) ∙ push_last tables table;
          is = subst (λ r. IsTableOfRegion c r root table) last (is is_cut root (ap (slice_get is_cut.roots) last ∙ at));
        })
        (cases_lt region count);
  })

  pub all_tables : (tables : List RegionTable) → AreFirstTables c cut tables cut.regions → AreRegionTables c cut tables
  all_tables tables are = record {
    as_many = are.long;
    each = λ is_cut region root at. are.each is_cut region root (omega (arith, is_cut.count, slice_get_within is_cut.roots region root at)) at;
  }

  pub declined : IsChecked c → (is : IsCut c cut) (tables : List RegionTable) (region : ℕ) → AreFirstTables c cut tables region → region < cut.regions → (why : SessionRefusal)
      → ((is_cut : IsCut c cut) (root : Automaton) → slice_get is_cut.roots region ≡ Some root → DeclinesRegion c region root why) → Declines c why
  declined checked is tables region are below why each = go why (each is root.0 root.1)
    where
      root : (root : Automaton) × (slice_get is.roots region ≡ Some root)
      root = slice_get_found is.roots region (omega (arith, below, is.count))

      go : (refusal : SessionRefusal) → DeclinesRegion c region root.0 refusal → Declines c refusal
      go (Check refusal) declines = absurd declines
      go (TooLarge number count) declines = (
        checked,
        record {
          roots = is.roots;
          regions = is.regions;
          root = root.0;
          at = ap (slice_get is.roots) declines.0 ∙ root.1;
          large = declines.1;
          least = λ lesser other less at.
              let table = are.each is lesser other (omega (arith, less, declines.0)) at in
              (table.table.growth, map names_in table.table.firings, table.is.is_table);
        },
      )
      go NoMemory declines = tt

pub passed_on : {V : Type 0} (result : Result V SessionRefusal) (e : SessionRefusal) (P : SessionRefusal → Type 0) → IsErrAnd result (λ b. b ≡ e) → P e → IfErr result P
passed_on (Ok v) e P is p = tt
passed_on (Err b) e P is p = subst P (sym is) p
