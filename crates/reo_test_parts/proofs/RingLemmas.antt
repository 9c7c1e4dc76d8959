-- Seats of the ring.
use Rattle.std.proofs.Common.{◌≡◌, ◌≢◌, ℕ, [], inr, refl, sym, ap, ◌∙◌, subst}
use Rattle.std.proofs.lemmas.Bool.{eq-eqb}
use Rattle.reo_value.specs.declared.value.Value.{Value}
use Rattle.reo_value.specs.Code.{code_of}
use Rattle.reo_fabric.specs.declared.entry.Entry.{Entry}
use Rattle.reo_fabric.specs.Entry.{at_place}
use Rattle.reo_fabric.specs.Fabric.{IsTaker, IsFiller}
use Rattle.reo_fabric.proofs.PlaceLemmas.{at_first}
use Rattle.reo_coupling.specs.Moment.{Setting}
use Rattle.reo_coupling.specs.RegionViews.{region_after_commit, region_after_set_cell}
use Rattle.reo_coupling.specs.PortParts.{OwesNothing}
use Rattle.reo_coupling.specs.Steps.{IsDue}
use Rattle.reo_coupling.specs.Seats.{fresh_region}
use Rattle.reo_table.specs.Shared.{WordsState, SeatState, RootState, knowing}
use Rattle.reo_test_parts.specs.Ring.{ring, moved, CanPass}

-- a seat that was just made
pub fresh_can_pass : (words : WordsState) (seat : SeatState) (root : RootState) (limit region from to : ℕ) → words.setting ≡ record { fabric = ring; limit = limit } → seat ≡ record { id = root.id; view = fresh_region root.view.limit region }
    → root.id ≡ words.id → IsTaker ring region from → IsFiller ring region to → from ≢ to → CanPass words seat region from to
fresh_can_pass words seat root limit region from to setting is same taker filler apart = record {
  own = ap (λ (s : SeatState). s.id) is ∙ same;
  region_is = ap (λ (s : SeatState). s.view.cells.region) is;
  taker = subst (λ (s : Setting). IsTaker s.fabric region from) (sym setting) taker;
  filler = subst (λ (s : Setting). IsFiller s.fabric region to) (sym setting) filler;
  apart = apart;
  quiet = subst (λ (s : SeatState). OwesNothing s.view) (sym is) (record { cells = record { takes = refl; fills = refl }; gots = refl; answers = refl });
}

-- the fill is still due after the take was stored
pub fill_still_due : (start committed stored : SeatState) (entry : Entry) (number region from to word : ℕ) (value : Value) → committed ≡ knowing start (region_after_commit start.view number entry)
    → stored ≡ knowing committed (region_after_set_cell committed.view from 0) → entry ≡ moved region from to value → code_of value ≡ word → IsDue stored.view.cells to word
fill_still_due start committed stored entry number region from to word value commits stores is code = inr (record {
  value = value;
  found =
      ap (λ (s : SeatState). at_place s.view.cells.fills_due to) stores
      ∙ (ap (λ (s : SeatState). at_place s.view.cells.fills_due to) commits
      ∙ (ap (λ (e : Entry). at_place e.fills to) is ∙ at_first (to, value) [] to (eq-eqb to to refl)));
  word_is = sym code;
})
