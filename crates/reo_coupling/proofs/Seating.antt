-- Seats: one view changes, one seat is given away, or one comes home.
use Rattle.std.proofs.Common.{◌≡◌, ℕ, ◌<◌, inl, inr, ⊎_elim, List, [], ◌∷◌, ◌++◌, length, set, slice_get, Some, refl, sym, ap, ◌∙◌, subst}
use Rattle.std.proofs.lemmas.Option.{same_Some, slice_get_within}
use Rattle.reo_coupling.specs.declared.view.PartyView.{PartyView}
use Rattle.reo_coupling.specs.declared.view.RegionView.{RegionView}
use Rattle.reo_coupling.specs.declared.view.RootView.{RootView}
use Rattle.reo_coupling.specs.declared.view.Mark.TheVariants.{Fresh, Out, Home}
use Rattle.reo_coupling.specs.declared.view.View.{View}
use Rattle.reo_coupling.specs.declared.view.View.TheVariants as seat
use Rattle.reo_coupling.specs.Moment.{Setting, Moment}
use Rattle.reo_coupling.specs.PortViews.{fresh_party}
use Rattle.reo_coupling.specs.Whole.{StandsFor, KeepsPart, KeepsEachPart}
use Rattle.reo_coupling.specs.PartySteps.{PartyKeeps}
use Rattle.reo_coupling.specs.Seats.{moment_of, fresh_region, region_name, party_name, mark_at, party_mark_at, with_view, with_party, KindTells, SeatsTell, KeepsTheRule, PartyKeepsTheRule, after_split, after_party_split, after_join, after_party_join, SplittingKeepsTheRule, PartySplittingKeepsTheRule, JoiningKeepsTheRule, PartyJoiningKeepsTheRule}
use Rattle.reo_coupling.proofs.Places.{get_set, set_here, set_else, get_longer, get_last, get_more}
use Rattle.reo_coupling.proofs.SeatKinds.{SameSeats, same_set, same_more, same_both, member_here, member_else, kind_stays, kind_steps, kind_splits, kind_joins}

-- a step that keeps each part keeps the whole
pub whole : (Step : Setting → ℕ → Moment → Moment → Type 0) → KeepsEachPart Step → KeepsPart Step StandsFor
whole Step each setting region before after within stands step = record {
  sized = each.of_cells.sized setting region before after within stands step;
  named = each.of_cells.named setting region before after within stands step;
  counted = each.of_cells.counted setting region before after within stands step;
  lawful = each.of_cells.lawful setting region before after within stands step;
  cells = each.of_cells.cells setting region before after within stands step;
  notes = each.of_cells.notes setting region before after within stands step;
  dues = each.of_cells.dues setting region before after within stands step;
  limit = each.of_cells.limit setting region before after within stands step;
  rounds = each.of_cells.rounds setting region before after within stands step;
  ports = each.of_ports.ports setting region before after within stands step;
  offers = each.of_ports.offers setting region before after within stands step;
  stores = each.of_ports.stores setting region before after within stands step;
  answers = each.of_ports.answers setting region before after within stands step;
  calls = each.of_ports.calls setting region before after within stands step;
  parties = each.of_ports.parties setting region before after within stands step;
}

-- seats of different kinds have different views
region_injective : (a b : RegionView) → seat.Region a ≡ seat.Region b → a ≡ b
region_injective a b e = cc

party_injective : (a b : PartyView) → seat.Party a ≡ seat.Party b → a ≡ b
party_injective a b e = cc

pub root_injective : (a b : RootView) → seat.Root a ≡ seat.Root b → a ≡ b
root_injective a b e = cc

region_no_party : (a : RegionView) (b : PartyView) → seat.Region a ≡ seat.Party b → ⊥
region_no_party a b e = cc

party_no_region : (a : PartyView) (b : RegionView) → seat.Party a ≡ seat.Region b → ⊥
party_no_region a b e = cc

root_no_region : (a : RootView) (b : RegionView) → seat.Root a ≡ seat.Region b → ⊥
root_no_region a b e = cc

root_no_party : (a : RootView) (b : PartyView) → seat.Root a ≡ seat.Party b → ⊥
root_no_party a b e = cc

region_no_root : (a : RegionView) (b : RootView) → seat.Region a ≡ seat.Root b → ⊥
region_no_root a b e = cc

party_no_root : (a : PartyView) (b : RootView) → seat.Party a ≡ seat.Root b → ⊥
party_no_root a b e = cc

spent_no_region : (b : RegionView) → seat.Spent ≡ seat.Region b → ⊥
spent_no_region b e = cc

spent_no_party : (b : PartyView) → seat.Spent ≡ seat.Party b → ⊥
spent_no_party b e = cc

spent_no_root : (b : RootView) → seat.Spent ≡ seat.Root b → ⊥
spent_no_root b e = cc

pub view_here : (book : ℕ → RegionView) (view : RegionView) (region : ℕ) → region ≡ view.cells.region → with_view book view region ≡ view
view_here book view region is = member_here region_name book view region is

pub view_else : (book : ℕ → RegionView) (view : RegionView) (region : ℕ) → (region ≡ view.cells.region → ⊥) → with_view book view region ≡ book region
view_else book view region ne = member_else region_name book view region ne

pub party_here : (folk : ℕ → PartyView) (view : PartyView) (party : ℕ) → party ≡ view.party → with_party folk view party ≡ view
party_here folk view party is = member_here party_name folk view party is

pub party_else : (folk : ℕ → PartyView) (view : PartyView) (party : ℕ) → (party ≡ view.party → ⊥) → with_party folk view party ≡ folk party
party_else folk view party ne = member_else party_name folk view party ne

module _ (setting : Setting) (book : ℕ → RegionView) (folk : ℕ → PartyView) (views : List View) (tells : SeatsTell setting book folk views) where
  -- the root's seat is another than this one
  root_stays : (id : ℕ) (old new : View) → slice_get views id ≡ Some old → ((view : RootView) → old ≡ seat.Root view → ⊥) → slice_get (set views id new) 0 ≡ Some (seat.Root tells.root)
  root_stays id old new found no_root =
      set_else views id 0 new (λ is. no_root tells.root (same_Some old (seat.Root tells.root) (sym found ∙ (ap (slice_get views) (sym is) ∙ tells.first)))) ∙ tells.first

  only_stays : (id : ℕ) (new : View) → ((view : RootView) → new ≡ seat.Root view → ⊥) → (j : ℕ) (view : RootView) → slice_get (set views id new) j ≡ Some (seat.Root view) → j ≡ 0
  only_stays id new no_root j view there = ⊎_elim (λ here. absurd (no_root view here.1)) (λ other. tells.only j view other.1) (get_set views id j new (seat.Root view) there)

  pub region_steps : (id : ℕ) (old new : RegionView) → slice_get views id ≡ Some (seat.Region old) → new.cells.region ≡ old.cells.region → ((r : ℕ) → r < setting.fabric.regions → (book r).cells.region ≡ r)
      → SeatsTell setting (with_view book new) folk (set views id (seat.Region new))
  region_steps id old new found same named = record {
    root = tells.root;
    first = root_stays id (seat.Region old) (seat.Region new) found (region_no_root old);
    only = only_stays id (seat.Region new) (region_no_root new);
    limit = tells.limit;
    regions = kind_steps seat.Region region_name (fresh_region setting.limit) setting.fabric.regions region_injective tells.root.regions tells.root.regions_home book views tells.regions id old new found same named;
    parties = kind_stays seat.Party party_name fresh_party setting.fabric.parties party_injective tells.root.parties tells.root.parties_home folk views tells.parties (set views id (seat.Region new))
        (same_set seat.Party views id (seat.Region old) (seat.Region new) found (region_no_party old) (region_no_party new));
  }

  pub party_steps : (id : ℕ) (old new : PartyView) → slice_get views id ≡ Some (seat.Party old) → new.party ≡ old.party → ((p : ℕ) → p < setting.fabric.parties → (folk p).party ≡ p)
      → SeatsTell setting book (with_party folk new) (set views id (seat.Party new))
  party_steps id old new found same named = record {
    root = tells.root;
    first = root_stays id (seat.Party old) (seat.Party new) found (party_no_root old);
    only = only_stays id (seat.Party new) (party_no_root new);
    limit = tells.limit;
    regions = kind_stays seat.Region region_name (fresh_region setting.limit) setting.fabric.regions region_injective tells.root.regions tells.root.regions_home book views tells.regions (set views id (seat.Party new))
        (same_set seat.Region views id (seat.Party old) (seat.Party new) found (party_no_region old) (party_no_region new));
    parties = kind_steps seat.Party party_name fresh_party setting.fabric.parties party_injective tells.root.parties tells.root.parties_home folk views tells.parties id old new found same named;
  }

  -- the root's seat changes, and another is added
  module _ (id : ℕ) (root : RootView) (found : slice_get views id ≡ Some (seat.Root root)) where
    id_is : id ≡ 0
    id_is = tells.only id root found

    root_is : tells.root ≡ root
    root_is = root_injective tells.root root (same_Some _ _ (sym tells.first ∙ (ap (slice_get views) (sym id_is) ∙ found)))

    set_first : (new : RootView) → slice_get (set views id (seat.Root new)) 0 ≡ Some (seat.Root new)
    set_first new = ap (slice_get (set views id (seat.Root new))) (sym id_is) ∙ set_here views id (seat.Root new) (slice_get_within views id (seat.Root root) found)

    set_only : (new : RootView) (j : ℕ) (view : RootView) → slice_get (set views id (seat.Root new)) j ≡ Some (seat.Root view) → j ≡ 0
    set_only new j view there = ⊎_elim (λ here. here.0 ∙ id_is) (λ other. tells.only j view other.1) (get_set views id j (seat.Root new) (seat.Root view) there)

    of_regions : (new : RootView) → SameSeats seat.Region views (set views id (seat.Root new))
    of_regions new = same_set seat.Region views id (seat.Root root) (seat.Root new) found (root_no_region root) (root_no_region new)

    of_parties : (new : RootView) → SameSeats seat.Party views (set views id (seat.Root new))
    of_parties new = same_set seat.Party views id (seat.Root root) (seat.Root new) found (root_no_party root) (root_no_party new)

    more_only : (new : RootView) (added : View) → ((view : RootView) → added ≡ seat.Root view → ⊥) → (j : ℕ) (view : RootView) → slice_get (set views id (seat.Root new) ++ added ∷ []) j ≡ Some (seat.Root view) → j ≡ 0
    more_only new added no_root j view there =
        ⊎_elim (λ older. set_only new j view older) (λ last. absurd (no_root view last.1)) (get_more (set views id (seat.Root new)) added (seat.Root view) j there)

    limit_is : root.limit ≡ setting.limit
    limit_is = ap (λ (m : RootView). m.limit) (sym root_is) ∙ tells.limit

    pub region_splits : (region : ℕ) → region < setting.fabric.regions → mark_at root region ≡ Fresh
        → SeatsTell setting book folk (set views id (seat.Root (after_split root region)) ++ seat.Region (fresh_region root.limit region) ∷ [])
    region_splits region inside fresh = record {
      root = after_split root region;
      first = get_longer (set views id (seat.Root (after_split root region))) _ 0 _ (set_first (after_split root region));
      only = more_only (after_split root region) (seat.Region (fresh_region root.limit region)) (region_no_root (fresh_region root.limit region));
      limit = limit_is;
      regions = subst
          (λ (m : RootView). KindTells seat.Region region_name (fresh_region setting.limit) setting.fabric.regions (set m.regions region Out) m.regions_home book (set views id (seat.Root (after_split root region)) ++ seat.Region (fresh_region root.limit region) ∷ []))
          root_is
          (kind_splits seat.Region region_name (fresh_region setting.limit) setting.fabric.regions region_injective tells.root.regions tells.root.regions_home book views tells.regions region (length (set views id (seat.Root (after_split root region))))
          (set views id (seat.Root (after_split root region)) ++ seat.Region (fresh_region root.limit region) ∷ []) inside (ap (λ (m : RootView). mark_at m region) root_is ∙ fresh)
          (λ j view there. get_longer (set views id (seat.Root (after_split root region))) _ j (seat.Region view) ((of_regions (after_split root region)).kept j view there))
          (λ j view there.
          ⊎_elim (λ older. inl ((of_regions (after_split root region)).came j view older)) (λ last. inr (last.0, ap (λ n. seat.Region (fresh_region n region)) (sym limit_is) ∙ last.1))
          (get_more (set views id (seat.Root (after_split root region))) (seat.Region (fresh_region root.limit region)) (seat.Region view) j there))
          (get_last (set views id (seat.Root (after_split root region))) _ ∙ ap (λ n. Some (seat.Region (fresh_region n region))) limit_is) refl);
      parties = subst
          (λ (m : RootView). KindTells seat.Party party_name fresh_party setting.fabric.parties m.parties m.parties_home folk (set views id (seat.Root (after_split root region)) ++ seat.Region (fresh_region root.limit region) ∷ []))
          root_is
          (kind_stays seat.Party party_name fresh_party setting.fabric.parties party_injective tells.root.parties tells.root.parties_home folk views tells.parties _
          (same_both seat.Party views (set views id (seat.Root (after_split root region))) _ (of_parties (after_split root region))
          (same_more seat.Party (set views id (seat.Root (after_split root region))) (seat.Region (fresh_region root.limit region)) (region_no_party (fresh_region root.limit region)))));
    }

    pub party_splits : (party : ℕ) → party < setting.fabric.parties → party_mark_at root party ≡ Fresh → SeatsTell setting book folk (set views id (seat.Root (after_party_split root party)) ++ seat.Party (fresh_party party) ∷ [])
    party_splits party inside fresh = record {
      root = after_party_split root party;
      first = get_longer (set views id (seat.Root (after_party_split root party))) _ 0 _ (set_first (after_party_split root party));
      only = more_only (after_party_split root party) (seat.Party (fresh_party party)) (party_no_root (fresh_party party));
      limit = limit_is;
      regions = subst
          (λ (m : RootView). KindTells seat.Region region_name (fresh_region setting.limit) setting.fabric.regions m.regions m.regions_home book (set views id (seat.Root (after_party_split root party)) ++ seat.Party (fresh_party party) ∷ []))
          root_is
          (kind_stays seat.Region region_name (fresh_region setting.limit) setting.fabric.regions region_injective tells.root.regions tells.root.regions_home book views tells.regions _
          (same_both seat.Region views (set views id (seat.Root (after_party_split root party))) _ (of_regions (after_party_split root party))
          (same_more seat.Region (set views id (seat.Root (after_party_split root party))) (seat.Party (fresh_party party)) (party_no_region (fresh_party party)))));
      parties = subst
          (λ (m : RootView). KindTells seat.Party party_name fresh_party setting.fabric.parties (set m.parties party Out) m.parties_home folk (set views id (seat.Root (after_party_split root party)) ++ seat.Party (fresh_party party) ∷ []))
          root_is
          (kind_splits seat.Party party_name fresh_party setting.fabric.parties party_injective tells.root.parties tells.root.parties_home folk views tells.parties party (length (set views id (seat.Root (after_party_split root party))))
          (set views id (seat.Root (after_party_split root party)) ++ seat.Party (fresh_party party) ∷ []) inside (ap (λ (m : RootView). party_mark_at m party) root_is ∙ fresh)
          (λ j view there. get_longer (set views id (seat.Root (after_party_split root party))) _ j (seat.Party view) ((of_parties (after_party_split root party)).kept j view there))
          (λ j view there.
          ⊎_elim (λ older. inl ((of_parties (after_party_split root party)).came j view older)) (λ last. inr last)
          (get_more (set views id (seat.Root (after_party_split root party))) (seat.Party (fresh_party party)) (seat.Party view) j there))
          (get_last (set views id (seat.Root (after_party_split root party))) _) refl);
    }

    -- a seat comes home and is spent
    module _ (other : ℕ) (new : RootView) (gone : View) (at_other : slice_get views other ≡ Some gone) (no_root : (view : RootView) → gone ≡ seat.Root view → ⊥) where
      apart : other ≡ id → ⊥
      apart is = no_root root (same_Some _ _ (sym at_other ∙ (ap (slice_get views) is ∙ found)))

      still_there : slice_get (set views id (seat.Root new)) other ≡ Some gone
      still_there = set_else views id other (seat.Root new) apart ∙ at_other

      home_first : slice_get (set (set views id (seat.Root new)) other seat.Spent) 0 ≡ Some (seat.Root new)
      home_first = set_else (set views id (seat.Root new)) other 0 seat.Spent (λ is. apart (sym is ∙ sym id_is)) ∙ set_first new

      home_only : (j : ℕ) (view : RootView) → slice_get (set (set views id (seat.Root new)) other seat.Spent) j ≡ Some (seat.Root view) → j ≡ 0
      home_only j view there = ⊎_elim (λ here. absurd (spent_no_root view here.1)) (λ rest. set_only new j view rest.1) (get_set (set views id (seat.Root new)) other j seat.Spent (seat.Root view) there)

    pub region_joins : (other : ℕ) (view : RegionView) → slice_get views other ≡ Some (seat.Region view) → ((r : ℕ) → r < setting.fabric.regions → (book r).cells.region ≡ r)
        → SeatsTell setting book folk (set (set views id (seat.Root (after_join root view))) other seat.Spent)
    region_joins other view at_other named = record {
      root = after_join root view;
      first = home_first other (after_join root view) (seat.Region view) at_other (region_no_root view);
      only = home_only other (after_join root view) (seat.Region view) at_other (region_no_root view);
      limit = limit_is;
      regions = subst
          (λ (m : RootView). KindTells seat.Region region_name (fresh_region setting.limit) setting.fabric.regions (set m.regions view.cells.region Home) (view ∷ m.regions_home) book (set (set views id (seat.Root (after_join root view))) other seat.Spent))
          root_is
          (kind_joins seat.Region region_name (fresh_region setting.limit) setting.fabric.regions region_injective tells.root.regions tells.root.regions_home book views tells.regions other view
          (set (set views id (seat.Root (after_join root view))) other seat.Spent) at_other named
          (λ j v ne there. set_else (set views id (seat.Root (after_join root view))) other j seat.Spent ne ∙ (of_regions (after_join root view)).kept j v there)
          (λ j v there.
          ⊎_elim (λ here. absurd (spent_no_region v here.1)) (λ rest. (rest.0, (of_regions (after_join root view)).came j v rest.1)) (get_set (set views id (seat.Root (after_join root view))) other j seat.Spent (seat.Region v) there)));
      parties = subst
          (λ (m : RootView). KindTells seat.Party party_name fresh_party setting.fabric.parties m.parties m.parties_home folk (set (set views id (seat.Root (after_join root view))) other seat.Spent))
          root_is
          (kind_stays seat.Party party_name fresh_party setting.fabric.parties party_injective tells.root.parties tells.root.parties_home folk views tells.parties _
          (same_both seat.Party views (set views id (seat.Root (after_join root view))) _ (of_parties (after_join root view))
          (same_set seat.Party (set views id (seat.Root (after_join root view))) other (seat.Region view) seat.Spent (still_there other (after_join root view) (seat.Region view) at_other (region_no_root view)) (region_no_party view) spent_no_party)));
    }

    pub party_joins : (other : ℕ) (view : PartyView) → slice_get views other ≡ Some (seat.Party view) → ((p : ℕ) → p < setting.fabric.parties → (folk p).party ≡ p)
        → SeatsTell setting book folk (set (set views id (seat.Root (after_party_join root view))) other seat.Spent)
    party_joins other view at_other named = record {
      root = after_party_join root view;
      first = home_first other (after_party_join root view) (seat.Party view) at_other (party_no_root view);
      only = home_only other (after_party_join root view) (seat.Party view) at_other (party_no_root view);
      limit = limit_is;
      regions = subst
          (λ (m : RootView). KindTells seat.Region region_name (fresh_region setting.limit) setting.fabric.regions m.regions m.regions_home book (set (set views id (seat.Root (after_party_join root view))) other seat.Spent))
          root_is
          (kind_stays seat.Region region_name (fresh_region setting.limit) setting.fabric.regions region_injective tells.root.regions tells.root.regions_home book views tells.regions _
          (same_both seat.Region views (set views id (seat.Root (after_party_join root view))) _ (of_regions (after_party_join root view))
          (same_set seat.Region (set views id (seat.Root (after_party_join root view))) other (seat.Party view) seat.Spent (still_there other (after_party_join root view) (seat.Party view) at_other (party_no_root view)) (party_no_region view) spent_no_region)));
      parties = subst
          (λ (m : RootView). KindTells seat.Party party_name fresh_party setting.fabric.parties (set m.parties view.party Home) (view ∷ m.parties_home) folk (set (set views id (seat.Root (after_party_join root view))) other seat.Spent))
          root_is
          (kind_joins seat.Party party_name fresh_party setting.fabric.parties party_injective tells.root.parties tells.root.parties_home folk views tells.parties other view
          (set (set views id (seat.Root (after_party_join root view))) other seat.Spent) at_other named
          (λ j v ne there. set_else (set views id (seat.Root (after_party_join root view))) other j seat.Spent ne ∙ (of_parties (after_party_join root view)).kept j v there)
          (λ j v there.
          ⊎_elim (λ here. absurd (spent_no_party v here.1)) (λ rest. (rest.0, (of_parties (after_party_join root view)).came j v rest.1)) (get_set (set views id (seat.Root (after_party_join root view))) other j seat.Spent (seat.Party v) there)));
    }

pub keeps_the_rule : (Step : Setting → ℕ → Moment → Moment → Type 0) → KeepsEachPart Step → KeepsTheRule Step
keeps_the_rule Step each setting words later views id old new history rule found same step = record {
  rule = record {
    history = history;
    book = with_view rule.book new;
    folk = rule.folk;
    stands =
        whole Step each setting old.cells.region (moment_of words rule.history rule.book rule.folk) (moment_of later history (with_view rule.book new) rule.folk)
        (rule.tells.regions.seats id old found).within rule.stands step;
    tells = region_steps setting rule.book rule.folk views rule.tells id old new found same rule.stands.named.regions;
  };
  same = refl;
}

pub party_keeps_the_rule : (Step : Setting → ℕ → Moment → Moment → Type 0) → PartyKeeps Step → PartyKeepsTheRule Step
party_keeps_the_rule Step keeps setting words later views id old new rule found same step = record {
  rule = record {
    history = rule.history;
    book = rule.book;
    folk = with_party rule.folk new;
    stands =
        keeps setting old.party (moment_of words rule.history rule.book rule.folk) (moment_of later rule.history rule.book (with_party rule.folk new))
        (rule.tells.parties.seats id old found).within rule.stands step;
    tells = party_steps setting rule.book rule.folk views rule.tells id old new found same rule.stands.parties;
  };
  same = refl;
}

pub splitting_keeps_the_rule : SplittingKeepsTheRule
splitting_keeps_the_rule setting words views id region root rule found inside fresh = record {
  rule = record { history = rule.history; book = rule.book; folk = rule.folk; stands = rule.stands; tells = region_splits setting rule.book rule.folk views rule.tells id root found region inside fresh };
  same = refl;
}

pub party_splitting_keeps_the_rule : PartySplittingKeepsTheRule
party_splitting_keeps_the_rule setting words views id party root rule found inside fresh = record {
  rule = record { history = rule.history; book = rule.book; folk = rule.folk; stands = rule.stands; tells = party_splits setting rule.book rule.folk views rule.tells id root found party inside fresh };
  same = refl;
}

pub joining_keeps_the_rule : JoiningKeepsTheRule
joining_keeps_the_rule setting words views id other root view rule at_root at_other = record {
  rule = record { history = rule.history; book = rule.book; folk = rule.folk; stands = rule.stands; tells = region_joins setting rule.book rule.folk views rule.tells id root at_root other view at_other rule.stands.named.regions };
  same = refl;
}

pub party_joining_keeps_the_rule : PartyJoiningKeepsTheRule
party_joining_keeps_the_rule setting words views id other root view rule at_root at_other = record {
  rule = record { history = rule.history; book = rule.book; folk = rule.folk; stands = rule.stands; tells = party_joins setting rule.book rule.folk views rule.tells id root at_root other view at_other rule.stands.parties };
  same = refl;
}
