-- The seats come home, and what the words say then.
use Rattle.std.proofs.Common.{◌≡◌, ℕ, zero, suc, ◌<◌, ◌⊎◌, inl, inr, ⊎_elim, List, [], ◌∷◌, ◌++◌, length, map, set, get_or, slice_get, slice_index, Option, Some, None, IfSome, refl, sym, ap, ◌∙◌, subst, arith, append_assoc, get_or-set_other}
use Rattle.std.proofs.lemmas.Bool.{cases_eq}
use Rattle.atomic_table.specs.Table.{State, Joins}
use Rattle.reo_coupling.specs.declared.view.Mark.{Mark}
use Rattle.reo_coupling.specs.declared.view.Mark.TheVariants.{Fresh, Out, Home}
use Rattle.reo_coupling.specs.declared.view.PartyView.{PartyView}
use Rattle.reo_coupling.specs.declared.view.RegionView.{RegionView}
use Rattle.reo_coupling.specs.declared.view.RootView.{RootView}
use Rattle.reo_coupling.specs.declared.view.View.{View}
use Rattle.reo_coupling.specs.declared.view.View.TheVariants.{Root, Region, Party, Spent}
use Rattle.reo_coupling.specs.Moment.{Setting}
use Rattle.reo_coupling.specs.Seats.{region_name, party_name, mark_of, IsAmong, after_join, after_party_join}
use Rattle.reo_coupling.proofs.Places.{set_else}
use Rattle.reo_coupling.proofs.Seating.{joining_keeps_the_rule, party_joining_keeps_the_rule}
use Rattle.reo_table.specs.Plays.{root_of, joined}
use Rattle.reo_table.specs.Closing.{joined_marks, after_regions, after_parties, HasMember}
use Rattle.reo_table.proofs.Kept.{Rule}
use Rattle.reo_table.proofs.Views.{found}

pub allows_region_join : {S : Type 0} (setting : Setting) (id other : ℕ) (v : View) (view : RegionView) → v ≡ Root (root_of v) → Joins (Rule {S = S} setting) id v other (Region view) (joined v (Region view)) Spent
allows_region_join setting id other v view is s rule there apart at_other =
    (joining_keeps_the_rule setting s.words s.views id other (root_of v) view rule (found s.views id v there ∙ ap Some is)
    (sym (set_else s.views id other (joined v (Region view)) apart) ∙ found (set s.views id (joined v (Region view))) other (Region view) at_other)).rule

pub allows_party_join : {S : Type 0} (setting : Setting) (id other : ℕ) (v : View) (view : PartyView) → v ≡ Root (root_of v) → Joins (Rule {S = S} setting) id v other (Party view) (joined v (Party view)) Spent
allows_party_join setting id other v view is s rule there apart at_other =
    (party_joining_keeps_the_rule setting s.words s.views id other (root_of v) view rule (found s.views id v there ∙ ap Some is)
    (sym (set_else s.views id other (joined v (Party view)) apart) ∙ found (set s.views id (joined v (Party view))) other (Party view) at_other)).rule

home_is_not_out : Home ≡ Out → ⊥
home_is_not_out e = cc

fresh_is_not_out : Fresh ≡ Out → ⊥
fresh_is_not_out e = cc

-- a number that came home is not out
set_is_not_out : (marks : List Mark) (number : ℕ) → mark_of (set marks number Home) number ≡ Out → ⊥
set_is_not_out [] number out = fresh_is_not_out out
set_is_not_out (mark ∷ marks) zero out = home_is_not_out out
set_is_not_out (mark ∷ marks) (suc number) out = set_is_not_out marks number out

module _ {W : Type 0} (name : W → ℕ) where
  marks_last : (marks : List Mark) (views : List W) (view : W) → joined_marks name marks (views ++ view ∷ []) ≡ joined_marks name (set marks (name view) Home) views
  marks_last marks [] view = refl
  marks_last marks (v ∷ views) view = ap (λ l. set l (name v) Home) (marks_last marks views view)

  member_first : (view : W) (views : List W) (number : ℕ) → number ≡ name view → HasMember name (view ∷ views) number
  member_first view views number is = record { view = view; among = record { place = 0; found = refl }; named = sym is }

  member_more : (view : W) (views : List W) (number : ℕ) → HasMember name views number → HasMember name (view ∷ views) number
  member_more view views number has = record { view = has.view; among = record { place = suc has.among.place; found = has.among.found }; named = has.named }

  -- a number that is out was out before, and none of these is its seat
  pub out_before : (marks : List Mark) (views : List W) (number : ℕ) → mark_of (joined_marks name marks views) number ≡ Out → (mark_of marks number ≡ Out) × (HasMember name views number → ⊥)
  out_before marks [] number out = (out, λ has. no_place has.view has.among.place has.among.found)
    where
      no_place : (view : W) (place : ℕ) → slice_get [] place ≡ Some view → ⊥
      no_place view place e = cc
  out_before marks (view ∷ views) number out = go (out_before marks views number) (cases_eq number (name view))
    where
      rest : (has : HasMember name (view ∷ views) number) (place : ℕ) → has.among.place ≡ place → (number ≡ name view → ⊥) → (HasMember name views number → ⊥) → ⊥
      rest has zero is ne none = ne (sym (ap name (some_is view has.view (ap (slice_get (view ∷ views)) (sym is) ∙ has.among.found)) ∙ has.named))
        where
          some_is : (a b : W) → Some a ≡ Some b → a ≡ b
          some_is a b e = cc
      rest has (suc place) is ne none = none (record { view = has.view; among = record { place = place; found = ap (slice_get (view ∷ views)) (sym is) ∙ has.among.found }; named = has.named })

      go : (mark_of (joined_marks name marks views) number ≡ Out → (mark_of marks number ≡ Out) × (HasMember name views number → ⊥)) → (number ≡ name view) ⊎ (number ≡ name view → ⊥)
          → (mark_of marks number ≡ Out) × (HasMember name (view ∷ views) number → ⊥)
      go before (inl is) = absurd (set_is_not_out (joined_marks name marks views) (name view) (ap (mark_of (set (joined_marks name marks views) (name view) Home)) (sym is) ∙ out))
      go before (inr ne) =
          let earlier = before (sym (get_or-set_other (joined_marks name marks views) (name view) number Home Fresh ne) ∙ out) in
          (earlier.0, λ has. rest has has.among.place refl ne earlier.1)

  -- a number that was fresh stays so where none of these is its seat
  pub fresh_after : (marks : List Mark) (views : List W) (number : ℕ) → mark_of marks number ≡ Fresh → (HasMember name views number → ⊥) → mark_of (joined_marks name marks views) number ≡ Fresh
  fresh_after marks [] number fresh none = fresh
  fresh_after marks (view ∷ views) number fresh none =
      get_or-set_other (joined_marks name marks views) (name view) number Home Fresh (λ is. none (member_first view views number is))
      ∙ fresh_after marks views number fresh (λ has. none (member_more view views number has))

pub after_regions_last : (root : RootView) (views : List RegionView) (view : RegionView) → after_regions root (views ++ view ∷ []) ≡ after_regions (after_join root view) views
after_regions_last root views view =
    ap (λ l. record root { regions = l; regions_home = (views ++ view ∷ []) ++ root.regions_home }) (marks_last region_name root.regions views view)
    ∙ ap (λ l. record root { regions = joined_marks region_name (set root.regions (region_name view) Home) views; regions_home = l }) (append_assoc views (view ∷ []) root.regions_home)

pub after_parties_last : (root : RootView) (views : List PartyView) (view : PartyView) → after_parties root (views ++ view ∷ []) ≡ after_parties (after_party_join root view) views
after_parties_last root views view =
    ap (λ l. record root { parties = l; parties_home = (views ++ view ∷ []) ++ root.parties_home }) (marks_last party_name root.parties views view)
    ∙ ap (λ l. record root { parties = joined_marks party_name (set root.parties (party_name view) Home) views; parties_home = l }) (append_assoc views (view ∷ []) root.parties_home)
