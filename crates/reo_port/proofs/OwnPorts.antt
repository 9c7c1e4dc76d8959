-- The ports of a party, and the calls that it noted there.
use Rattle.std.proofs.Common.{◌≡◌, ℕ, zero, suc, ◌<◌, ⊎_elim, Bool, true, false, cond, List, [], ◌∷◌, length, map, set, get_or, slice_get, nat_eq, Option, Some, None, refl, sym, ap, ◌∙◌, subst, arith, length-set, get_or-set_same, get_or-set_other}
use Rattle.std.proofs.lemmas.Bool.{cases_eq, eqb-true}
use Rattle.std.proofs.lemmas.Option.{same_Some}
use Rattle.reo_value.specs.declared.value.Value.{Value}
use Rattle.reo_value.specs.declared.op.Op.{Op}
use Rattle.reo_value.specs.declared.op.Way.{Way}
use Rattle.reo_value.specs.declared.op.Way.TheVariants.{Put, Get}
use Rattle.reo_fabric.specs.declared.fabric.PortSpec.{PortSpec}
use Rattle.reo_fabric.specs.declared.fabric.Fabric.{Fabric}
use Rattle.reo_coupling.specs.declared.view.Offer.{Offer}
use Rattle.reo_coupling.specs.declared.view.PartyView.{PartyView}
use Rattle.reo_coupling.specs.PortViews.{port_of}
use Rattle.reo_coupling.specs.PartySteps.{IsOwnedPut}
use Rattle.reo_coupling.specs.PortParts.{IsOwned}
use Rattle.reo_table.specs.Shared.{WordsState}
use Rattle.reo_port.specs.declared.party.PortRefusal.{PortRefusal}
use Rattle.reo_port.specs.Party.{PartyValue, way_of_owner, ways_of, IsPartyOf, way_at, standing, put_of, refused, refusal_of, call_at, AreNoted}

no_some : {A : Type 0} {P : Type 0} (x : A) → ◌≡◌ {A = Option A} None (Some x) → P
no_some {A} x is = absurd (clash is)
  where
    clash : ◌≡◌ {A = Option A} None (Some x) → ⊥
    clash e = cc

owner_is : (party : ℕ) (owner : Option ℕ) (own way : Way) → way_of_owner party owner own ≡ Some way → (owner ≡ Some party) × (own ≡ way)
owner_is party None own way is = no_some way is
owner_is party (Some owner) own way is = go (nat_eq party owner) refl is
  where
    go : (b : Bool) → nat_eq party owner ≡ b → cond b (Some own) None ≡ Some way → (Some owner ≡ Some party) × (own ≡ way)
    go true same found = (ap Some (sym (eqb-true party owner same)), same_Some own way found)
    go false same found = no_some way found

-- a port of the party in its fabric
pub record IsAt (ports : List PortSpec) (party port : ℕ) (way : Way) : Type 0 where
  pub spec : PortSpec
  pub found : slice_get ports port ≡ Some spec
  pub owner : spec.owner ≡ Some party
  pub goes : spec.way ≡ way

is_at : (ports : List PortSpec) (party port : ℕ) (way : Way) → get_or (map (λ (spec : PortSpec). way_of_owner party spec.owner spec.way) ports) port None ≡ Some way → IsAt ports party port way
is_at [] party zero way is = no_some way is
is_at [] party (suc port) way is = no_some way is
is_at (spec ∷ ports) party zero way is =
    let both = owner_is party spec.owner spec.way way is in
    record { spec = spec; found = refl; owner = both.0; goes = both.1 }
is_at (spec ∷ ports) party (suc port) way is =
    let rest = is_at ports party port way is in
    record { spec = rest.spec; found = rest.found; owner = rest.owner; goes = rest.goes }

pub owned : (words : WordsState) (state : PartyValue) (port : ℕ) (way : Way) → IsPartyOf words state → way_at state port ≡ Some way → IsAt words.setting.fabric.ports state.view.party port way
owned words state port way is at = is_at words.setting.fabric.ports state.view.party port way (ap (λ l. get_or l port None) (sym is.ways) ∙ at)

-- a call that is not refused is at a port of the party's, of this way, where no call is noted
pub not_refused : (own : Option Way) (way : Way) (call : Option Op) → refused own way call ≡ None → (own ≡ Some way) × (call ≡ None)
not_refused None way call is = no_refusal is
  where
    no_refusal : {P : Type 0} {why : PortRefusal} → ◌≡◌ {A = Option PortRefusal} (Some why) None → P
    no_refusal e = no_some _ (sym e)
not_refused (Some Put) Put None is = (refl, refl)
not_refused (Some Put) Put (Some call) is = no_some _ (sym is)
not_refused (Some Put) Get call is = no_some _ (sym is)
not_refused (Some Get) Put call is = no_some _ (sym is)
not_refused (Some Get) Get None is = (refl, refl)
not_refused (Some Get) Get (Some call) is = no_some _ (sym is)

-- where no call is noted at an owned port, none is open
pub none_open : (way : Way) (port : ℕ) (call : Option Offer) → standing (Some way) port call ≡ None → ((offer : Offer) → way ≡ Put → call ≡ Some offer → offer.value ≡ None → ⊥) → call ≡ None
none_open way port None is puts = refl
none_open Get port (Some offer) is puts = no_some _ (sym is)
none_open Put port (Some offer) is puts = absurd (puts offer refl refl (no_value offer.value is))
  where
    no_value : (value : Option Value) → put_of port value ≡ None → value ≡ None
    no_value None e = refl
    no_value (Some v) e = no_some _ (sym e)

pub idle_at : (ways : List (Option Way)) (view : PartyView) (calls : List (Option Op)) (port : ℕ) (way : Way) → AreNoted ways view calls → get_or ways port None ≡ Some way → standing (get_or ways port None) port (port_of view port).call ≡ None
    → (port_of view port).call ≡ None
idle_at ways view calls port way noted at none =
    none_open way port (port_of view port).call (ap (λ w. standing w port (port_of view port).call) (sym at) ∙ none) (λ offer put call empty. noted.puts port offer (at ∙ ap Some put) call empty)

-- what is noted after the call at one port changed
pub noted_after : (ways : List (Option Way)) (view new : PartyView) (calls : List (Option Op)) (port : ℕ) (call : Option Op) (open_now : Option Offer) → AreNoted ways view calls → port < length calls → (port_of new port).call ≡ open_now
    → ((other : ℕ) → (other ≡ port → ⊥) → (port_of new other).call ≡ (port_of view other).call) → call ≡ standing (get_or ways port None) port open_now
    → ((offer : Offer) → get_or ways port None ≡ Some Put → open_now ≡ Some offer → offer.value ≡ None → ⊥) → AreNoted ways new (set calls port call)
noted_after ways view new calls port call open_now noted within opened others is puts = record {
  same = length-set calls port call ∙ noted.same;
  each = λ p.
      ⊎_elim
      (λ here.
      ap (λ n. get_or (set calls port call) n None) here
      ∙ (get_or-set_same calls port call None within ∙ (is ∙ (ap (standing (get_or ways port None) port) (sym opened) ∙ ap (λ n. standing (get_or ways n None) n (port_of new n).call) (sym here)))))
      (λ ne. get_or-set_other calls port p call None ne ∙ (noted.each p ∙ ap (standing (get_or ways p None) p) (sym (others p ne))))
      (cases_eq p port);
  puts = λ p offer way called empty.
      ⊎_elim
      (λ here. puts offer (ap (λ n. get_or ways n None) (sym here) ∙ way) (sym opened ∙ (ap (λ n. (port_of new n).call) (sym here) ∙ called)) empty)
      (λ ne. noted.puts p offer way (sym (others p ne) ∙ called) empty)
      (cases_eq p port);
}

-- a place that has a way is within the list
pub has_place : {A : Type 0} (xs : List (Option A)) (place : ℕ) (x : A) → get_or xs place None ≡ Some x → place < length xs
has_place [] zero x is = no_some x is
has_place [] (suc place) x is = no_some x is
has_place (y ∷ xs) zero x is = omega arith
has_place (y ∷ xs) (suc place) x is =
    let rest = has_place xs place x is in
    omega (arith, rest)
