-- What is in slots: each slot's value comes from earlier slots, and stays as slots are added.
use Rattle.std.proofs.Common.{◌≡◌, ℕ, zero, suc, ◌-◌, ◌<◌, ◌≤◌, ⊎_elim, List, [], ◌∷◌, ◌++◌, length, slice_get, Some, None, append_assoc, Result, Ok, Err, OnOk, IfOk, refl, sym, ap, ◌∙◌, subst, arith}
use Rattle.std.specs.Option.{option_and_then}
use Rattle.std.proofs.lemmas.Bool.{cases_lt}
use Rattle.std.proofs.lemmas.List.{append-nil}
use Rattle.std.proofs.lemmas.Option.{slice_get_within, get_or_from_slice_get}
use Rattle.reo_net.specs.declared.circuit.RawCircuit.{RawCircuit}
use Rattle.reo_net.specs.Steps.{Data}
use Rattle.reo_net.proofs.NameLemmas.{slice_get_found}
use Rattle.reo_flow.specs.declared.giver.Giver.{Giver}
use Rattle.reo_flow.specs.declared.giver.Giver.TheVariants.{Unfed, Cell, Port, Same, Image}
use Rattle.reo_flow.specs.Flow.{Sources, image_at, given, flow}
use Rattle.reo_plan.specs.inside.Slots.{slot_at, slot_value, LooksBelow, AreOrdered, Extends, AreMore, HasFlow}

pub slot_none : (slots : List Giver) (i : ℕ) → slice_get slots i ≡ None → slot_at slots i ≡ Unfed
slot_none [] i none = refl
slot_none (x ∷ xs) zero none = cc
slot_none (x ∷ xs) (suc i) none = slot_none xs i none

pub slot_past : (slots : List Giver) (i : ℕ) → length slots ≤ i → slot_at slots i ≡ Unfed
slot_past [] i past = refl
slot_past (x ∷ xs) zero past = absurd (omega (arith, past))
slot_past (x ∷ xs) (suc i) past = slot_past xs i (omega (arith, past))

-- places in a list that goes on
pub get-append : {A : Type 0} (xs more : List A) (i : ℕ) → i < length xs → slice_get (xs ++ more) i ≡ slice_get xs i
get-append [] more i within = absurd (omega (arith, within))
get-append (x ∷ xs) more zero within = refl
get-append (x ∷ xs) more (suc i) within = get-append xs more i (omega (arith, within))

pub get-extended : {A : Type 0} (old new : List A) (i : ℕ) (x : A) → Extends old new → slice_get old i ≡ Some x → slice_get new i ≡ Some x
get-extended old new i x e found = ap (λ l. slice_get l i) e.1 ∙ get-append old e.0 i (slice_get_within old i x found) ∙ found

pub extends_same : {A : Type 0} (xs : List A) → Extends xs xs
extends_same xs = ([], sym (append-nil xs))

pub extends_on : {A : Type 0} (xs ys zs : List A) → Extends xs ys → Extends ys zs → Extends xs zs
extends_on xs ys zs a b = (a.0 ++ b.0, b.1 ∙ ap (λ l. l ++ b.0) a.1 ∙ append_assoc xs a.0 b.0)

pub more_on : (xs ys zs : List Giver) → AreMore xs ys → AreMore ys zs → AreMore xs zs
more_on xs ys zs a b = record { ordered = b.ordered; extends = extends_on xs ys zs a.extends b.extends }

pub longer : {A : Type 0} (old new : List A) (i : ℕ) → Extends old new → i < length old → i < length new
longer old new i e within = let found = slice_get_found old i within in slice_get_within new i found.0 (get-extended old new i found.0 e found.1)

below_at : (slots : List Giver) → AreOrdered slots → (i : ℕ) → LooksBelow i (slot_at slots i)
below_at slots ordered i =
    ⊎_elim
    (λ within. let found = slice_get_found slots i within in subst (LooksBelow i) (sym (get_or_from_slice_get slots i found.0 Unfed found.1)) (ordered i found.0 found.1))
    (λ past. subst (LooksBelow i) (sym (slot_past slots i past)) tt)
    (cases_lt i (length slots))

module _ (c : RawCircuit) (texts : List (List ℕ)) (sources : Sources) where
  -- a giver that looks below gives the same from data that are the same there
  pub given_same : (few many : Data) (i : ℕ) (g : Giver) → LooksBelow i g → ((j : ℕ) → j < i → few j ≡ many j) → given c texts sources few g ≡ given c texts sources many g
  given_same few many i Unfed below same = refl
  given_same few many i (Cell cell) below same = refl
  given_same few many i (Port port) below same = refl
  given_same few many i (Same j) below same = same j below
  given_same few many i (Image k j) below same = ap (option_and_then (image_at c texts k)) (same j below)

  unfolds : (givers : ℕ → Giver) (n i : ℕ) → flow c texts sources givers (suc n) i ≡ given c texts sources (flow c texts sources givers n) (givers i)
  unfolding flow
  unfolds givers n i = refl

  pub no_flow : (givers : ℕ → Giver) (i : ℕ) → flow c texts sources givers zero i ≡ None
  unfolding flow
  no_flow givers i = refl

  pub flow_is : (givers : ℕ → Giver) (n i : ℕ) (g : Giver) → givers i ≡ g → flow c texts sources givers (suc n) i ≡ given c texts sources (flow c texts sources givers n) g
  flow_is givers n i g is = unfolds givers n i ∙ ap (given c texts sources (flow c texts sources givers n)) is

  module _ (slots : List Giver) (ordered : AreOrdered slots) where
    pub same_flow : (m n i : ℕ) → i < m → i < n → flow c texts sources (slot_at slots) m i ≡ flow c texts sources (slot_at slots) n i
    same_flow zero n i a b = absurd (omega (arith, a))
    same_flow (suc m) zero i a b = absurd (omega (arith, b))
    same_flow (suc m) (suc n) i a b =
        unfolds (slot_at slots) m i
        ∙ given_same (flow c texts sources (slot_at slots) m) (flow c texts sources (slot_at slots) n) i (slot_at slots i) (below_at slots ordered i) (λ j less. same_flow m n j (omega (arith, a, less)) (omega (arith, b, less)))
        ∙ sym (unfolds (slot_at slots) n i)

    -- a slot has what its giver gives
    pub slot_given : (i : ℕ) (g : Giver) → slice_get slots i ≡ Some g → slot_value c texts sources slots i ≡ given c texts sources (slot_value c texts sources slots) g
    slot_given i g found =
        flow_is (slot_at slots) i i g (get_or_from_slice_get slots i g Unfed found)
        ∙ given_same (flow c texts sources (slot_at slots) i) (slot_value c texts sources slots) i g (ordered i g found) (λ j less. same_flow i (suc j) j less (omega arith))

    -- and keeps it as slots are added
    kept_flow : (new : List Giver) → Extends slots new → (m i : ℕ) → i < length slots → flow c texts sources (slot_at new) m i ≡ flow c texts sources (slot_at slots) m i
    kept_flow new e zero i within = no_flow (slot_at new) i ∙ sym (no_flow (slot_at slots) i)
    kept_flow new e (suc m) i within =
        let found = slice_get_found slots i within in
        flow_is (slot_at new) m i found.0 (get_or_from_slice_get new i found.0 Unfed (get-extended slots new i found.0 e found.1))
        ∙ given_same (flow c texts sources (slot_at new) m) (flow c texts sources (slot_at slots) m) i found.0 (ordered i found.0 found.1) (λ j less. kept_flow new e m j (omega (arith, less, within)))
        ∙ sym (flow_is (slot_at slots) m i found.0 (get_or_from_slice_get slots i found.0 Unfed found.1))

    pub kept_value : (new : List Giver) → Extends slots new → (i : ℕ) → i < length slots → slot_value c texts sources new i ≡ slot_value c texts sources slots i
    kept_value new e i within = kept_flow new e (suc i) i within

-- what is so of what was made, where both are
pub ok_with : {A E : Type 0} (r : Result A E) (P : Type 0) (Q R : A → Type 0) → OnOk r P → IfOk r Q → ((a : A) → P → Q a → R a) → IfOk r R
ok_with (Ok a) P Q R p q h = h a p q
ok_with (Err e) P Q R p q h = tt

-- what flows to a name is in its slot
module _ (givers : ℕ → Giver) (fuel name : ℕ) where
  pub has_none : (slots : List Giver) (slot : ℕ) → AreOrdered slots → slice_get slots slot ≡ Some Unfed → (c : RawCircuit) → HasFlow c givers 0 name slots slot
  has_none slots slot ordered found c = record {
    within = slice_get_within slots slot Unfed found;
    value = λ texts sources. slot_given c texts sources slots ordered slot Unfed found ∙ sym (no_flow c texts sources givers name);
  }

  pub has_unfed : (slots : List Giver) (slot : ℕ) → AreOrdered slots → slice_get slots slot ≡ Some Unfed → givers name ≡ Unfed → (c : RawCircuit) → HasFlow c givers (suc fuel) name slots slot
  has_unfed slots slot ordered found is c = record {
    within = slice_get_within slots slot Unfed found;
    value = λ texts sources. slot_given c texts sources slots ordered slot Unfed found ∙ sym (flow_is c texts sources givers fuel name Unfed is);
  }

  pub has_cell : (cell : ℕ) (slots : List Giver) (slot : ℕ) → AreOrdered slots → slice_get slots slot ≡ Some (Cell cell) → givers name ≡ Cell cell → (c : RawCircuit) → HasFlow c givers (suc fuel) name slots slot
  has_cell cell slots slot ordered found is c = record {
    within = slice_get_within slots slot (Cell cell) found;
    value = λ texts sources. slot_given c texts sources slots ordered slot (Cell cell) found ∙ sym (flow_is c texts sources givers fuel name (Cell cell) is);
  }

  pub has_port : (port : ℕ) (slots : List Giver) (slot : ℕ) → AreOrdered slots → slice_get slots slot ≡ Some (Port port) → givers name ≡ Port port → (c : RawCircuit) → HasFlow c givers (suc fuel) name slots slot
  has_port port slots slot ordered found is c = record {
    within = slice_get_within slots slot (Port port) found;
    value = λ texts sources. slot_given c texts sources slots ordered slot (Port port) found ∙ sym (flow_is c texts sources givers fuel name (Port port) is);
  }

  pub has_same : (other : ℕ) (slots : List Giver) (slot : ℕ) → givers name ≡ Same other → ((c : RawCircuit) → HasFlow c givers fuel other slots slot) → (c : RawCircuit) → HasFlow c givers (suc fuel) name slots slot
  has_same other slots slot is has c = record {
    within = (has c).within;
    value = λ texts sources. (has c).value texts sources ∙ sym (flow_is c texts sources givers fuel name (Same other) is);
  }

  pub has_image : (k other datum : ℕ) (before slots : List Giver) (slot : ℕ) → AreOrdered before → AreMore before slots → slice_get slots slot ≡ Some (Image k datum) → givers name ≡ Image k other
      → ((c : RawCircuit) → HasFlow c givers fuel other before datum) → (c : RawCircuit) → HasFlow c givers (suc fuel) name slots slot
  has_image k other datum before slots slot ordered more found is has c = record {
    within = slice_get_within slots slot (Image k datum) found;
    value = λ texts sources.
        slot_given c texts sources slots more.ordered slot (Image k datum) found
        ∙ ap (option_and_then (image_at c texts k)) (kept_value c texts sources before ordered slots more.extends datum (has c).within ∙ (has c).value texts sources)
        ∙ sym (flow_is c texts sources givers fuel name (Image k other) is);
  }

-- what flows through some givers, by the first of them
pub flow_step : (c : RawCircuit) (texts : List (List ℕ)) (sources : Sources) (slots : List Giver) (fuel slot : ℕ) (g : Giver) → suc (fuel - 1) ≡ fuel → slot_at slots slot ≡ g
    → given c texts sources (flow c texts sources (slot_at slots) (fuel - 1)) g ≡ flow c texts sources (slot_at slots) fuel slot
flow_step c texts sources slots fuel slot g next is =
    sym (flow_is c texts sources (slot_at slots) (fuel - 1) slot g is) ∙ ap (λ n. flow c texts sources (slot_at slots) n slot) next
