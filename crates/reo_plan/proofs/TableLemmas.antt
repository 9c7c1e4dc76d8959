-- Tables of slots: what they have for names.
use Rattle.std.proofs.Common.{◌≡◌, ℕ, zero, suc, ◌+◌, ◌*◌, ◌<◌, ◌⊎◌, inl, inr, ⊎_elim, List, [], ◌∷◌, ◌++◌, length, replicate, take, slice_get, get_or, set, Option, Some, None, is_some, Bool, true, false, cond, nat_eq, ◌||◌, refl, sym, ap, ◌∙◌, subst, arith, get_or-set_same, get_or-set_other}
use Rattle.std.specs.Option.{option_and_then}
use Rattle.std.proofs.lemmas.Bool.{false≢true, cases_eq, eq-eqb, ne_eqb, or_left, or_right}
use Rattle.std.proofs.lemmas.List.{length-replicate}
use Rattle.std.proofs.lemmas.Option.{same_Some, none-some}
use Rattle.reo_net.specs.declared.circuit.RawCircuit.{RawCircuit}
use Rattle.reo_growth.specs.Lists.{has}
use Rattle.reo_flow.specs.declared.giver.Giver.{Giver}
use Rattle.reo_flow.specs.Flow.{Sources, giver_of, flow, flow_at, data_in}
use Rattle.reo_plan.specs.inside.Slots.{slot_value, AreOrdered, AreMore, HasFlow}
use Rattle.reo_plan.specs.inside.Rows.{slot_in, IsFilled, HasSlots}
use Rattle.reo_plan.proofs.PlaceSlotLemmas.{take_more}
use Rattle.reo_plan.proofs.SlotLemmas.{kept_value, longer}

has-append : (xs ys : List ℕ) (n : ℕ) → has (xs ++ ys) n ≡ (has xs n || has ys n)
has-append [] ys n = refl
has-append (x ∷ xs) ys n = go (nat_eq x n) (has-append xs ys n)
  where
    go : (b : Bool) → has (xs ++ ys) n ≡ (has xs n || has ys n) → (b || has (xs ++ ys) n) ≡ ((b || has xs n) || has ys n)
    go true later = refl
    go false later = later

or_false : (b : Bool) → (b || (false || false)) ≡ b
or_false true = refl
or_false false = refl

-- a place that is emptied is empty, also past the end
emptied : (table : List (Option ℕ)) (name : ℕ) → slot_in (set table name None) name ≡ None
emptied [] name = refl
emptied (x ∷ xs) zero = refl
emptied (x ∷ xs) (suc name) = emptied xs name

-- at first no name has a slot
pub no_slots : (c : RawCircuit) (names : List ℕ) (slots : List Giver) (table : List (Option ℕ)) → slots ≡ [] → ((name : ℕ) → slot_in table name ≡ None) → HasSlots c names [] slots table
no_slots c names slots table none empty = record {
  ordered = subst AreOrdered (sym none) (λ i slot found. cc);
  within = λ name slot at. absurd (none-some slot (sym (empty name) ∙ at));
  named = λ name. ap is_some (empty name);
  value = λ texts sources name slot at. absurd (none-some slot (sym (empty name) ∙ at));
}

-- then one name more has
pub more_slots : (c : RawCircuit) (names done : List ℕ) (old new : List Giver) (table : List (Option ℕ)) (givers : ℕ → Giver) (name slot : ℕ) → givers ≡ giver_of c names
    → name < length table → HasSlots c names done old table → AreMore old new → HasFlow c givers (2 * c.nodes + 2) name new slot → HasSlots c names (done ++ name ∷ []) new (set table name (Some slot))
more_slots c names done old new table givers name slot is within has_old more flow_is = record {
  ordered = more.ordered;
  within = λ n s at. at_or n s at (λ same. subst (λ x. x < length new) (sym same) flow_is.within) (λ there. longer old new s more.extends (has_old.within n s there));
  named = λ n. ⊎_elim
      (λ (same : n ≡ name). ap is_some (here n same) ∙ sym (has-append done (name ∷ []) n ∙ or_right (has done n) (has (name ∷ []) n) (or_left (nat_eq name n) false (eq-eqb name n (sym same)))))
      (λ apart. ap is_some (elsewhere n apart) ∙ has_old.named n ∙ sym (has-append done (name ∷ []) n ∙ ap (λ b. has done n || (b || false)) (ne_eqb name n (λ e. apart (sym e))) ∙ or_false (has done n)))
      (cases_eq n name);
  value = λ texts sources n s at. by_value texts sources n s at (cases_eq n name);
}
  where
    here : (n : ℕ) → n ≡ name → slot_in (set table name (Some slot)) n ≡ Some slot
    here n same = ap (slot_in (set table name (Some slot))) same ∙ (let e : get_or (set table name (Some slot)) name None ≡ Some slot = rw get_or-set_same in e)

    elsewhere : (n : ℕ) → (n ≡ name → ⊥) → slot_in (set table name (Some slot)) n ≡ slot_in table n
    elsewhere n apart = let e : get_or (set table name (Some slot)) n None ≡ get_or table n None = rw get_or-set_other in e

    at_or : (n s : ℕ) → slot_in (set table name (Some slot)) n ≡ Some s → {P : Type 0} → (s ≡ slot → P) → (slot_in table n ≡ Some s → P) → P
    at_or n s at new_one old_one =
        ⊎_elim
        (λ same. new_one (same_Some s slot (sym at ∙ here n same)))
        (λ apart. old_one (sym (elsewhere n apart) ∙ at))
        (cases_eq n name)

    by_value : (texts : List (List ℕ)) (sources : Sources) (n s : ℕ) → slot_in (set table name (Some slot)) n ≡ Some s → (n ≡ name) ⊎ (n ≡ name → ⊥) → slot_value c texts sources new s ≡ flow_at c texts sources names n
    by_value texts sources n s at (inl same) =
        ap (slot_value c texts sources new) (same_Some s slot (sym at ∙ here n same)) ∙ flow_is.value texts sources
        ∙ ap (λ g. flow c texts sources g (2 * c.nodes + 2) name) is
        ∙ ap (λ m. flow c texts sources (giver_of c names) m name) (let e : 2 * c.nodes + 2 ≡ suc (2 * c.nodes + 1) = omega arith in e) ∙ ap (flow_at c texts sources names) (sym same)
    by_value texts sources n s at (inr apart) =
        let there = sym (elsewhere n apart) ∙ at in
        kept_value c texts sources old has_old.ordered new more.extends s (has_old.within n s there) ∙ has_old.value texts sources n s there

-- the data of the names' slots are those of the firing
pub slot_data : (c : RawCircuit) (names : List ℕ) (slots : List Giver) (table : List (Option ℕ)) → HasSlots c names names slots table → (texts : List (List ℕ)) (sources : Sources) (name : ℕ)
    → option_and_then (slot_value c texts sources slots) (slot_in table name) ≡ data_in c texts sources names name
slot_data c names slots table slots_of texts sources name = go (slot_in table name) refl (has names name) (slots_of.named name)
  where
    go : (o : Option ℕ) → slot_in table name ≡ o → (b : Bool) → is_some (slot_in table name) ≡ b → option_and_then (slot_value c texts sources slots) o ≡ cond b (flow_at c texts sources names name) None
    go None is true named = absurd (false≢true (sym (ap is_some is) ∙ named))
    go None is false named = refl
    go (Some slot) is true named = slots_of.value texts sources name slot is
    go (Some slot) is false named = absurd (false≢true (sym named ∙ ap is_some is))

-- no name has a slot in a table that has none
no_slot : (n name : ℕ) → slot_in (replicate n None) name ≡ None
no_slot zero name = refl
no_slot (suc n) zero = refl
no_slot (suc n) (suc name) = no_slot n name

pub empty_table : (count : ℕ) → IsFilled count [] (replicate count None)
empty_table count = record { sized = length-replicate count None; named = λ name. ap is_some (no_slot count name) }

none_of : (o : Option ℕ) → is_some o ≡ false → o ≡ None
none_of None is = refl
none_of (Some slot) is = absurd (false≢true (sym is))

-- where no name has a slot, there is none
pub none_filled : (count : ℕ) (table : List (Option ℕ)) → IsFilled count [] table → (name : ℕ) → slot_in table name ≡ None
none_filled count table filled name = none_of (slot_in table name) (filled.named name)

-- names that are not the table's have no slot
pub none_without : (names : List ℕ) (table : List (Option ℕ)) → ((name : ℕ) → is_some (slot_in table name) ≡ has names name) → (name : ℕ) → (has names name ≡ false) ⊎ (has [] name ≡ true) → slot_in table name ≡ None
none_without names table named name (inl without) = none_of (slot_in table name) (named name ∙ without)
none_without names table named name (inr none) = absurd (false≢true none)

-- a name less has a slot
pub fewer_slots : (names : List ℕ) (i first : ℕ) (table : List (Option ℕ)) → slice_get names i ≡ Some first
    → ((name : ℕ) → (has names name ≡ false) ⊎ (has (take i names) name ≡ true) → slot_in table name ≡ None)
    → (name : ℕ) → (has names name ≡ false) ⊎ (has (take (i + 1) names) name ≡ true) → slot_in (set table first None) name ≡ None
fewer_slots names i first table found none name which = go (cases_eq name first) which
  where
    stays : (name ≡ first → ⊥) → slot_in table name ≡ None → slot_in (set table first None) name ≡ None
    stays apart is = (let e : get_or (set table first None) name None ≡ get_or table name None = rw get_or-set_other in e) ∙ is

    before : (name ≡ first → ⊥) → has (take (i + 1) names) name ≡ true → has (take i names) name ≡ true
    before apart h =
        sym (or_false (has (take i names) name)) ∙ ap (λ b. has (take i names) name || (b || false)) (sym (ne_eqb first name (λ e. apart (sym e))))
        ∙ sym (has-append (take i names) (first ∷ []) name) ∙ ap (λ l. has l name) (sym (take_more names i first found)) ∙ h

    go : (name ≡ first) ⊎ (name ≡ first → ⊥) → (has names name ≡ false) ⊎ (has (take (i + 1) names) name ≡ true) → slot_in (set table first None) name ≡ None
    go (inl same) other = ap (slot_in (set table first None)) same ∙ emptied table first
    go (inr apart) (inl without) = stays apart (none name (inl without))
    go (inr apart) (inr h) = stays apart (none name (inr (before apart h)))

-- the table is empty in the end
pub none_left : (count : ℕ) (names : List ℕ) (table : List (Option ℕ)) → length table ≡ count → ((name : ℕ) → (has names name ≡ false) ⊎ (has names name ≡ true) → slot_in table name ≡ None) → IsFilled count [] table
none_left count names table sized none = record { sized = sized; named = λ name. ap is_some (go name (has names name) refl) }
  where
    go : (name : ℕ) (b : Bool) → has names name ≡ b → slot_in table name ≡ None
    go name true is = none name (inr is)
    go name false is = none name (inl is)
