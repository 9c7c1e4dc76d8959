-- What the names ask by their slots is what they ask by their data.
use Rattle.std.proofs.Common.{◌≡◌, ℕ, ◌-◌, ◌/◌, ◌%◌, ◌≤◌, ⊎_elim, inl, inr, List, [], ◌∷◌, ◌++◌, length, slice_get, Option, Some, None, is_some, Bool, true, false, not, cond, nat_eq, ◌&&◌, refl, sym, ap, ◌∙◌, arith}
use Rattle.std.specs.List.{list_all}
use Rattle.std.specs.Option.{option_map_or, option_and_then, option_to_list}
use Rattle.std.proofs.lemmas.Bool.{false≢true, cases_lt, eqb-true, lt-ltb, le-ltb}
use Rattle.reo_net.specs.declared.kind.Kind.{Kind}
use Rattle.reo_net.specs.declared.kind.Kind.TheVariants.{Sync, Lossy, Drain, Fifo, Filter, Transform}
use Rattle.reo_net.specs.declared.circuit.Channel.{Channel}
use Rattle.reo_net.specs.declared.circuit.RawCircuit.{RawCircuit}
use Rattle.reo_net.specs.Names.{end_a, end_b}
use Rattle.reo_growth.specs.Lists.{has, Among}
use Rattle.reo_fabric.specs.declared.reading.Reading.{Reading}
use Rattle.reo_flow.specs.declared.fact.Fact.{Fact}
use Rattle.reo_flow.specs.declared.fact.Fact.TheVariants.{Offered, Known, Met, Failed}
use Rattle.reo_flow.specs.declared.giver.Giver.{Giver}
use Rattle.reo_flow.specs.Flow.{sources_of, flow_at, met_at, is_so, a_facts, end_facts, own_facts, facts_of, is_allowed}
use Rattle.reo_flow.proofs.FlowLemmas.{has_among}
use Rattle.reo_plan.specs.inside.Slots.{slot_value}
use Rattle.reo_plan.specs.inside.Rows.{slot_in, HasSlots, end_fact, a_fact, own_fact, slot_facts}

-- tests that agree on each element of a list
pub all_same : {A : Type 0} (p q : A → Bool) (xs : List A) → ((x : A) → Among x xs → p x ≡ q x) → list_all p xs ≡ list_all q xs
all_same p q [] same = refl
all_same p q (x ∷ xs) same = ap (λ b. b && list_all p xs) (same x (inl refl)) ∙ ap (λ b. q x && b) (all_same p q xs (λ y later. same y (inr later)))

pub all-append : {A : Type 0} (p : A → Bool) (xs ys : List A) → list_all p (xs ++ ys) ≡ (list_all p xs && list_all p ys)
all-append p [] ys = refl
all-append p (x ∷ xs) ys = go (p x) (all-append p xs ys)
  where
    go : (b : Bool) → list_all p (xs ++ ys) ≡ (list_all p xs && list_all p ys) → (b && list_all p (xs ++ ys)) ≡ ((b && list_all p xs) && list_all p ys)
    go true later = later
    go false later = refl

turned : (a b : Bool) → (a && b) ≡ (b && a)
turned true true = refl
turned true false = refl
turned false true = refl
turned false false = refl

and_true : (b : Bool) → (b && true) ≡ b
and_true true = refl
and_true false = refl

module _ (c : RawCircuit) (names : List ℕ) (slots : List Giver) (table : List (Option ℕ)) (slots_of : HasSlots c names names slots table) (texts : List (List ℕ)) (reading : Reading) where
  p : Fact → Bool
  p = is_so c texts reading (slot_value c texts (sources_of reading) slots)

  q : Fact → Bool
  q = is_so c texts reading (flow_at c texts (sources_of reading) names)

  module _ (name slot : ℕ) (at : slot_in table name ≡ Some slot) where
    value : slot_value c texts (sources_of reading) slots slot ≡ flow_at c texts (sources_of reading) names name
    value = slots_of.value texts (sources_of reading) name slot at

    known_same : p (Known slot) ≡ q (Known name)
    unfolding p q
    known_same = ap is_some value

    met_same : (k : ℕ) → p (Met k slot) ≡ q (Met k name)
    unfolding p q
    met_same k = ap (λ o. option_map_or (met_at c texts k) o false) value

    failed_same : (k : ℕ) → p (Failed k slot) ≡ q (Failed k name)
    unfolding p q
    failed_same k = ap (λ o. option_map_or (λ v. not (met_at c texts k v)) o false) value

    kind_same : (k : ℕ) → name ≡ end_a c k → (kind : Kind) → list_all p (option_to_list (end_fact c table k slot kind)) ≡ list_all q (a_facts c names k kind)
    unfolding p q
    kind_same k is Sync = refl
    kind_same k is Lossy = refl
    kind_same k is Drain = refl
    kind_same k is (Fifo first) = refl
    kind_same k is (Filter guard) =
        ap (λ b. p (cond b (Met k slot) (Failed k slot)) && true) (slots_of.named (end_b c k)) ∙ ap (λ b. b && true) (go (has names (end_b c k)))
        ∙ ap (λ n. q (cond (has names (end_b c k)) (Met k n) (Failed k n)) && true) is
      where
        go : (b : Bool) → p (cond b (Met k slot) (Failed k slot)) ≡ q (cond b (Met k name) (Failed k name))
        go true = met_same k
        go false = failed_same k
    kind_same k is (Transform fun) = refl

    own_same : list_all p (option_to_list (own_fact c table name slot)) ≡ list_all q (own_facts c names name)
    unfolding p q
    own_same =
        let k = (name - length c.ports) / 2 in
        let is_a = nat_eq ((name - length c.ports) % 2) 0 in
        ⊎_elim
        (λ below.
        ap (λ b. list_all p (option_to_list (cond b (Some (Offered name)) (option_and_then (a_fact c table k slot is_a) (slice_get c.channels k))))) (lt-ltb name (length c.ports) below)
        ∙ sym (ap (λ b. list_all q (cond b (Offered name ∷ []) (option_map_or (end_facts c names k is_a) (slice_get c.channels k) []))) (lt-ltb name (length c.ports) below)))
        (λ past.
        ap (λ b. list_all p (option_to_list (cond b (Some (Offered name)) (option_and_then (a_fact c table k slot is_a) (slice_get c.channels k))))) (le-ltb name (length c.ports) past)
        ∙ go past (nat_eq ((name - length c.ports) % 2) 0) refl (slice_get c.channels k)
        ∙ sym (ap (λ b. list_all q (cond b (Offered name ∷ []) (option_map_or (end_facts c names k is_a) (slice_get c.channels k) []))) (le-ltb name (length c.ports) past)))
        (cases_lt name (length c.ports))
      where
        go : length c.ports ≤ name → (b : Bool) → nat_eq ((name - length c.ports) % 2) 0 ≡ b → (o : Option Channel) → list_all p (option_to_list (option_and_then (a_fact c table ((name - length c.ports) / 2) slot b) o)) ≡ list_all q (option_map_or (end_facts c names ((name - length c.ports) / 2) b) o [])
        go past b e None = refl
        go past true e (Some channel) = let even = eqb-true ((name - length c.ports) % 2) 0 e in kind_same ((name - length c.ports) / 2) (omega (arith, past, even)) channel.kind
        go past false e (Some channel) = refl

    name_same : list_all p (slot_facts c table name) ≡ list_all q (facts_of c names name)
    name_same =
        ap (λ o. list_all p (option_map_or (λ s. option_to_list (own_fact c table name s) ++ Known s ∷ []) o [])) at
        ∙ all-append p (option_to_list (own_fact c table name slot)) (Known slot ∷ [])
        ∙ ap (λ b. list_all p (option_to_list (own_fact c table name slot)) && b) (and_true (p (Known slot)) ∙ known_same)
        ∙ ap (λ b. b && q (Known name)) own_same ∙ turned (list_all q (own_facts c names name)) (q (Known name))

  -- so the facts of all names are so just where the firing is allowed
  pub facts_allow : list_all (λ name. list_all (is_so c texts reading (slot_value c texts (sources_of reading) slots)) (slot_facts c table name)) names ≡ is_allowed c texts reading names
  unfolding p q
  facts_allow = all_same (λ name. list_all p (slot_facts c table name)) (λ name. list_all q (facts_of c names name)) names (λ name among. go name (slot_in table name) refl (slots_of.named name ∙ has_among names name among))
    where
      go : (name : ℕ) (o : Option ℕ) → slot_in table name ≡ o → is_some (slot_in table name) ≡ true → list_all p (slot_facts c table name) ≡ list_all q (facts_of c names name)
      go name None is some = absurd (false≢true (sym (ap is_some is) ∙ some))
      go name (Some slot) is some = name_same name slot is
