-- Where names have their data from.
use Rattle.std.proofs.Common.{◌≡◌, ℕ, zero, suc, ◌-◌, ◌/◌, ◌%◌, ◌<◌, ◌≤◌, ◌⊎◌, inl, inr, ⊎_elim, List, [], ◌∷◌, length, slice_get, Option, Some, None, Bool, true, false, cond, nat_eq, nat_lt, ◌&&◌, refl, sym, ap, ◌∙◌, subst, arith}
use Rattle.std.specs.List.{find}
use Rattle.std.specs.Option.{option_map_or, option_and_then}
use Rattle.std.proofs.lemmas.Bool.{false≢true, eqb-true, eq-eqb, ne_eqb, lt-ltb, le-ltb, and_parts}
use Rattle.std.proofs.lemmas.Option.{none-some, slice_get_within}
use Rattle.reo_value.specs.declared.value.Value.{Value}
use Rattle.reo_value.specs.declared.op.Way.TheVariants.{Put, Get}
use Rattle.reo_net.specs.declared.kind.Kind.{Kind}
use Rattle.reo_net.specs.declared.kind.Kind.TheVariants.{Sync, Lossy, Drain, Fifo, Filter, Transform}
use Rattle.reo_net.specs.declared.circuit.Channel.{Channel}
use Rattle.reo_net.specs.declared.circuit.Port.{Port}
use Rattle.reo_net.specs.declared.circuit.RawCircuit.{RawCircuit}
use Rattle.reo_net.specs.declared.stand.Stand.{Stand}
use Rattle.reo_net.specs.Names.{end_a, end_b, IsPortAt, IsIncoming, IsOutgoing}
use Rattle.reo_net.specs.Kind.{Outgoing, direction_of_b}
use Rattle.reo_net.specs.Stand.{stand_of}
use Rattle.reo_net.specs.Steps.{Data, NodeFires}
use Rattle.reo_net.proofs.StandLemmas.{incoming_stands}
use Rattle.reo_growth.specs.Lists.{has, Among}
use Rattle.reo_growth.proofs.ListLemmas.{any_gives, any_from}
use Rattle.reo_flow.specs.declared.giver.Giver.{Giver}
use Rattle.reo_flow.specs.declared.giver.Giver.TheVariants as giver
use Rattle.reo_flow.specs.declared.fact.Fact.TheVariants as fact
use Rattle.reo_flow.specs.Flow.{comes_into, input_of, port_giver, b_giver, end_giver, giver_of, Sources, image_at, given, flow, end_facts, own_facts}

-- membership
pub among_has : (xs : List ℕ) (n : ℕ) → has xs n ≡ true → Among n xs
among_has xs n is = let found = any_gives (λ x. nat_eq x n) xs is in subst (λ x. Among x xs) (eqb-true found.0 n found.2) found.1

pub has_among : (xs : List ℕ) (n : ℕ) → Among n xs → has xs n ≡ true
has_among xs n at = any_from (λ x. nat_eq x n) xs n at (eq-eqb n n refl)

-- what is found passes the test, and where nothing is, nothing passes
pub found_passes : {A : Type 0} (p : A → Bool) (xs : List A) → ((x : A) × (find p xs ≡ Some x) × Among x xs × (p x ≡ true)) ⊎ ((find p xs ≡ None) × ((x : A) → Among x xs → p x ≡ false))
found_passes p [] = inr (refl, λ x at. absurd at)
found_passes {A} p (y ∷ ys) = go (p y) refl (found_passes p ys)
  where
    go : (b : Bool) → p y ≡ b → ((x : A) × (find p ys ≡ Some x) × Among x ys × (p x ≡ true)) ⊎ ((find p ys ≡ None) × ((x : A) → Among x ys → p x ≡ false))
        → ((x : A) × (find p (y ∷ ys) ≡ Some x) × Among x (y ∷ ys) × (p x ≡ true)) ⊎ ((find p (y ∷ ys) ≡ None) × ((x : A) → Among x (y ∷ ys) → p x ≡ false))
    go true e later = inl (y, ap (λ b. cond b (Some y) (find p ys)) e, inl refl, e)
    go false e (inl found) = inl (found.0, ap (λ b. cond b (Some y) (find p ys)) e ∙ found.1, inr found.2, found.3)
    go false e (inr none) = inr (ap (λ b. cond b (Some y) (find p ys)) e ∙ none.0, λ x at. ⊎_elim (λ is. ap p (sym is) ∙ e) (none.1 x) at)

module _ (c : RawCircuit) (names : List ℕ) where
  -- by a name that is a port, or an end of a channel
  at_port : (p : ℕ) (port : Port) → slice_get c.ports p ≡ Some port → giver_of c names p ≡ port_giver c names p port
  at_port p port found =
      ap (λ b. cond b (option_map_or (port_giver c names p) (slice_get c.ports p) giver.Unfed) (option_map_or (end_giver c names ((p - length c.ports) / 2) (nat_eq ((p - length c.ports) % 2) 0)) (slice_get c.channels ((p - length c.ports) / 2)) giver.Unfed))
      (lt-ltb p (length c.ports) (slice_get_within c.ports p port found))
      ∙ ap (λ o. option_map_or (port_giver c names p) o giver.Unfed) found

  past_ports : {A : Type 0} (name : ℕ) (x y : A) → length c.ports ≤ name → cond (nat_lt name (length c.ports)) x y ≡ y
  past_ports name x y past = ap (λ b. cond b x y) (le-ltb name (length c.ports) past)

  half_a : (k : ℕ) → (end_a c k - length c.ports) / 2 ≡ k
  half_a k = omega arith

  even_a : (k : ℕ) → nat_eq ((end_a c k - length c.ports) % 2) 0 ≡ true
  even_a k = eq-eqb ((end_a c k - length c.ports) % 2) 0 (omega arith)

  half_b : (k : ℕ) → (end_b c k - length c.ports) / 2 ≡ k
  half_b k = omega arith

  odd_b : (k : ℕ) → nat_eq ((end_b c k - length c.ports) % 2) 0 ≡ false
  odd_b k = ne_eqb ((end_b c k - length c.ports) % 2) 0 (λ e. omega (arith, e))

  at_end_a : {A : Type 0} (f : ℕ → Bool → Channel → A) (x none : A) (k : ℕ) (channel : Channel) → slice_get c.channels k ≡ Some channel
      → cond (nat_lt (end_a c k) (length c.ports)) x (option_map_or (f ((end_a c k - length c.ports) / 2) (nat_eq ((end_a c k - length c.ports) % 2) 0)) (slice_get c.channels ((end_a c k - length c.ports) / 2)) none) ≡ f k true channel
  at_end_a f x none k channel found =
      past_ports (end_a c k) x _ (omega arith)
      ∙ ap (λ i. option_map_or (f i (nat_eq ((end_a c k - length c.ports) % 2) 0)) (slice_get c.channels i) none) (half_a k)
      ∙ ap (λ b. option_map_or (f k b) (slice_get c.channels k) none) (even_a k) ∙ ap (λ o. option_map_or (f k true) o none) found

  at_end_b : {A : Type 0} (f : ℕ → Bool → Channel → A) (x none : A) (k : ℕ) (channel : Channel) → slice_get c.channels k ≡ Some channel
      → cond (nat_lt (end_b c k) (length c.ports)) x (option_map_or (f ((end_b c k - length c.ports) / 2) (nat_eq ((end_b c k - length c.ports) % 2) 0)) (slice_get c.channels ((end_b c k - length c.ports) / 2)) none) ≡ f k false channel
  at_end_b f x none k channel found =
      past_ports (end_b c k) x _ (omega arith)
      ∙ ap (λ i. option_map_or (f i (nat_eq ((end_b c k - length c.ports) % 2) 0)) (slice_get c.channels i) none) (half_b k)
      ∙ ap (λ b. option_map_or (f k b) (slice_get c.channels k) none) (odd_b k) ∙ ap (λ o. option_map_or (f k false) o none) found

  pub giver_a : (k : ℕ) (channel : Channel) → slice_get c.channels k ≡ Some channel → giver_of c names (end_a c k) ≡ input_of c names channel.a
  giver_a k channel found = at_end_a (end_giver c names) _ giver.Unfed k channel found

  pub giver_b : (k : ℕ) (channel : Channel) → slice_get c.channels k ≡ Some channel → giver_of c names (end_b c k) ≡ b_giver c names k channel.b channel.kind
  giver_b k channel found = at_end_b (end_giver c names) _ giver.Unfed k channel found

  pub giver_put : (node p : ℕ) → IsPortAt c Put node p → giver_of c names p ≡ giver.Port p
  giver_put node p at = at_port p (record { node = node; way = Put }) at.port

  -- a name that goes out of a node has the datum that comes into it
  outgoing_b : (k node : ℕ) (kind : Kind) → direction_of_b kind ≡ Outgoing → b_giver c names k node kind ≡ input_of c names node
  outgoing_b k node Sync way = cc
  outgoing_b k node Lossy way = cc
  outgoing_b k node Drain way = refl
  outgoing_b k node (Fifo first) way = cc
  outgoing_b k node (Filter guard) way = cc
  outgoing_b k node (Transform fun) way = cc

  pub giver_out : (node name : ℕ) → IsOutgoing c node name → giver_of c names name ≡ input_of c names node
  giver_out node name (inl port) = at_port name (record { node = node; way = Get }) port.port
  giver_out node name (inr (inl a)) = ap (giver_of c names) a.named ∙ giver_a a.number a.channel a.found ∙ ap (input_of c names) a.at
  giver_out node name (inr (inr b)) = ap (giver_of c names) b.named ∙ giver_b b.number b.channel b.found ∙ outgoing_b b.number b.channel.b b.channel.kind b.way ∙ ap (input_of c names) b.at

  -- the test of what comes in is exact
  comes : (node name : ℕ) → IsIncoming c node name → comes_into c node name ≡ true
  comes node name incoming =
      ap (λ o. option_map_or (λ (s : Stand). s.incoming && nat_eq s.node node) o false) ((incoming_stands c node name).1 incoming) ∙ eq-eqb node node refl

  came : (node name : ℕ) → comes_into c node name ≡ true → IsIncoming c node name
  came node name is = (incoming_stands c node name).0 (go (stand_of c name) is)
    where
      go : (o : Option Stand) → option_map_or (λ (s : Stand). s.incoming && nat_eq s.node node) o false ≡ true → o ≡ Some (record { node = node; incoming = true })
      go None e = absurd (false≢true e)
      go (Some s) e =
          let both = and_parts s.incoming (nat_eq s.node node) e in
          ap Some (λ i. record { node = eqb-true s.node node both.1 i; incoming = both.0 i })

  -- where the node fires, its input is the one name that comes in
  pub input_is : (node : ℕ) → (fires : NodeFires c node (has names)) → input_of c names node ≡ giver.Same fires.input
  input_is node fires =
      ⊎_elim
      (λ found.
      ap (λ o. option_map_or giver.Same o giver.Unfed) found.1
      ∙ ap giver.Same (fires.alone found.0 (came node found.0 found.3) (has_among names found.0 found.2)))
      (λ none. absurd (false≢true (sym (none.1 fires.input (among_has names fires.input fires.chosen)) ∙ comes node fires.input fires.incoming)))
      (found_passes (comes_into c node) names)

  pub facts_port : (p : ℕ) → p < length c.ports → own_facts c names p ≡ fact.Offered p ∷ []
  facts_port p below = ap (λ b. cond b (fact.Offered p ∷ []) (option_map_or (end_facts c names ((p - length c.ports) / 2) (nat_eq ((p - length c.ports) % 2) 0)) (slice_get c.channels ((p - length c.ports) / 2)) [])) (lt-ltb p (length c.ports) below)

  pub facts_a : (k : ℕ) (channel : Channel) → slice_get c.channels k ≡ Some channel → own_facts c names (end_a c k) ≡ end_facts c names k true channel
  facts_a k channel found = at_end_a (end_facts c names) _ [] k channel found

  pub facts_b : (k : ℕ) (channel : Channel) → slice_get c.channels k ≡ Some channel → own_facts c names (end_b c k) ≡ []
  facts_b k channel found = at_end_b (end_facts c names) _ [] k channel found

module _ (c : RawCircuit) (texts : List (List ℕ)) (sources : Sources) where
  -- more data give more
  pub and_then_gives : {A B : Type 0} (f : A → Option B) (o : Option A) (b : B) → option_and_then f o ≡ Some b → (a : A) × (o ≡ Some a) × (f a ≡ Some b)
  and_then_gives f None b is = absurd (none-some b is)
  and_then_gives f (Some a) b is = (a, refl, is)

  given_more : (few many : Data) → ((name : ℕ) (v : Value) → few name ≡ Some v → many name ≡ Some v) → (g : Giver) (v : Value) → given c texts sources few g ≡ Some v → given c texts sources many g ≡ Some v
  given_more few many more giver.Unfed v is = is
  given_more few many more (giver.Cell cell) v is = is
  given_more few many more (giver.Port port) v is = is
  given_more few many more (giver.Same name) v is = more name v is
  given_more few many more (giver.Image k name) v is =
      let at = and_then_gives (image_at c texts k) (few name) v is in
      ap (option_and_then (image_at c texts k)) (more name at.0 at.1) ∙ at.2

  flow_more : (giver : ℕ → Giver) (n name : ℕ) (v : Value) → flow c texts sources giver n name ≡ Some v → flow c texts sources giver (suc n) name ≡ Some v
  unfolding flow
  flow_more giver zero name v is = absurd (none-some v is)
  flow_more giver (suc n) name v is = given_more (flow c texts sources giver n) (flow c texts sources giver (suc n)) (flow_more giver n) (giver name) v is

  -- a datum that flows is given by what flows
  pub flow_given : (giver : ℕ → Giver) (n name : ℕ) (v : Value) → flow c texts sources giver (suc n) name ≡ Some v → given c texts sources (flow c texts sources giver (suc n)) (giver name) ≡ Some v
  unfolding flow
  flow_given giver n name v is = given_more (flow c texts sources giver n) (flow c texts sources giver (suc n)) (flow_more giver n) (giver name) v is
