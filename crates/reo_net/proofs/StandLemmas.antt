-- where a name stands is what the definitions of names say
use Rattle.std.proofs.Common.{◌≡◌, ◌↔◌, ℕ, ◌-◌, ◌/◌, ◌%◌, ◌<◌, ◌≤◌, ◌⊎◌, ⊎_elim, inl, inr, true, false, cond, length, slice_get, nat_eq, Option, Some, None, refl, sym, ap, ◌∙◌, arith}
use Rattle.std.specs.Option.{option_map}
use Rattle.std.proofs.lemmas.Bool.{cases_lt, cases_eq, lt-ltb, le-ltb, eq-eqb, ne_eqb}
use Rattle.std.proofs.lemmas.Option.{same_Some, slice_get_within}
use Rattle.reo_value.specs.declared.op.Way.{Way}
use Rattle.reo_value.specs.declared.op.Way.TheVariants.{Put, Get}
use Rattle.reo_net.specs.declared.circuit.Channel.{Channel}
use Rattle.reo_net.specs.declared.circuit.Port.{Port}
use Rattle.reo_net.specs.declared.circuit.RawCircuit.{RawCircuit}
use Rattle.reo_net.specs.declared.stand.Stand.{Stand}
use Rattle.reo_net.specs.Kind.{Direction, Incoming, Outgoing, is_incoming, direction_of_b}
use Rattle.reo_net.specs.Names.{end_a, end_b, IsPortAt, IsIncoming, IsOutgoing}
use Rattle.reo_net.specs.Stand.{is_put, stand_of_port, stand_of_end, stand_of}

module _ (c : RawCircuit) where
  at_port : (name : ℕ) → name < length c.ports → stand_of c name ≡ option_map stand_of_port (slice_get c.ports name)
  at_port name h =
      ap (λ b. cond b (option_map stand_of_port (slice_get c.ports name)) (option_map (stand_of_end (nat_eq ((name - length c.ports) % 2) 0)) (slice_get c.channels ((name - length c.ports) / 2)))) (lt-ltb name (length c.ports) h)

  at_end : (name : ℕ) → length c.ports ≤ name → stand_of c name ≡ option_map (stand_of_end (nat_eq ((name - length c.ports) % 2) 0)) (slice_get c.channels ((name - length c.ports) / 2))
  at_end name h =
      ap (λ b. cond b (option_map stand_of_port (slice_get c.ports name)) (option_map (stand_of_end (nat_eq ((name - length c.ports) % 2) 0)) (slice_get c.channels ((name - length c.ports) / 2)))) (le-ltb name (length c.ports) h)

  at_a : (k : ℕ) → stand_of c (end_a c k) ≡ option_map (stand_of_end true) (slice_get c.channels k)
  at_a k =
      let even : (end_a c k - length c.ports) % 2 ≡ 0 = omega arith in
      let half : (end_a c k - length c.ports) / 2 ≡ k = omega arith in
      at_end (end_a c k) (omega arith) ∙ (ap (λ b. option_map (stand_of_end b) (slice_get c.channels ((end_a c k - length c.ports) / 2))) (eq-eqb ((end_a c k - length c.ports) % 2) 0 even) ∙ ap (λ i. option_map (stand_of_end true) (slice_get c.channels i)) half)

  at_b : (k : ℕ) → stand_of c (end_b c k) ≡ option_map (stand_of_end false) (slice_get c.channels k)
  at_b k =
      let odd : (end_b c k - length c.ports) % 2 ≡ 0 → ⊥ = λ e. omega arith in
      let half : (end_b c k - length c.ports) / 2 ≡ k = omega arith in
      at_end (end_b c k) (omega arith) ∙ (ap (λ b. option_map (stand_of_end b) (slice_get c.channels ((end_b c k - length c.ports) / 2))) (ne_eqb ((end_b c k - length c.ports) % 2) 0 odd) ∙ ap (λ i. option_map (stand_of_end false) (slice_get c.channels i)) half)

  -- a port, or one of the ends of a channel, that stands so
  IsPort : ℕ → Stand → Type 0
  IsPort name s = (port : Port) × (slice_get c.ports name ≡ Some port) × (stand_of_port port ≡ s)

  IsA : ℕ → Stand → Type 0
  IsA name s = (k : ℕ) × (channel : Channel) × (slice_get c.channels k ≡ Some channel) × (name ≡ end_a c k) × (stand_of_end true channel ≡ s)

  IsB : ℕ → Stand → Type 0
  IsB name s = (k : ℕ) × (channel : Channel) × (slice_get c.channels k ≡ Some channel) × (name ≡ end_b c k) × (stand_of_end false channel ≡ s)

  from_option : {X : Type 0} (f : X → Stand) (o : Option X) (s : Stand) → option_map f o ≡ Some s → (x : X) × (o ≡ Some x) × (f x ≡ s)
  from_option f None s e = cc
  from_option f (Some x) s e = (x, refl, same_Some (f x) s e)

  what_stands : (name : ℕ) (s : Stand) → stand_of c name ≡ Some s → IsPort name s ⊎ (IsA name s ⊎ IsB name s)
  unfolding IsPort IsA IsB
  what_stands name s e =
      ⊎_elim
      (λ port. inl (from_option stand_of_port (slice_get c.ports name) s (sym (at_port name port) ∙ e)))
      (λ past.
      let k = (name - length c.ports) / 2 in
      ⊎_elim
      (λ even.
      let named : name ≡ end_a c k = omega arith in
      let at = from_option (stand_of_end true) (slice_get c.channels k) s (sym (at_a k) ∙ (ap (stand_of c) (sym named) ∙ e)) in
      inr (inl (k, at.0, at.1, named, at.2)))
      (λ odd.
      let named : name ≡ end_b c k = omega arith in
      let at = from_option (stand_of_end false) (slice_get c.channels k) s (sym (at_b k) ∙ (ap (stand_of c) (sym named) ∙ e)) in
      inr (inr (k, at.0, at.1, named, at.2)))
      (cases_eq ((name - length c.ports) % 2) 0))
      (cases_lt name (length c.ports))

  port_at : (way : Way) (port : Port) (name node : ℕ) → slice_get c.ports name ≡ Some port → port.node ≡ node → port.way ≡ way → IsPortAt c way node name
  port_at way port name node found at goes =
      record { port = found ∙ (ap (λ n. Some (record { node = n; way = port.way })) at ∙ ap (λ w. Some (record { node = node; way = w })) goes) }

  put_way : (way : Way) → is_put way ≡ true → way ≡ Put
  put_way Put e = refl
  put_way Get e = cc

  get_way : (way : Way) → is_put way ≡ false → way ≡ Get
  get_way Put e = cc
  get_way Get e = refl

  b_comes : (direction : Direction) → is_incoming direction ≡ true → direction ≡ Incoming
  b_comes Incoming e = refl
  b_comes Outgoing e = cc

  b_goes : (direction : Direction) → is_incoming direction ≡ false → direction ≡ Outgoing
  b_goes Incoming e = cc
  b_goes Outgoing e = refl

  node_is : (s t : Stand) → s ≡ t → s.node ≡ t.node
  node_is s t e = ap (λ (x : Stand). x.node) e

  way_is : (s t : Stand) → s ≡ t → s.incoming ≡ t.incoming
  way_is s t e = ap (λ (x : Stand). x.incoming) e

  module _ (node name : ℕ) where
    abbrev in_ : Stand
    in_ = record { node = node; incoming = true }

    abbrev out : Stand
    out = record { node = node; incoming = false }

    pub incoming_stands : (stand_of c name ≡ Some (record { node = node; incoming = true })) ↔ IsIncoming c node name
    unfolding IsPort IsA IsB
    incoming_stands = (
      λ e. ⊎_elim
          (λ p. inl (port_at Put p.0 name node p.1 (node_is (stand_of_port p.0) in_ p.2) (put_way p.0.way (way_is (stand_of_port p.0) in_ p.2))))
          (λ ends. ⊎_elim
          (λ a. let clash : false ≡ true = way_is (stand_of_end true a.1) in_ a.4 in cc)
          (λ b. inr (record { number = b.0; channel = b.1; found = b.2; at = node_is (stand_of_end false b.1) in_ b.4; way = b_comes (direction_of_b b.1.kind) (way_is (stand_of_end false b.1) in_ b.4); named = b.3 }))
          ends)
          (what_stands name in_ e),
      λ at. ⊎_elim
          (λ p. at_port name (slice_get_within c.ports name (record { node = node; way = Put }) p.port) ∙ ap (option_map stand_of_port) p.port)
          (λ b.
          ap (stand_of c) b.named ∙ (at_b b.number ∙ (ap (option_map (stand_of_end false)) b.found ∙ (ap (λ n. Some (record { node = n; incoming = is_incoming (direction_of_b b.channel.kind) })) b.at ∙ ap (λ d. Some (record { node = node; incoming = is_incoming d })) b.way))))
          at,
    )

    pub outgoing_stands : (stand_of c name ≡ Some (record { node = node; incoming = false })) ↔ IsOutgoing c node name
    unfolding IsPort IsA IsB
    outgoing_stands = (
      λ e. ⊎_elim
          (λ p. inl (port_at Get p.0 name node p.1 (node_is (stand_of_port p.0) out p.2) (get_way p.0.way (way_is (stand_of_port p.0) out p.2))))
          (λ ends. ⊎_elim
          (λ a. inr (inl (record { number = a.0; channel = a.1; found = a.2; at = node_is (stand_of_end true a.1) out a.4; named = a.3 })))
          (λ b. inr (inr (record { number = b.0; channel = b.1; found = b.2; at = node_is (stand_of_end false b.1) out b.4; way = b_goes (direction_of_b b.1.kind) (way_is (stand_of_end false b.1) out b.4); named = b.3 })))
          ends)
          (what_stands name out e),
      λ at. ⊎_elim
          (λ p. at_port name (slice_get_within c.ports name (record { node = node; way = Get }) p.port) ∙ ap (option_map stand_of_port) p.port)
          (λ ends. ⊎_elim
          (λ a. ap (stand_of c) a.named ∙ (at_a a.number ∙ (ap (option_map (stand_of_end true)) a.found ∙ ap (λ n. Some (record { node = n; incoming = false })) a.at)))
          (λ b.
          ap (stand_of c) b.named ∙ (at_b b.number ∙ (ap (option_map (stand_of_end false)) b.found ∙ (ap (λ n. Some (record { node = n; incoming = is_incoming (direction_of_b b.channel.kind) })) b.at ∙ ap (λ d. Some (record { node = node; incoming = is_incoming d })) b.way))))
          ends)
          at,
    )
