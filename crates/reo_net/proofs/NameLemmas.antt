-- laws of the names of a circuit: each is of one node, and goes one way there
use Rattle.std.proofs.Common.{◌≡◌, ℕ, ◌-◌, ◌/◌, ◌%◌, ◌<◌, ◌⊎◌, ⊎_elim, inl, inr, List, length, slice_get, Some, refl, sym, ap, ◌∙◌, subst, arith}
use Rattle.std.proofs.lemmas.Bool.{cases_lt, cases_eq}
use Rattle.std.proofs.lemmas.Option.{same_Some, slice_get_within, slice_get_cases, get_or_from_slice_get}
use Rattle.reo_value.specs.declared.op.Way.{Way}
use Rattle.reo_value.specs.declared.op.Way.TheVariants.{Put, Get}
use Rattle.reo_net.specs.declared.circuit.Channel.{Channel}
use Rattle.reo_net.specs.declared.circuit.Port.{Port}
use Rattle.reo_net.specs.declared.circuit.RawCircuit.{RawCircuit}
use Rattle.reo_net.specs.Kind.{Direction, Incoming, Outgoing, direction_of_b}
use Rattle.reo_net.specs.Names.{name_count, end_a, end_b, IsPortAt, IsEndA, IsEndB, IsIncoming, IsOutgoing, IsNameOf}
use Rattle.reo_net.specs.Checks.{IsCircuit}

-- the element at a place within a list
pub slice_get_found : {X : Type 0} (xs : List X) (i : ℕ) → i < length xs → (x : X) × (slice_get xs i ≡ Some x)
slice_get_found xs i h = ⊎_elim (λ at. (at.0, at.2)) (λ past. absurd (omega (arith, past.0))) (slice_get_cases xs i).1

module _ (c : RawCircuit) where
  -- the ends and the ports are named apart
  pub same_end_a : (j k : ℕ) → end_a c j ≡ end_a c k → j ≡ k
  same_end_a j k e = omega arith

  pub same_end_b : (j k : ℕ) → end_b c j ≡ end_b c k → j ≡ k
  same_end_b j k e = omega arith

  pub end_a≢end_b : (j k : ℕ) → end_a c j ≡ end_b c k → ⊥
  end_a≢end_b j k e = omega arith

  pub port≢end_a : (p k : ℕ) → p < length c.ports → p ≡ end_a c k → ⊥
  port≢end_a p k within e = omega arith

  pub port≢end_b : (p k : ℕ) → p < length c.ports → p ≡ end_b c k → ⊥
  port≢end_b p k within e = omega arith

  -- names are below their count
  pub port_below : (way : Way) (node name : ℕ) → IsPortAt c way node name → name < length c.ports
  port_below way node name at = slice_get_within c.ports name (record { node = node; way = way }) at.port

  pub end_a_below : (k : ℕ) (channel : Channel) → slice_get c.channels k ≡ Some channel → end_a c k < name_count c
  end_a_below k channel found = omega (arith, slice_get_within c.channels k channel found)

  pub end_b_below : (k : ℕ) (channel : Channel) → slice_get c.channels k ≡ Some channel → end_b c k < name_count c
  end_b_below k channel found = omega (arith, slice_get_within c.channels k channel found)

  -- a name is a port, or one of the ends of a channel
  port_or_end : ℕ → ℕ → Type 0
  port_or_end node name = ((way : Way) × IsPortAt c way node name) ⊎ (IsEndA c node name ⊎ ((direction : Direction) × IsEndB c direction node name))

  by_kind : (node name : ℕ) → IsNameOf c node name → port_or_end node name
  unfolding port_or_end
  by_kind node name of_node =
      ⊎_elim
      (λ incoming. ⊎_elim (λ at. inl (Put, at)) (λ at. inr (inr (Incoming, at))) incoming)
      (λ outgoing. ⊎_elim (λ at. inl (Get, at)) (λ end. ⊎_elim (λ at. inr (inl at)) (λ at. inr (inr (Outgoing, at))) end) outgoing)
      of_node

  -- one name
  pub same_ports : (v w : Way) (m n name : ℕ) → IsPortAt c v m name → IsPortAt c w n name → (m ≡ n) × (v ≡ w)
  same_ports v w m n name at_m at_n =
      let one : Port = record { node = m; way = v } in
      let other : Port = record { node = n; way = w } in
      let same = same_Some one other (sym at_m.port ∙ at_n.port) in
      (ap (λ (port : Port). port.node) same, ap (λ (port : Port). port.way) same)

  pub port_no_end_a : (way : Way) (m n name : ℕ) → IsPortAt c way m name → IsEndA c n name → ⊥
  port_no_end_a way m n name port end = port≢end_a name end.number (port_below way m name port) end.named

  pub port_no_end_b : (way : Way) (direction : Direction) (m n name : ℕ) → IsPortAt c way m name → IsEndB c direction n name → ⊥
  port_no_end_b way direction m n name port end = port≢end_b name end.number (port_below way m name port) end.named

  pub end_a_no_end_b : (direction : Direction) (m n name : ℕ) → IsEndA c m name → IsEndB c direction n name → ⊥
  end_a_no_end_b direction m n name a b = end_a≢end_b a.number b.number (sym a.named ∙ b.named)

  pub same_ends_a : (m n name : ℕ) → IsEndA c m name → IsEndA c n name → m ≡ n
  same_ends_a m n name at_m at_n =
      let k = same_end_a at_m.number at_n.number (sym at_m.named ∙ at_n.named) in
      let same = same_Some at_m.channel at_n.channel (sym at_m.found ∙ (ap (slice_get c.channels) k ∙ at_n.found)) in
      sym at_m.at ∙ (ap (λ (channel : Channel). channel.a) same ∙ at_n.at)

  pub same_ends_b : (d e : Direction) (m n name : ℕ) → IsEndB c d m name → IsEndB c e n name → (m ≡ n) × (d ≡ e)
  same_ends_b d e m n name at_m at_n =
      let k = same_end_b at_m.number at_n.number (sym at_m.named ∙ at_n.named) in
      let same = same_Some at_m.channel at_n.channel (sym at_m.found ∙ (ap (slice_get c.channels) k ∙ at_n.found)) in
      (sym at_m.at ∙ (ap (λ (channel : Channel). channel.b) same ∙ at_n.at), sym at_m.way ∙ (ap (λ (channel : Channel). direction_of_b channel.kind) same ∙ at_n.way))

  one_node_by_kind : (m n name : ℕ) → port_or_end m name → port_or_end n name → m ≡ n
  unfolding port_or_end
  one_node_by_kind m n name at_m at_n =
      ⊎_elim
      (λ p. ⊎_elim (λ q. (same_ports p.0 q.0 m n name p.1 q.1).0) (λ f. ⊎_elim (λ a. absurd (port_no_end_a p.0 m n name p.1 a)) (λ b. absurd (port_no_end_b p.0 b.0 m n name p.1 b.1)) f) at_n)
      (λ e.
      ⊎_elim
      (λ a. ⊎_elim (λ q. absurd (port_no_end_a q.0 n m name q.1 a)) (λ f. ⊎_elim (λ a'. same_ends_a m n name a a') (λ b. absurd (end_a_no_end_b b.0 m n name a b.1)) f) at_n)
      (λ b. ⊎_elim (λ q. absurd (port_no_end_b q.0 b.0 n m name q.1 b.1)) (λ f. ⊎_elim (λ a. absurd (end_a_no_end_b b.0 n m name a b.1)) (λ b'. (same_ends_b b.0 b'.0 m n name b.1 b'.1).0) f) at_n)
      e)
      at_m

  -- a name is of one node
  pub one_node : (m n name : ℕ) → IsNameOf c m name → IsNameOf c n name → m ≡ n
  one_node m n name at_m at_n = one_node_by_kind m n name (by_kind m name at_m) (by_kind n name at_n)

  -- no name is incoming and outgoing
  pub not_both_ways : (m n name : ℕ) → IsIncoming c m name → IsOutgoing c n name → ⊥
  not_both_ways m n name incoming outgoing =
      ⊎_elim
      (λ p. ⊎_elim (λ q. let e : Put ≡ Get = (same_ports Put Get m n name p q).1 in cc) (λ f. ⊎_elim (port_no_end_a Put m n name p) (port_no_end_b Put Outgoing m n name p) f) outgoing)
      (λ b. ⊎_elim (λ q. port_no_end_b Get Incoming n m name q b) (λ f. ⊎_elim (λ a. end_a_no_end_b Incoming n m name a b) (λ b'. let e : Incoming ≡ Outgoing = (same_ends_b Incoming Outgoing m n name b b').1 in cc) f) outgoing)
      incoming

  -- a node's name is below the count
  pub name_below : (node name : ℕ) → IsNameOf c node name → name < name_count c
  unfolding port_or_end
  name_below node name of_node =
      ⊎_elim
      (λ p. omega (arith, port_below p.0 node name p.1))
      (λ f. ⊎_elim (λ a. omega (arith, a.named, end_a_below a.number a.channel a.found)) (λ b. omega (arith, b.1.named, end_b_below b.1.number b.1.channel b.1.found)) f)
      (by_kind node name of_node)

  -- a port is a name of its node
  pub port_is_name : (p : ℕ) (port : Port) → slice_get c.ports p ≡ Some port → IsNameOf c port.node p
  port_is_name p port found = by_way port.way port.node found
    where
      by_way : (way : Way) (node : ℕ) → slice_get c.ports p ≡ Some (record { node = node; way = way }) → IsNameOf c node p
      by_way Put node at = inl (inl (record { port = at }))
      by_way Get node at = inr (inl (record { port = at }))

  -- an end of a channel is a name of its node
  pub end_a_is_name : (k : ℕ) (channel : Channel) → slice_get c.channels k ≡ Some channel → IsNameOf c channel.a (end_a c k)
  end_a_is_name k channel found = inr (inr (inl (record { number = k; channel = channel; found = found; at = refl; named = refl })))

  pub end_b_is_name : (k : ℕ) (channel : Channel) → slice_get c.channels k ≡ Some channel → IsNameOf c channel.b (end_b c k)
  end_b_is_name k channel found = by_direction (direction_of_b channel.kind) refl
    where
      by_direction : (direction : Direction) → direction_of_b channel.kind ≡ direction → IsNameOf c channel.b (end_b c k)
      by_direction Incoming e = inl (inr (record { number = k; channel = channel; found = found; at = refl; way = e; named = refl }))
      by_direction Outgoing e = inr (inr (inr (record { number = k; channel = channel; found = found; at = refl; way = e; named = refl })))

  -- a name below the count is a port or an end of a channel that there is
  pub name_cases : (name : ℕ) → name < name_count c → (name < length c.ports) ⊎ ((k : ℕ) × (k < length c.channels) × ((name ≡ end_a c k) ⊎ (name ≡ end_b c k)))
  name_cases name below =
      ⊎_elim
      (λ p. inl p)
      (λ past.
      let k = (name - length c.ports) / 2 in
      let within : k < length c.channels = omega arith in
      inr (k, within, ⊎_elim (λ even. inl (omega (arith, even))) (λ odd. inr (let one : (name - length c.ports) % 2 ≡ 1 = grind (arith, odd) in omega arith)) (cases_eq ((name - length c.ports) % 2) 0)))
      (cases_lt name (length c.ports))

  -- a name below the count is of some node
  pub node_of_name : (name : ℕ) → name < name_count c → (node : ℕ) × IsNameOf c node name
  node_of_name name below =
      ⊎_elim
      (λ p.
      let at = slice_get_found c.ports name p in
      (at.0.node, port_is_name name at.0 at.1))
      (λ f.
      let at = slice_get_found c.channels f.0 f.1 in
      ⊎_elim
      (λ e. (at.0.a, subst (IsNameOf c at.0.a) (sym e) (end_a_is_name f.0 at.0 at.1)))
      (λ e. (at.0.b, subst (IsNameOf c at.0.b) (sym e) (end_b_is_name f.0 at.0 at.1))) f.2)
      (name_cases name below)

  -- the nodes of names are the circuit's
  module _ (circuit : IsCircuit c) where
    channel_ends : (k : ℕ) (channel : Channel) → slice_get c.channels k ≡ Some channel → (channel.a < c.nodes) × (channel.b < c.nodes)
    channel_ends k channel found =
        let within = slice_get_within c.channels k channel found in
        let read = get_or_from_slice_get c.channels k channel channel found in
        (subst (λ x. x.a < c.nodes) read (circuit.known.ends_a k channel within), subst (λ x. x.b < c.nodes) read (circuit.known.ends_b k channel within))

    port_node : (p : ℕ) (port : Port) → slice_get c.ports p ≡ Some port → port.node < c.nodes
    port_node p port found = subst (λ x. x.node < c.nodes) (get_or_from_slice_get c.ports p port port found) (circuit.known.port_nodes p port (slice_get_within c.ports p port found))

    pub node_below : (node name : ℕ) → IsNameOf c node name → node < c.nodes
    unfolding port_or_end
    node_below node name of_node =
        ⊎_elim
        (λ p. port_node name (record { node = node; way = p.0 }) p.1.port)
        (λ f. ⊎_elim (λ a. subst (λ n. n < c.nodes) a.at (channel_ends a.number a.channel a.found).0) (λ b. subst (λ n. n < c.nodes) b.1.at (channel_ends b.1.number b.1.channel b.1.found).1) f)
        (by_kind node name of_node)

    -- a name below the count is of one of the circuit's nodes
    pub node_of_name_below : (name : ℕ) → name < name_count c → (node : ℕ) × (node < c.nodes) × IsNameOf c node name
    node_of_name_below name below =
        let at = node_of_name name below in
        (at.0, node_below at.0 name at.1, at.1)
