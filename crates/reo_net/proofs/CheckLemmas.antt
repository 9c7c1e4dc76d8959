-- what the tables of a check say of the circuit
use Rattle.std.proofs.Common.{◌≡◌, ℕ, ◌<◌, ⊎_elim, inl, inr, Bool, true, false, not, List, length, slice_get, get_or, Some, refl, subst, ap, arith}
use Rattle.std.proofs.lemmas.Bool.{cases_order}
use Rattle.std.proofs.lemmas.Option.{slice_get_within, get_or_from_slice_get}
use Rattle.reo_value.specs.declared.op.Way.{Way}
use Rattle.reo_value.specs.declared.op.Way.TheVariants.{Put, Get}
use Rattle.reo_net.specs.declared.circuit.Channel.{Channel}
use Rattle.reo_net.specs.declared.circuit.Port.{Port}
use Rattle.reo_net.specs.declared.circuit.RawCircuit.{RawCircuit}
use Rattle.reo_net.specs.Kind.{Direction, Incoming, Outgoing, is_incoming, direction_of_b}
use Rattle.reo_net.specs.Names.{end_a, end_b, IsPortAt, IsEndB}
use Rattle.reo_net.specs.Tables.{Marks, IsKeyBelow, IsKeyTwiceBelow, IsPassBelow, IsSourceBelow, comes_out, table_for, is_marked}
use Rattle.reo_net.specs.Checks.{IsCircuit, HasTwoPorts, HasEndLike, IsMixed}

-- a port that is found at the node, as a name of the node
IsPortAt-from : (c : RawCircuit) (p : ℕ) (port : Port) (node : ℕ) → slice_get c.ports p ≡ Some port → port.node ≡ node → IsPortAt c port.way node p
IsPortAt-from c p port node found at = record { port = subst (λ n. slice_get c.ports p ≡ Some (record { node = n; way = port.way })) at found }

pub HasTwoPorts-from_keys : (c : RawCircuit) (node : ℕ) → IsKeyTwiceBelow (λ port. port.node) c.ports (length c.ports) node → HasTwoPorts c node
HasTwoPorts-from_keys c node at = record {
  first = at.before.place;
  second = at.place;
  differ = λ e. omega (arith, at.before.within);
  first_way = at.before.element.way;
  second_way = at.element.way;
  is_first = IsPortAt-from c at.before.place at.before.element node at.before.found at.before.keyed;
  is_second = IsPortAt-from c at.place at.element node at.found at.keyed;
}

key_from_port : (c : RawCircuit) (way : Way) (node p below : ℕ) → IsPortAt c way node p → p < below → IsKeyBelow (λ port. port.node) c.ports below node
key_from_port c way node p below is_port within = record { place = p; element = record { node = node; way = way }; within = within; found = is_port.port; keyed = refl }

keys_in_order : (c : RawCircuit) (v w : Way) (node p q : ℕ) → IsPortAt c v node p → IsPortAt c w node q → p < q → IsKeyTwiceBelow (λ port. port.node) c.ports (length c.ports) node
keys_in_order c v w node p q at_p at_q less = record {
  place = q;
  element = record { node = node; way = w };
  within = slice_get_within c.ports q (record { node = node; way = w }) at_q.port;
  found = at_q.port;
  keyed = refl;
  before = key_from_port c v node p q at_p less;
}

pub keys_from_HasTwoPorts : (c : RawCircuit) (node : ℕ) → HasTwoPorts c node → IsKeyTwiceBelow (λ port. port.node) c.ports (length c.ports) node
keys_from_HasTwoPorts c node two =
    ⊎_elim
    (λ e. absurd (two.differ e))
    (λ order.
    ⊎_elim (keys_in_order c two.first_way two.second_way node two.first two.second two.is_first two.is_second)
    (keys_in_order c two.second_way two.first_way node two.second two.first two.is_second two.is_first) order)
    (cases_order two.first two.second)

to_incoming : (direction : Direction) → is_incoming direction ≡ true → direction ≡ Incoming
to_incoming Incoming e = refl
to_incoming Outgoing e = cc

to_outgoing : (direction : Direction) → not (is_incoming direction) ≡ true → direction ≡ Outgoing
to_outgoing Incoming e = cc
to_outgoing Outgoing e = refl

-- an end b where data go so is found by its test
key_from_end : (c : RawCircuit) (direction : Direction) (test : Channel → Bool) (node name : ℕ) → IsEndB c direction node name
    → ((channel : Channel) → direction_of_b channel.kind ≡ direction → test channel ≡ true) → IsPassBelow (λ channel. channel.b) test c.channels (length c.channels) node
key_from_end c direction test node name at tests = record {
  place = at.number;
  element = at.channel;
  within = slice_get_within c.channels at.number at.channel at.found;
  found = at.found;
  keyed = at.at;
  passes = tests at.channel at.way;
}

module _ (c : RawCircuit) (circuit : IsCircuit c) (sinks sources : List Bool)
    (sink_marks : Marks sinks c.nodes (IsPassBelow (λ channel. channel.b) comes_out c.channels (length c.channels)))
    (source_marks : Marks sources c.nodes (IsSourceBelow c.channels (length c.channels))) where
  end_like : (way : Way) (node : ℕ) → node < c.nodes → get_or (table_for way sinks sources) node false ≡ true → HasEndLike c way node
  end_like Put node fits marked =
      let at = (sink_marks.each node fits).0 marked in
      (end_b c at.place, record { number = at.place; channel = at.element; found = at.found; at = at.keyed; way = to_incoming (direction_of_b at.element.kind) at.passes; named = refl })
  end_like Get node fits marked =
      ⊎_elim
      (λ at. (end_a c at.place, inl (record { number = at.place; channel = at.element; found = at.found; at = at.keyed; named = refl })))
      (λ at. (end_b c at.place, inr (record { number = at.place; channel = at.element; found = at.found; at = at.keyed; way = to_outgoing (direction_of_b at.element.kind) at.passes; named = refl })))
      ((source_marks.each node fits).0 marked)

  like_marked : (way : Way) (node : ℕ) → node < c.nodes → HasEndLike c way node → get_or (table_for way sinks sources) node false ≡ true
  like_marked Put node fits like =
      (sink_marks.each node fits).1 (key_from_end c Incoming comes_out node like.0 like.1 (λ channel way. ap is_incoming way))
  like_marked Get node fits like =
      (source_marks.each node fits).1 (⊎_elim
      (λ at. inl (record { place = at.number; element = at.channel; within = slice_get_within c.channels at.number at.channel at.found; found = at.found; keyed = at.at }))
      (λ at. inr (key_from_end c Outgoing (λ channel. not (comes_out channel)) node like.0 at (λ channel way. ap (λ way. not (is_incoming way)) way)))
      like.1)

  -- a port's node is one of the circuit's
  port_fits : (p : ℕ) (port : Port) → slice_get c.ports p ≡ Some port → port.node < c.nodes
  port_fits p port found =
      subst (λ x. x.node < c.nodes) (get_or_from_slice_get c.ports p port port found) (circuit.known.port_nodes p port (slice_get_within c.ports p port found))

  pub IsMixed-from_pass : (node : ℕ) → IsPassBelow (λ port. port.node) (is_marked sinks sources) c.ports (length c.ports) node → IsMixed c node
  IsMixed-from_pass node at = record {
    way = at.element.way;
    port = at.place;
    is_port = IsPortAt-from c at.place at.element node at.found at.keyed;
    like = subst (HasEndLike c at.element.way) at.keyed (end_like at.element.way at.element.node (port_fits at.place at.element at.found) at.passes);
  }

  pub pass_from_IsMixed : (node : ℕ) → IsMixed c node → IsPassBelow (λ port. port.node) (is_marked sinks sources) c.ports (length c.ports) node
  pass_from_IsMixed node mixed =
      let port : Port = record { node = node; way = mixed.way } in
      let found = mixed.is_port.port in
      record {
        place = mixed.port;
        element = port;
        within = slice_get_within c.ports mixed.port port found;
        found = found;
        keyed = refl;
        passes = like_marked mixed.way node (port_fits mixed.port port found) mixed.like;
      }
