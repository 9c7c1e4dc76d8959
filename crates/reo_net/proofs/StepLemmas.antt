-- what the tests of a step's parts say together
use Rattle.std.proofs.Common.{◌≡◌, ℕ, ◌+◌, ◌-◌, ◌<◌, ◌≤◌, ◌⊎◌, ⊎_elim, inl, inr, false, List, length, map, get_or, slice_get, All, Option, Some, None, is_some, IsSome, IfSome, refl, sym, ap, ◌∙◌, subst, arith}
use Rattle.std.specs.List.Sorted.{IsStrictlyIncreasing}
use Rattle.std.proofs.lemmas.Bool.{cases_eq}
use Rattle.std.proofs.lemmas.List.{length-map, get_or-map, nil_from_length}
use Rattle.std.proofs.lemmas.Option.{same_Some, slice_get_within}
use Rattle.reo_value.specs.declared.value.Value.{Value}
use Rattle.reo_net.specs.declared.circuit.Channel.{Channel}
use Rattle.reo_net.specs.declared.circuit.RawCircuit.{RawCircuit}
use Rattle.reo_net.specs.declared.circuit.Step.{Step}
use Rattle.reo_net.specs.Kind.{ChannelStep}
use Rattle.reo_net.specs.Names.{name_count, end_a, end_b, IsOutgoing}
use Rattle.reo_net.specs.Steps.{State, Data, datum, content, IsStep, ChannelStays, ChannelMoves, ChannelAllows, NodeStep}
use Rattle.reo_net.specs.Parts.{IsAlone, AllGet, IsInput}
use Rattle.reo_net.proofs.KindLemmas.{no_quiet_move}

pub none_from : {X : Type 0} (o : Option X) → is_some o ≡ false → o ≡ None
none_from None e = refl
none_from (Some x) e = cc

module _ (pairs : List (ℕ × Value)) where
  names_of : List ℕ
  names_of = map (λ p. p.0) pairs

  name_at : (k : ℕ) (d : ℕ × Value) → k < length pairs → get_or names_of k 0 ≡ (get_or pairs k d).0
  unfolding names_of
  name_at k d h = get_or-map (λ (p : ℕ × Value). p.0) pairs k d 0 h

  name_step : (i : ℕ) (d e : ℕ × Value) → 1 ≤ i → i < length pairs → (k : ℕ) → k + 1 ≡ i → (get_or pairs (i - 1) e).0 < (get_or pairs i d).0 → get_or names_of k 0 < get_or names_of (k + 1) 0
  name_step i d e one within k is less =
      let before : k ≡ i - 1 = omega arith in
      subst (λ j. get_or names_of k 0 < get_or names_of j 0) (sym is)
      (subst (λ j. get_or names_of j 0 < get_or names_of i 0) (sym before)
      (omega (arith, name_at i d within, name_at (i - 1) e (omega arith))))

  pub rising_more : (i : ℕ) (d e : ℕ × Value) → 1 ≤ i → i < length pairs → (get_or pairs (i - 1) e).0 < (get_or pairs i d).0
      → ((k : ℕ) → k + 1 < i → get_or (map (λ p. p.0) pairs) k 0 < get_or (map (λ p. p.0) pairs) (k + 1) 0) → (k : ℕ) → k + 1 < i + 1 → get_or (map (λ p. p.0) pairs) k 0 < get_or (map (λ p. p.0) pairs) (k + 1) 0
  unfolding names_of
  rising_more i d e one within less below k h = ⊎_elim (λ is. name_step i d e one within k is less) (λ ne. below k (omega (arith, ne))) (cases_eq (k + 1) i)

  pub not_rising : (i : ℕ) (d e : ℕ × Value) → 1 ≤ i → i < length pairs → (get_or pairs i d).0 ≤ (get_or pairs (i - 1) e).0 → IsStrictlyIncreasing (map (λ p. p.0) pairs) → ⊥
  unfolding names_of
  not_rising i d e one within more rising =
      let next : i - 1 + 1 ≡ i = omega arith in
      let less = subst (λ j. get_or names_of (i - 1) 0 < get_or names_of j 0) next (rising (i - 1) (omega (arith, length-map pairs (λ (p : ℕ × Value). p.0)))) in
      omega (arith, less, name_at i d within, name_at (i - 1) e (omega arith))

-- a step, by its list of pairs and the number of names
module _ (c : RawCircuit) (step : Step) (pairs : List (ℕ × Value)) (names : ℕ) (are : pairs ≡ step.pairs) (count : names ≡ name_count c) where
  pub is_step_from : (length pairs ≡ 0 → ⊥) → IsStrictlyIncreasing (map (λ p. p.0) pairs) → All (λ p. p.0 < names) pairs → IsStep c step
  is_step_from nonempty rising known = record {
    nonempty = λ e. nonempty (ap length are ∙ ap length e);
    rising = subst (λ ps. IsStrictlyIncreasing (map (λ p. p.0) ps)) are rising;
    known = subst (λ ps. All (λ p. p.0 < name_count c) ps) are (subst (λ n. All (λ p. p.0 < n) pairs) count known);
  }

  pub known_from_step : IsStep c step → All (λ p. p.0 < names) pairs
  known_from_step is_step = subst (λ n. All (λ p. p.0 < n) pairs) (sym count) (subst (λ ps. All (λ p. p.0 < name_count c) ps) (sym are) is_step.known)

  pub rising_from_step : IsStep c step → IsStrictlyIncreasing (map (λ p. p.0) pairs)
  rising_from_step is_step = subst (λ ps. IsStrictlyIncreasing (map (λ p. p.0) ps)) (sym are) is_step.rising

  pub nonempty_from_step : IsStep c step → length pairs ≡ 0 → ⊥
  nonempty_from_step is_step none = is_step.nonempty (sym are ∙ nil_from_length pairs none)

-- one channel, by what it holds and what there is at its ends
module _ (c : RawCircuit) (texts : List (List ℕ)) (k : ℕ) (channel : Channel) (found : slice_get c.channels k ≡ Some channel) (old : State) (step : Step) (new : State)
    (name : ℕ) (named : name ≡ end_a c k) (a b was is : Option Value) (has_a : a ≡ datum step name) (has_b : b ≡ datum step (name + 1))
    (held : was ≡ content c k channel.kind old) (holds : is ≡ content c k channel.kind new) where
  at_a : a ≡ datum step (end_a c k)
  at_a = has_a ∙ ap (datum step) named

  at_b : b ≡ datum step (end_b c k)
  at_b = has_b ∙ ap (λ n. datum step (n + 1)) named

  at_channel : ChannelStays c k channel.kind old (datum step) new ⊎ ChannelMoves c texts k channel.kind old (datum step) new → ChannelAllows c texts k old (datum step) new
  at_channel allows other found' =
      subst (λ (ch : Channel). ChannelStays c k ch.kind old (datum step) new ⊎ ChannelMoves c texts k ch.kind old (datum step) new) (same_Some channel other (sym found ∙ found')) allows

  pub allows_quiet : a ≡ None → b ≡ None → is ≡ was → ChannelAllows c texts k old (datum step) new
  allows_quiet no_a no_b same = at_channel (inl (record { no_a = sym at_a ∙ no_a; no_b = sym at_b ∙ no_b; kept = sym holds ∙ (same ∙ held) }))

  moves : ChannelMoves c texts k channel.kind old (datum step) new → ChannelStep texts channel.kind was a b is
  moves move =
      subst (λ x. ChannelStep texts channel.kind x a b is) (sym held)
      (subst (λ x. ChannelStep texts channel.kind (content c k channel.kind old) x b is) (sym at_a)
      (subst (λ x. ChannelStep texts channel.kind (content c k channel.kind old) (datum step (end_a c k)) x is) (sym at_b)
      (subst (λ x. ChannelStep texts channel.kind (content c k channel.kind old) (datum step (end_a c k)) (datum step (end_b c k)) x) (sym holds) move)))

  pub quiet_allows : a ≡ None → b ≡ None → ChannelAllows c texts k old (datum step) new → is ≡ was
  quiet_allows no_a no_b allows =
      ⊎_elim
      (λ stays. holds ∙ (stays.kept ∙ sym held))
      (λ move. absurd (no_quiet_move texts channel.kind was is (subst (λ x. ChannelStep texts channel.kind was None x is) no_b (subst (λ x. ChannelStep texts channel.kind was x b is) no_a (moves move)))))
      (allows channel found)

  pub allows_move : ChannelStep texts channel.kind was a b is → ChannelAllows c texts k old (datum step) new
  allows_move move =
      at_channel (inr (
      subst (λ x. ChannelStep texts channel.kind (content c k channel.kind old) (datum step (end_a c k)) (datum step (end_b c k)) x) holds
      (subst (λ x. ChannelStep texts channel.kind (content c k channel.kind old) (datum step (end_a c k)) x is) at_b
      (subst (λ x. ChannelStep texts channel.kind (content c k channel.kind old) x b is) at_a
      (subst (λ x. ChannelStep texts channel.kind x a b is) held move)))))

  pub move_allows : (a ≡ None → b ≡ None → ⊥) → ChannelAllows c texts k old (datum step) new → ChannelStep texts channel.kind was a b is
  move_allows busy allows = ⊎_elim (λ stays. absurd (busy (at_a ∙ stays.no_a) (at_b ∙ stays.no_b))) moves (allows channel found)

-- past the last channel there is none to ask
pub allows_past : (c : RawCircuit) (texts : List (List ℕ)) (k : ℕ) (old : State) (d : Data) (new : State) → length c.channels ≤ k → ChannelAllows c texts k old d new
allows_past c texts k old d new past channel found = absurd (omega (arith, slice_get_within c.channels k channel found))

-- one node, by an incoming name that fires and its datum
module _ (c : RawCircuit) (node : ℕ) (d : Data) where
  IfSome-from : (o : Option Value) (value : Value) → ((d : Value) → o ≡ Some d → d ≡ value) → IfSome o (λ d. d ≡ value)
  IfSome-from None value each = tt
  IfSome-from (Some d) value each = each d refl

  some_from : (o : Option Value) (value : Value) → IsSome o → IfSome o (λ d. d ≡ value) → o ≡ Some value
  some_from None value is same = cc
  some_from (Some d) value is same = ap Some same

  is_some_from : (o : Option Value) (value : Value) → o ≡ Some value → IsSome o
  is_some_from o value e = ap is_some e

  module _ (input : ℕ) (value : Value) (at : IsInput c node d input) (has : d input ≡ Some value) where
    pub node_step_from : (name : ℕ) × IsOutgoing c node name → IsAlone c node d input → AllGet c node d (Some value) → NodeStep c node d
    node_step_from out alone get = record {
      fires = record {
        input = input;
        incoming = at.incoming;
        chosen = at.fires;
        alone = alone;
        all = λ output outgoing. is_some_from (d output) value (get output outgoing);
        output = out.0;
        outgoing = out.1;
      };
      value = value;
      same = λ name of_node. IfSome-from (d name) value (λ v e.
          ⊎_elim
          (λ incoming. same_Some v value (sym e ∙ (ap d (alone name incoming (is_some_from (d name) v e)) ∙ has)))
          (λ outgoing. same_Some v value (sym e ∙ get name outgoing)) of_node);
    }

    pub alone_from_step : NodeStep c node d → IsAlone c node d input
    alone_from_step moves name incoming fires = moves.fires.alone name incoming fires ∙ sym (moves.fires.alone input at.incoming at.fires)

    pub get_from_step : NodeStep c node d → AllGet c node d (Some value)
    get_from_step moves name outgoing =
        let got = some_from (d name) moves.value (moves.fires.all name outgoing) (moves.same name (inr outgoing)) in
        let had = some_from (d input) moves.value at.fires (moves.same input (inl at.incoming)) in
        got ∙ (sym had ∙ has)

  pub output_from_step : NodeStep c node d → (name : ℕ) × IsOutgoing c node name
  output_from_step moves = (moves.fires.output, moves.fires.outgoing)

  pub input_from_step : (moves : NodeStep c node d) → IsInput c node d moves.fires.input
  input_from_step moves = record { incoming = moves.fires.incoming; fires = moves.fires.chosen }
