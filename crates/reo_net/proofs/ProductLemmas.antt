-- the steps of the product are the transitions of the join
use Rattle.std.proofs.Common.{◌≡◌, ◌↔◌, ℕ, suc, zero, ◌+◌, ◌<◌, ◌≤◌, ◌⊎◌, ⊎_elim, inl, inr, List, [], ◌∷◌, length, map, get_or, Contains, cond, nat_eq, Option, Some, None, is_some, IsTrue, refl, sym, ap, ◌∙◌, subst, add-one, arith}
use Rattle.std.specs.Map.{lookup}
use Rattle.std.specs.List.Sorted.{IsStrictlyIncreasing}
use Rattle.std.proofs.lemmas.List.{length-map, get_or-map}
use Rattle.std.proofs.lemmas.Bool.{cases_eq, cases_lt, eq-eqb, ne_eqb}
use Rattle.std.proofs.lemmas.Option.{same_Some, slice_get_within}
use Rattle.reo_value.specs.declared.value.Value.{Value}
use Rattle.reo_value.specs.declared.value.Value.TheVariants.{Sym}
use Rattle.reo_net.specs.declared.circuit.Channel.{Channel}
use Rattle.reo_net.specs.declared.circuit.RawCircuit.{RawCircuit}
use Rattle.reo_net.specs.declared.circuit.Step.{Step}
use Rattle.reo_net.specs.Names.{name_count, end_a, end_b, IsNameOf}
use Rattle.reo_net.specs.Steps.{State, Data, datum, content, IsStep, IsState, ChannelMoves, ChannelAllows, NodeAllows, ProductStep}
use Rattle.reo_net.specs.Checks.{IsCircuit}
use Rattle.reo_net.specs.Regions.{Automaton, OfChannel, OfNode, HasName}
use Rattle.reo_net.specs.Join.{AutomatonMoves, AutomatonStays, joined, IsAutomaton, AreAutomata}
use Rattle.reo_net.proofs.NameLemmas.{slice_get_found, end_a_below, end_b_below, name_below, node_of_name_below}
use Rattle.reo_net.proofs.JoinLemmas.{Among, IsSilent, IsJoint, named_from, named_gives, moves_fire, join_gives, joint_gives, none_or_fires, not_none}

among_from : (xs : List Automaton) (x : Automaton) (k : ℕ) → k < length xs → get_or xs k x ≡ x → Among x xs
among_from [] x k h e = absurd (omega (arith, h))
among_from (y ∷ ys) x zero h e = inl e
among_from (y ∷ ys) x (suc k) h e = inr (among_from ys x k (omega (arith, h)) e)

contains_from : (xs : List Automaton) (x : Automaton) → Among x xs → Contains xs x
contains_from [] x at = absurd at
contains_from (y ∷ ys) x at = ⊎_elim (λ e. (zero, omega arith, e)) (λ of_rest. let found = contains_from ys x of_rest in (suc found.0, omega (arith, found.1), found.2)) at

-- a name with a datum is that of a pair
found_pair : (pairs : List (ℕ × Value)) (name : ℕ) → IsTrue (is_some (lookup (nat_eq name) pairs)) → (k : ℕ) × (k < length pairs) × ((d : ℕ × Value) → (get_or pairs k d).0 ≡ name)
found_pair [] name fires = cc
found_pair (pair ∷ rest) name fires =
    ⊎_elim
    (λ e. (zero, omega arith, λ d. sym e))
    (λ ne. let found = found_pair rest name (subst (λ b. IsTrue (is_some (cond b (Some pair.1) (lookup (nat_eq name) rest)))) (ne_eqb name pair.0 ne) fires) in (suc found.0, omega (arith, found.1), found.2))
    (cases_eq name pair.0)

first_fires : (pairs : List (ℕ × Value)) → (pairs ≡ [] → ⊥) → (name : ℕ) × IsTrue (is_some (lookup (nat_eq name) pairs))
first_fires [] nonempty = absurd (nonempty refl)
first_fires (pair ∷ rest) nonempty = (pair.0, ap (λ b. is_some (cond b (Some pair.1) (lookup (nat_eq pair.0) rest))) (eq-eqb pair.0 pair.0 refl))

module _ (c : RawCircuit) (texts : List (List ℕ)) (xs : List Automaton) (circuit : IsCircuit c) (all : AreAutomata c xs) where
  among : (x : Automaton) → IsAutomaton c x → Among x xs
  among x is = let found = (all x).1 is in among_from xs x found.0 found.1 found.2

  of_circuit : (x : Automaton) → Among x xs → IsAutomaton c x
  of_circuit x at = (all x).0 (contains_from xs x at)

  module _ (old : State) (step : Step) (new : State) (is_step : IsStep c step) (was : IsState c old) (is : IsState c new) where
    known_name : (name : ℕ) → IsTrue (is_some (datum step name)) → name < name_count c
    known_name name fires =
        let found = found_pair step.pairs name fires in
        subst (λ n. n < name_count c) (found.2 (name, Sym 0)) (is_step.known found.0 (name, Sym 0) found.1)

    module _ (p : ProductStep c texts old step new) where
      each_joint : (x : Automaton) → Among x xs → (IsSilent c x (datum step) × AutomatonStays c x old new) ⊎ AutomatonMoves c texts x old (datum step) new
      each_joint (OfChannel k) at =
          let found = slice_get_found c.channels k (of_circuit (OfChannel k) at) in
          ⊎_elim
          (λ stays. inl (
            (λ name own. ⊎_elim (λ e. ap (datum step) e ∙ stays.no_a) (λ e. ap (datum step) e ∙ stays.no_b) own),
            (λ channel other. subst (λ (x : Channel). content c k x.kind new ≡ content c k x.kind old) (same_Some found.0 channel (sym found.1 ∙ other)) stays.kept),
          ))
          (λ moves. inr (found.0, found.1, moves))
          (p.channels k found.0 found.1)
      each_joint (OfNode node) at = ⊎_elim (λ stays. inl (stays, tt)) (λ moves. inr moves) (p.nodes node (of_circuit (OfNode node) at))

      some_node : (name : ℕ) → IsTrue (is_some (datum step name)) → (node : ℕ) × (node < c.nodes) × IsNameOf c node name
      some_node name fires = node_of_name_below c circuit name (known_name name fires)

      joint : IsJoint c texts xs old (datum step) new
      joint =
          let first = first_fires step.pairs is_step.nonempty in
          let at = some_node first.0 first.1 in
          record {
            some = OfNode at.0;
            of_them = among (OfNode at.0) at.1;
            moves = ⊎_elim (λ stays. absurd (not_none (datum step first.0) first.1 (stays first.0 at.2))) (λ moves. moves) (p.nodes at.0 at.1);
            only = λ name fires. let here = some_node name fires in named_from c texts xs (OfNode here.0) name (among (OfNode here.0) here.1) here.2;
            each = each_joint;
          }

    module _ (j : IsJoint c texts xs old (datum step) new) where
      channel_allows : (k : ℕ) → ChannelAllows c texts k old (datum step) new
      channel_allows k channel found =
          ⊎_elim
          (λ quiet. inl (record { no_a = quiet.0 (end_a c k) (inl refl); no_b = quiet.0 (end_b c k) (inr refl); kept = quiet.1 channel found }))
          (λ moves. inr (subst (λ (x : Channel). ChannelMoves c texts k x.kind old (datum step) new) (same_Some moves.0 channel (sym moves.1 ∙ found)) moves.2))
          (j.each (OfChannel k) (among (OfChannel k) (slice_get_within c.channels k channel found)))

      node_allows : (node : ℕ) → node < c.nodes → NodeAllows c node (datum step)
      node_allows node below = ⊎_elim (λ quiet. inl quiet.0) (λ moves. inr moves) (j.each (OfNode node) (among (OfNode node) below))

      product : ProductStep c texts old step new
      product = record { is_step = is_step; was_state = was; is_state = is; channels = channel_allows; nodes = node_allows }

    pub joined_steps : ProductStep c texts old step new ↔ (joined c texts xs).Moves old (datum step) new
    joined_steps = (λ p. joint_gives c texts xs old (datum step) new (joint p), λ m. product (join_gives c texts xs old (datum step) new m))

-- the pairs of the names from a first one on, so many, that have a datum
abbrev with_pair : ℕ → Option Value → List (ℕ × Value) → List (ℕ × Value)
with_pair name None rest = rest
with_pair name (Some value) rest = (name, value) ∷ rest

abbrev pairs_of : Data → ℕ → ℕ → List (ℕ × Value)
pairs_of d from zero = []
pairs_of d from (suc n) = with_pair from (d from) (pairs_of d (suc from) n)

-- each name of the pairs is in the range
abbrev IsInRange : ℕ → ℕ → List (ℕ × Value) → Type 0
IsInRange from n pairs = (k : ℕ) (e : ℕ × Value) → k < length pairs → (from ≤ (get_or pairs k e).0) × ((get_or pairs k e).0 < from + n)

wider : (from n : ℕ) (pairs : List (ℕ × Value)) → IsInRange (suc from) n pairs → IsInRange from (suc n) pairs
wider from n pairs within k e h = (omega (arith, (within k e h).0), omega (arith, (within k e h).1))

with_in_range : (from n : ℕ) (o : Option Value) (rest : List (ℕ × Value)) → IsInRange (suc from) n rest → IsInRange from (suc n) (with_pair from o rest)
with_in_range from n None rest within k e h = wider from n rest within k e h
with_in_range from n (Some v) rest within zero e h = (omega arith, omega arith)
with_in_range from n (Some v) rest within (suc k) e h = wider from n rest within k e (omega (arith, h))

in_range : (d : Data) (from n : ℕ) → IsInRange from n (pairs_of d from n)
in_range d from zero k e h = absurd (omega (arith, h))
in_range d from (suc n) k e h = with_in_range from n (d from) (pairs_of d (suc from) n) (in_range d (suc from) n) k e h

abbrev Rises : List (ℕ × Value) → Type 0
Rises pairs = (k : ℕ) (e : ℕ × Value) → suc k < length pairs → (get_or pairs k e).0 < (get_or pairs (suc k) e).0

with_rises : (from n : ℕ) (o : Option Value) (rest : List (ℕ × Value)) → IsInRange (suc from) n rest → Rises rest → Rises (with_pair from o rest)
with_rises from n None rest within rises k e h = rises k e h
with_rises from n (Some v) rest within rises zero e h = let least = (within zero e (omega (arith, h))).0 in omega (arith, least)
with_rises from n (Some v) rest within rises (suc k) e h = rises k e (omega (arith, h))

pairs_rise : (d : Data) (from n : ℕ) → Rises (pairs_of d from n)
pairs_rise d from zero k e h = absurd (omega (arith, h))
pairs_rise d from (suc n) k e h = with_rises from n (d from) (pairs_of d (suc from) n) (in_range d (suc from) n) (pairs_rise d (suc from) n) k e h

strictly : (pairs : List (ℕ × Value)) → Rises pairs → IsStrictlyIncreasing (map (λ p. p.0) pairs)
strictly pairs rises k h =
    let d : ℕ × Value = (0, Sym 0) in
    let within : suc k < length pairs = omega (arith, h, length-map pairs (λ (p : ℕ × Value). p.0)) in
    let before = get_or-map (λ (p : ℕ × Value). p.0) pairs k d 0 (omega (arith, within)) in
    let after = get_or-map (λ (p : ℕ × Value). p.0) pairs (suc k) d 0 within in
    subst (λ i. get_or (map (λ p. p.0) pairs) k 0 < get_or (map (λ p. p.0) pairs) i 0) (sym (add-one k)) (omega (arith, before, after, rises k d within))

with_here : (from : ℕ) (o : Option Value) (rest : List (ℕ × Value)) → lookup (nat_eq from) rest ≡ None → lookup (nat_eq from) (with_pair from o rest) ≡ o
with_here from None rest gone = gone
with_here from (Some v) rest gone = ap (λ b. cond b (Some v) (lookup (nat_eq from) rest)) (eq-eqb from from refl)

with_other : (from name : ℕ) (o : Option Value) (rest : List (ℕ × Value)) → (name ≡ from → ⊥) → lookup (nat_eq name) (with_pair from o rest) ≡ lookup (nat_eq name) rest
with_other from name None rest ne = refl
with_other from name (Some v) rest ne = ap (λ b. cond b (Some v) (lookup (nat_eq name) rest)) (ne_eqb name from ne)

gone : (d : Data) (from n name : ℕ) → name < from ⊎ (from + n ≤ name) → lookup (nat_eq name) (pairs_of d from n) ≡ None
gone d from zero name out = refl
gone d from (suc n) name out =
    with_other from name (d from) (pairs_of d (suc from) n) (λ e. ⊎_elim (λ h. omega (arith, h, e)) (λ h. omega (arith, h, e)) out)
    ∙ gone d (suc from) n name (⊎_elim (λ h. inl (omega (arith, h))) (λ h. inr (omega (arith, h))) out)

at_name : (d : Data) (from n name : ℕ) → from ≤ name → name < from + n → lookup (nat_eq name) (pairs_of d from n) ≡ d name
at_name d from zero name low high = absurd (omega (arith, low, high))
at_name d from (suc n) name low high =
    ⊎_elim
    (λ e. subst (λ x. lookup (nat_eq x) (with_pair from (d from) (pairs_of d (suc from) n)) ≡ d x) (sym e)
    (with_here from (d from) (pairs_of d (suc from) n) (gone d (suc from) n from (inl (omega arith)))))
    (λ ne. with_other from name (d from) (pairs_of d (suc from) n) ne ∙ at_name d (suc from) n name (omega (arith, low, ne)) (omega (arith, high)))
    (cases_eq name from)

module _ (c : RawCircuit) (texts : List (List ℕ)) (xs : List Automaton) (circuit : IsCircuit c) (all : AreAutomata c xs) (old : State) (d : Data) (new : State) (moves : (joined c texts xs).Moves old d new) where
  j : IsJoint c texts xs old d new
  j = join_gives c texts xs old d new moves

  abbrev count : ℕ
  count = name_count c

  own_below : (x : Automaton) (name : ℕ) → IsAutomaton c x → HasName c x name → name < count
  own_below (OfChannel k) name is own =
      let found = slice_get_found c.channels k is in
      ⊎_elim (λ e. subst (λ n. n < name_count c) (sym e) (end_a_below c k found.0 found.1)) (λ e. subst (λ n. n < name_count c) (sym e) (end_b_below c k found.0 found.1)) own
  own_below (OfNode node) name is own = name_below c node name own

  fires_below : (name : ℕ) → IsTrue (is_some (d name)) → name < count
  fires_below name fires = let found = named_gives c texts xs name (j.only name fires) in own_below found.0 name (of_circuit c texts xs circuit all found.0 found.1) found.2

  abbrev made : Step
  made = record { pairs = pairs_of d 0 count }

  same_data : (name : ℕ) → datum made name ≡ d name
  same_data name =
      ⊎_elim
      (λ none. ⊎_elim (λ h. at_name d 0 count name (omega arith) (omega (arith, h))) (λ h. gone d 0 count name (inr (omega (arith, h))) ∙ sym none) (cases_lt name count))
      (λ fires. at_name d 0 count name (omega arith) (omega (arith, fires_below name fires)))
      (none_or_fires (d name))

  nonempty : pairs_of d 0 count ≡ [] → ⊥
  nonempty e =
      let fired = moves_fire c texts j.some old d new j.moves in
      not_none (d fired.0) fired.2 (sym (same_data fired.0) ∙ ap (lookup (nat_eq fired.0)) e)

  pub joined_is_step : (step : Step) × IsStep c step × ((name : ℕ) → datum step name ≡ d name)
  joined_is_step = (
    made,
    record {
      nonempty = nonempty;
      rising = strictly (pairs_of d 0 count) (pairs_rise d 0 count);
      known = λ k e h. omega (arith, (in_range d 0 count k e h).1);
    },
    same_data,
  )
