-- The entry law: the step of an allowed entry is a step of the product.
use Rattle.std.proofs.Common.{◌≡◌, ℕ, zero, suc, ◌<◌, ◌⊎◌, inl, inr, ⊎_elim, List, [], ◌∷◌, length, map, slice_get, get_or, Option, Some, None, is_some, Bool, true, false, cond, nat_eq, ◌||◌, refl, sym, ap, ◌∙◌, subst, arith}
use Rattle.std.specs.List.{AllByRecursion}
use Rattle.std.specs.Map.{lookup}
use Rattle.std.specs.List.Sorted.{IsStrictlyIncreasing}
use Rattle.std.proofs.lemmas.Bool.{false≢true, eqb-true, eq-eqb, or_left, or_right}
use Rattle.std.proofs.lemmas.Option.{same_Some, slice_get_within, slice_get-get_or}
use Rattle.std.proofs.lemmas.List.Elements.{All-from_recursion}
use Rattle.reo_value.specs.declared.value.Value.{Value}
use Rattle.reo_net.specs.declared.kind.Kind.{Kind}
use Rattle.reo_net.specs.declared.circuit.Channel.{Channel}
use Rattle.reo_net.specs.declared.circuit.RawCircuit.{RawCircuit}
use Rattle.reo_net.specs.declared.circuit.Step.{Step}
use Rattle.reo_net.specs.Names.{name_count, end_a, end_b}
use Rattle.reo_net.specs.Kind.{is_fifo, Buffers}
use Rattle.reo_net.specs.Steps.{State, IsState, datum, fires_in, content, cell_of, ChannelStays, ChannelMoves, ChannelAllows, ProductStep}
use Rattle.reo_net.specs.Regions.{Automaton, AreRegions, OfChannel, OfNode, IsSynchronous, SameRegion, here, linked, HasName, IsConnectedFiring}
use Rattle.reo_net.specs.Runs.{Run}
use Rattle.reo_net.proofs.KindLemmas.{buffer_step, pass_step}
use Rattle.reo_net.proofs.NameLemmas.{slice_get_found, name_below, end_a_below, end_b_below}
use Rattle.reo_growth.specs.Lists.{has, Among}
use Rattle.reo_product.specs.Table.{IsFiring}
use Rattle.reo_fabric.specs.declared.entry.Entry.{Entry}
use Rattle.reo_fabric.specs.declared.reading.Reading.{Reading}
use Rattle.reo_fabric.specs.Entry.{Agrees, at_place, content_after, carried_out}
use Rattle.reo_fabric.proofs.PlaceLemmas.{at_place_holds}
use Rattle.reo_fabric.proofs.HistoryLemmas.{length-carried_out, at_carried_out}
use Rattle.reo_flow.specs.Places.{buffers}
use Rattle.reo_flow.specs.Step.{IsStepOf}
use Rattle.reo_flow.specs.Allows.{Table, AreTables, Allows}
use Rattle.reo_flow.specs.Laws.{EntriesAreSteps, HistoriesAreRuns}
use Rattle.reo_flow.proofs.PlacesLemmas.{at_with, cell_stands, cell_below}

-- functions that give the same everywhere are one
pub same_functions : {A B : Type 0} (f g : A → B) → ((x : A) → f x ≡ g x) → f ≡ g
same_functions f g each = λ i x. each x i

-- the names that fire in a step are those of its pairs
eqb_turned : (m n : ℕ) → nat_eq m n ≡ nat_eq n m
eqb_turned m n = go (nat_eq m n) refl (nat_eq n m) refl
  where
    go : (a : Bool) → nat_eq m n ≡ a → (b : Bool) → nat_eq n m ≡ b → a ≡ b
    go true e true f = refl
    go false e false f = refl
    go true e false f = absurd (false≢true (sym f ∙ eq-eqb n m (sym (eqb-true m n e))))
    go false e true f = absurd (false≢true (sym e ∙ eq-eqb m n (sym (eqb-true n m f))))

pub fired_names : (pairs : List (ℕ × Value)) (name : ℕ) → has (map (λ p. p.0) pairs) name ≡ is_some (lookup (nat_eq name) pairs)
fired_names [] name = refl
fired_names (p ∷ pairs) name = ap (λ b. b || has (map (λ q. q.0) pairs) name) (eqb_turned p.0 name) ∙ go (nat_eq name p.0) (fired_names pairs name)
  where
    go : (b : Bool) → has (map (λ q. q.0) pairs) name ≡ is_some (lookup (nat_eq name) pairs) → (b || has (map (λ q. q.0) pairs) name) ≡ is_some (cond b (Some p.1) (lookup (nat_eq name) pairs))
    go true later = refl
    go false later = later

named_below : (bound : ℕ) (pairs : List (ℕ × Value)) → ((name : ℕ) → has (map (λ p. p.0) pairs) name ≡ true → name < bound) → AllByRecursion (λ (p : ℕ × Value). p.0 < bound) pairs
named_below bound [] below = tt
named_below bound (p ∷ pairs) below = (
  below p.0 (or_left (nat_eq p.0 p.0) (has (map (λ q. q.0) pairs) p.0) (eq-eqb p.0 p.0 refl)),
  named_below bound pairs (λ name at. below name (or_right (nat_eq p.0 name) (has (map (λ q. q.0) pairs) name) at)),
)

pub among_from : {A : Type 0} (xs : List A) (i : ℕ) (x : A) → slice_get xs i ≡ Some x → Among x xs
among_from [] i x found = cc
among_from (y ∷ ys) zero x found = inl (same_Some y x found)
among_from (y ∷ ys) (suc i) x found = inr (among_from ys i x found)

-- an automaton of a region is no FIFO1, so its names are the circuit's
pub of_region : (c : RawCircuit) (root x : Automaton) → SameRegion c root x → IsSynchronous c x
of_region c root x (here is) = is
of_region c root x (linked name from is has_x has_y) = is

pub region_name : (c : RawCircuit) (x : Automaton) (name : ℕ) → IsSynchronous c x → HasName c x name → name < name_count c
region_name c (OfChannel k) name is (inl named) = subst (λ n. n < name_count c) (sym named) (end_a_below c k is.0 is.1)
region_name c (OfChannel k) name is (inr named) = subst (λ n. n < name_count c) (sym named) (end_b_below c k is.0 is.1)
region_name c (OfNode node) name is named = name_below c node name named

pub firing_below : (c : RawCircuit) (root : Automaton) (fires : ℕ → Bool) → IsConnectedFiring c root fires → (name : ℕ) → fires name ≡ true → name < name_count c
firing_below c root fires connected name fired =
    let at = connected.within name fired in
    region_name c at.0 name (of_region c root at.0 at.1) at.2

-- one buffer, by what is taken out of it and what it is filled with
one_buffer : (taken filled held new : Option Value) → ((v : Value) → taken ≡ Some v → held ≡ Some v) → ((v : Value) → filled ≡ Some v → held ≡ None)
    → new ≡ content_after taken filled held → ((filled ≡ None) × (taken ≡ None) × (new ≡ held)) ⊎ Buffers held filled taken new
one_buffer None None held new full empty is = inl (refl, refl, is)
one_buffer (Some t) None held new full empty is = inr (subst (λ h. Buffers h None (Some t) new) (sym (full t refl)) (refl, is))
one_buffer None (Some f) held new full empty is = inr (subst (λ h. Buffers h (Some f) None new) (sym (empty f refl)) is)
one_buffer (Some t) (Some f) held new full empty is = absurd (let clash : Some t ≡ None = sym (full t refl) ∙ empty f refl in cc)

some_inside : {X : Type 0} (x y : Option X) → Some x ≡ Some y → x ≡ y
some_inside x y e = same_Some x y e

module _ (c : RawCircuit) (texts : List (List ℕ)) (names : List ℕ) (entry : Entry) (step : Step) (is : IsStepOf c texts names entry step) where
  -- what the entry takes and fills is what the step has at the ends of the FIFO1s
  pub take_at : (k : ℕ) (channel : Channel) → slice_get c.channels k ≡ Some channel → is_fifo channel.kind ≡ true → at_place entry.takes (cell_of c k) ≡ datum step (end_b c k)
  take_at k channel found fifo =
      ap (λ (e : Entry). at_place e.takes (cell_of c k)) is.stands
      ∙ at_with (λ cell k. datum step (end_b c k)) 0 (buffers c) (cell_of c k) k (cell_of c k) (omega arith) (cell_stands c k channel found fifo)

  pub fill_at : (k : ℕ) (channel : Channel) → slice_get c.channels k ≡ Some channel → is_fifo channel.kind ≡ true → at_place entry.fills (cell_of c k) ≡ datum step (end_a c k)
  fill_at k channel found fifo =
      ap (λ (e : Entry). at_place e.fills (cell_of c k)) is.stands
      ∙ at_with (λ cell k. datum step (end_a c k)) 0 (buffers c) (cell_of c k) k (cell_of c k) (omega arith) (cell_stands c k channel found fifo)

  module _ (state : State) (is_state : IsState c state) (agrees : Agrees state entry) where
    abbrev after : State
    after = carried_out state entry

    content_is : (k : ℕ) (kind : Kind) (held : State) → is_fifo kind ≡ true → content c k kind held ≡ get_or held (cell_of c k) None
    content_is k kind held fifo = ap (λ b. cond b (get_or held (cell_of c k) None) None) fifo

    content_none : (k : ℕ) (kind : Kind) (held : State) → is_fifo kind ≡ false → content c k kind held ≡ None
    content_none k kind held other = ap (λ b. cond b (get_or held (cell_of c k) None) None) other

    buffer_moves : (k : ℕ) (channel : Channel) → slice_get c.channels k ≡ Some channel → is_fifo channel.kind ≡ true
        → ChannelStays c k channel.kind state (datum step) after ⊎ ChannelMoves c texts k channel.kind state (datum step) after
    buffer_moves k channel found fifo =
        let within : cell_of c k < length state = subst (λ n. cell_of c k < n) (sym is_state) (cell_below c k channel found fifo) in
        let held : slice_get state (cell_of c k) ≡ Some (content c k channel.kind state) = slice_get-get_or state (cell_of c k) None within ∙ ap Some (sym (content_is k channel.kind state fifo)) in
        let taken = take_at k channel found fifo in
        let filled = fill_at k channel found fifo in
        let left : content c k channel.kind after ≡ content_after (datum step (end_b c k)) (datum step (end_a c k)) (content c k channel.kind state) =
        content_is k channel.kind after fifo ∙ at_carried_out state entry (cell_of c k) within
        ∙ ap (λ h. content_after (at_place entry.takes (cell_of c k)) (at_place entry.fills (cell_of c k)) h) (sym (content_is k channel.kind state fifo))
        ∙ ap (λ t. content_after t (at_place entry.fills (cell_of c k)) (content c k channel.kind state)) taken
        ∙ ap (λ f. content_after (datum step (end_b c k)) f (content c k channel.kind state)) filled in
        ⊎_elim
        (λ stays. inl (record { no_a = stays.0; no_b = stays.1; kept = stays.2 }))
        (λ moves. inr (buffer_step texts channel.kind (content c k channel.kind state) (datum step (end_a c k)) (datum step (end_b c k)) (content c k channel.kind after) fifo moves))
        (one_buffer (datum step (end_b c k)) (datum step (end_a c k)) (content c k channel.kind state) (content c k channel.kind after)
        (λ v at. some_inside (content c k channel.kind state) (Some v) (sym held ∙ at_place_holds (λ p. slice_get state p.0 ≡ Some (Some p.1)) entry.takes (cell_of c k) v agrees.takes (taken ∙ at)))
        (λ v at. some_inside (content c k channel.kind state) None (sym held ∙ at_place_holds (λ p. slice_get state p.0 ≡ Some None) entry.fills (cell_of c k) v agrees.fills (filled ∙ at)))
        left)

    other_moves : (k : ℕ) (channel : Channel) → slice_get c.channels k ≡ Some channel → is_fifo channel.kind ≡ false
        → ChannelStays c k channel.kind state (datum step) after ⊎ ChannelMoves c texts k channel.kind state (datum step) after
    other_moves k channel found other =
        let kept : content c k channel.kind after ≡ content c k channel.kind state = content_none k channel.kind after other ∙ sym (content_none k channel.kind state other) in
        ⊎_elim
        (λ past. inl (record { no_a = past.no_a; no_b = past.no_b; kept = kept }))
        (λ passes. inr (pass_step texts channel.kind (content c k channel.kind state) (datum step (end_a c k)) (datum step (end_b c k)) (content c k channel.kind after) other passes kept))
        (is.meets.channels k channel found other)

    channel_allows : (k : ℕ) → ChannelAllows c texts k state (datum step) after
    channel_allows k channel found = go (is_fifo channel.kind) refl
      where
        go : (b : Bool) → is_fifo channel.kind ≡ b → ChannelStays c k channel.kind state (datum step) after ⊎ ChannelMoves c texts k channel.kind state (datum step) after
        go true fifo = buffer_moves k channel found fifo
        go false other = other_moves k channel found other

    after_is_state : IsState c after
    after_is_state = length-carried_out state entry ∙ is_state

    pub product_step : (root : Automaton) → IsFiring c root names → ProductStep c texts state step (carried_out state entry)
    product_step root firing = record {
      is_step = record {
        nonempty = λ nothing.
            let none : names ≡ [] = sym is.named ∙ ap (map (λ p. p.0)) nothing in
            absurd (false≢true (ap (λ ns. has ns firing.connected.some_name) (sym none) ∙ firing.connected.some_fires));
        rising = subst (λ ns. IsStrictlyIncreasing ns) (sym is.named) firing.rising;
        known = All-from_recursion (λ (p : ℕ × Value). p.0 < name_count c) step.pairs (named_below (name_count c) step.pairs (λ name fired. firing_below c root (has names) firing.connected name (ap (λ ns. has ns name) (sym is.named) ∙ fired)));
      };
      was_state = is_state;
      is_state = after_is_state;
      channels = channel_allows;
      nodes = is.meets.nodes;
    }

  -- the names of the step are those of the firing
  pub fired_are_names : (name : ℕ) → has names name ≡ fires_in (datum step) name
  fired_are_names name = ap (λ ns. has ns name) (sym is.named) ∙ fired_names step.pairs name

  pub connected_step : (root : Automaton) → IsFiring c root names → IsConnectedFiring c root (fires_in (datum step))
  connected_step root firing = subst (IsConnectedFiring c root) (same_functions (has names) (fires_in (datum step)) fired_are_names) firing.connected

-- the firing of an allowed entry is one of its region
pub record TabledFiring (c : RawCircuit) (region : ℕ) (names : List ℕ) : Type 0 where
  pub roots : List Automaton
  pub regions : AreRegions c roots
  pub root : Automaton
  pub at : slice_get roots region ≡ Some root
  pub firing : IsFiring c root names

pub firing_of_table : (c : RawCircuit) (tables : List Table) → AreTables c tables → (region choice : ℕ) (table : Table) (names : List ℕ) → slice_get tables region ≡ Some table → slice_get table choice ≡ Some names → TabledFiring c region names
firing_of_table c tables are region choice table names tabled firing =
    let within = slice_get_within tables region table tabled in
    let root = slice_get_found are.roots region (subst (λ n. region < n) are.as_many within) in
    let is_table = are.each region root.0 table root.1 tabled in
    record {
      roots = are.roots;
      regions = are.regions;
      root = root.0;
      at = root.1;
      firing = is_table.1.listed.only names (among_from table choice names firing);
    }

pub tabled_firing : (c : RawCircuit) (texts : List (List ℕ)) (tables : List Table) → AreTables c tables → (region : ℕ) (reading : Reading) (entry : Entry) → (allowed : Allows c texts tables region reading entry) → TabledFiring c region allowed.names
tabled_firing c texts tables are region reading entry allowed = firing_of_table c tables are region entry.choice allowed.table allowed.names allowed.tabled allowed.firing

pub entries_are_steps : EntriesAreSteps
entries_are_steps c texts tables are region reading entry allowed state is_state agrees =
    let tabled = tabled_firing c texts tables are region reading entry allowed in (
      product_step c texts allowed.names entry allowed.step allowed.is_step state is_state agrees tabled.root tabled.firing,
      record {
        roots = tabled.roots;
        regions = tabled.regions;
        root = tabled.root;
        at = ap (slice_get tabled.roots) allowed.of_region ∙ tabled.at;
        connected = connected_step c texts allowed.names entry allowed.step allowed.is_step tabled.root tabled.firing;
      },
    )

pub histories_are_runs : HistoriesAreRuns
histories_are_runs c texts tables are [] steps allowed state is_state lawful = subst (λ ss. Run c texts state ss state) (sym allowed) refl
histories_are_runs c texts tables are (entry ∷ entries) [] allowed state is_state lawful = absurd allowed
histories_are_runs c texts tables are (entry ∷ entries) (step ∷ steps) allowed state is_state lawful =
    let law = entries_are_steps c texts tables are entry.region allowed.0.0 entry allowed.0.1 state is_state lawful.0 in (
      carried_out state entry,
      subst (λ s. ProductStep c texts state s (carried_out state entry)) (sym allowed.0.2) law.0,
      histories_are_runs c texts tables are entries steps allowed.1 (carried_out state entry) law.0.is_state lawful.1,
    )
