-- the classes of labels are the regions
use Rattle.std.proofs.Common.{◌≡◌, ℕ, zero, suc, ◌+◌, ◌-◌, ◌<◌, ◌⊎◌, ⊎_elim, inl, inr, Bool, true, false, not, ◌&&◌, cond, List, [], ◌∷◌, ◌++◌, length, map, filter, get_or, slice_get, nat_eq, nat_lt, Option, Some, None, All, refl, sym, ap, ◌∙◌, subst, arith, add-one}
use Rattle.std.specs.List.{range_with_len}
use Rattle.std.specs.Option.{option_map, option_map_or}
use Rattle.std.specs.Cmp.Derive.{both_true}
use Rattle.std.specs.List.Sorted.{IsStrictlyIncreasing}
use Rattle.std.proofs.lemmas.Bool.{false≢true, cases_lt, cases_eq, lt-ltb, le-ltb, eq-eqb, eqb-true}
use Rattle.std.proofs.lemmas.List.{length-map, get_or-map, get_or_default, map-append}
use Rattle.std.proofs.lemmas.List.FromFn.{length-range_with_len, get_or-range_with_len}
use Rattle.std.proofs.lemmas.List.Kept.{IsStrictlyIncreasing-filter}
use Rattle.std.proofs.lemmas.Option.{same_Some, slice_get_within, get_or_from_slice_get, slice_get-get_or, slice_get-map, slice_get_past}
use Rattle.reo_graph.specs.Closure.{count_below}
use Rattle.reo_net.specs.declared.circuit.Channel.{Channel}
use Rattle.reo_net.specs.declared.circuit.Port.{Port}
use Rattle.reo_net.specs.declared.circuit.RawCircuit.{RawCircuit}
use Rattle.reo_net.specs.Kind.{is_fifo}
use Rattle.reo_net.specs.Names.{end_a, end_b, IsNameOf}
use Rattle.reo_net.specs.Regions.{Automaton, OfChannel, OfNode, automaton_number, HasName, IsSynchronous, SameRegion, here, linked, IsRegion, AreRegions}
use Rattle.reo_net.specs.Checks.{IsCircuit}
use Rattle.reo_net.proofs.NameLemmas.{slice_get_found, one_node, end_a_is_name, end_b_is_name, same_end_a, same_end_b, end_a≢end_b}
use Rattle.reo_cut.specs.Labels.{IsPair, Linked, stays, forth, back, label_at, AreLabels, pairs_of, pairs_below}
use Rattle.reo_cut.specs.declared.cut.CellCut.{CellCut}
use Rattle.reo_cut.specs.Cut.{is_buffer, IsOfRegion, IsCellCut, IsCut}
use Rattle.reo_cut.specs.Numbers.{is_root, region_at, cell_cut, own_cell, cells_below}
use Rattle.reo_cut.proofs.CountLemmas.{place_of, length_passing, one_more}
use Rattle.reo_cut.proofs.LabelLemmas.{range_rises}
use Rattle.reo_cut.proofs.RelabelLaw.{linked_back, linked_on}

-- the pairs are those of channels that are no FIFO1, with the nodes at their ends
pub record PairAt (channels : List Channel) (a b : ℕ) : Type 0 where
  pub channel : Channel
  pub found : slice_get channels a ≡ Some channel
  pub other : is_fifo channel.kind ≡ false
  pub end : (b ≡ length channels + channel.a) ⊎ (b ≡ length channels + channel.b)

pair_at : (channels : List Channel) (i a b : ℕ) → IsPair (pairs_below channels i) a b → PairAt channels a b
pair_at channels zero a b is = absurd is
pair_at channels (suc i) a b is = go (slice_get channels i) refl is (pair_at channels i a b)
  where
    own : (channel : Channel) → slice_get channels i ≡ Some channel → (f : Bool) → is_fifo channel.kind ≡ f → IsPair (cond f [] ((i, length channels + channel.b) ∷ (i, length channels + channel.a) ∷ []) ++ pairs_below channels i) a b
        → (IsPair (pairs_below channels i) a b → PairAt channels a b) → PairAt channels a b
    own channel found true fifo is more = more is
    own channel found false other is more =
        ⊎_elim
        (λ first. record { channel = channel; found = subst (λ k. slice_get channels k ≡ Some channel) first.0 found; other = other; end = inr (sym first.1) })
        (λ rest. ⊎_elim
        (λ second. record { channel = channel; found = subst (λ k. slice_get channels k ≡ Some channel) second.0 found; other = other; end = inl (sym second.1) })
        more rest)
        is

    go : (o : Option Channel) → slice_get channels i ≡ o → IsPair (option_map_or (pairs_of (length channels) i) o [] ++ pairs_below channels i) a b → (IsPair (pairs_below channels i) a b → PairAt channels a b) → PairAt channels a b
    go None found is more = more is
    go (Some channel) found is more = own channel found (is_fifo channel.kind) refl is more

skip_pairs : (more pairs : List (ℕ × ℕ)) (a b : ℕ) → IsPair pairs a b → IsPair (more ++ pairs) a b
skip_pairs [] pairs a b is = is
skip_pairs (pair ∷ more) pairs a b is = inr (skip_pairs more pairs a b is)

module _ (channels : List Channel) (k : ℕ) (channel : Channel) (found : slice_get channels k ≡ Some channel) (other : is_fifo channel.kind ≡ false) where
  own_pairs : pairs_below channels (suc k) ≡ (k, length channels + channel.b) ∷ (k, length channels + channel.a) ∷ pairs_below channels k
  own_pairs = ap (λ o. option_map_or (pairs_of (length channels) k) o [] ++ pairs_below channels k) found ∙ ap (λ f. cond f [] ((k, length channels + channel.b) ∷ (k, length channels + channel.a) ∷ []) ++ pairs_below channels k) other

  is_pair : (i b : ℕ) → k < i → (b ≡ length channels + channel.a) ⊎ (b ≡ length channels + channel.b) → IsPair (pairs_below channels i) k b
  is_pair zero b h end = absurd (omega (arith, h))
  is_pair (suc i) b h end = ⊎_elim (λ (same : i ≡ k). here_pair same) (λ (apart : i ≡ k → ⊥). skip_pairs (option_map_or (pairs_of (length channels) i) (slice_get channels i) []) (pairs_below channels i) k b (is_pair i b (omega (arith, h, apart)) end)) (cases_eq i k)
    where
      here_pair : i ≡ k → IsPair (pairs_below channels (suc i)) k b
      here_pair same =
          subst (λ j. IsPair (pairs_below channels (suc j)) k b) (sym same)
          (subst (λ pairs. IsPair pairs k b) (sym own_pairs) (⊎_elim (λ is_a. inr (inl (refl, sym is_a))) (λ is_b. inl (refl, sym is_b)) end))

pub counts_long : (p : ℕ → Bool) (labels counts : List ℕ) → counts ≡ map (count_below p) (range_with_len 0 (length labels + 1)) → length counts ≡ length labels + 1
counts_long p labels counts are = ap length are ∙ (length-map (range_with_len 0 (length labels + 1)) (count_below p) ∙ length-range_with_len 0 (length labels + 1))

module _ (c : RawCircuit) (circuit : IsCircuit c) (labels : List ℕ)
    (are : AreLabels (pairs_below c.channels (length c.channels)) (length c.channels + c.nodes) labels) where
  abbrev pairs : List (ℕ × ℕ)
  pairs = pairs_below c.channels (length c.channels)

  abbrev all : ℕ
  all = length c.channels + c.nodes

  -- an automaton by its number
  of_number : ℕ → Automaton
  of_number x = cond (nat_lt x (length c.channels)) (OfChannel x) (OfNode (x - length c.channels))

  a_channel : (k : ℕ) → k < length c.channels → of_number k ≡ OfChannel k
  unfolding of_number
  a_channel k h = ap (λ b. cond b (OfChannel k) (OfNode (k - length c.channels))) (lt-ltb k (length c.channels) h)

  a_node : (node : ℕ) → of_number (length c.channels + node) ≡ OfNode node
  unfolding of_number
  a_node node =
      ap (λ b. cond b (OfChannel (length c.channels + node)) (OfNode (length c.channels + node - length c.channels))) (le-ltb (length c.channels + node) (length c.channels) (omega arith))
      ∙ ap OfNode (let e : length c.channels + node - length c.channels ≡ node = omega arith in e)

  number_back : (x : ℕ) → automaton_number c (of_number x) ≡ x
  number_back x = ⊎_elim
      (λ below. ap (automaton_number c) (a_channel x below))
      (λ past.
      let same : length c.channels + (x - length c.channels) ≡ x = omega arith in
      subst (λ y. automaton_number c (of_number y) ≡ y) same (ap (automaton_number c) (a_node (x - length c.channels))))
      (cases_lt x (length c.channels))

  back_number : (x : Automaton) → IsSynchronous c x → of_number (automaton_number c x) ≡ x
  back_number (OfChannel k) sync = a_channel k (slice_get_within c.channels k sync.0 sync.1)
  back_number (OfNode node) sync = a_node node

  within : (x : Automaton) → IsSynchronous c x → automaton_number c x < length c.channels + c.nodes
  within (OfChannel k) sync = omega (arith, slice_get_within c.channels k sync.0 sync.1)
  within (OfNode node) sync = omega (arith, sync)

  no_buffer : (x : Automaton) → IsSynchronous c x → is_buffer c (automaton_number c x) ≡ false
  no_buffer (OfChannel k) sync = ap (λ o. option_map_or (λ (channel : Channel). is_fifo channel.kind) o false) sync.1 ∙ sync.2
  no_buffer (OfNode node) sync = ap (λ o. option_map_or (λ (channel : Channel). is_fifo channel.kind) o false) (slice_get_past c.channels (length c.channels + node) (omega arith))

  is_sync : (x : ℕ) → x < length c.channels + c.nodes → is_buffer c x ≡ false → IsSynchronous c (of_number x)
  is_sync x h none = ⊎_elim
      (λ below.
      let at = found_at x below in
      subst (IsSynchronous c) (sym (a_channel x below)) (at.0, at.1, sym (ap (λ o. option_map_or (λ (channel : Channel). is_fifo channel.kind) o false) at.1) ∙ none))
      (λ past.
      let same : length c.channels + (x - length c.channels) ≡ x = omega arith in
      let inside : x - length c.channels < c.nodes = omega (arith, h, past) in
      subst (λ y. IsSynchronous c (of_number y)) same (subst (IsSynchronous c) (sym (a_node (x - length c.channels))) inside))
      (cases_lt x (length c.channels))
    where
      found_at : (k : ℕ) → k < length c.channels → (channel : Channel) × (slice_get c.channels k ≡ Some channel)
      found_at k below = slice_get_found c.channels k below

  -- a pair shares a name
  module _ (a b : ℕ) (is : PairAt c.channels a b) where
    pair_nodes : (node : ℕ) × (b ≡ length c.channels + node) × (node < c.nodes) × ((name : ℕ) × HasName c (OfChannel a) name × HasName c (OfNode node) name)
    pair_nodes =
        let inside = slice_get_within c.channels a is.channel is.found in
        let read = get_or_from_slice_get c.channels a is.channel is.channel is.found in
        ⊎_elim
        (λ end. (is.channel.a, end, subst (λ (ch : Channel). ch.a < c.nodes) read (circuit.known.ends_a a is.channel inside), (end_a c a, inl refl, end_a_is_name c a is.channel is.found)))
        (λ end. (is.channel.b, end, subst (λ (ch : Channel). ch.b < c.nodes) read (circuit.known.ends_b a is.channel inside), (end_b c a, inr refl, end_b_is_name c a is.channel is.found)))
        is.end

    channel_sync : IsSynchronous c (of_number a)
    channel_sync = subst (IsSynchronous c) (sym (a_channel a (slice_get_within c.channels a is.channel is.found))) (is.channel, is.found, is.other)

    node_is : of_number b ≡ OfNode pair_nodes.0
    node_is = ap of_number pair_nodes.1 ∙ a_node pair_nodes.0

    node_sync : IsSynchronous c (of_number b)
    node_sync = subst (IsSynchronous c) (sym node_is) pair_nodes.2

    share : (name : ℕ) × HasName c (of_number a) name × HasName c (of_number b) name
    share = (pair_nodes.3.0, subst (λ x. HasName c x pair_nodes.3.0) (sym (a_channel a (slice_get_within c.channels a is.channel is.found))) pair_nodes.3.1, subst (λ x. HasName c x pair_nodes.3.0) (sym node_is) pair_nodes.3.2)

  linked_region : (x : ℕ) → IsSynchronous c (of_number x) → {y : ℕ} → Linked (pairs_below c.channels (length c.channels)) x y → SameRegion c (of_number x) (of_number y)
  linked_region x sync stays = here sync
  linked_region x sync (forth {a = a} b path is) =
      let at = pair_at c.channels (length c.channels) a b is in
      let name = share a b at in
      linked name.0 (linked_region x sync path) (node_sync a b at) name.1 name.2
  linked_region x sync (back a {b = b} path is) =
      let at = pair_at c.channels (length c.channels) a b is in
      let name = share a b at in
      linked name.0 (linked_region x sync path) (channel_sync a b at) name.2 name.1

  end_at : (k : ℕ) (channel : Channel) → slice_get c.channels k ≡ Some channel → (node name : ℕ) → HasName c (OfChannel k) name → IsNameOf c node name
      → (length c.channels + node ≡ length c.channels + channel.a) ⊎ (length c.channels + node ≡ length c.channels + channel.b)
  end_at k channel found node name at_k at_node =
      ⊎_elim
      (λ a. inl (ap (λ n. length c.channels + n) (one_node c node channel.a name at_node (subst (IsNameOf c channel.a) (sym a) (end_a_is_name c k channel found)))))
      (λ b. inr (ap (λ n. length c.channels + n) (one_node c node channel.b name at_node (subst (IsNameOf c channel.b) (sym b) (end_b_is_name c k channel found)))))
      at_k

  -- automata that share a name are paired, or one
  sharing : (x y : Automaton) (name : ℕ) → IsSynchronous c x → IsSynchronous c y → HasName c x name → HasName c y name → Linked (pairs_below c.channels (length c.channels)) (automaton_number c x) (automaton_number c y)
  sharing (OfChannel j) (OfChannel k) name sync_x sync_y at_x at_y =
      let same : j ≡ k = ⊎_elim
      (λ a. ⊎_elim (λ a'. same_end_a c j k (sym a ∙ a')) (λ b'. absurd (end_a≢end_b c j k (sym a ∙ b'))) at_y)
      (λ b. ⊎_elim (λ a'. absurd (end_a≢end_b c k j (sym a' ∙ b))) (λ b'. same_end_b c j k (sym b ∙ b')) at_y) at_x in
      subst (Linked (pairs_below c.channels (length c.channels)) j) same stays
  sharing (OfChannel k) (OfNode node) name sync_x sync_y at_x at_y =
      forth (length c.channels + node) stays (is_pair c.channels k sync_x.0 sync_x.1 sync_x.2 (length c.channels) (length c.channels + node) (slice_get_within c.channels k sync_x.0 sync_x.1) (end_at k sync_x.0 sync_x.1 node name at_x at_y))
  sharing (OfNode node) (OfChannel k) name sync_x sync_y at_x at_y =
      back k stays (is_pair c.channels k sync_y.0 sync_y.1 sync_y.2 (length c.channels) (length c.channels + node) (slice_get_within c.channels k sync_y.0 sync_y.1) (end_at k sync_y.0 sync_y.1 node name at_y at_x))
  sharing (OfNode m) (OfNode n) name sync_x sync_y at_x at_y =
      subst (λ k. Linked (pairs_below c.channels (length c.channels)) (length c.channels + m) (length c.channels + k)) (one_node c m n name at_x at_y) stays

  sync_to : (x : Automaton) {y : Automaton} → SameRegion c x y → IsSynchronous c y
  sync_to x (here s) = s
  sync_to x (linked name path s at_z at_y) = s

  region_linked : (x : Automaton) → IsSynchronous c x → {y : Automaton} → SameRegion c x y → Linked (pairs_below c.channels (length c.channels)) (automaton_number c x) (automaton_number c y)
  region_linked x sync (here s) = stays
  region_linked x sync (linked {x = z} {y = y} name path s at_z at_y) =
      linked_on pairs (automaton_number c x) (automaton_number c z) (region_linked x sync path) (sharing z y name (sync_to x path) s at_z at_y)

  -- the automata that are the least of their regions
  least_ones : List ℕ
  least_ones = filter (is_root c labels) (range_with_len 0 (length c.channels + c.nodes))

  roots : List Automaton
  roots = map of_number least_ones

  -- the label of an automaton is the least of its region
  record RootAt (x : Automaton) : Type 0 where
    sync : IsSynchronous c (of_number (label_at labels (automaton_number c x)))
    below : label_at labels (automaton_number c x) < length c.channels + c.nodes
    passes : is_root c labels (label_at labels (automaton_number c x)) ≡ true
    same : SameRegion c (of_number (label_at labels (automaton_number c x))) x
    from : SameRegion c x (of_number (label_at labels (automaton_number c x)))

  buffer_of : (x : ℕ) → IsSynchronous c (of_number x) → is_buffer c x ≡ false
  buffer_of x sync = ap (is_buffer c) (sym (number_back x)) ∙ no_buffer (of_number x) sync

  root_at : (x : Automaton) → IsSynchronous c x → RootAt x
  root_at x sync =
      let number = automaton_number c x in
      let inside = within x sync in
      let label = label_at labels number in
      let low = are.least number inside in
      let below : label < length c.channels + c.nodes = omega (arith, inside, low) in
      let path = are.member number inside in
      let sync_x = subst (IsSynchronous c) (sym (back_number x sync)) sync in
      let from = subst (λ y. SameRegion c y (of_number label)) (back_number x sync) (linked_region number sync_x path) in
      let sync_r = sync_to x from in
      let own : label ≡ label_at labels label = are.linked number label inside below path in
      record {
        sync = sync_r;
        below = below;
        passes = both_true (ap not (buffer_of label sync_r)) (eq-eqb (label_at labels label) label (sym own));
        same = subst (SameRegion c (of_number label)) (back_number x sync) (linked_region label sync_r (linked_back pairs number path));
        from = from;
      }

  -- a root is no buffer, and its own label
  both_left : (a b : Bool) → (a && b) ≡ true → a ≡ true
  both_left true b e = refl
  both_left false b e = absurd (false≢true e)

  both_right : (a b : Bool) → (a && b) ≡ true → b ≡ true
  both_right true b e = e
  both_right false b e = absurd (false≢true e)

  not_true : (b : Bool) → not b ≡ true → b ≡ false
  not_true true e = absurd (false≢true e)
  not_true false e = refl

  root_no_buffer : (r : ℕ) → is_root c labels r ≡ true → is_buffer c r ≡ false
  root_no_buffer r e = not_true (is_buffer c r) (both_left (not (is_buffer c r)) (nat_eq (label_at labels r) r) e)

  root_label : (r : ℕ) → is_root c labels r ≡ true → label_at labels r ≡ r
  root_label r e = eqb-true (label_at labels r) r (both_right (not (is_buffer c r)) (nat_eq (label_at labels r) r) e)

  root_is_region : (r : ℕ) → r < length c.channels + c.nodes → is_root c labels r ≡ true → IsRegion c (of_number r)
  root_is_region r below e =
      let sync = is_sync r below (root_no_buffer r e) in
      record {
        synchronous = sync;
        least = λ y path.
            let sync_y = sync_to (of_number r) path in
            let linked_y = subst (λ n. Linked pairs n (automaton_number c y)) (number_back r) (region_linked (of_number r) sync path) in
            let inside = within y sync_y in
            let same = are.linked r (automaton_number c y) below inside linked_y in
            let low = are.least (automaton_number c y) inside in
            omega (arith, number_back r, root_label r e, same, low);
      }

  numbers_back : (xs : List ℕ) → map (automaton_number c) (map of_number xs) ≡ xs
  numbers_back [] = refl
  numbers_back (x ∷ xs) = ap (λ n. n ∷ map (automaton_number c) (map of_number xs)) (number_back x) ∙ ap (λ l. x ∷ l) (numbers_back xs)

  -- what a filter keeps passes and was there
  kept : (p : ℕ → Bool) (xs : List ℕ) (i x : ℕ) → slice_get (filter p xs) i ≡ Some x → (p x ≡ true) × ((j : ℕ) × (slice_get xs j ≡ Some x))
  kept p [] i x e = cc
  kept p (y ∷ ys) i x e = go (p y) refl i e (kept p ys)
    where
      go : (b : Bool) → p y ≡ b → (i : ℕ) → slice_get (cond b (y ∷ filter p ys) (filter p ys)) i ≡ Some x → ((i x : ℕ) → slice_get (filter p ys) i ≡ Some x → (p x ≡ true) × ((j : ℕ) × (slice_get ys j ≡ Some x))) → (p x ≡ true) × ((j : ℕ) × (slice_get (y ∷ ys) j ≡ Some x))
      go true is zero e more = let same : y ≡ x = cc in (ap p (sym same) ∙ is, (0, ap Some same))
      go true is (suc i) e more = let at = more i x e in (at.0, (suc at.1.0, at.1.1))
      go false is i e more = let at = more i x e in (at.0, (suc at.1.0, at.1.1))

  range_at : (n j x : ℕ) → slice_get (range_with_len 0 n) j ≡ Some x → x < n
  range_at n j x e =
      let inside = slice_get_within (range_with_len 0 n) j x e in
      let read = get_or_from_slice_get (range_with_len 0 n) j x 0 e in
      let len = length-range_with_len 0 n in
      let is = get_or-range_with_len 0 n j 0 (omega (arith, inside, len)) in
      omega (arith, read, is, inside, len)

  are_regions : AreRegions c roots
  unfolding roots least_ones
  are_regions = record {
    each = λ k d h.
        let len = length-map least_ones of_number in
        let inside : k < length least_ones = omega (arith, h, len) in
        let r = get_or least_ones k 0 in
        let at = kept (is_root c labels) (range_with_len 0 (length c.channels + c.nodes)) k r (slice_get-get_or least_ones k 0 inside) in
        subst (IsRegion c) (sym (get_or-map of_number least_ones k 0 d inside)) (root_is_region r (range_at (length c.channels + c.nodes) at.1.0 r at.1.1) at.0);
    rising = subst IsStrictlyIncreasing (sym (numbers_back least_ones)) (IsStrictlyIncreasing-filter (is_root c labels) (range_with_len 0 (length c.channels + c.nodes)) (range_rises (length c.channels + c.nodes)));
    every = λ x region.
        let at = root_at x region.synchronous in
        let number = automaton_number c x in
        let high = region.least (of_number (label_at labels number)) at.from in
        let low = are.least number (within x region.synchronous) in
        let same : label_at labels number ≡ number = omega (arith, high, low, number_back (label_at labels number)) in
        let place = stands number (within x region.synchronous) (subst (λ n. is_root c labels n ≡ true) same at.passes) in
        let found = place ∙ ap Some (back_number x region.synchronous) in
        (count_below (is_root c labels) number, slice_get_within roots (count_below (is_root c labels) number) x found, get_or_from_slice_get roots (count_below (is_root c labels) number) x x found);
  }
    where
      stands : (r : ℕ) → r < length c.channels + c.nodes → is_root c labels r ≡ true → slice_get (map of_number (filter (is_root c labels) (range_with_len 0 (length c.channels + c.nodes)))) (count_below (is_root c labels) r) ≡ Some (of_number r)
      stands r below e =
          slice_get-map of_number (filter (is_root c labels) (range_with_len 0 (length c.channels + c.nodes))) (count_below (is_root c labels) r) ∙ ap (option_map of_number) (place_of (is_root c labels) (length c.channels + c.nodes) r below e)

  -- each automaton is of the region of its label
  of_region : (x : Automaton) → IsSynchronous c x → IsOfRegion c roots x (count_below (is_root c labels) (label_at labels (automaton_number c x)))
  unfolding roots least_ones
  of_region x sync =
      let at = root_at x sync in
      let r = label_at labels (automaton_number c x) in
      record {
        root = of_number r;
        at = slice_get-map of_number (filter (is_root c labels) (range_with_len 0 (length c.channels + c.nodes))) (count_below (is_root c labels) r) ∙ ap (option_map of_number) (place_of (is_root c labels) (length c.channels + c.nodes) r at.below at.passes);
        same = at.same;
      }

  pub numbers_fit : (counts : List ℕ) → counts ≡ map (count_below (is_root c labels)) (range_with_len 0 (length labels + 1)) → All (λ label. label < length counts) labels
  numbers_fit counts counts_are k d h =
      let long = counts_long (is_root c labels) labels counts counts_are in
      let inside : k < length c.channels + c.nodes = omega (arith, h, are.len) in
      let low = are.least k inside in
      let same = get_or_default labels k 0 d h in
      omega (arith, long, low, h, same)

  -- the numbers, by counts
  module _ (counts numbers : List ℕ) (counts_are : counts ≡ map (count_below (is_root c labels)) (range_with_len 0 (length labels + 1))) (numbers_are : numbers ≡ map (label_at counts) labels) where
    count_at : (x : ℕ) → x < length labels + 1 → label_at counts x ≡ count_below (is_root c labels) x
    count_at x h =
        let len = length-range_with_len 0 (length labels + 1) in
        ap (λ l. label_at l x) counts_are ∙ (get_or-map (count_below (is_root c labels)) (range_with_len 0 (length labels + 1)) x 0 0 (omega (arith, h, len)) ∙ ap (count_below (is_root c labels)) (let at = get_or-range_with_len 0 (length labels + 1) x 0 h in let is : get_or (range_with_len 0 (length labels + 1)) x 0 ≡ x = omega (arith, at) in is))

    number_at : (x : ℕ) → x < length c.channels + c.nodes → label_at numbers x ≡ count_below (is_root c labels) (label_at labels x)
    number_at x h =
        let low = are.least x h in
        ap (λ l. label_at l x) numbers_are ∙ (get_or-map (label_at counts) labels x 0 0 (omega (arith, h, are.len)) ∙ count_at (label_at labels x) (omega (arith, low, h, are.len)))

    numbered : (x : Automaton) → IsSynchronous c x → IsOfRegion c roots x (label_at numbers (automaton_number c x))
    numbered x sync = subst (IsOfRegion c roots x) (sym (number_at (automaton_number c x) (within x sync))) (of_region x sync)

    node_numbered : (node : ℕ) → node < c.nodes → IsOfRegion c roots (OfNode node) (label_at numbers (length c.channels + node))
    node_numbered node h = numbered (OfNode node) h

    numbers_long : length numbers ≡ length c.channels + c.nodes
    numbers_long = ap length numbers_are ∙ (length-map labels (label_at counts) ∙ are.len)

    region_at_place : (x : ℕ) → x < length c.channels + c.nodes → slice_get (map (region_at c numbers) (range_with_len 0 (length numbers))) x ≡ Some (region_at c numbers x)
    region_at_place x h =
        let len = length-range_with_len 0 (length numbers) in
        let inside : x < length numbers = omega (arith, h, numbers_long) in
        let is = get_or-range_with_len 0 (length numbers) x 0 inside in
        let same : get_or (range_with_len 0 (length numbers)) x 0 ≡ x = omega (arith, is) in
        slice_get-map (region_at c numbers) (range_with_len 0 (length numbers)) x ∙ ap (option_map (region_at c numbers)) (slice_get-get_or (range_with_len 0 (length numbers)) x 0 (omega (arith, inside, len)) ∙ ap Some same)

    is_channel : (k : ℕ) → is_buffer c k ≡ true → k < length c.channels
    is_channel k e = ⊎_elim (λ below. below) (λ past. absurd (false≢true (sym (ap (λ o. option_map_or (λ (channel : Channel). is_fifo channel.kind) o false) (slice_get_past c.channels k past)) ∙ e))) (cases_lt k (length c.channels))

    own_name : (i : ℕ) → map (λ (cell : CellCut). cell.channel) (option_map_or (own_cell c numbers i) (slice_get c.channels i) []) ≡ cond (is_buffer c i) (i ∷ []) []
    own_name i = go (slice_get c.channels i)
      where
        of_kind : (channel : Channel) (b : Bool) → map (λ (cell : CellCut). cell.channel) (cond b (cell_cut c numbers i channel ∷ []) []) ≡ cond b (i ∷ []) []
        of_kind channel true = refl
        of_kind channel false = refl

        go : (o : Option Channel) → map (λ (cell : CellCut). cell.channel) (option_map_or (own_cell c numbers i) o []) ≡ cond (option_map_or (λ (channel : Channel). is_fifo channel.kind) o false) (i ∷ []) []
        go None = refl
        go (Some channel) = of_kind channel (is_fifo channel.kind)

    own_is : (i : ℕ) (o : Option Channel) → slice_get c.channels i ≡ o → (j : ℕ) (cell : CellCut) → slice_get (option_map_or (own_cell c numbers i) o []) j ≡ Some cell → (k : ℕ) × (channel : Channel) × (slice_get c.channels k ≡ Some channel) × (cell ≡ cell_cut c numbers k channel)
    own_is i None found j cell e = cc
    own_is i (Some channel) found j cell e = go (is_fifo channel.kind) j e
      where
        go : (b : Bool) (j : ℕ) → slice_get (cond b (cell_cut c numbers i channel ∷ []) []) j ≡ Some cell → (k : ℕ) × (ch : Channel) × (slice_get c.channels k ≡ Some ch) × (cell ≡ cell_cut c numbers k ch)
        go true zero e = (i, channel, found, sym (same_Some (cell_cut c numbers i channel) cell e))
        go true (suc j) e = cc
        go false j e = cc

    either_list : (xs ys : List CellCut) (j : ℕ) (cell : CellCut) → slice_get (xs ++ ys) j ≡ Some cell → ((i : ℕ) × (slice_get xs i ≡ Some cell)) ⊎ ((i : ℕ) × (slice_get ys i ≡ Some cell))
    either_list [] ys j cell e = inr (j, e)
    either_list (x ∷ xs) ys zero cell e = inl (0, e)
    either_list (x ∷ xs) ys (suc j) cell e = ⊎_elim (λ at. inl (suc at.0, at.1)) (λ at. inr at) (either_list xs ys j cell e)

    -- the cells
    cell_names : (i : ℕ) → map (λ (cell : CellCut). cell.channel) (cells_below c numbers i) ≡ filter (is_buffer c) (range_with_len 0 i)
    cell_names zero = refl
    cell_names (suc i) =
        subst (λ m. map (λ (cell : CellCut). cell.channel) (cells_below c numbers (suc i)) ≡ filter (is_buffer c) (range_with_len 0 m)) (add-one i)
        (map-append (λ (cell : CellCut). cell.channel) (cells_below c numbers i) (option_map_or (own_cell c numbers i) (slice_get c.channels i) [])
        ∙ (ap (λ l. l ++ map (λ (cell : CellCut). cell.channel) (option_map_or (own_cell c numbers i) (slice_get c.channels i) [])) (cell_names i) ∙ (ap (λ l. filter (is_buffer c) (range_with_len 0 i) ++ l) (own_name i) ∙ sym (one_more (is_buffer c) i))))

    each_cell : (i j : ℕ) (cell : CellCut) → slice_get (cells_below c numbers i) j ≡ Some cell → (k : ℕ) × (channel : Channel) × (slice_get c.channels k ≡ Some channel) × (cell ≡ cell_cut c numbers k channel)
    each_cell zero j cell e = cc
    each_cell (suc i) j cell e =
        ⊎_elim (λ at. each_cell i at.0 cell at.1) (λ at. own_is i (slice_get c.channels i) refl at.0 cell at.1)
        (either_list (cells_below c numbers i) (option_map_or (own_cell c numbers i) (slice_get c.channels i) []) j cell e)

    node_of_channel : (k : ℕ) (channel : Channel) → slice_get c.channels k ≡ Some channel → (channel.a < c.nodes) × (channel.b < c.nodes)
    node_of_channel k channel found =
        let inside = slice_get_within c.channels k channel found in
        let read = get_or_from_slice_get c.channels k channel channel found in
        (subst (λ (ch : Channel). ch.a < c.nodes) read (circuit.known.ends_a k channel inside), subst (λ (ch : Channel). ch.b < c.nodes) read (circuit.known.ends_b k channel inside))

    pub is_cut : (regions : ℕ) → regions ≡ label_at counts (length labels) → IsCut c (record {
      regions = regions;
      region_of = map (region_at c numbers) (range_with_len 0 (length numbers));
      cells = cells_below c numbers (length c.channels);
      port_region = map (λ port. label_at numbers (length c.channels + port.node)) c.ports;
    })
    unfolding roots least_ones
    is_cut regions regions_are = record {
      roots = roots;
      regions = are_regions;
      count = regions_are ∙ (count_at (length labels) (omega arith) ∙ (ap (count_below (is_root c labels)) are.len ∙ (sym (length_passing (is_root c labels) (length c.channels + c.nodes)) ∙ sym (length-map least_ones of_number))));
      automata = length-map (range_with_len 0 (length numbers)) (region_at c numbers) ∙ (length-range_with_len 0 (length numbers) ∙ numbers_long);
      region_of = λ x sync. (label_at numbers (automaton_number c x), region_at_place (automaton_number c x) (within x sync) ∙ ap (λ b. Some (cond b None (Some (label_at numbers (automaton_number c x))))) (no_buffer x sync), numbered x sync);
      buffers = λ k e. region_at_place k (omega (arith, is_channel k e)) ∙ ap (λ b. Some (cond b None (Some (label_at numbers k)))) e;
      cells = cell_names (length c.channels);
      each_cell = λ i cell e.
          let at = each_cell (length c.channels) i cell e in
          let nodes = node_of_channel at.0 at.1 at.2 in
          subst (IsCellCut c roots) (sym at.3) (record { channel = at.1; found = at.2; filler = node_numbered at.1.a nodes.0; taker = node_numbered at.1.b nodes.1 });
      ports = length-map c.ports (λ port. label_at numbers (length c.channels + port.node));
      port_region = λ p port found.
          let inside = slice_get_within c.ports p port found in
          let below = subst (λ (q : Port). q.node < c.nodes) (get_or_from_slice_get c.ports p port port found) (circuit.known.port_nodes p port inside) in
          (label_at numbers (length c.channels + port.node), slice_get-map (λ (q : Port). label_at numbers (length c.channels + q.node)) c.ports p ∙ ap (option_map (λ (q : Port). label_at numbers (length c.channels + q.node))) found, node_numbered port.node below);
    }
