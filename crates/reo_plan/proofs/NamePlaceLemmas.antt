-- The places of a firing's names, which rise, are those at all cells and ports.
use Rattle.std.proofs.Common.{◌≡◌, ℕ, zero, suc, ◌+◌, ◌-◌, ◌*◌, ◌/◌, ◌%◌, ◌<◌, ◌≤◌, inl, inr, List, [], ◌∷◌, ◌++◌, length, take, slice_get, filter, filter_map, Option, Some, None, is_some, Bool, true, false, not, cond, nat_eq, ◌&&◌, All, refl, sym, ap, ◌∙◌, arith}
use Rattle.std.specs.List.{range_with_len, cons_option}
use Rattle.std.specs.List.Sorted.{IsStrictlyIncreasing}
use Rattle.std.specs.Option.{option_map, option_map_or, option_and_then}
use Rattle.std.proofs.lemmas.Bool.{false≢true, lt-ltb, le-ltb}
use Rattle.std.proofs.lemmas.List.{append-nil}
use Rattle.std.proofs.lemmas.List.Elements.{filter_map-append}
use Rattle.std.proofs.lemmas.List.Kept.{IsStrictlyIncreasing-filter}
use Rattle.reo_net.specs.declared.circuit.Channel.{Channel}
use Rattle.reo_net.specs.declared.circuit.Port.{Port}
use Rattle.reo_net.specs.declared.circuit.RawCircuit.{RawCircuit}
use Rattle.reo_net.specs.Kind.{is_fifo}
use Rattle.reo_net.specs.Names.{name_count, end_a, end_b}
use Rattle.reo_net.specs.Stand.{is_put}
use Rattle.reo_net.specs.Steps.{cell_of}
use Rattle.reo_automata.proofs.HasLemmas.{range_rises}
use Rattle.reo_growth.specs.Lists.{has, Among}
use Rattle.reo_growth.proofs.ListLemmas.{same_tests, has_among, among_has, all_among, among_filter, filter_gives, among_range, range_gives, range_split}
use Rattle.reo_cut.specs.Cut.{is_buffer}
use Rattle.reo_product.proofs.GrowthLemmas.{rising_same}
use Rattle.reo_flow.specs.Places.{placed, places_with, value_at_port, at_cells, at_ports}
use Rattle.reo_plan.specs.inside.Cells.{end_of}
use Rattle.reo_plan.specs.inside.Placed.{cell_in, cell_at, port_in, port_at, slot_at_place, placed_slots}
use Rattle.reo_plan.specs.inside.Rows.{slot_in}
use Rattle.reo_plan.proofs.CellLemmas.{next_cell}
use Rattle.reo_plan.proofs.PlaceSlotLemmas.{take_more}

module _ {X : Type 0} (g : ℕ → Option X) where
  -- one name more
  pub mapped_more : (names : List ℕ) (i name : ℕ) → slice_get names i ≡ Some name → filter_map g (take (i + 1) names) ≡ filter_map g (take i names) ++ cons_option (g name) []
  mapped_more names i name found = ap (filter_map g) (take_more names i name found) ∙ filter_map-append g (take i names) (name ∷ [])

  none_of : (xs : List ℕ) → ((n : ℕ) → Among n xs → g n ≡ None) → filter_map g xs ≡ []
  none_of [] none = refl
  none_of (x ∷ xs) none = ap (λ o. cons_option o (filter_map g xs)) (none x (inl refl)) ∙ none_of xs (λ n later. none n (inr later))

  chosen_of : (p : ℕ → Bool) → ((n : ℕ) → p n ≡ false → g n ≡ None) → (xs : List ℕ) → filter_map g (filter p xs) ≡ filter_map g xs
  chosen_of p none [] = refl
  chosen_of p none (x ∷ xs) = go (p x) refl (chosen_of p none xs)
    where
      go : (b : Bool) → p x ≡ b → filter_map g (filter p xs) ≡ filter_map g xs → filter_map g (cond b (x ∷ filter p xs) (filter p xs)) ≡ cons_option (g x) (filter_map g xs)
      go true is later = ap (cons_option (g x)) later
      go false is later = later ∙ sym (ap (λ o. cons_option o (filter_map g xs)) (none x is))

  -- the names that rise are those below the bound that are among them
  same_names : (names : List ℕ) (bound : ℕ) → IsStrictlyIncreasing names → All (λ n. n < bound) names → names ≡ filter (has names) (range_with_len 0 bound)
  same_names names bound rising below =
      let all = range_with_len 0 bound in
      let chosen = filter (has names) all in
      rising_same names chosen rising (IsStrictlyIncreasing-filter (has names) all (range_rises bound))
      (λ n. same_tests (has names n) (has chosen n)
      (λ h.
      let within : n < bound = all_among (λ m. m < bound) names below n (has_among names n h) in
      among_has chosen n (among_filter (has names) all n (among_range 0 bound n (omega arith) (omega (arith, within))) h))
      (λ h. (filter_gives (has names) all n (has_among chosen n h)).1))

  of_all : (names : List ℕ) (bound : ℕ) → IsStrictlyIncreasing names → All (λ n. n < bound) names → ((n : ℕ) → has names n ≡ false → g n ≡ None) → filter_map g names ≡ filter_map g (range_with_len 0 bound)
  of_all names bound rising below none = ap (filter_map g) (same_names names bound rising below) ∙ chosen_of (has names) none (range_with_len 0 bound)

  split_at : (a m n : ℕ) → filter_map g (range_with_len a (m + n)) ≡ filter_map g (range_with_len a m) ++ filter_map g (range_with_len (a + m) n)
  split_at a m n = ap (filter_map g) (range_split a m n) ∙ filter_map-append g (range_with_len a m) (range_with_len (a + m) n)

none_past : {A : Type 0} (xs : List A) (i : ℕ) → length xs ≤ i → slice_get xs i ≡ None
none_past [] i past = refl
none_past (x ∷ xs) zero past = absurd (omega (arith, past))
none_past (x ∷ xs) (suc i) past = none_past xs i (omega (arith, past))

slot_placed : (place : ℕ) (slot : Option ℕ) (rest : List (ℕ × ℕ)) → cons_option (option_map (λ s. (place, s)) slot) rest ≡ placed place slot rest
slot_placed place None rest = refl
slot_placed place (Some slot) rest = refl

no_slot : (place : Option ℕ) → slot_at_place place None ≡ None
no_slot None = refl
no_slot (Some place) = refl

module _ (c : RawCircuit) (table : List (Option ℕ)) where
  module _ (puts : Bool) where
    g : ℕ → Option (ℕ × ℕ)
    g name = slot_at_place (port_at c puts name) (slot_in table name)

    port_placed : (p : ℕ) (port : Port) (rest : List (ℕ × ℕ)) → cons_option (slot_at_place (port_in puts p port) (slot_in table p)) rest ≡ placed p (value_at_port puts (slot_in table) p port) rest
    port_placed p port rest = go (cond puts (is_put port.way) (not (is_put port.way)))
      where
        go : (b : Bool) → cons_option (slot_at_place (cond b (Some p) None) (slot_in table p)) rest ≡ placed p (cond b (slot_in table p) None) rest
        go true = slot_placed p (slot_in table p) rest
        go false = refl

    ports_from : (first : ℕ) (ports : List Port) → ((i : ℕ) (port : Port) → slice_get ports i ≡ Some port → slice_get c.ports (first + i) ≡ Some port)
        → filter_map g (range_with_len first (length ports)) ≡ places_with (value_at_port puts (slot_in table)) first ports
    unfolding g
    ports_from first [] at = refl
    ports_from first (port ∷ ports) at =
        ap (λ o. cons_option (slot_at_place (option_and_then (port_in puts first) o) (slot_in table first)) (filter_map g (range_with_len (first + 1) (length ports))))
        (ap (slice_get c.ports) (let e : first ≡ first + 0 = omega arith in e) ∙ at 0 port refl)
        ∙ ap (cons_option (slot_at_place (port_in puts first port) (slot_in table first)))
        (ports_from (first + 1) ports (λ i p found. ap (slice_get c.ports) (let e : first + 1 + i ≡ first + suc i = omega arith in e) ∙ at (suc i) p found))
        ∙ port_placed first port (places_with (value_at_port puts (slot_in table)) (first + 1) ports)

  module _ (at_b : Bool) where
    h : ℕ → Option (ℕ × ℕ)
    h name = slot_at_place (cell_at c at_b name) (slot_in table name)

    f : ℕ → ℕ → Option ℕ
    f cell k = slot_in table (end_of c at_b k)

    -- the cell at an end of a channel
    at_end : (name k : ℕ) (is_a : Bool) (channel : Channel) → length c.ports ≤ name → (name - length c.ports) / 2 ≡ k → nat_eq ((name - length c.ports) % 2) 0 ≡ is_a → slice_get c.channels k ≡ Some channel
        → cell_at c at_b name ≡ cell_in c at_b k is_a channel
    at_end name k is_a channel past half even found =
        ap (λ b. cond b None (option_and_then (cell_in c at_b ((name - length c.ports) / 2) (nat_eq ((name - length c.ports) % 2) 0)) (slice_get c.channels ((name - length c.ports) / 2)))) (le-ltb name (length c.ports) past)
        ∙ ap (λ b. option_and_then (cell_in c at_b ((name - length c.ports) / 2) b) (slice_get c.channels ((name - length c.ports) / 2))) even
        ∙ ap (λ n. option_and_then (cell_in c at_b n is_a) (slice_get c.channels n)) half ∙ ap (option_and_then (cell_in c at_b k is_a)) found

    ends_placed : (k a : ℕ) (rest : List ℕ) (side fifo : Bool) → a ≡ end_a c k
        → cons_option (slot_at_place (cond (cond side false true && fifo) (Some (cell_of c k)) None) (slot_in table a))
        (cons_option (slot_at_place (cond (cond side true false && fifo) (Some (cell_of c k)) None) (slot_in table (a + 1))) (places_with (λ cell j. slot_in table (end_of c side j)) (cond fifo (cell_of c k + 1) (cell_of c k)) rest))
        ≡ places_with (λ cell j. slot_in table (end_of c side j)) (cell_of c k) (cond fifo (k ∷ rest) rest)
    ends_placed k a rest true true is =
        slot_placed (cell_of c k) (slot_in table (a + 1)) (places_with (λ cell j. slot_in table (end_b c j)) (cell_of c k + 1) rest)
        ∙ ap (λ n. placed (cell_of c k) (slot_in table (n + 1)) (places_with (λ cell j. slot_in table (end_b c j)) (cell_of c k + 1) rest)) is
    ends_placed k a rest false true is =
        slot_placed (cell_of c k) (slot_in table a) (places_with (λ cell j. slot_in table (end_a c j)) (cell_of c k + 1) rest)
        ∙ ap (λ n. placed (cell_of c k) (slot_in table n) (places_with (λ cell j. slot_in table (end_a c j)) (cell_of c k + 1) rest)) is
    ends_placed k a rest true false is = refl
    ends_placed k a rest false false is = refl

    cells_from : (k : ℕ) (channels : List Channel) → ((i : ℕ) (channel : Channel) → slice_get channels i ≡ Some channel → slice_get c.channels (k + i) ≡ Some channel)
        → filter_map h (range_with_len (length c.ports + 2 * k) (2 * length channels)) ≡ places_with f (cell_of c k) (filter (is_buffer c) (range_with_len k (length channels)))
    unfolding h f
    cells_from k [] at = refl
    cells_from k (channel ∷ channels) at =
        let a = length c.ports + 2 * k in
        let n = 2 * length channels in
        let rest = filter (is_buffer c) (range_with_len (k + 1) (length channels)) in
        let here : slice_get c.channels k ≡ Some channel = ap (slice_get c.channels) (let e : k ≡ k + 0 = omega arith in e) ∙ at 0 channel refl in
        let buffer : is_buffer c k ≡ is_fifo channel.kind = ap (λ o. option_map_or (λ (ch : Channel). is_fifo ch.kind) o false) here in
        let next : cell_of c (k + 1) ≡ cond (is_fifo channel.kind) (cell_of c k + 1) (cell_of c k) =
        next_cell c k channel here in
        let even : nat_eq ((a - length c.ports) % 2) 0 ≡ true = ap (λ r. nat_eq r 0) (let e : (a - length c.ports) % 2 ≡ 0 = omega arith in e) in
        let odd : nat_eq ((a + 1 - length c.ports) % 2) 0 ≡ false = ap (λ r. nat_eq r 0) (let e : (a + 1 - length c.ports) % 2 ≡ 1 = omega arith in e) in
        let first : h a ≡ slot_at_place (cell_in c at_b k true channel) (slot_in table a) = ap (λ o. slot_at_place o (slot_in table a)) (at_end a k true channel (omega arith) (omega arith) even here) in
        let second : h (a + 1) ≡ slot_at_place (cell_in c at_b k false channel) (slot_in table (a + 1)) =
        ap (λ o. slot_at_place o (slot_in table (a + 1))) (at_end (a + 1) k false channel (omega arith) (omega arith) odd here) in
        ap (λ m. filter_map h (range_with_len a m)) (let e : 2 * suc (length channels) ≡ suc (suc n) = omega arith in e)
        ∙ ap (λ m. cons_option (h a) (cons_option (h (a + 1)) (filter_map h (range_with_len m n)))) (let e : a + 1 + 1 ≡ length c.ports + 2 * (k + 1) = omega arith in e)
        ∙ ap (λ l. cons_option (h a) (cons_option (h (a + 1)) l)) (cells_from (k + 1) channels (λ i ch found. ap (slice_get c.channels) (let e : k + 1 + i ≡ k + suc i = omega arith in e) ∙ at (suc i) ch found))
        ∙ ap (λ m. cons_option (h a) (cons_option (h (a + 1)) (places_with f m rest))) next
        ∙ ap (λ o. cons_option o (cons_option (h (a + 1)) (places_with f (cond (is_fifo channel.kind) (cell_of c k + 1) (cell_of c k)) rest))) first
        ∙ ap (λ o. cons_option (slot_at_place (cell_in c at_b k true channel) (slot_in table a)) (cons_option o (places_with f (cond (is_fifo channel.kind) (cell_of c k + 1) (cell_of c k)) rest))) second
        ∙ ends_placed k a rest at_b (is_fifo channel.kind) refl
        ∙ ap (λ b. places_with f (cell_of c k) (cond b (k ∷ rest) rest)) (sym buffer)

  module _ (names : List ℕ) (rising : IsStrictlyIncreasing names) (below : All (λ name. name < name_count c) names) (named : (name : ℕ) → is_some (slot_in table name) ≡ has names name) where
    absent : (place : Option ℕ) (name : ℕ) → has names name ≡ false → slot_at_place place (slot_in table name) ≡ None
    absent place name none = go (slot_in table name) (named name ∙ none)
      where
        go : (o : Option ℕ) → is_some o ≡ false → slot_at_place place o ≡ None
        go None is = no_slot place
        go (Some slot) is = absurd (false≢true (sym is))

    -- the cells at the names
    pub cells_placed : (at_b : Bool) → placed_slots (cell_at c at_b) table names ≡ at_cells c (λ k. slot_in table (end_of c at_b k))
    unfolding h f
    cells_placed at_b =
        let ports = length c.ports in
        let n = 2 * length c.channels in
        of_all (h at_b) names (name_count c) rising below (λ name none. absent (cell_at c at_b name) name none)
        ∙ split_at (h at_b) 0 ports n
        ∙ ap (λ l. l ++ filter_map (h at_b) (range_with_len (0 + ports) n))
        (none_of (h at_b) (range_with_len 0 ports)
        (λ name at.
        ap (λ b. slot_at_place (cond b None (option_and_then (cell_in c at_b ((name - ports) / 2) (nat_eq ((name - ports) % 2) 0)) (slice_get c.channels ((name - ports) / 2)))) (slot_in table name))
        (lt-ltb name ports (omega (arith, (range_gives 0 ports name at).1)))))
        ∙ ap (λ m. filter_map (h at_b) (range_with_len m n)) (let e : 0 + ports ≡ ports + 2 * 0 = omega arith in e)
        ∙ cells_from at_b 0 c.channels (λ i channel found. ap (slice_get c.channels) (let e : 0 + i ≡ i = omega arith in e) ∙ found)

    -- the ports among the names
    pub ports_placed : (puts : Bool) → placed_slots (port_at c puts) table names ≡ at_ports c puts (slot_in table)
    unfolding g
    ports_placed puts =
        let ports = length c.ports in
        let n = 2 * length c.channels in
        of_all (g puts) names (name_count c) rising below (λ name none. absent (port_at c puts name) name none)
        ∙ split_at (g puts) 0 ports n
        ∙ ap (λ l. filter_map (g puts) (range_with_len 0 ports) ++ l)
        (none_of (g puts) (range_with_len (0 + ports) n)
        (λ name at. ap (λ o. slot_at_place (option_and_then (port_in puts name) o) (slot_in table name)) (none_past c.ports name (omega (arith, (range_gives (0 + ports) n name at).0)))))
        ∙ append-nil (filter_map (g puts) (range_with_len 0 ports))
        ∙ ports_from puts 0 c.ports (λ i port found. ap (slice_get c.ports) (let e : 0 + i ≡ i = omega arith in e) ∙ found)
