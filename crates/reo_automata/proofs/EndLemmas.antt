-- which names are at a node, by the ports and channels
use Rattle.std.proofs.Common.{◌≡◌, ℕ, ◌+◌, ◌-◌, ◌/◌, ◌%◌, ◌≤◌, cond, Bool, true, false, [], ◌∷◌, ◌++◌, length, filter, slice_get, nat_eq, Option, Some, ap, ◌∙◌, arith}
use Rattle.std.specs.List.{range_with_len}
use Rattle.std.specs.Option.{option_map, option_map_or}
use Rattle.std.proofs.lemmas.Bool.{lt-ltb, le-ltb, eq-eqb, ne_eqb}
use Rattle.std.proofs.lemmas.Option.{slice_get_within}
use Rattle.std.proofs.lemmas.List.Elements.{filter-append}
use Rattle.reo_net.specs.declared.circuit.Channel.{Channel}
use Rattle.reo_net.specs.declared.circuit.Port.{Port}
use Rattle.reo_net.specs.declared.circuit.RawCircuit.{RawCircuit}
use Rattle.reo_net.specs.declared.stand.Stand.{Stand}
use Rattle.reo_net.specs.Names.{end_a, end_b}
use Rattle.reo_net.specs.Stand.{stand_of_port, stand_of_end}
use Rattle.reo_automata.specs.Links.{is_at}
use Rattle.reo_automata.proofs.HasLemmas.{range_more}

-- a list that is chosen from a range, with one number more
pub chosen_more : (p : ℕ → Bool) (n : ℕ) (b : Bool) → p n ≡ b → filter p (range_with_len 0 (n + 1)) ≡ filter p (range_with_len 0 n) ++ cond b (n ∷ []) []
chosen_more p n b is =
    ap (filter p) (range_more n) ∙ filter-append p (range_with_len 0 n) (n ∷ []) ∙ ap (λ a. filter p (range_with_len 0 n) ++ cond a (n ∷ []) []) is

module _ (c : RawCircuit) (node : ℕ) where
  abbrev here : Option Stand → Bool
  here o = option_map_or (λ (stand : Stand). nat_eq stand.node node) o false

  abbrev by_case : ℕ → Bool → Option Stand
  by_case name b =
      cond b (option_map stand_of_port (slice_get c.ports name)) (option_map (stand_of_end (nat_eq ((name - length c.ports) % 2) 0)) (slice_get c.channels ((name - length c.ports) / 2)))

  pub port_is_at : (name : ℕ) (port : Port) → slice_get c.ports name ≡ Some port → is_at c node name ≡ nat_eq port.node node
  port_is_at name port found =
      ap (λ b. here (by_case name b)) (lt-ltb name (length c.ports) (slice_get_within c.ports name port found)) ∙ ap (λ o. here (option_map stand_of_port o)) found

  end_is_at : (name k : ℕ) (b : Bool) (channel : Channel) → length c.ports ≤ name → nat_eq ((name - length c.ports) % 2) 0 ≡ b → (name - length c.ports) / 2 ≡ k → slice_get c.channels k ≡ Some channel
      → is_at c node name ≡ here (Some (stand_of_end b channel))
  end_is_at name k b channel late way half found =
      ap (λ b. here (by_case name b)) (le-ltb name (length c.ports) late)
      ∙ (ap (λ w. here (option_map (stand_of_end w) (slice_get c.channels ((name - length c.ports) / 2)))) way
      ∙ (ap (λ i. here (option_map (stand_of_end b) (slice_get c.channels i))) half ∙ ap (λ o. here (option_map (stand_of_end b) o)) found))

  a_is_at : (k : ℕ) (channel : Channel) → slice_get c.channels k ≡ Some channel → is_at c node (end_a c k) ≡ nat_eq channel.a node
  a_is_at k channel found =
      let even : (end_a c k - length c.ports) % 2 ≡ 0 = omega arith in
      let half : (end_a c k - length c.ports) / 2 ≡ k = omega arith in
      end_is_at (end_a c k) k true channel (omega arith) (eq-eqb ((end_a c k - length c.ports) % 2) 0 even) half found

  b_is_at : (k : ℕ) (channel : Channel) → slice_get c.channels k ≡ Some channel → is_at c node (end_a c k + 1) ≡ nat_eq channel.b node
  b_is_at k channel found =
      let odd : (end_b c k - length c.ports) % 2 ≡ 0 → ⊥ = λ e. omega arith in
      let half : (end_b c k - length c.ports) / 2 ≡ k = omega arith in
      end_is_at (end_b c k) k false channel (omega arith) (ne_eqb ((end_b c k - length c.ports) % 2) 0 odd) half found

  -- both ends of one channel more
  pub ends_more : (k : ℕ) (channel : Channel) → slice_get c.channels k ≡ Some channel
      → filter (is_at c node) (range_with_len 0 (end_a c (k + 1)))
      ≡ (filter (is_at c node) (range_with_len 0 (end_a c k)) ++ cond (nat_eq channel.a node) (end_a c k ∷ []) []) ++ cond (nat_eq channel.b node) ((end_a c k + 1) ∷ []) []
  ends_more k channel found =
      let long : end_a c (k + 1) ≡ end_a c k + 1 + 1 = omega arith in
      ap (λ n. filter (is_at c node) (range_with_len 0 n)) long
      ∙ (chosen_more (is_at c node) (end_a c k + 1) (nat_eq channel.b node) (b_is_at k channel found)
      ∙ ap (λ l. l ++ cond (nat_eq channel.b node) ((end_a c k + 1) ∷ []) []) (chosen_more (is_at c node) (end_a c k) (nat_eq channel.a node) (a_is_at k channel found)))
