-- the buffers of a region, found at the names of their first ends
use Rattle.std.proofs.Common.{◌≡◌, ℕ, ◌+◌, ◌-◌, ◌*◌, ◌/◌, ◌%◌, ◌<◌, ◌≤◌, ◌^◌, inl, inr, ⊎_elim, List, [], ◌∷◌, ◌++◌, cond, length, slice_get, Some, None, Option, Bool, true, false, nat_eq, refl, sym, ◌∙◌, ap, subst, arith}
use Rattle.std.specs.Prelude.{nat_lt, ◌||◌}
use Rattle.std.proofs.Math.Bool.{or-true}
use Rattle.std.proofs.lemmas.Option.{slice_get_within}
use Rattle.reo_net.specs.Checks.{IsChecked}
use Rattle.std.specs.Option.{option_map_or}
use Rattle.std.specs.List.Sorted.{IsStrictlyIncreasing}
use Rattle.std.proofs.lemmas.Bool.{cases_lt, lt-ltb, le-ltb, eq-eqb, ne_eqb, false≢true}
use Rattle.reo_net.specs.declared.circuit.Channel.{Channel}
use Rattle.reo_net.specs.declared.circuit.RawCircuit.{RawCircuit}
use Rattle.reo_net.specs.Names.{end_a, end_b}
use Rattle.reo_net.specs.Kind.{is_fifo}
use Rattle.reo_growth.specs.Lists.{Among}
use Rattle.reo_growth.proofs.ListLemmas.{append_gives, among_front, among_back}
use Rattle.reo_product.specs.RegionWeb.{name_at}
use Rattle.reo_product.specs.Places.{IsCell, AreCells, FindsCell, begins_buffer}
use Rattle.reo_product.proofs.BridgeLemmas.{one_place}

-- these are the buffers whose first ends are among the first names, so many
pub record AreFirstCells (c : RawCircuit) (names : List ℕ) (count : ℕ) (cells : List (ℕ × ℕ)) : Type 0 where
  pub only : (a b : ℕ) → Among (a, b) cells → IsCell c names a b
  pub all : (k : ℕ) (channel : Channel) → slice_get c.channels k ≡ Some channel → is_fifo channel.kind ≡ true
      → (a b : ℕ) → a < count → b < length names → name_at names a ≡ end_a c k → name_at names b ≡ end_b c k → Among (a, b) cells

-- the name is the first end of a buffer
abbrev pub IsFirstEnd : RawCircuit → ℕ → Type 0
IsFirstEnd c name = (k : ℕ) × (channel : Channel) × (slice_get c.channels k ≡ Some channel) × (is_fifo channel.kind ≡ true) × (name ≡ end_a c k)

module _ (c : RawCircuit) where
  abbrev held : Option Channel → Bool
  held o = option_map_or (λ (channel : Channel). is_fifo channel.kind) o false

  abbrev passes : ℕ → Bool
  passes name = nat_lt name (length c.ports) || nat_eq ((name - length c.ports) % 2) 1

  early_passes : (name : ℕ) → name < length c.ports → passes name ≡ true
  early_passes name h = ap (λ b. b || nat_eq ((name - length c.ports) % 2) 1) (lt-ltb name (length c.ports) h)

  odd_passes : (name : ℕ) → (name - length c.ports) % 2 ≡ 1 → passes name ≡ true
  odd_passes name e = ap (λ b. nat_lt name (length c.ports) || b) (eq-eqb ((name - length c.ports) % 2) 1 e) ∙ or-true (nat_lt name (length c.ports))

  pub first_end : (name : ℕ) → begins_buffer c name ≡ true → IsFirstEnd c name
  first_end name is = go (passes name) refl is
    where
      by_channel : length c.ports ≤ name → ((name - length c.ports) % 2 ≡ 1 → ⊥) → (o : Option Channel) → slice_get c.channels ((name - length c.ports) / 2) ≡ o → held o ≡ true → IsFirstEnd c name
      by_channel late even None found fifo = absurd (false≢true fifo)
      by_channel late even (Some channel) found fifo =
          let named : name ≡ length c.ports + 2 * ((name - length c.ports) / 2) = omega arith in
          ((name - length c.ports) / 2, channel, found, fifo, named)

      go : (b : Bool) → passes name ≡ b → cond b false (held (slice_get c.channels ((name - length c.ports) / 2))) ≡ true → IsFirstEnd c name
      go true passed fifo = absurd (false≢true fifo)
      go false stays fifo = ⊎_elim
          (λ early. absurd (false≢true (sym stays ∙ early_passes name early)))
          (λ late. by_channel late (λ odd. false≢true (sym stays ∙ odd_passes name odd)) (slice_get c.channels ((name - length c.ports) / 2)) refl fifo)
          (cases_lt name (length c.ports))

  pub begins : (k : ℕ) (channel : Channel) → slice_get c.channels k ≡ Some channel → is_fifo channel.kind ≡ true → begins_buffer c (end_a c k) ≡ true
  begins k channel found fifo =
      let late : length c.ports ≤ end_a c k = omega arith in
      let even : (end_a c k - length c.ports) % 2 ≡ 1 → ⊥ = λ e. omega arith in
      let half : (end_a c k - length c.ports) / 2 ≡ k = omega arith in
      let stays : passes (end_a c k) ≡ false = ap (λ b. b || nat_eq ((end_a c k - length c.ports) % 2) 1) (le-ltb (end_a c k) (length c.ports) late) ∙ ne_eqb ((end_a c k - length c.ports) % 2) 1 even in
      ap (λ b. cond b false (held (slice_get c.channels ((end_a c k - length c.ports) / 2)))) stays ∙ (ap (λ i. held (slice_get c.channels i)) half ∙ (ap held found ∙ fifo))

  pub first_end_fits : IsChecked c → (name : ℕ) → begins_buffer c name ≡ true → name + 1 < 2 ^ 32
  first_end_fits checked name is =
      let first = first_end name is in
      let within = slice_get_within c.channels first.0 first.1 first.2 in
      let channels = checked.few_channels in
      let ports = checked.few_ports in
      let named = first.4 in
      omega arith

  module _ (names : List ℕ) where
    -- one name more, without a buffer and with one
    first_more : (i : ℕ) (cells more : List (ℕ × ℕ)) → AreFirstCells c names i cells → ((a b : ℕ) → Among (a, b) cells → Among (a, b) more) → ((a b : ℕ) → Among (a, b) more → IsCell c names a b)
        → ((k : ℕ) (channel : Channel) → slice_get c.channels k ≡ Some channel → is_fifo channel.kind ≡ true → (b : ℕ) → b < length names → name_at names i ≡ end_a c k → name_at names b ≡ end_b c k → Among (i, b) more)
        → AreFirstCells c names (i + 1) more
    first_more i cells more before wider only here = record {
      only = only;
      all = λ k channel found fifo a b in_a in_b at_a at_b. ⊎_elim
          (λ early. wider a b (before.all k channel found fifo a b early in_b at_a at_b))
          (λ late.
          let same : i ≡ a = omega arith in
          subst (λ (x : ℕ). Among (x, b) more) same (here k channel found fifo b in_b (ap (name_at names) same ∙ at_a) at_b))
          (cases_lt a i);
    }

    pub first_none : (i : ℕ) (cells : List (ℕ × ℕ)) → i < length names → AreFirstCells c names i cells → FindsCell names (begins_buffer c (name_at names i)) (name_at names i) None → AreFirstCells c names (i + 1) cells
    first_none i cells in_i before finds =
        first_more i cells cells before (λ a b at. at) before.only
        (λ k channel found fifo b in_b at_a at_b. absurd (finds (ap (begins_buffer c) at_a ∙ begins k channel found fifo) i b in_i in_b refl (at_b ∙ ap (λ n. n + 1) (sym at_a))))

    pub first_some : IsStrictlyIncreasing names → (i : ℕ) (cells : List (ℕ × ℕ)) (cell : ℕ × ℕ) → i < length names → AreFirstCells c names i cells
        → FindsCell names (begins_buffer c (name_at names i)) (name_at names i) (Some cell) → AreFirstCells c names (i + 1) (cells ++ cell ∷ [])
    first_some rising i cells cell in_i before finds =
        first_more i cells (cells ++ cell ∷ []) before (λ a b at. among_front (a, b) cells (cell ∷ []) at) only
        (λ k channel found fifo b in_b at_a at_b. among_back (i, b) cells (cell ∷ [])
        (inl (pair i b (one_place names rising cell.0 i finds.1 in_i finds.3) (one_place names rising cell.1 b finds.2 in_b (finds.4 ∙ (ap (λ n. n + 1) at_a ∙ sym at_b))))))
      where
        pair : (p q : ℕ) → cell.0 ≡ p → cell.1 ≡ q → cell ≡ (p, q)
        pair p q e f = ap (λ x. (x, cell.1)) e ∙ ap (λ y. (p, y)) f

        new : (p q : ℕ) → cell ≡ (p, q) → IsCell c names p q
        new p q e =
            let first = first_end (name_at names i) finds.0 in
            record {
              in_a = subst (λ x. x < length names) (ap (λ z. z.0) e) finds.1;
              in_b = subst (λ x. x < length names) (ap (λ z. z.1) e) finds.2;
              k = first.0;
              channel = first.1;
              found = first.2;
              fifo = first.3;
              at_a = ap (name_at names) (sym (ap (λ z. z.0) e)) ∙ (finds.3 ∙ first.4);
              at_b = ap (name_at names) (sym (ap (λ z. z.1) e)) ∙ (finds.4 ∙ ap (λ n. n + 1) first.4);
            }

        only : (p q : ℕ) → Among (p, q) (cells ++ cell ∷ []) → IsCell c names p q
        only p q at = elim (append_gives (p, q) cells (cell ∷ []) at) [ inl old ↦ before.only p q old | inr last ↦ elim last [ inl e ↦ new p q e | inr never ↦ elim never [ ] ] ]

    pub cells_are : (cells : List (ℕ × ℕ)) → AreFirstCells c names (length names) cells → AreCells c names (length c.channels) cells
    cells_are cells are = record { only = are.only; all = λ k channel below found fifo a b in_a in_b at_a at_b. are.all k channel found fifo a b in_a in_b at_a at_b }
