-- The web of a region, put together.
use Rattle.std.proofs.Common.{◌≡◌, ℕ, zero, suc, ◌+◌, ◌-◌, cond, ◌<◌, ◌≤◌, ◌^◌, inl, inr, ⊎_elim, List, [], ◌∷◌, ◌++◌, length, get_or, slice_get, All, Contains, Some, None, Bool, true, false, eqb, refl, sym, ◌∙◌, ap, subst, arith}
use Rattle.std.specs.Prelude.{flat_map, nat_lt}
use Rattle.std.specs.List.{dedup}
use Rattle.std.specs.Ordering.{nat_cmp}
use Rattle.std.specs.List.Sorted.{IsPermutation, IsSorted, IsStrictlyIncreasing}
use Rattle.std.proofs.lemmas.Bool.{cases_lt, ltb-true}
use Rattle.std.proofs.lemmas.Option.{slice_get-get_or, slice_get_within, get_or_from_slice_get}
use Rattle.std.proofs.lemmas.List.Kept.{Contains-dedup_nat, Contains-from_dedup, AllPairs-from_increasing}
use Rattle.std.proofs.lemmas.List.Sorted.{Contains-permutation, IsPermutation-sym}
use Rattle.std.proofs.lemmas.Map.Keys.{IsStrictlyIncreasing-dedup}
use Rattle.reo_net.specs.declared.circuit.Channel.{Channel}
use Rattle.reo_net.specs.declared.circuit.RawCircuit.{RawCircuit}
use Rattle.reo_net.specs.Names.{end_a, end_b, name_count}
use Rattle.reo_net.specs.Kind.{is_fifo}
use Rattle.reo_net.specs.Checks.{IsChecked}
use Rattle.reo_net.specs.Regions.{Automaton, OfChannel, OfNode, HasName}
use Rattle.reo_automata.specs.declared.template.Template.{Template}
use Rattle.reo_automata.specs.Template.{automaton_of, IsTemplate}
use Rattle.reo_growth.specs.declared.web.Automaton.{Automaton as WebAutomaton}
use Rattle.reo_growth.specs.declared.web.Web.{Web}
use Rattle.reo_growth.specs.Lists.{has, Among}
use Rattle.reo_growth.specs.Web.{IsWeb}
use Rattle.reo_growth.specs.Table.{AreFirings as AreWebFirings}
use Rattle.reo_growth.specs.Marks.{AreBelow}
use Rattle.reo_growth.proofs.ListLemmas.{has_among, among_has, among_at, among_place, among_flat_map, flat_map_gives, append_gives, among_front, among_back}
use Rattle.reo_product.specs.RegionWeb.{name_at, IsWebAutomaton, IsRegionWeb}
use Rattle.reo_product.specs.Places.{AreKnown, ArePaired, IsPlacedTemplate, IsKnownTemplate, AreTemplates, AreNamesOf, IsCell, AreCells, FindsCell, AreRegionAutomata}
use Rattle.reo_net.proofs.NameLemmas.{name_below}
use Rattle.reo_product.proofs.BridgeLemmas.{one_place}
use Rattle.reo_product.proofs.PlaceLemmas.{paired_length}
use Rattle.reo_product.proofs.MadeLemmas.{made_web}
use Rattle.reo_product.proofs.PlacedLemmas.{among_index, index_among, left_partner, placed_automaton}

contains_among : (xs : List ℕ) (x : ℕ) → Contains xs x → Among x xs
contains_among xs x h = subst (λ y. Among y xs) h.2 (among_at xs h.0 x h.1)

among_contains : (xs : List ℕ) (x : ℕ) → Among x xs → Contains xs x
among_contains xs x h = let p = among_place xs x h in (p.0, p.1, p.2 x)

pub names_are : (templates : List Template) (all sorted names : List ℕ) → all ≡ flat_map (λ t. t.names) templates → IsPermutation all sorted → IsSorted nat_cmp sorted → names ≡ dedup eqb sorted → AreNamesOf templates names
names_are templates all sorted names is there order kept = record {
  rising = subst IsStrictlyIncreasing (sym kept) (IsStrictlyIncreasing-dedup sorted order);
  every = λ t name at its.
      let in_all = subst (Among name) (sym is) (among_flat_map (λ (t : Template). t.names) templates t name at (has_among t.names name its)) in
      let in_sorted = Contains-permutation all sorted name there (among_contains all name in_all) in
      among_has names name (subst (Among name) (sym kept) (contains_among (dedup eqb sorted) name (Contains-dedup_nat sorted name in_sorted)));
  only = λ name h.
      let in_sorted = Contains-from_dedup eqb sorted name (among_contains (dedup eqb sorted) name (subst (Among name) kept (has_among names name h))) in
      let in_all = contains_among all name (Contains-permutation sorted all name (IsPermutation-sym all sorted there) in_sorted) in
      let f = flat_map_gives (λ (t : Template). t.names) templates name (subst (Among name) is in_all) in
      (f.0, f.1, among_has f.0.names name f.2);
}

-- a rising list of numbers below a bound is no longer than the bound
pub rising_bound : (xs : List ℕ) (bound : ℕ) → IsStrictlyIncreasing xs → ((k : ℕ) → k < length xs → get_or xs k 0 < bound) → length xs ≤ bound
rising_bound xs bound rising below = go (length xs) refl
  where
    at_least : (k : ℕ) → k < length xs → k ≤ get_or xs k 0
    at_least zero h = omega arith
    at_least (suc k) h = let r = at_least k (omega arith) in let less = AllPairs-from_increasing xs rising k (suc k) 0 (omega arith) h in omega arith

    go : (n : ℕ) → length xs ≡ n → length xs ≤ bound
    go zero is = omega arith
    go (suc n) is = let last = at_least n (omega arith) in let less = below n (omega arith) in omega arith

known_from : (names list : List ℕ) → ((name : ℕ) → has list name ≡ true → has names name ≡ true) → AreKnown names list
known_from names list h k d within =
    let p = among_place names (get_or list k d) (has_among names (get_or list k d) (h (get_or list k d) (among_has list (get_or list k d) (among_at list k d within)))) in
    (p.0, p.1, p.2 0)

module _ (c : RawCircuit) (numbers : List ℕ) (templates : List Template) (are : AreTemplates c numbers templates) (names : List ℕ) (names_of : AreNamesOf templates names) where
  is_template : (i : ℕ) (t : Template) → slice_get templates i ≡ Some t → (x : ℕ) × (slice_get numbers i ≡ Some x) × IsTemplate c (automaton_of c x) t
  is_template i t at = left_partner (λ x. IsTemplate c (automaton_of c x)) numbers templates are i t at

  pub templates_known : All (IsKnownTemplate names) templates
  templates_known i d within =
      let t = get_or templates i d in
      let at = slice_get-get_or templates i d within in
      let x = is_template i t at in
      let in_templates = index_among templates i t at in
      let known = λ (name : ℕ) (h : has t.names name ≡ true). names_of.every t name in_templates h in
      record {
        known = known_from names t.names known;
        links_known = λ j e in_links.
            let link = get_or t.links j e in
            known_from names link.fires (λ name h. known name ((x.2.named name).1 (x.2.own j link (slice_get-get_or t.links j e in_links) name h)));
      }

-- one channel more, without a cell and with one
cells_less : (c : RawCircuit) (names : List ℕ) (i : ℕ) (cells more : List (ℕ × ℕ)) (channel : Channel) → slice_get c.channels i ≡ Some channel → AreCells c names i cells
    → ((a b : ℕ) → Among (a, b) cells → Among (a, b) more) → ((a b : ℕ) → Among (a, b) more → IsCell c names a b)
    → (is_fifo channel.kind ≡ true → (a b : ℕ) → a < length names → b < length names → name_at names a ≡ end_a c i → name_at names b ≡ end_b c i → Among (a, b) more)
    → AreCells c names (i + 1) more
cells_less c names i cells more channel found before wider only here = record {
  only = only;
  all = λ k other less at fifo a b in_a in_b at_a at_b. ⊎_elim
      (λ early. wider a b (before.all k other early at fifo a b in_a in_b at_a at_b))
      (λ late.
      let same : i ≡ k = omega arith in
      let one : channel ≡ other = some_same (sym found ∙ ap (slice_get c.channels) same ∙ at) in
      here (ap (λ (x : Channel). is_fifo x.kind) one ∙ fifo) a b in_a in_b (at_a ∙ ap (end_a c) (sym same)) (at_b ∙ ap (end_b c) (sym same)))
      (cases_lt k i);
}
  where
    some_same : {x y : Channel} → Some x ≡ Some y → x ≡ y
    some_same e = cc

pub cells_none : (c : RawCircuit) (names : List ℕ) (i a : ℕ) (cells : List (ℕ × ℕ)) (channel : Channel) → slice_get c.channels i ≡ Some channel → a ≡ end_a c i → AreCells c names i cells
    → FindsCell names (is_fifo channel.kind) a None → AreCells c names (i + 1) cells
cells_none c names i a cells channel found is before finds =
    cells_less c names i cells cells channel found before (λ a b at. at) before.only
    (λ fifo p q in_p in_q at_p at_q. absurd (finds fifo p q in_p in_q (at_p ∙ sym is) (at_q ∙ ap (λ n. n + 1) (sym is))))

pub cells_some : (c : RawCircuit) (names : List ℕ) → IsStrictlyIncreasing names → (i a : ℕ) (cells : List (ℕ × ℕ)) (cell : ℕ × ℕ) (channel : Channel) → slice_get c.channels i ≡ Some channel → a ≡ end_a c i → AreCells c names i cells
    → FindsCell names (is_fifo channel.kind) a (Some cell) → AreCells c names (i + 1) (cells ++ cell ∷ [])
cells_some c names rising i a cells cell channel found is before finds =
    cells_less c names i cells (cells ++ cell ∷ []) channel found before (λ p q at. among_front (p, q) cells (cell ∷ []) at) only
    (λ fifo p q in_p in_q at_p at_q. among_back (p, q) cells (cell ∷ [])
    (inl (pair cell p q (one_place names rising cell.0 p finds.1 in_p (finds.3 ∙ is ∙ sym at_p)) (one_place names rising cell.1 q finds.2 in_q (finds.4 ∙ ap (λ n. n + 1) is ∙ sym at_q)))))
  where
    pair : (cell : ℕ × ℕ) (p q : ℕ) → cell.0 ≡ p → cell.1 ≡ q → cell ≡ (p, q)
    pair cell p q e f = ap (λ x. (x, cell.1)) e ∙ ap (λ y. (p, y)) f

    new : (p q : ℕ) → cell ≡ (p, q) → IsCell c names p q
    new p q e = record {
      in_a = subst (λ x. x < length names) (ap (λ z. z.0) e) finds.1;
      in_b = subst (λ x. x < length names) (ap (λ z. z.1) e) finds.2;
      k = i;
      channel = channel;
      found = found;
      fifo = finds.0;
      at_a = ap (name_at names) (sym (ap (λ z. z.0) e)) ∙ finds.3 ∙ is;
      at_b = ap (name_at names) (sym (ap (λ z. z.1) e)) ∙ finds.4 ∙ ap (λ n. n + 1) is;
    }

    only : (p q : ℕ) → Among (p, q) (cells ++ cell ∷ []) → IsCell c names p q
    only p q at = elim (append_gives (p, q) cells (cell ∷ []) at) [ inl old ↦ before.only p q old | inr last ↦ elim last [ inl e ↦ new p q e | inr never ↦ elim never [ ] ] ]

-- a name of a numbered automaton is a name of the circuit
pub has_name_below : (c : RawCircuit) (n name : ℕ) → HasName c (automaton_of c n) name → name < name_count c
has_name_below c n name its = go (nat_lt n (length c.channels)) refl its
  where
    go : (b : Bool) → nat_lt n (length c.channels) ≡ b → HasName c (cond b (OfChannel n) (OfNode (n - length c.channels))) name → name < name_count c
    go true is (inl a) = let below = ltb-true n (length c.channels) is in omega arith
    go true is (inr b) = let below = ltb-true n (length c.channels) is in omega arith
    go false is its = name_below c (n - length c.channels) name its

-- the numbers of names and automata
module _ (c : RawCircuit) (checked : IsChecked c) (numbers : List ℕ) (templates : List Template) (are : AreTemplates c numbers templates) (names : List ℕ) (names_of : AreNamesOf templates names) where
  name_bound : (name : ℕ) → has names name ≡ true → name < name_count c
  name_bound name h =
      let t = names_of.only name h in
      let i = among_index templates t.0 t.1 in
      let x = is_template c numbers templates are names names_of i.0 t.0 i.1 in
      has_name_below c x.0 name ((x.2.named name).0 t.2)

  pub few_names : length names ≤ 1152
  few_names =
      let bound = rising_bound names (name_count c) names_of.rising (λ k h. name_bound (get_or names k 0) (among_has names (get_or names k 0) (among_at names k 0 h))) in
      let channels = checked.few_channels in
      let ports = checked.few_ports in
      omega arith

-- the web of a region
pub region_web : (c : RawCircuit) (root : Automaton) (numbers : List ℕ) (templates : List Template) (names : List ℕ) (automata : List WebAutomaton) (cells : List (ℕ × ℕ)) (size : ℕ)
    → AreRegionAutomata c root numbers → AreTemplates c numbers templates → AreNamesOf templates names → ArePaired (IsPlacedTemplate names) templates automata → AreCells c names (length c.channels) cells → size ≡ length names
    → IsRegionWeb c root names (record { automata = automata; cells = cells; names = size })
region_web c root numbers templates names automata cells size region are names_of placed are_cells sized = record {
  rising = names_of.rising;
  size = sized;
  region = numbers;
  in_order = region.rising;
  as_many = paired_length (IsPlacedTemplate names) templates automata placed ∙ paired_length (λ x. IsTemplate c (automaton_of c x)) numbers templates are;
  only = region.only;
  all = region.all;
  each = λ i a at.
      let t = left_partner (IsPlacedTemplate names) templates automata placed i a at in
      let x = left_partner (λ x. IsTemplate c (automaton_of c x)) numbers templates are i t.0 t.1 in
      let is : x.0 ≡ get_or numbers i 0 = sym (get_or_from_slice_get numbers i x.0 0 x.1) in
      subst (λ n. IsWebAutomaton c names (automaton_of c n) a) is (placed_automaton names names_of.rising c (automaton_of c x.0) t.0 x.2 a t.2);
  cells = λ a b at. let e = are_cells.only a b at in (e.in_a, e.in_b, (e.k, e.channel, e.found, e.fifo, e.at_a, e.at_b));
  all_cells = λ k channel found fifo a b in_a in_b at_a at_b. are_cells.all k channel (slice_get_within c.channels k channel found) found fifo a b in_a in_b at_a at_b;
}

pub few_numbers : (c : RawCircuit) → IsChecked c → (numbers : List ℕ) → IsStrictlyIncreasing numbers → All (λ x. x < length c.channels + c.nodes) numbers → length numbers < 2 ^ 26
few_numbers c checked numbers rising below =
    let bound = rising_bound numbers (length c.channels + c.nodes) rising (λ k h. below k 0 h) in
    let channels = checked.few_channels in
    let nodes = checked.circuit.few_nodes in
    omega arith

-- it is a web
pub web_is_web : (c : RawCircuit) (numbers : List ℕ) (templates : List Template) (names : List ℕ) (automata : List WebAutomaton) (cells : List (ℕ × ℕ)) (size : ℕ)
    → AreTemplates c numbers templates → AreNamesOf templates names → ArePaired (IsPlacedTemplate names) templates automata → AreCells c names (length c.channels) cells → size ≡ length names
    → IsWeb (record { automata = automata; cells = cells; names = size })
web_is_web c numbers templates names automata cells size are names_of placed are_cells sized =
    made_web c names (record { automata = automata; cells = cells; names = size }) sized
    (λ i a at.
    let t = left_partner (IsPlacedTemplate names) templates automata placed i a at in
    let x = left_partner (λ x. IsTemplate c (automaton_of c x)) numbers templates are i t.0 t.1 in
    (automaton_of c x.0, placed_automaton names names_of.rising c (automaton_of c x.0) t.0 x.2 a t.2))
    (λ a b at. let e = are_cells.only a b at in (e.in_a, e.in_b))

-- the places in the rows of a table are places of the web
pub rows_within : (w : Web) → IsWeb w → (rows : List (List ℕ)) → AreWebFirings w rows → All (AreBelow w.names) rows
rows_within w is_web rows all k d in_rows j e in_row =
    let row = get_or rows k d in
    let f = all.only row (among_at rows k d in_rows) in
    let place = get_or row j e in
    let x = f.connected.within place (among_has row place (among_at row j e in_row)) in
    is_web.below x.0 place x.1
