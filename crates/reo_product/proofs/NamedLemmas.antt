-- Lists of places as lists of names.
use Rattle.std.proofs.Common.{◌≡◌, ℕ, ◌+◌, ◌<◌, ◌⊎◌, inl, inr, List, [], ◌∷◌, length, map, get_or, Bool, true, ◌&&◌, refl, sym, ◌∙◌, ap, subst, arith}
use Rattle.std.specs.Prelude.{nat_lt}
use Rattle.std.specs.List.{AllByRecursion}
use Rattle.std.specs.Ordering.{nat_cmp, ordering_then}
use Rattle.std.specs.declared.cmp.Ordering.TheVariants.{Less, Equal, Greater}
use Rattle.std.specs.Cmp.{nat_cmp_is}
use Rattle.std.specs.Cmp.Lexicographic.{slice_cmp}
use Rattle.std.specs.List.Sorted.{IsStrictlyIncreasing, IsStrictlySortedBy}
use Rattle.std.proofs.lemmas.Bool.{and_parts, cases_order, lt-ltb, ltb-true}
use Rattle.std.proofs.lemmas.List.{length-map, get_or-map}
use Rattle.std.proofs.lemmas.List.Kept.{AllPairs-from_increasing}
use Rattle.reo_net.specs.declared.circuit.RawCircuit.{RawCircuit}
use Rattle.reo_net.specs.Regions.{Automaton, IsConnectedFiring}
use Rattle.reo_growth.specs.declared.web.Web.{Web}
use Rattle.reo_growth.specs.Lists.{has, Among, AtMostOne}
use Rattle.reo_growth.specs.Web.{IsConnected}
use Rattle.reo_growth.specs.Growth.{growth_count}
use Rattle.reo_growth.specs.declared.table.TableRefusal.{TableRefusal}
use Rattle.reo_growth.specs.declared.table.TableRefusal.TheVariants.{TooLarge as WebTooLarge, NoMemory as WebNoMemory}
use Rattle.reo_growth.specs.Table.{table_cmp, AreFirings as AreWebFirings, HasFirings as HasWebFirings, IsTableOf as IsWebTable, Refuses as WebRefuses}
use Rattle.reo_growth.proofs.ListLemmas.{same_tests, has_among, among_has, among_map, map_gives, among_at}
use Rattle.reo_product.specs.RegionWeb.{name_at, IsRegionWeb}
use Rattle.reo_product.specs.Table.{IsFiring, AreFirings, HasFirings, IsTableOf, Refuses}
use Rattle.reo_product.specs.Growth.{HasGrowth}
use Rattle.reo_product.specs.Refusal.{refusal_of}
use Rattle.reo_product.specs.Laws.{Matches}
use Rattle.reo_product.proofs.BridgeLemmas.{one_place, of_place, of_name, to_region, from_region}

pub once_injective : {A B : Type 0} (f : A → B) (rows : List A) → ((r s : A) → Among r rows → Among s rows → f r ≡ f s → r ≡ s) → ((x : A) → AtMostOne (λ o. o ≡ x) rows) → (y : B) → AtMostOne (λ o. o ≡ y) (map f rows)
once_injective f [] inject once y = tt
once_injective f (r ∷ rs) inject once y = (
  λ is z at also.
      let m = map_gives f rs z at in
      let same = inject r m.0 (inl refl) (inr m.1) (is ∙ sym also ∙ sym m.2) in
      (once r).0 refl m.0 m.1 (sym same),
  once_injective f rs (λ r s in_r in_s. inject r s (inr in_r) (inr in_s)) (λ x. (once x).1) y,
)

module _ (names : List ℕ) (rising : IsStrictlyIncreasing names) where
  named : List ℕ → List ℕ
  named row = map (name_at names) row

  Within : List ℕ → Type 0
  Within row = (place : ℕ) → Among place row → place < length names

  inject : (r s : List ℕ) → Within r → Within s → named r ≡ named s → r ≡ s
  unfolding named Within
  inject [] [] in_r in_s is = refl
  inject [] (y ∷ ys) in_r in_s is = absurd (cc)
  inject (x ∷ xs) [] in_r in_s is = absurd (cc)
  inject (x ∷ xs) (y ∷ ys) in_r in_s is =
      let head : name_at names x ≡ name_at names y = cc in
      let tail : map (name_at names) xs ≡ map (name_at names) ys = cc in
      let first = one_place names rising x y (in_r x (inl refl)) (in_s y (inl refl)) head in
      let rest = inject xs ys (λ p at. in_r p (inr at)) (λ p at. in_s p (inr at)) tail in
      cc

  rises : (p q : ℕ) → p < length names → q < length names → p < q → name_at names p < name_at names q
  rises p q in_p in_q less = AllPairs-from_increasing names rising p q 0 less in_q

  same_cmp : (p q : ℕ) → p < length names → q < length names → nat_cmp (name_at names p) (name_at names q) ≡ nat_cmp p q
  same_cmp p q in_p in_q = go (cases_order p q)
    where
      go : (p ≡ q) ⊎ ((p < q) ⊎ (q < p)) → nat_cmp (name_at names p) (name_at names q) ≡ nat_cmp p q
      go (inl e) = sym (nat_cmp_is (name_at names p) (name_at names q) Equal (ap (name_at names) e)) ∙ nat_cmp_is p q Equal e
      go (inr (inl less)) = sym (nat_cmp_is (name_at names p) (name_at names q) Less (rises p q in_p in_q less)) ∙ nat_cmp_is p q Less less
      go (inr (inr more)) = sym (nat_cmp_is (name_at names p) (name_at names q) Greater (rises q p in_q in_p more)) ∙ nat_cmp_is p q Greater more

  lists_cmp : (r s : List ℕ) → Within r → Within s → slice_cmp nat_cmp (named r) (named s) ≡ slice_cmp nat_cmp r s
  unfolding named Within
  lists_cmp [] [] in_r in_s = refl
  lists_cmp [] (y ∷ ys) in_r in_s = refl
  lists_cmp (x ∷ xs) [] in_r in_s = refl
  lists_cmp (x ∷ xs) (y ∷ ys) in_r in_s =
      ap (λ o. ordering_then o (slice_cmp nat_cmp (map (name_at names) xs) (map (name_at names) ys))) (same_cmp x y (in_r x (inl refl)) (in_s y (inl refl)))
      ∙ ap (ordering_then (nat_cmp x y)) (lists_cmp xs ys (λ p at. in_r p (inr at)) (λ p at. in_s p (inr at)))

  rows_cmp : (r s : List ℕ) → Within r → Within s → table_cmp (named r) (named s) ≡ table_cmp r s
  unfolding named
  rows_cmp r s in_r in_s =
      ap (λ n. ordering_then (nat_cmp n (length (map (name_at names) r))) (slice_cmp nat_cmp (map (name_at names) r) (map (name_at names) s))) (length-map s (name_at names))
      ∙ ap (λ n. ordering_then (nat_cmp (length s) n) (slice_cmp nat_cmp (map (name_at names) r) (map (name_at names) s))) (length-map r (name_at names))
      ∙ ap (ordering_then (nat_cmp (length s) (length r))) (lists_cmp r s in_r in_s)

  strict_named : (rows : List (List ℕ)) → ((row : List ℕ) → Among row rows → Within row) → IsStrictlySortedBy table_cmp rows → IsStrictlySortedBy table_cmp (map named rows)
  unfolding IsStrictlySortedBy named
  strict_named [] within strict = tt
  strict_named (r ∷ rs) within strict = (heads rs (λ s at. within s (inr at)) strict.0, strict_named rs (λ s at. within s (inr at)) strict.1)
    where
      heads : (ys : List (List ℕ)) → ((s : List ℕ) → Among s ys → Within s) → AllByRecursion (λ s. table_cmp r s ≡ Less) ys → AllByRecursion (λ s. table_cmp (named r) s ≡ Less) (map named ys)
      heads [] all less = tt
      heads (y ∷ ys) all less = (rows_cmp r y (within r (inl refl)) (all y (inl refl)) ∙ less.0, heads ys (λ s at. all s (inr at)) less.1)

  pub rising_named : (row : List ℕ) → ((place : ℕ) → Among place row → place < length names) → IsStrictlyIncreasing row → IsStrictlyIncreasing (map (name_at names) row)
  unfolding named Within
  rising_named row within rises_row k h =
      let long = length-map row (name_at names) in
      let below : k + 1 < length row = omega arith in
      let one = get_or-map (name_at names) row k 0 0 (omega arith) in
      let two = get_or-map (name_at names) row (k + 1) 0 0 below in
      let less = rises (get_or row k 0) (get_or row (k + 1) 0) (within (get_or row k 0) (among_at row k 0 (omega arith))) (within (get_or row (k + 1) 0) (among_at row (k + 1) 0 below)) (rises_row k below) in
      omega arith

module _ (c : RawCircuit) (root : Automaton) (names : List ℕ) (w : Web) (web : IsRegionWeb c root names w) where
  -- the places of a connected set are places of names
  within_of : (places : ℕ → Bool) → IsConnected w places → (place : ℕ) → places place ≡ true → place < length names
  within_of places connected place h = let i = connected.within place h in (of_place c root names w web i.0 place i.1).0

  row_within : (row : List ℕ) → IsConnected w (has row) → (place : ℕ) → Among place row → place < length names
  row_within row connected place at = within_of (has row) connected place (among_has row place at)

  matches_row : (row : List ℕ) → IsConnected w (has row) → Matches names (has row) (has (map (name_at names) row))
  matches_row row connected = record {
    at = λ place below. same_tests (has row place) (has (map (name_at names) row) (name_at names place))
        (λ h. among_has (map (name_at names) row) (name_at names place) (among_map (name_at names) row place (has_among row place h)))
        (λ h. let m = map_gives (name_at names) row (name_at names place) (has_among (map (name_at names) row) (name_at names place) h) in
        let same = one_place names web.rising m.0 place (row_within row connected m.0 m.1) below m.2 in
        among_has row place (subst (λ p. Among p row) same m.1));
    within = λ place h. row_within row connected place (has_among row place h);
    every = λ name h. let m = map_gives (name_at names) row name (has_among (map (name_at names) row) name h) in (m.0, row_within row connected m.0 m.1, m.2);
  }

  places_of : (ℕ → Bool) → ℕ → Bool
  places_of fires place = nat_lt place (length names) && fires (name_at names place)

  matches_fires : (fires : ℕ → Bool) → IsConnectedFiring c root fires → Matches names (places_of fires) fires
  unfolding places_of
  matches_fires fires firing = record {
    at = λ place below. ap (λ b. b && fires (name_at names place)) (lt-ltb place (length names) below);
    within = λ place h. ltb-true place (length names) (and_parts (nat_lt place (length names)) (fires (name_at names place)) h).0;
    every = λ name h.
        let x = firing.within name h in
        let o = of_name c root names w web x.0 name x.1 x.2 in
        (o.3.0, (of_place c root names w web o.0 o.3.0 o.3.1).0, o.3.2);
  }

  pub firings_named : (rows : List (List ℕ)) → AreWebFirings w rows → AreFirings c root (map (map (name_at names)) rows)
  unfolding named Within
  firings_named rows all = record {
    only = λ list at.
        let m = map_gives (map (name_at names)) rows list at in
        let f = all.only m.0 m.1 in
        subst (IsFiring c root) m.2 (record {
          connected = to_region c root names w web (has m.0) (has (map (name_at names) m.0)) (matches_row m.0 f.connected) f.connected;
          rising = rising_named names web.rising m.0 (row_within m.0 f.connected) f.rising;
        });
    all = λ fires firing.
        let match = matches_fires fires firing in
        let f = all.all (places_of fires) (from_region c root names w web (places_of fires) fires match firing) in (
          map (name_at names) f.0,
          among_map (map (name_at names)) rows f.0 f.1,
          λ name. same_tests (has (map (name_at names) f.0) name) (fires name)
              (λ h.
              let m = map_gives (name_at names) f.0 name (has_among (map (name_at names) f.0) name h) in
              let here = sym (f.2 m.0) ∙ among_has f.0 m.0 m.1 in
              ap fires (sym m.2) ∙ sym (match.at m.0 (match.within m.0 here)) ∙ here)
              (λ h.
              let p = match.every name h in
              let here = f.2 p.0 ∙ match.at p.0 p.1 ∙ ap fires p.2 ∙ h in
              among_has (map (name_at names) f.0) name (subst (λ n. Among n (map (name_at names) f.0)) p.2 (among_map (name_at names) f.0 p.0 (has_among f.0 p.0 here)))),
        );
    once = once_injective (map (name_at names)) rows (λ r s in_r in_s is. inject names web.rising r s (row_within r (all.only r in_r).connected) (row_within s (all.only s in_s).connected) is) all.once;
  }

  pub table_named : (growth : ℕ) (rows : List (List ℕ)) → HasGrowth c root (growth_count w) → IsWebTable w growth rows → IsTableOf c root growth (map (map (name_at names)) rows)
  unfolding named Within
  table_named growth rows grows table = record {
    counted = subst (HasGrowth c root) (sym table.counted) grows;
    grown = table.grown;
    listed = firings_named rows table.listed;
    few = let long = length-map rows (map (name_at names)) in let h = table.few in omega arith;
    ordered = strict_named names web.rising rows (λ row at. row_within row (table.listed.only row at).connected) table.ordered;
  }

  pub count_named : (count : ℕ) → HasWebFirings w count → HasFirings c root count
  count_named count has_them = record {
    firings = map (map (name_at names)) has_them.firings;
    are_all = firings_named has_them.firings has_them.are_all;
    are_so_many = length-map has_them.firings (map (name_at names)) ∙ has_them.are_so_many;
  }

-- the refusal of a region by that of its web
pub refused_named : (c : RawCircuit) (root : Automaton) (names : List ℕ) (w : Web) → IsRegionWeb c root names w → HasGrowth c root (growth_count w) → (region : ℕ) (why : TableRefusal) → WebRefuses w why → Refuses c root region (refusal_of region why)
refused_named c root names w web grows region (WebTooLarge count) (inl over) =
    (refl, inl (growth_count w, grows, over.0, over.1))
refused_named c root names w web grows region (WebTooLarge count) (inr many) =
    (refl, inr (growth_count w, grows, many.0, many.1, count_named c root names w web count many.2))
refused_named c root names w web grows region WebNoMemory refused = tt
