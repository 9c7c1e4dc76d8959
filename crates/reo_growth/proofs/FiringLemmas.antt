-- The lists with no open automaton, as the connected firings; and their rows in table order.
use Rattle.std.proofs.Common.{◌≡◌, ℕ, ◌+◌, ◌-◌, ◌<◌, ◌≤◌, ◌⊎◌, inl, inr, List, [], ◌∷◌, length, map, Bool, true, false, cond, refl, sym, ◌∙◌, ap, subst, arith}
use Rattle.std.specs.Prelude.{filter}
use Rattle.std.specs.List.{range_with_len, AllByRecursion}
use Rattle.std.specs.Ordering.{nat_cmp, ordering_then}
use Rattle.std.specs.declared.cmp.Ordering.TheVariants.{Less, Equal, Greater}
use Rattle.std.specs.Cmp.{nat_cmp_is}
use Rattle.std.specs.Cmp.Lexicographic.{slice_cmp}
use Rattle.std.specs.List.Sorted.{IsStrictlyIncreasing, IsStrictlySortedBy}
use Rattle.std.proofs.lemmas.Bool.{cases_order}
use Rattle.std.proofs.lemmas.List.{length-map}
use Rattle.std.proofs.lemmas.List.FromFn.{length-range_with_len, get_or-range_with_len}
use Rattle.std.proofs.lemmas.List.Kept.{IsStrictlyIncreasing-filter}
use Rattle.reo_growth.specs.declared.web.Web.{Web}
use Rattle.reo_growth.specs.declared.found.Row.{Row}
use Rattle.reo_growth.specs.Lists.{has, Among, AtMostOne}
use Rattle.reo_growth.specs.Web.{IsWeb, IsConnected}
use Rattle.reo_growth.specs.Growth.{Vertex, fired, places, vertices_of, vertices, is_complete, firing_names, complete_ones}
use Rattle.reo_growth.specs.Laws.{StandsFor}
use Rattle.reo_growth.specs.declared.found.Found.{Found}
use Rattle.reo_growth.specs.Table.{table_cmp, IsFiring, AreFirings, HasFirings, IsTableOf}
use Rattle.reo_growth.specs.Found.{seen, row_of_vertex}
use Rattle.reo_growth.specs.Search.{row_cmp, names_in, AreSortedRows, Covers}
use Rattle.reo_growth.proofs.ListLemmas.{same_tests, among_map, map_gives, among_filter, filter_gives, flat_map_gives, has_among, among_has, among_range}
use Rattle.reo_growth.proofs.VertexLemmas.{fired_gives}
use Rattle.reo_growth.proofs.SoundLemmas.{sound_of_root, grows_only}
use Rattle.reo_growth.proofs.InsideLemmas.{grows_all}
use Rattle.reo_growth.proofs.OnceLemmas.{grows_once}

once_weaker : {A : Type 0} (P Q : A → Type 0) (xs : List A) → ((x : A) → Among x xs → Q x → P x) → AtMostOne P xs → AtMostOne Q xs
once_weaker P Q [] h one = tt
once_weaker P Q (x ∷ xs) h one = (λ q y at other. one.0 (h x (inl refl) q) y at (h y (inr at) other), once_weaker P Q xs (λ y at. h y (inr at)) one.1)

once_map : {A B : Type 0} (f : A → B) (Q : B → Type 0) (xs : List A) → AtMostOne (λ x. Q (f x)) xs → AtMostOne Q (map f xs)
once_map f Q [] one = tt
once_map f Q (x ∷ xs) one =
    (λ q y at other. let m = map_gives f xs y at in one.0 q m.0 m.1 (subst Q (sym m.2) other), once_map f Q xs one.1)

once_kept : {A : Type 0} (p : A → Bool) (P : A → Type 0) (xs : List A) → AtMostOne P xs → AtMostOne P (filter p xs)
once_kept p P [] one = tt
once_kept p P (y ∷ ys) one = go (p y) (once_kept p P ys one.1)
  where
    go : (b : Bool) → AtMostOne P (filter p ys) → AtMostOne P (cond b (y ∷ filter p ys) (filter p ys))
    go true rest = (λ holds z at other. one.0 holds z (filter_gives p ys z at).0 other, rest)
    go false rest = rest

range_rises : (a n : ℕ) → IsStrictlyIncreasing (range_with_len a n)
range_rises a n k h =
    let long = length-range_with_len a n in
    let one = get_or-range_with_len a n k 0 (omega arith) in
    let two = get_or-range_with_len a n (k + 1) 0 (omega arith) in
    omega arith

module _ (w : Web) (is_web : IsWeb w) where
  vertex_below : (v : Vertex) → Among v (vertices w) → (name : ℕ) → fired v name ≡ true → name < w.names
  unfolding vertices
  vertex_below v at name fires =
      let r = flat_map_gives (vertices_of w) (places w) v at in
      let sound = sound_of_root w is_web r.0 v r.2 in
      let f = fired_gives v name fires in
      is_web.below f.0.automaton name (is_web.own f.0.automaton f.0.fires (sound.its f.0 f.1) name f.2)

  pub names_fire : (v : Vertex) → Among v (vertices w) → (name : ℕ) → has (firing_names w v) name ≡ fired v name
  unfolding firing_names
  names_fire v at name = same_tests (has (firing_names w v) name) (fired v name)
      (λ h. (filter_gives (fired v) (range_with_len 0 w.names) name (has_among (firing_names w v) name h)).1)
      (λ fires. among_has (firing_names w v) name (among_filter (fired v) (range_with_len 0 w.names) name (among_range 0 w.names name (omega arith) (let b = vertex_below v at name fires in omega arith)) fires))

  same_set : (F G : ℕ → Bool) → ((name : ℕ) → F name ≡ G name) → IsConnected w F → IsConnected w G
  same_set F G same = subst (IsConnected w) (λ i name. same name i)

  pub listing : List (List ℕ)
  listing = map (firing_names w) (complete_ones w (vertices w))

  pub are_firings : AreFirings w (map (firing_names w) (complete_ones w (vertices w)))
  unfolding firing_names
  are_firings = record {
    only = λ names at.
        let m = map_gives (firing_names w) (complete_ones w (vertices w)) names at in
        let c = filter_gives (is_complete w) (vertices w) m.0 m.1 in
        subst (IsFiring w) m.2 (record {
          connected = same_set (fired m.0) (has (firing_names w m.0)) (λ name. sym (names_fire m.0 c.0 name)) (grows_only w is_web m.0 c.0 c.1);
          rising = IsStrictlyIncreasing-filter (fired m.0) (range_with_len 0 w.names) (range_rises 0 w.names);
        });
    all = λ F connected.
        let g = grows_all w is_web F connected in
        (firing_names w g.0, among_map (firing_names w) (complete_ones w (vertices w)) g.0 (among_filter (is_complete w) (vertices w) g.0 g.1 g.2.complete), λ name. names_fire g.0 g.1 name ∙ g.2.fires name);
    once = λ names. once_map (firing_names w) (λ other. other ≡ names) (complete_ones w (vertices w))
        (once_weaker (StandsFor w (has names)) (λ v. firing_names w v ≡ names) (complete_ones w (vertices w))
        (λ v at is. let c = filter_gives (is_complete w) (vertices w) v at in
        record { complete = c.1; fires = λ name. sym (names_fire v c.0 name) ∙ ap (λ ns. has ns name) is })
        (once_kept (is_complete w) (StandsFor w (has names)) (vertices w) (grows_once w is_web (has names))));
  }

-- rows in order are lists in table order
nat_equal : (n : ℕ) → nat_cmp n n ≡ Equal
nat_equal n = sym (nat_cmp_is n n Equal refl)

list_equal : (xs : List ℕ) → slice_cmp nat_cmp xs xs ≡ Equal
list_equal [] = refl
list_equal (x ∷ xs) = ap (λ o. ordering_then o (slice_cmp nat_cmp xs xs)) (nat_equal x) ∙ list_equal xs

table_equal : (names : List ℕ) → table_cmp names names ≡ Equal
table_equal names = ap (λ o. ordering_then o (slice_cmp nat_cmp names names)) (nat_equal (length names)) ∙ list_equal names

-- lists in strict order are different ones
pub once_strict : (names : List ℕ) (lists : List (List ℕ)) → IsStrictlySortedBy table_cmp lists → AtMostOne (λ other. other ≡ names) lists
unfolding IsStrictlySortedBy
once_strict names [] strict = tt
once_strict names (x ∷ xs) strict = (λ is y at also. less_absurd (all_at (λ y. table_cmp x y ≡ Less) xs strict.0 y at) (is ∙ sym also), once_strict names xs strict.1)
  where
    all_at : (P : List ℕ → Type 0) (xs : List (List ℕ)) → AllByRecursion P xs → (y : List ℕ) → Among y xs → P y
    all_at P [] all y at = elim at [ ]
    all_at P (z ∷ zs) all y (inl is) = subst P is all.0
    all_at P (z ∷ zs) all y (inr later) = all_at P zs all.1 y later

    less_absurd : {y : List ℕ} → table_cmp x y ≡ Less → x ≡ y → ⊥
    less_absurd {y} less same = let e : table_cmp x y ≡ Equal = ap (λ z. table_cmp x z) (sym same) ∙ table_equal x in cc

record IsRanked (size : ℕ) (row : Row) : Type 0 where
  fewer : row.fewer ≡ size - length row.names.items
  within : length row.names.items ≤ size

back_cmp : (size a b : ℕ) → a ≤ size → b ≤ size → nat_cmp (size - a) (size - b) ≡ nat_cmp b a
back_cmp size a b in_a in_b = go (cases_order a b)
  where
    go : (a ≡ b) ⊎ ((a < b) ⊎ (b < a)) → nat_cmp (size - a) (size - b) ≡ nat_cmp b a
    go (inl same) = sym (nat_cmp_is (size - a) (size - b) Equal (omega arith)) ∙ nat_cmp_is b a Equal (sym same)
    go (inr (inl less)) = sym (nat_cmp_is (size - a) (size - b) Greater (omega arith)) ∙ nat_cmp_is b a Greater less
    go (inr (inr more)) = sym (nat_cmp_is (size - a) (size - b) Less (omega arith)) ∙ nat_cmp_is b a Less more

ranked_cmp : (size : ℕ) (one other : Row) → IsRanked size one → IsRanked size other → row_cmp one other ≡ table_cmp (names_in one) (names_in other)
ranked_cmp size one other r s =
    ap (λ o. ordering_then o (slice_cmp nat_cmp one.names.items other.names.items))
    (ap (λ n. nat_cmp n other.fewer) r.fewer ∙ ap (λ n. nat_cmp (size - length one.names.items) n) s.fewer ∙ back_cmp size (length one.names.items) (length other.names.items) r.within s.within)

strict_lists : (size : ℕ) (rows : List Row) → ((row : Row) → Among row rows → IsRanked size row) → IsStrictlySortedBy row_cmp rows → IsStrictlySortedBy table_cmp (map names_in rows)
unfolding IsStrictlySortedBy
strict_lists size [] ranked strict = tt
strict_lists size (x ∷ xs) ranked strict = (heads xs (λ y at. ranked y (inr at)) strict.0, strict_lists size xs (λ y at. ranked y (inr at)) strict.1)
  where
    heads : (ys : List Row) → ((y : Row) → Among y ys → IsRanked size y) → AllByRecursion (λ y. row_cmp x y ≡ Less) ys → AllByRecursion (λ names. table_cmp (names_in x) names ≡ Less) (map names_in ys)
    heads [] rs all = tt
    heads (y ∷ ys) rs all = (sym (ranked_cmp size x y (ranked x (inl refl)) (rs y (inl refl))) ∙ all.0, heads ys (λ z at. rs z (inr at)) all.1)

filter_short : (p : ℕ → Bool) (xs : List ℕ) → length (filter p xs) ≤ length xs
filter_short p [] = omega arith
filter_short p (x ∷ xs) = go (p x) (filter_short p xs)
  where
    go : (b : Bool) → length (filter p xs) ≤ length xs → length (cond b (x ∷ filter p xs) (filter p xs)) ≤ length (x ∷ xs)
    go true h = omega arith
    go false h = omega arith

module _ (w : Web) (is_web : IsWeb w) (found : Found) (covers : Covers w found) (few : found.count ≤ 4096) (lists : List (List ℕ)) (sorted : AreSortedRows found.rows.items lists) where
  ones : List Vertex
  ones = complete_ones w (vertices w)

  -- a row is that of a vertex, and the other way round
  row_gives : (row : Row) → Among row found.rows.items → (v : Vertex) × Among v (complete_ones w (vertices w)) × (row_of_vertex w v ≡ seen row)
  row_gives row at = map_gives (row_of_vertex w) (complete_ones w (vertices w)) (seen row) (subst (Among (seen row)) (covers.rows few) (among_map seen found.rows.items row at))

  row_from : (v : Vertex) → Among v (complete_ones w (vertices w)) → (row : Row) × Among row found.rows.items × (seen row ≡ row_of_vertex w v)
  row_from v at = map_gives seen found.rows.items (row_of_vertex w v) (subst (Among (row_of_vertex w v)) (sym (covers.rows few)) (among_map (row_of_vertex w) (complete_ones w (vertices w)) v at))

  is_ranked : (row : Row) → Among row found.rows.items → IsRanked w.names row
  unfolding firing_names
  is_ranked row at =
      let g = row_gives row at in
      let names = ap (λ p. p.1) g.2 in
      let short = filter_short (fired g.0) (range_with_len 0 w.names) in
      record {
        fewer = sym (ap (λ p. p.0) g.2) ∙ ap (λ ns. w.names - length ns) names;
        within = let e = ap length names in let l = length-range_with_len 0 w.names in omega arith;
      }

  listed_names : (names : List ℕ) → Among names lists → Among names (map (firing_names w) (complete_ones w (vertices w)))
  listed_names names at =
      let m = map_gives names_in sorted.kept names (subst (Among names) sorted.names at) in
      let g = row_gives m.0 (sorted.only m.0 m.1) in
      subst (λ ns. Among ns (map (firing_names w) (complete_ones w (vertices w)))) (ap (λ p. p.1) g.2 ∙ m.2) (among_map (firing_names w) (complete_ones w (vertices w)) g.0 g.1)

  names_listed : (names : List ℕ) → Among names (map (firing_names w) (complete_ones w (vertices w))) → Among names lists
  names_listed names at =
      let m = map_gives (firing_names w) (complete_ones w (vertices w)) names at in
      let r = row_from m.0 m.1 in
      let o = sorted.every r.0 r.1 in
      subst (Among names) (sym sorted.names) (subst (λ ns. Among ns (map names_in sorted.kept)) (o.2 ∙ ap (λ p. p.1) r.2 ∙ m.2) (among_map names_in sorted.kept o.0 o.1))

  in_order : IsStrictlySortedBy table_cmp lists
  in_order = subst (IsStrictlySortedBy table_cmp) (sym sorted.names) (strict_lists w.names sorted.kept (λ row at. is_ranked row (sorted.only row at)) sorted.ordered)

  pub is_table : (growth : ℕ) → growth ≡ 65536 - found.room → IsTableOf w growth lists
  is_table growth is =
      let all = are_firings w is_web in record {
        counted = omega (arith, covers.room);
        grown = omega arith;
        listed = record {
          only = λ names at. all.only names (listed_names names at);
          all = λ F connected. let f = all.all F connected in (f.0, names_listed f.0 f.1, f.2);
          once = λ names. once_strict names lists in_order;
        };
        few =
            let rows = ap length (covers.rows few) in
            let seen_long = length-map found.rows.items seen in
            let ones_long = length-map (complete_ones w (vertices w)) (row_of_vertex w) in
            let lists_long = ap length sorted.names ∙ length-map sorted.kept names_in in
            omega (arith, covers.count, sorted.no_more, rows, seen_long, ones_long, lists_long);
        ordered = in_order;
      }

-- where the firings are too many, their number is told
pub has_firings : (w : Web) → IsWeb w → (found : Found) → Covers w found → HasFirings w found.count
has_firings w is_web found covers = record {
  firings = map (firing_names w) (complete_ones w (vertices w));
  are_all = are_firings w is_web;
  are_so_many = length-map (complete_ones w (vertices w)) (firing_names w) ∙ sym covers.count;
}
