-- Rows in order.
use Rattle.std.proofs.Common.{◌≡◌, ◌≤◌, List, length, map, Contains, Bool, true, ◌&&◌, refl, sym, subst, rules}
use Rattle.std.specs.Prelude.{nat_eq}
use Rattle.std.specs.Ordering.{eq_by_cmp}
use Rattle.std.specs.Cmp.{IsTotalOrder, IsEquivalence}
use Rattle.std.specs.Cmp.Lexicographic.{pointwise, same_text}
use Rattle.std.specs.Cmp.Rules.{comparing}
use Rattle.std.specs.List.{dedup}
use Rattle.std.specs.List.Sorted.{IsPermutation, IsSorted, IsStrictlySortedBy}
use Rattle.std.proofs.lemmas.Bool.{and_parts}
use Rattle.std.proofs.lemmas.Cmp.{nat_cmp_total, nat_list_cmp_total, then_total, on_total}
use Rattle.std.proofs.lemmas.List.Kept.{IsStrictlySortedBy-dedup, Any-dedup, Contains-from_dedup}
use Rattle.std.proofs.lemmas.List.Sorted.{Contains-permutation}
use Rattle.reo_growth.specs.declared.found.Row.{Row}
use Rattle.reo_growth.specs.Lists.{Among}
use Rattle.reo_growth.specs.Search.{names_in, row_cmp, AreSortedRows}
use Rattle.reo_growth.proofs.ListLemmas.{among_at, among_place}

unfoldable pub row_eq : Row → Row → Bool
row_eq x y = nat_eq x.fewer y.fewer && pointwise nat_eq x.names.items y.names.items

pub row_total : IsTotalOrder row_cmp
row_total = then_total (on_total (λ (r : Row). r.fewer) nat_cmp_total) (on_total (λ (r : Row). r.names.items) nat_list_cmp_total)

row_ties : (x y : Row) → row_eq x y ≡ eq_by_cmp row_cmp x y
unfolding row_eq
row_ties x y = search (comparing, rules)

row_equiv : IsEquivalence row_eq
unfolding row_eq
row_equiv = search (comparing, rules)

row_names : (x y : Row) → row_eq x y ≡ true → names_in x ≡ names_in y
unfolding row_eq
row_names x y h = same_text x.names.items y.names.items (sym (and_parts (nat_eq x.fewer y.fewer) (pointwise nat_eq x.names.items y.names.items) h).1)

contains_among : (xs : List Row) (x : Row) → Contains xs x → Among x xs
contains_among xs x h = subst (λ y. Among y xs) h.2 (among_at xs h.0 x h.1)

among_contains : (xs : List Row) (x : Row) → Among x xs → Contains xs x
among_contains xs x h = let p = among_place xs x h in (p.0, p.1, p.2 x)

pub sorted_rows : (rows sorted kept : List Row) → IsPermutation rows sorted → IsPermutation sorted rows → IsSorted row_cmp sorted → kept ≡ dedup row_eq sorted → length kept ≤ length rows → AreSortedRows rows (map names_in kept)
sorted_rows rows sorted kept there back order is few = record {
  kept = kept;
  names = refl;
  ordered = subst (IsStrictlySortedBy row_cmp) (sym is) (IsStrictlySortedBy-dedup row_total row_ties sorted order);
  no_more = few;
  only = λ row at. contains_among rows row (Contains-permutation sorted rows row back (Contains-from_dedup row_eq sorted row (among_contains (dedup row_eq sorted) row (subst (Among row) is at))));
  every = λ row at.
      let a = Any-dedup row_equiv sorted row (Contains-permutation rows sorted row there (among_contains rows row at)) in
      (a.1, subst (Among a.1) (sym is) (subst (λ y. Among y (dedup row_eq sorted)) a.3 (among_at (dedup row_eq sorted) a.0 a.1 a.2)), sym (row_names row a.1 a.4));
}
