-- The marks of a table, one row after the other.
use Rattle.std.proofs.Common.{◌≡◌, ℕ, ◌+◌, ◌<◌, ◌≤◌, ⊎_elim, Vec, Global, Bool, true, false, ◌||◌, ◌&&◌, List, [], length, map, set, get_or, refl, sym, ap, ◌∙◌, subst, arith, get_or-set_same, get_or-set_other}
use Rattle.std.proofs.Math.Bool.{or-false}
use Rattle.std.proofs.lemmas.Bool.{cases_eq}
use Rattle.std.proofs.lemmas.List.{length-map, map-set, get_or-map}
use Rattle.reo_graph.specs.Closure.{mark, bit}

-- the rows before i have the marks of the middle row too where they lead there, and the others are as before
pub record Half (old new : List (List Bool)) (via : ℕ) (middle : List Bool) (i : ℕ) : Type 0 where
  pub done : (k j : ℕ) → k < i → bit new k j ≡ (bit old k j || (bit old k via && mark middle j))
  pub left : (k j : ℕ) → i ≤ k → bit new k j ≡ bit old k j

pub Half-next : (old now : List (List Bool)) (via i : ℕ) (middle row : List Bool) → i < length now → ((j : ℕ) → mark row j ≡ (bit now i j || (bit now i via && mark middle j)))
    → Half old now via middle i → Half old (set now i row) via middle (i + 1)
Half-next old now via i middle row within row_is half = record {
  done = λ k j below. ⊎_elim
      (λ e.
      subst (λ n. bit (set now i row) n j ≡ (bit old n j || (bit old n via && mark middle j))) (sym e)
      (ap (λ r. mark r j) (get_or-set_same now i row [] within) ∙ (row_is j ∙ rw (half.left i j (omega arith), half.left i via (omega arith)) refl)))
      (λ ne.
      let other : get_or (set now i row) k [] ≡ get_or now k [] = get_or-set_other now i k row [] (λ e. ne e) in
      ap (λ r. mark r j) other ∙ half.done k j (omega arith))
      (cases_eq k i);
  left = λ k j above.
      let other : get_or (set now i row) k [] ≡ get_or now k [] = get_or-set_other now i k row [] (omega arith) in
      ap (λ r. mark r j) other ∙ half.left k j (omega arith);
}

-- where row i does not lead to the middle row, it stays
pub Half-skip : (old now : List (List Bool)) (via i : ℕ) (middle : List Bool) → bit now i via ≡ false → Half old now via middle i → Half old now via middle (i + 1)
Half-skip old now via i middle off half = record {
  done = λ k j below. ⊎_elim
      (λ e.
      let out : bit old i via ≡ false = sym (half.left i via (omega arith)) ∙ off in
      subst (λ n. bit now n j ≡ (bit old n j || (bit old n via && mark middle j))) (sym e) (half.left i j (omega arith) ∙ rw out (sym (or-false (bit old i j)))))
      (λ ne. half.done k j (omega arith))
      (cases_eq k i);
  left = λ k j above. half.left k j (omega arith);
}

module _ (old : List (List Bool)) (table now : List (Vec Bool Global)) (via i : ℕ) (middle : List Bool) (item : Vec Bool Global) where
  row_at_i : i < length table → item ≡ get_or table i item → get_or (map (λ row. row.items) table) i [] ≡ item.items
  row_at_i within is = get_or-map (λ (row : Vec Bool Global). row.items) table i item [] within ∙ ap (λ (row : Vec Bool Global). row.items) (sym is)

  pub Half-marked : (row : Vec Bool Global) → i < length table → item ≡ get_or table i item → mark item.items via ≡ true → ((j : ℕ) → mark row.items j ≡ (mark item.items j || mark middle j))
      → now ≡ set table i row → Half old (map (λ row. row.items) table) via middle i → Half old (map (λ row. row.items) now) via middle (i + 1)
  Half-marked row within is marked row_is now_is half =
      let at_i = row_at_i within is in
      let on : bit (map (λ row. row.items) table) i via ≡ true = ap (λ r. mark r via) at_i ∙ marked in
      subst (λ rows. Half old rows via middle (i + 1)) (sym (ap (map (λ (row : Vec Bool Global). row.items)) now_is ∙ map-set (λ (row : Vec Bool Global). row.items) table i row))
      (Half-next old (map (λ row. row.items) table) via i middle row.items
      (omega (arith, length-map table (λ (row : Vec Bool Global). row.items)))
      (λ j. row_is j ∙ rw (on, ap (λ r. mark r j) at_i) refl)
      half)

  pub Half-unmarked : i < length table → item ≡ get_or table i item → mark item.items via ≡ false → now ≡ table
      → Half old (map (λ row. row.items) table) via middle i → Half old (map (λ row. row.items) now) via middle (i + 1)
  Half-unmarked within is unmarked now_is half =
      subst (λ rows. Half old (map (λ row. row.items) rows) via middle (i + 1)) (sym now_is)
      (Half-skip old (map (λ row. row.items) table) via i middle (ap (λ r. mark r via) (row_at_i within is) ∙ unmarked) half)
