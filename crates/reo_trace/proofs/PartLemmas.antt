-- The parts of numbers that follow one another stand side by side among those of all numbers.
use Rattle.std.proofs.Common.{◌≡◌, ℕ, ◌+◌, ◌-◌, ◌≤◌, zero, suc, List, [], ◌∷◌, ◌++◌, length, map, take, drop, get_or, refl, sym, ap, ◌∙◌, arith, append_assoc, append-nil, length-append}
use Rattle.std.specs.List.{range_with_len, flat_map, slice_range}
use Rattle.std.proofs.lemmas.Grind.{flat_map-append}
use Rattle.reo_trace.specs.Parts.{parts_below}
use Rattle.std.proofs.lemmas.List.FromFn.{length-map-range_with_len, get_or-map-range_with_len, map-range_with_len_more}

-- so many numbers, and so many more behind them
pub range_split : (a n m : ℕ) → range_with_len a (n + m) ≡ range_with_len a n ++ range_with_len (a + n) m
range_split a zero m =
    let none : zero + m ≡ m = omega arith in
    let at : a ≡ a + zero = omega arith in
    ap (range_with_len a) none ∙ ap (λ b. range_with_len b m) at
range_split a (suc n) m =
    let first : suc n + m ≡ suc (n + m) = omega arith in
    let at : a + 1 + n ≡ a + suc n = omega arith in
    ap (range_with_len a) first ∙ ap (λ l. a ∷ l) (range_split (a + 1) n m ∙ ap (λ b. range_with_len (a + 1) n ++ range_with_len b m) at)

-- a front of a list, and what stands behind a front
take_front : (xs ys : List ℕ) → take (length xs) (xs ++ ys) ≡ xs
take_front [] ys = refl
take_front (x ∷ xs) ys = ap (λ l. x ∷ l) (take_front xs ys)

drop_front : (xs ys : List ℕ) → drop (length xs) (xs ++ ys) ≡ ys
drop_front [] ys = refl
drop_front (x ∷ xs) ys = drop_front xs ys

module _ (part : ℕ → List ℕ) where
  abbrev below : ℕ → List ℕ
  below = parts_below part

  -- the parts below a number, then those from it on
  pub below_split : (from to : ℕ) → from ≤ to → below to ≡ below from ++ flat_map part (range_with_len from (to - from))
  below_split from to le =
      let whole : to ≡ from + (to - from) = omega arith in
      let at : 0 + from ≡ from = omega arith in
      ap (λ n. flat_map part (range_with_len 0 n)) whole
      ∙ ap (flat_map part) (range_split 0 from (to - from) ∙ ap (λ k. range_with_len 0 from ++ range_with_len k (to - from)) at)
      ∙ flat_map-append part (range_with_len 0 from) (range_with_len from (to - from))

  pub below_longer : (from to : ℕ) → from ≤ to → length (below from) ≤ length (below to)
  below_longer from to le =
      omega (arith, ap length (below_split from to le), length-append (below from) (flat_map part (range_with_len from (to - from))))

  -- where the parts below a number end, the others begin
  pub between : (from to n : ℕ) → from ≤ to → to ≤ n
      → slice_range (below n) (length (below from)) (length (below to)) ≡ flat_map part (range_with_len from (to - from))
  between from to n le within =
      let run : List ℕ = flat_map part (range_with_len from (to - from)) in
      let rest : List ℕ = flat_map part (range_with_len to (n - to)) in
      let front : List ℕ = below from in
      let long : length (below to) - length front ≡ length run = omega (arith, ap length (below_split from to le), length-append front run) in
      let whole : below n ≡ front ++ (run ++ rest) =
      below_split to n within ∙ ap (λ l. l ++ rest) (below_split from to le) ∙ append_assoc front run rest in
      ap (λ k. take k (drop (length front) (below n))) long
      ∙ ap (λ l. take (length run) (drop (length front) l)) whole
      ∙ ap (take (length run)) (drop_front front (run ++ rest))
      ∙ take_front run rest

  one_part : (n : ℕ) → flat_map part (range_with_len n (n + 1 - n)) ≡ part n
  one_part n =
      let one : n + 1 - n ≡ 1 = omega arith in
      ap (λ k. flat_map part (range_with_len n k)) one ∙ append-nil (part n)

  -- one part more
  pub below_more : (n : ℕ) → below (n + 1) ≡ below n ++ part n
  below_more n = below_split n (n + 1) (omega arith) ∙ ap (λ l. below n ++ l) (one_part n)

  pub part_between : (k n : ℕ) → k + 1 ≤ n → slice_range (below n) (length (below k)) (length (below (k + 1))) ≡ part k
  part_between k n within = between k (k + 1) n (omega arith) within ∙ one_part k

  pub part_long : (n : ℕ) → length (below (n + 1)) ≡ length (below n) + length (part n)
  part_long n = ap length (below_more n) ∙ length-append (below n) (part n)

  -- the next start
  pub starts_more : (starts new : List ℕ) (n end : ℕ) → starts ≡ map (λ k. length (below k)) (range_with_len 0 (n + 1))
      → end ≡ length (below (n + 1)) → new ≡ starts ++ end ∷ []
      → new ≡ map (λ k. length (below k)) (range_with_len 0 (n + 1 + 1))
  starts_more starts new n end are ends is =
      is ∙ ap (λ l. l ++ end ∷ []) are ∙ ap (λ k. map (λ k. length (below k)) (range_with_len 0 (n + 1)) ++ k ∷ []) ends
      ∙ sym (map-range_with_len_more (λ k. length (below k)) 0 (n + 1) (n + 1) (omega arith))

  pub start_at : (starts : List ℕ) (n k d : ℕ) → starts ≡ map (λ k. length (below k)) (range_with_len 0 (n + 1)) → k ≤ n
      → get_or starts k d ≡ length (below k)
  start_at starts n k d are le =
      ap (λ l. get_or l k d) are ∙ get_or-map-range_with_len (λ k. length (below k)) 0 (n + 1) k k d (omega (arith, le)) (omega arith)

  pub starts_count : (starts : List ℕ) (n : ℕ) → starts ≡ map (λ k. length (below k)) (range_with_len 0 (n + 1)) → length starts ≡ n + 1
  starts_count starts n are = ap length are ∙ length-map-range_with_len (λ k. length (below k)) 0 (n + 1)
