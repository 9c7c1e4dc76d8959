-- Rows as bits.
use Rattle.std.proofs.Common.{◌≡◌, ◌≢◌, ℕ, zero, suc, ◌+◌, ◌-◌, ◌*◌, ◌/◌, ◌%◌, ◌^◌, ◌<◌, ◌≤◌, ⊎_elim, List, [], ◌∷◌, length, set, get_or, replicate, max, nat_eq, ◌||◌, ◌&&◌, Bool, true, false, refl, sym, ap, ◌∙◌, subst, arith, get_or-set_same, get_or-set_other}
use Rattle.std.specs.List.{list_all}
use Rattle.std.specs.Int.{w64, bit_at, trailing_zeros}
use Rattle.std.specs.Int.RustNames.{bit_or}
use Rattle.std.proofs.lemmas.Bool.{cases_eq, cases_lt, false≢true, eqb-true}
use Rattle.std.proofs.lemmas.Nat.{shr-shr, shr_le}
use Rattle.std.proofs.lemmas.Nat.Bits.{bit_at_or, bit_at-pow_other, bit_at_above, bit_at_not, bit_at-zero, bit_at-lt, bit_at-trailing_zeros}
use Rattle.std.proofs.lemmas.List.{get_or-replicate, get_or_past, length-replicate}
use Rattle.reo_growth.specs.Lists.{has}
use Rattle.reo_plan.specs.inside.Columns.{MissesRows, MissesAsks}

-- a bit that neither word has
pub none_of_both : (a b i : ℕ) → bit_at a i ≡ 0 → bit_at b i ≡ 0 → bit_at (bit_or a b) i ≡ 0
none_of_both a b i of_a of_b = bit_at_or a b i ∙ ap (λ n. max n (bit_at b i)) of_a ∙ ap (max 0) of_b

-- the bit of a row more in one column
pub column_more : (p : ℕ → ℕ → Bool) (columns : List ℕ) (number row at : ℕ) → row < 4096 → at ≡ 64 * number + row / 64 → at < length columns → p number row ≡ false → MissesAsks p columns
    → MissesAsks p (set columns at (bit_or (get_or columns at 0) (2 ^ (row % 64))))
column_more p columns number row at few is within asked misses n r small passes = ⊎_elim
    (λ same.
    let number_is : n ≡ number = omega (arith, same, is, few, small) in
    let word_is : r / 64 ≡ row / 64 = omega (arith, same, is, few, small) in
    let old : bit_at (get_or columns at 0) (r % 64) ≡ 0 = subst (λ k. bit_at (get_or columns k 0) (r % 64) ≡ 0) same (misses n r small passes) in
    let ne : r % 64 ≢ row % 64 = λ bit_is.
    let row_is : r ≡ row = omega (arith, word_is, bit_is) in
    false≢true (sym asked ∙ ap (λ k. p k row) (sym number_is) ∙ ap (p n) (sym row_is) ∙ passes) in
    ap (λ k. bit_at (get_or (set columns at (bit_or (get_or columns at 0) (2 ^ (row % 64)))) k 0) (r % 64)) same
    ∙ ap (λ w. bit_at w (r % 64)) (get_or-set_same columns at _ 0 within)
    ∙ none_of_both (get_or columns at 0) (2 ^ (row % 64)) (r % 64) old (bit_at-pow_other (row % 64) (r % 64) ne))
    (λ other. ap (λ w. bit_at w (r % 64)) (get_or-set_other columns at (64 * n + r / 64) _ 0 other) ∙ misses n r small passes)
    (cases_eq (64 * n + r / 64) at)

-- what a list that passes has not
pub passing_has : (p : ℕ → Bool) (numbers : List ℕ) (n : ℕ) → list_all p numbers ≡ true → p n ≡ false → has numbers n ≡ false
passing_has p [] n all fails = refl
passing_has p (x ∷ numbers) n all fails = go (p x) (list_all p numbers) refl refl all (passing_has p numbers n)
  where
    go : (b rest : Bool) → p x ≡ b → list_all p numbers ≡ rest → (b && rest) ≡ true → (list_all p numbers ≡ true → p n ≡ false → has numbers n ≡ false) → (nat_eq x n || has numbers n) ≡ false
    go true true here there e later = other (nat_eq x n) refl
      where
        other : (e : Bool) → nat_eq x n ≡ e → (e || has numbers n) ≡ false
        other true same = absurd (false≢true (sym fails ∙ ap p (sym (eqb-true x n same)) ∙ here))
        other false apart = later there fails
    go true false here there e later = absurd (false≢true e)
    go false rest here there e later = absurd (false≢true e)

-- the words with one word more
pub rows_more : (p : ℕ → Bool) (words : List ℕ) (word bits : ℕ) → word < length words → ((row : ℕ) → row / 64 ≡ word → p row ≡ true → bit_at bits (row % 64) ≡ 0) → MissesRows p words
    → MissesRows p (set words word (bit_or (get_or words word 0) bits))
rows_more p words word bits within apart misses row passes = ⊎_elim
    (λ same.
    ap (λ k. bit_at (get_or (set words word (bit_or (get_or words word 0) bits)) k 0) (row % 64)) same
    ∙ ap (λ w. bit_at w (row % 64)) (get_or-set_same words word _ 0 within)
    ∙ none_of_both (get_or words word 0) bits (row % 64) (ap (λ k. bit_at (get_or words k 0) (row % 64)) (sym same) ∙ misses row passes) (apart row same passes))
    (λ other. ap (λ w. bit_at w (row % 64)) (get_or-set_other words word (row / 64) _ 0 other) ∙ misses row passes)
    (cases_eq (row / 64) word)

-- a word's bits from a place on
module _ (word place : ℕ) (small : word < 2 ^ 64) where
  abbrev pub kept : ℕ
  kept = (2 ^ 64 - 1 - word) / 2 ^ place

  kept_at : (i : ℕ) → bit_at kept i ≡ bit_at (2 ^ 64 - 1 - word) (place + i)
  kept_at i = ap (λ n. n % 2) (shr-shr (2 ^ 64 - 1 - word) place i)

  -- where the rest has none, the word has one
  pub has_bit : (i : ℕ) → place + i < 64 → bit_at kept i ≡ 0 → bit_at word (place + i) ≡ 1
  has_bit i within none =
      let left : 1 - bit_at word (place + i) ≡ 0 = sym (bit_at_not w64 word (place + i) small within) ∙ sym (kept_at i) ∙ none in
      omega (arith, left, bit_at-lt word (place + i))

  -- the rest has none from the word's end on
  pub within_word : (i : ℕ) → bit_at kept i ≡ 1 → place + i < 64
  within_word i some = ⊎_elim (λ below. below)
      (λ above.
      let none : bit_at kept i ≡ 0 = kept_at i ∙ bit_at_above (2 ^ 64 - 1 - word) 64 (place + i) (omega (arith, small)) above in
      absurd (omega (arith, some, none)))
      (cases_lt (place + i) 64)

pub above_none : (n : ℕ) → (n ≡ 0 → ⊥) → 0 < n
above_none zero some = absurd (some refl)
above_none (suc n) some = omega arith

-- rows from this one on, in the same word, that have bits do not pass
module _ (p : ℕ → Bool) (words : List ℕ) (misses : MissesRows p words) (from word : ℕ) (is : word ≡ get_or words (from / 64) 0) (small : word < 2 ^ 64) where
  abbrev pub rest : ℕ
  rest = kept word (from % 64) small

  pub passed_by : (row : ℕ) → from ≤ row → from % 64 + (row - from) < 64 → bit_at rest (row - from) ≡ 0 → p row ≡ false
  passed_by row after within none = go (p row) refl
    where
      go : (b : Bool) → p row ≡ b → b ≡ false
      go true passes =
          let same : row / 64 ≡ from / 64 = omega (arith, after, within) in
          let place : row % 64 ≡ from % 64 + (row - from) = omega (arith, after, within) in
          let read : get_or words (row / 64) 0 ≡ word = ap (λ k. get_or words k 0) same ∙ sym is in
          let bit : bit_at word (from % 64 + (row - from)) ≡ 0 = ap (bit_at word) (sym place) ∙ ap (λ w. bit_at w (row % 64)) (sym read) ∙ misses row passes in
          absurd (omega (arith, has_bit word (from % 64) small (row - from) within none, bit))
      go false fails = refl

  -- up to the lowest bit of the rest
  pub passed_up_to : (rest ≡ 0 → ⊥) → (row : ℕ) → from ≤ row → row < from + trailing_zeros w64 rest → p row ≡ false
  passed_up_to some row after before =
      let fits : rest < 2 ^ 64 = omega (arith, shr_le (2 ^ 64 - 1 - word) (from % 64)) in
      let lowest = bit_at-trailing_zeros w64 rest (above_none rest some) fits in
      let within = within_word word (from % 64) small (trailing_zeros w64 rest) lowest.1 in
      passed_by row after (omega (arith, within, before, after)) (lowest.2 (row - from) (omega (arith, before, after)))

  -- up to the word's end
  pub passed_to_end : rest ≡ 0 → (row : ℕ) → from ≤ row → row < 64 * (from / 64) + 64 → p row ≡ false
  passed_to_end none row after before = passed_by row after (omega (arith, before, after)) (ap (λ n. bit_at n (row - from)) none ∙ bit_at-zero (row - from))

-- no bits
pub no_bits : (n k i : ℕ) → bit_at (get_or (replicate n 0) k 0) i ≡ 0
no_bits n k i = ap (λ w. bit_at w i) (⊎_elim (λ within. get_or-replicate n k 0 0 within) (λ past. get_or_past (replicate n 0) k 0 (omega (arith, past, length-replicate {A = ℕ} n 0))) (cases_lt k n)) ∙ bit_at-zero i
