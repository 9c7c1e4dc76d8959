-- Bits that mark facts.
use Rattle.std.proofs.Common.{◌≡◌, ◌≢◌, ℕ, suc, ◌-◌, ◌*◌, ◌^◌, ◌<◌, ◌≤◌, ⊎_elim, ◌⊎◌, inl, inr, List, [], ◌∷◌, ◌++◌, max, min, nat_eq, Bool, true, false, not, ◌&&◌, ◌||◌, All, refl, sym, ap, ◌∙◌, subst, arith}
use Rattle.std.specs.List.{list_all}
use Rattle.std.specs.Int.{w64, bit_at}
use Rattle.std.specs.Int.RustNames.{bit_and, bit_or}
use Rattle.std.proofs.lemmas.Bool.{false≢true, eqb-true, eq-eqb, cases_eq, cases_lt}
use Rattle.std.proofs.Math.Bool.{or-true}
use Rattle.std.proofs.lemmas.Nat.{and_comm, and_or_apart, pow_apart, pow_below, pow_pos}
use Rattle.std.proofs.lemmas.Nat.Bits.{and_pow, bit_at_and, bit_at_or, bit_at_not, bit_at_above, bit_at-lt, bit_at-pow_same, bit_at-pow_other}
use Rattle.std.proofs.lemmas.List.Folds.{list_any-append}
use Rattle.reo_growth.specs.Lists.{has}
use Rattle.reo_plan.specs.inside.Marks.{Misses, IsMask, IsMarked}
use Rattle.reo_plan.proofs.FactLemmas.{all-append}

-- a word that misses what passes goes on to, with the bit of what fails
pub misses_more : (p : ℕ → Bool) (word n : ℕ) → Misses p word → not (p n) ≡ true → Misses p (bit_or word (2 ^ n))
misses_more p word n misses fails j passes =
    and_or_apart (2 ^ j) word (2 ^ n) (pow_apart n j (λ same. false≢true (sym (ap not (ap p same ∙ passes)) ∙ fails))) ∙ misses j passes

-- with the bit of what passes, a word shares no bit with one that misses what passes
pub shares_none : (p : ℕ → Bool) (other word n : ℕ) → Misses p other → p n ≡ true → bit_and other word ≡ 0 → bit_and other (bit_or word (2 ^ n)) ≡ 0
shares_none p other word n misses passes apart =
    and_comm other (bit_or word (2 ^ n)) ∙ and_or_apart other word (2 ^ n) (and_comm (2 ^ n) other ∙ misses n passes) ∙ and_comm word other ∙ apart

-- what a word that misses what fails has a bit of passes
pub passes_by : (p : ℕ → Bool) (word n : ℕ) → Misses (λ j. not (p j)) word → (bit_and word (2 ^ n) ≡ 0 → ⊥) → p n ≡ true
passes_by p word n misses has = go (p n) refl
  where
    go : (b : Bool) → p n ≡ b → b ≡ true
    go true e = refl
    go false e = absurd (has (misses n (ap not e)))

pub both : (a b : Bool) → (a && (b && true)) ≡ true → (a ≡ true) × (b ≡ true)
both true true e = (refl, refl)
both true false e = absurd (false≢true e)
both false b e = absurd (false≢true e)

-- a mask of one number more
pub mask_more : (numbers : List ℕ) (n mask new : ℕ) → IsMask numbers mask → ((p : ℕ → Bool) (other : ℕ) → Misses p other → p n ≡ true → bit_and other mask ≡ 0 → bit_and other new ≡ 0) → IsMask (numbers ++ n ∷ []) new
mask_more numbers n mask new is more p word misses pass =
    let each = both (list_all p numbers) (p n) (sym (all-append p numbers (n ∷ [])) ∙ pass) in
    more p word misses each.1 (is p word misses each.0)

-- a bit that is set
pub bit_sets : (word n : ℕ) → bit_at (bit_or word (2 ^ n)) n ≡ 1
bit_sets word n = bit_at_or word (2 ^ n) n ∙ ap (max (bit_at word n)) (bit_at-pow_same n) ∙ (let e : max (bit_at word n) 1 ≡ 1 = omega (arith, bit_at-lt word n) in e)

-- a bit that was set before
pub bit_stays : (word more j : ℕ) → bit_at word j ≡ 1 → bit_at (bit_or word more) j ≡ 1
bit_stays word more j is = bit_at_or word more j ∙ ap (λ b. max b (bit_at more j)) is ∙ (let e : max 1 (bit_at more j) ≡ 1 = omega (arith, bit_at-lt more j) in e)

-- the bits of one number more
pub marked_more : (numbers : List ℕ) (n mask new : ℕ) → IsMarked numbers mask → (n < 64 → bit_at new n ≡ 1) → ((j : ℕ) → bit_at mask j ≡ 1 → bit_at new j ≡ 1) → IsMarked (numbers ++ n ∷ []) new
marked_more numbers n mask new is own keeps k there small = go (has numbers k) (nat_eq n k) refl refl (sym (list_any-append (λ x. nat_eq x k) numbers (n ∷ [])) ∙ there)
  where
    go : (early last : Bool) → has numbers k ≡ early → nat_eq n k ≡ last → (early || (last || false)) ≡ true → bit_at new k ≡ 1
    go true last is_early is_last e = keeps k (is k is_early small)
    go false true is_early is_last e = let same = eqb-true n k is_last in ap (bit_at new) (sym same) ∙ own (omega (arith, same, small))
    go false false is_early is_last e = absurd (false≢true e)

-- a bit of two words is a bit of the first
pub bit_of_both : (a b j : ℕ) → bit_at (bit_and a b) j ≡ 1 → bit_at a j ≡ 1
bit_of_both a b j is = omega (arith, bit_at-lt a j, sym (bit_at_and a b j) ∙ is)

-- bits of a mask that are not those of another word
module _ (mask met : ℕ) (mask_fits : mask < 2 ^ 64) (met_fits : met < 2 ^ 64) where
  pub left_or_met : (j : ℕ) → bit_at mask j ≡ 1 → (bit_at met j ≡ 1) ⊎ (bit_at (bit_and mask (2 ^ 64 - 1 - met)) j ≡ 1)
  left_or_met j is =
      let within : j < 64 = ⊎_elim (λ below. below) (λ above. absurd (omega (arith, is, bit_at_above mask 64 j mask_fits above))) (cases_lt j 64) in
      let other : bit_at (2 ^ 64 - 1 - met) j ≡ 1 - bit_at met j = bit_at_not w64 met j met_fits within in
      ⊎_elim
      (λ none. inr (omega (arith, bit_at_and mask (2 ^ 64 - 1 - met) j, is, other, none)))
      (λ some. inl (omega (arith, bit_at-lt met j, some)))
      (cases_lt (bit_at met j) 1)

-- a word without one bit
module _ (word n : ℕ) (within : n < 64) where
  cleared : (j : ℕ) → j < 64 → bit_at (bit_and word (2 ^ 64 - 1 - 2 ^ n)) j ≡ min (bit_at word j) (1 - bit_at (2 ^ n) j)
  cleared j small = bit_at_and word (2 ^ 64 - 1 - 2 ^ n) j ∙ ap (min (bit_at word j)) (bit_at_not w64 (2 ^ n) j (pow_below n 64 within) small)

  pub own_cleared : bit_at (bit_and word (2 ^ 64 - 1 - 2 ^ n)) n ≡ 0
  own_cleared = omega (arith, cleared n within, bit_at-pow_same n)

  pub other_kept : word < 2 ^ 64 → (j : ℕ) → j ≢ n → bit_at (bit_and word (2 ^ 64 - 1 - 2 ^ n)) j ≡ bit_at word j
  other_kept fits j other = ⊎_elim
      (λ small. omega (arith, cleared j small, bit_at-pow_other n j other, bit_at-lt word j))
      (λ large. omega (arith, bit_at_and word (2 ^ 64 - 1 - 2 ^ n) j, bit_at_above word 64 j fits large))
      (cases_lt j 64)

-- a bit that a word has not is none that it shares
pub no_shared : (word j : ℕ) → bit_at word j ≡ 0 → bit_and word (2 ^ j) ≡ 0
no_shared word j none = and_pow word j ∙ ap (λ b. b * 2 ^ j) none ∙ (let e : 0 * 2 ^ j ≡ 0 = omega arith in e)

pub not_shared : (word j : ℕ) → bit_and word (2 ^ j) ≡ 0 → bit_at word j ≡ 0
not_shared word j none = ⊎_elim (λ below. omega (arith, below)) (λ above.
    let some : bit_at word j ≡ 1 = omega (arith, above, bit_at-lt word j) in
    let power : bit_at word j * 2 ^ j ≡ 2 ^ j = ap (λ b. b * 2 ^ j) some ∙ (let e : 1 * 2 ^ j ≡ 2 ^ j = omega arith in e) in
    absurd (omega (arith, pow_pos j, power, and_pow word j, none))) (cases_lt (bit_at word j) 1)

-- what has a bit is marked
pub met_passes : (p : ℕ → Bool) (word n : ℕ) → Misses (λ j. not (p j)) word → bit_at word n ≡ 1 → p n ≡ true
met_passes p word n misses is = passes_by p word n misses (λ none. absurd (omega (arith, is, not_shared word n none)))

-- fewer bits make less
pub less_bits : (less word n : ℕ) → less ≤ word → bit_at less n ≡ 0 → bit_at word n ≡ 1 → less < word
less_bits less word n most none some = ⊎_elim (λ same. absurd (omega (arith, none, some, ap (λ w. bit_at w n) same))) (λ other. omega (arith, most, other)) (cases_eq less word)

-- what a list has is small, where all in it is
pub small_has : (numbers : List ℕ) → All (λ number. number < 64) numbers → (n : ℕ) → has numbers n ≡ true → n < 64
small_has [] all n e = absurd (false≢true e)
small_has (x ∷ numbers) all n e = go (nat_eq x n) refl e (small_has numbers (λ k d within. all (suc k) d (omega (arith, within))) n)
  where
    go : (b : Bool) → nat_eq x n ≡ b → (b || has numbers n) ≡ true → (has numbers n ≡ true → n < 64) → n < 64
    go true same there later = subst (λ k. k < 64) (eqb-true x n same) (all 0 x (omega arith))
    go false other there later = later there

-- a list passes where each number that it has does
pub all_by_has : (p : ℕ → Bool) (numbers : List ℕ) → ((n : ℕ) → has numbers n ≡ true → p n ≡ true) → list_all p numbers ≡ true
all_by_has p [] each = refl
all_by_has p (x ∷ numbers) each =
    ap (λ b. b && list_all p numbers) (each x (ap (λ b. b || has numbers x) (eq-eqb x x refl)))
    ∙ all_by_has p numbers (λ n there. each n (ap (λ b. nat_eq x n || b) there ∙ or-true (nat_eq x n)))
