-- How many automata are not yet in a list.
use Rattle.std.proofs.Common.{◌≡◌, ℕ, ◌+◌, ◌<◌, ◌≤◌, inl, inr, List, [], ◌∷◌, length, Bool, true, false, cond, refl, ap, ◌∙◌, arith}
use Rattle.std.specs.Prelude.{nat_eq}
use Rattle.std.proofs.lemmas.Bool.{false≢true, true≢false, or_left, or_right, eq-eqb}
use Rattle.std.proofs.lemmas.List.FromFn.{length-range_with_len}
use Rattle.reo_growth.specs.declared.web.Web.{Web}
use Rattle.reo_growth.specs.Lists.{Among}
use Rattle.reo_growth.specs.Growth.{Vertex, is_listed, places, with_link}
use Rattle.reo_growth.proofs.ListLemmas.{among_range}

-- how many of these numbers fail a test
failing : (ℕ → Bool) → List ℕ → ℕ
failing p [] = 0
failing p (x ∷ xs) = cond (p x) 0 1 + failing p xs

failing_bound : (p : ℕ → Bool) (xs : List ℕ) → failing p xs ≤ length xs
unfolding failing
failing_bound p [] = omega arith
failing_bound p (x ∷ xs) = go (p x) (failing_bound p xs)
  where
    go : (b : Bool) → failing p xs ≤ length xs → cond b 0 1 + failing p xs ≤ length (x ∷ xs)
    go true h = omega arith
    go false h = omega arith

-- a weaker test fails no more often
failing_less : (p q : ℕ → Bool) (xs : List ℕ) → ((x : ℕ) → p x ≡ true → q x ≡ true) → failing q xs ≤ failing p xs
unfolding failing
failing_less p q [] weaker = omega arith
failing_less p q (x ∷ xs) weaker = go (p x) (q x) (weaker x) (failing_less p q xs weaker)
  where
    go : (a b : Bool) → (a ≡ true → b ≡ true) → failing q xs ≤ failing p xs → cond b 0 1 + failing q xs ≤ cond a 0 1 + failing p xs
    go true true weak h = omega arith
    go true false weak h = absurd (false≢true (weak refl))
    go false true weak h = omega arith
    go false false weak h = omega arith

failing_lesser : (p q : ℕ → Bool) (xs : List ℕ) (x : ℕ) → ((x : ℕ) → p x ≡ true → q x ≡ true) → Among x xs → p x ≡ false → q x ≡ true → failing q xs < failing p xs
unfolding failing
failing_lesser p q [] x weaker at was is = elim at [ ]
failing_lesser p q (y ∷ ys) x weaker (inl e) was is =
    go (p y) (q y) (ap p e ∙ was) (ap q e ∙ is) (failing_less p q ys weaker)
  where
    go : (a b : Bool) → a ≡ false → b ≡ true → failing q ys ≤ failing p ys → cond b 0 1 + failing q ys < cond a 0 1 + failing p ys
    go true b not_a is_b h = absurd (true≢false not_a)
    go false false not_a is_b h = absurd (false≢true is_b)
    go false true not_a is_b h = omega arith
failing_lesser p q (y ∷ ys) x weaker (inr at) was is = go (p y) (q y) (weaker y) (failing_lesser p q ys x weaker at was is)
  where
    go : (a b : Bool) → (a ≡ true → b ≡ true) → failing q ys < failing p ys → cond b 0 1 + failing q ys < cond a 0 1 + failing p ys
    go true true weak h = omega arith
    go true false weak h = absurd (false≢true (weak refl))
    go false true weak h = omega arith
    go false false weak h = omega arith

pub unlisted : Web → Vertex → ℕ
unlisted w v = failing (is_listed v) (places w)

pub unlisted_bound : (w : Web) (v : Vertex) → unlisted w v ≤ length w.automata
unfolding unlisted
unlisted_bound w v = let b = failing_bound (is_listed v) (places w) in let l = length-range_with_len 0 (length w.automata) in omega arith

-- an automaton that enters is one less
pub fewer : (w : Web) (v : Vertex) (x : ℕ) (link : List ℕ) → x < length w.automata → is_listed v x ≡ false → unlisted w (with_link v x link) < unlisted w v
unfolding unlisted with_link is_listed
fewer w v x link below new =
    failing_lesser (is_listed v) (is_listed (with_link v x link)) (places w) x (λ y h. or_right (nat_eq x y) (is_listed v y) h)
    (among_range 0 (length w.automata) x (omega arith) (omega arith)) new (or_left (nat_eq x x) (is_listed v x) (eq-eqb x x refl))
