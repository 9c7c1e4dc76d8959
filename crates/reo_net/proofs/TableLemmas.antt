-- how a table of marks and the least number of a kind grow with a list's next element
use Rattle.std.proofs.Common.{◌≡◌, ℕ, ◌+◌, ◌<◌, ◌⊎◌, ⊎_elim, inl, inr, Bool, true, false, List, length, slice_get, get_or, set, replicate, All, Option, Some, refl, sym, ap, ◌∙◌, subst, arith, length-set, get_or-set_same, get_or-set_other}
use Rattle.std.proofs.lemmas.Bool.{cases_eq, false≢true}
use Rattle.std.proofs.lemmas.List.{length-replicate, get_or-replicate}
use Rattle.std.proofs.lemmas.Option.{same_Some}
use Rattle.reo_graph.specs.Paths.{IsLeast}
use Rattle.reo_graph.proofs.LeastLemmas.{IsLeast-same, IsLeast-more}
use Rattle.reo_net.specs.Tables.{Marks, IsKeyBelow, IsKeyTwiceBelow, IsPassBelow}

-- one more mark
pub Marks-set : (table : List Bool) (n key : ℕ) (P Q : ℕ → Type 0) → key < n → Marks table n P → ((k : ℕ) → P k → Q k) → Q key → ((k : ℕ) → Q k → P k ⊎ (key ≡ k)) → Marks (set table key true) n Q
Marks-set table n key P Q fits marks to new from = record {
  len = length-set table key true ∙ marks.len;
  each = λ k h. ⊎_elim
      (λ e. (λ _. subst Q e new, λ _. ap (λ j. get_or (set table key true) j false) (sym e) ∙ get_or-set_same table key true false (omega (arith, marks.len))))
      (λ ne.
      let same : get_or (set table key true) k false ≡ get_or table k false = get_or-set_other table key k true false (λ e. ne (sym e)) in
      (λ on. to k ((marks.each k h).0 (sym same ∙ on)), λ at. same ∙ (marks.each k h).1 (⊎_elim (λ b. b) (λ e. absurd (ne e)) (from k at))))
      (cases_eq key k);
}

-- the same marks, where the same is marked
pub Marks-same : (table : List Bool) (n : ℕ) (P Q : ℕ → Type 0) → Marks table n P → ((k : ℕ) → P k → Q k) → ((k : ℕ) → Q k → P k) → Marks table n Q
Marks-same table n P Q marks to from = record {
  len = marks.len;
  each = λ k h. (λ on. to k ((marks.each k h).0 on), λ at. (marks.each k h).1 (from k at));
}

-- at first nothing is marked
pub Marks-nothing : (n : ℕ) (P : ℕ → Type 0) → ((k : ℕ) → P k → ⊥) → Marks (replicate n false) n P
Marks-nothing n P none = record {
  len = length-replicate n false;
  each = λ k h. (λ e. absurd (false≢true (sym (get_or-replicate n k false false h) ∙ e)), λ at. absurd (none k at));
}

module _ {X : Type 0} (key : X → ℕ) (xs : List X) where
  -- at first nothing is marked
  pub Marks-none : (n : ℕ) → Marks (replicate n false) n (IsKeyBelow key xs 0)
  Marks-none n = Marks-nothing n (IsKeyBelow key xs 0) (λ k at. omega (arith, at.within))

  -- an element that is found below, is found below more
  pub IsKeyBelow-more : (i k : ℕ) → IsKeyBelow key xs i k → IsKeyBelow key xs (i + 1) k
  IsKeyBelow-more i k at = record { place = at.place; element = at.element; within = omega (arith, at.within); found = at.found; keyed = at.keyed }

  -- one that is found below more is found below, or is the next
  pub IsKeyBelow-cases : (i k : ℕ) (x : X) → slice_get xs i ≡ Some x → IsKeyBelow key xs (i + 1) k → IsKeyBelow key xs i k ⊎ (key x ≡ k)
  IsKeyBelow-cases i k x here at =
      ⊎_elim
      (λ e. inr (ap key (same_Some x at.element (sym here ∙ (sym (ap (slice_get xs) e) ∙ at.found))) ∙ at.keyed))
      (λ ne. inl (record { place = at.place; element = at.element; within = omega (arith, at.within); found = at.found; keyed = at.keyed }))
      (cases_eq at.place i)

  -- a mark at the key of the next element
  pub Marks-more : (table : List Bool) (n i : ℕ) (x : X) → slice_get xs i ≡ Some x → key x < n → Marks table n (IsKeyBelow key xs i) → Marks (set table (key x) true) n (IsKeyBelow key xs (i + 1))
  Marks-more table n i x here fits marks =
      Marks-set table n (key x) (IsKeyBelow key xs i) (IsKeyBelow key xs (i + 1)) fits marks (IsKeyBelow-more i) (record { place = i; element = x; within = omega arith; found = here; keyed = refl })
      (λ k at. IsKeyBelow-cases i k x here at)

  pub IsKeyTwiceBelow-cases : (i k : ℕ) (x : X) → slice_get xs i ≡ Some x → IsKeyTwiceBelow key xs (i + 1) k → IsKeyTwiceBelow key xs i k ⊎ ((key x ≡ k) × IsKeyBelow key xs i k)
  IsKeyTwiceBelow-cases i k x here at =
      ⊎_elim
      (λ e. inr (ap key (same_Some x at.element (sym here ∙ (sym (ap (slice_get xs) e) ∙ at.found))) ∙ at.keyed, subst (λ j. IsKeyBelow key xs j k) e at.before))
      (λ ne. inl (record { place = at.place; element = at.element; within = omega (arith, at.within); found = at.found; keyed = at.keyed; before = at.before }))
      (cases_eq at.place i)

  pub IsKeyTwiceBelow-more : (i k : ℕ) → IsKeyTwiceBelow key xs i k → IsKeyTwiceBelow key xs (i + 1) k
  IsKeyTwiceBelow-more i k at = record { place = at.place; element = at.element; within = omega (arith, at.within); found = at.found; keyed = at.keyed; before = at.before }

-- what holds of all elements holds of the one that is read
pub All_read : {X : Type 0} (P : X → Type 0) (xs : List X) (i : ℕ) (x : X) → All P xs → i < length xs → x ≡ get_or xs i x → P x
All_read P xs i x all h read = subst P (sym read) (all i x h)

module _ {X : Type 0} (key : X → ℕ) (xs : List X) where
  -- the next element's key is had by one before it
  pub least_twice-hit : (i : ℕ) (x : X) (o : Option ℕ) (r : ℕ) → slice_get xs i ≡ Some x → IsKeyBelow key xs i (key x) → IsLeast (IsKeyTwiceBelow key xs i) o
      → IsLeast (λ n. (n ≡ key x) ⊎ (o ≡ Some n)) (Some r) → IsLeast (IsKeyTwiceBelow key xs (i + 1)) (Some r)
  least_twice-hit i x o r here before least lesser =
      IsLeast-more (IsKeyTwiceBelow key xs i) (IsKeyTwiceBelow key xs (i + 1)) o (key x) r (IsKeyTwiceBelow-more key xs i)
      (record { place = i; element = x; within = omega arith; found = here; keyed = refl; before = before })
      (λ n at. ⊎_elim (λ p. inl p) (λ e. inr e.0) (IsKeyTwiceBelow-cases key xs i n x here at)) least lesser

  -- the next element's key is had by none before it
  pub least_twice-miss : (i : ℕ) (x : X) (o : Option ℕ) → slice_get xs i ≡ Some x → (IsKeyBelow key xs i (key x) → ⊥) → IsLeast (IsKeyTwiceBelow key xs i) o → IsLeast (IsKeyTwiceBelow key xs (i + 1)) o
  least_twice-miss i x o here none least =
      IsLeast-same (IsKeyTwiceBelow key xs i) (IsKeyTwiceBelow key xs (i + 1)) o (IsKeyTwiceBelow-more key xs i)
      (λ n at. ⊎_elim (λ p. p) (λ e. absurd (none (subst (IsKeyBelow key xs i) (sym e.0) e.1))) (IsKeyTwiceBelow-cases key xs i n x here at)) least

module _ {X : Type 0} (key : X → ℕ) (test : X → Bool) (xs : List X) where
  pub IsPassBelow-more : (i k : ℕ) → IsPassBelow key test xs i k → IsPassBelow key test xs (i + 1) k
  IsPassBelow-more i k at = record { place = at.place; element = at.element; within = omega (arith, at.within); found = at.found; keyed = at.keyed; passes = at.passes }

  pub IsPassBelow-cases : (i k : ℕ) (x : X) → slice_get xs i ≡ Some x → IsPassBelow key test xs (i + 1) k → IsPassBelow key test xs i k ⊎ ((key x ≡ k) × (test x ≡ true))
  IsPassBelow-cases i k x here at =
      ⊎_elim
      (λ e.
      let same = same_Some x at.element (sym here ∙ (sym (ap (slice_get xs) e) ∙ at.found)) in
      inr (ap key same ∙ at.keyed, ap test same ∙ at.passes))
      (λ ne. inl (record { place = at.place; element = at.element; within = omega (arith, at.within); found = at.found; keyed = at.keyed; passes = at.passes }))
      (cases_eq at.place i)

  -- the next element passes the test, or it does not
  pub IsPassBelow-hit : (i : ℕ) (x : X) → slice_get xs i ≡ Some x → test x ≡ true → IsPassBelow key test xs (i + 1) (key x)
  IsPassBelow-hit i x here passes = record { place = i; element = x; within = omega arith; found = here; keyed = refl; passes = passes }

  pub IsPassBelow-miss : (i k : ℕ) (x : X) → slice_get xs i ≡ Some x → test x ≡ false → IsPassBelow key test xs (i + 1) k → IsPassBelow key test xs i k
  IsPassBelow-miss i k x here fails at = ⊎_elim (λ p. p) (λ e. absurd (false≢true (sym fails ∙ e.1))) (IsPassBelow-cases i k x here at)

  pub least_pass-hit : (i : ℕ) (x : X) (o : Option ℕ) (r : ℕ) → slice_get xs i ≡ Some x → test x ≡ true → IsLeast (IsPassBelow key test xs i) o
      → IsLeast (λ n. (n ≡ key x) ⊎ (o ≡ Some n)) (Some r) → IsLeast (IsPassBelow key test xs (i + 1)) (Some r)
  least_pass-hit i x o r here passes least lesser =
      IsLeast-more (IsPassBelow key test xs i) (IsPassBelow key test xs (i + 1)) o (key x) r (IsPassBelow-more i)
      (IsPassBelow-hit i x here passes) (λ n at. ⊎_elim (λ p. inl p) (λ e. inr e.0) (IsPassBelow-cases i n x here at)) least lesser

  pub least_pass-miss : (i : ℕ) (x : X) (o : Option ℕ) → slice_get xs i ≡ Some x → test x ≡ false → IsLeast (IsPassBelow key test xs i) o → IsLeast (IsPassBelow key test xs (i + 1)) o
  least_pass-miss i x o here fails least =
      IsLeast-same (IsPassBelow key test xs i) (IsPassBelow key test xs (i + 1)) o (IsPassBelow-more i)
      (λ n at. IsPassBelow-miss i n x here fails at) least
