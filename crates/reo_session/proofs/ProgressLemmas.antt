-- What holds of each element so far; and when all operations are answered.
use Rattle.std.proofs.Common.{◌≡◌, ℕ, zero, suc, ◌+◌, ◌<◌, ◌≤◌, ⊎_elim, List, [], ◌∷◌, length, map, get_or, All, Bool, true, false, eqb, refl, sym, ap, ◌∙◌, subst, arith}
use Rattle.std.specs.Prelude.{not, ◌&&◌}
use Rattle.std.proofs.lemmas.Bool.{and_parts, and_from, eqb-true, eq-eqb, false≢true, cases_lt}
use Rattle.std.proofs.lemmas.List.{get_or_default}
use Rattle.reo_value.specs.declared.op.Op.{Op}
use Rattle.reo_trace.specs.declared.report.Called.{Called}
use Rattle.reo_trace.specs.Lawful.{AllAnswered}
use Rattle.reo_session.specs.Running.{same_lengths}

module _ {A : Type 0} (P : A → Type 0) (xs : List A) where
  -- the first elements, so many
  abbrev pub AreFirst : ℕ → Type 0
  AreFirst i = (k : ℕ) (d : A) → k < i → k < length xs → P (get_or xs k d)

  pub first_more : (i : ℕ) (x : A) → AreFirst i → x ≡ get_or xs i x → P x → AreFirst (i + 1)
  first_more i x before is has k d below inside =
      ⊎_elim
      (λ less. before k d less inside)
      (λ not_less.
      let same : i ≡ k = omega (arith, below, not_less) in
      subst P (is ∙ ap (λ j. get_or xs j x) same ∙ get_or_default xs k x d inside) has)
      (cases_lt k i)

  pub first_all : (i : ℕ) → AreFirst i → length xs ≤ i → All P xs
  first_all i before all k d below = before k d (omega (arith, below, all)) below

-- as many calls as operations
pub all_answered : (scripts : List (List Op)) (calls : List (List Called)) → length calls ≡ length scripts → same_lengths scripts calls ≡ true → AllAnswered scripts calls
all_answered [] [] count same = refl
all_answered [] (o ∷ calls) count same = absurd (omega (arith, count))
all_answered (s ∷ scripts) [] count same = absurd (omega (arith, count))
all_answered (s ∷ scripts) (o ∷ calls) count same =
    let parts = and_parts (eqb (length s) (length o)) (same_lengths scripts calls) same in
    let rest = all_answered scripts calls (omega (arith, count)) parts.1 in
    ap (λ n. n ∷ map length calls) (sym (eqb-true (length s) (length o) parts.0)) ∙ ap (λ ns. length s ∷ ns) rest

same_when_answered : (scripts : List (List Op)) (calls : List (List Called)) → AllAnswered scripts calls → same_lengths scripts calls ≡ true
same_when_answered [] calls all = refl
same_when_answered (s ∷ scripts) [] all = refl
same_when_answered (s ∷ scripts) (o ∷ calls) all =
    and_from (eqb (length s) (length o)) (same_lengths scripts calls) (eq-eqb (length s) (length o) (let e : length s ≡ length o = cc in e)) (same_when_answered scripts calls (let e : map length calls ≡ map length scripts = cc in e))

pub not_all : (scripts : List (List Op)) (calls : List (List Called)) → same_lengths scripts calls ≡ false → AllAnswered scripts calls → ⊥
not_all scripts calls differ all = false≢true (sym differ ∙ same_when_answered scripts calls all)

pub not_true : (b : Bool) → not b ≡ true → b ≡ false
not_true true is = absurd (false≢true is)
not_true false is = refl

and_false : (b : Bool) → (b && false) ≡ false
and_false true = refl
and_false false = refl

-- a component with fewer calls than operations tells that not all is answered
pub one_waits : (k : ℕ) (scripts : List (List Op)) (calls : List (List Called)) (script : List Op) (own : List Called) → k < length scripts → k < length calls → script ≡ get_or scripts k script → own ≡ get_or calls k own
    → eqb (length script) (length own) ≡ false → same_lengths scripts calls ≡ false
one_waits k [] calls script own inside within at at_own differ = absurd (omega (arith, inside))
one_waits k (s ∷ scripts) [] script own inside within at at_own differ = absurd (omega (arith, within))
one_waits zero (s ∷ scripts) (o ∷ calls) script own inside within at at_own differ =
    ap (λ b. b && same_lengths scripts calls) (ap (λ x. eqb (length x) (length o)) (sym at) ∙ ap (λ x. eqb (length script) (length x)) (sym at_own) ∙ differ)
one_waits (suc k) (s ∷ scripts) (o ∷ calls) script own inside within at at_own differ =
    ap (λ b. eqb (length s) (length o) && b) (one_waits k scripts calls script own (omega (arith, inside)) (omega (arith, within)) at at_own differ) ∙ and_false (eqb (length s) (length o))
