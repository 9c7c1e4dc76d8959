-- Marks that are changed, and changed back.
use Rattle.std.proofs.Common.{◌≡◌, ℕ, ◌+◌, ◌<◌, ◌≤◌, ◌⊎◌, inl, inr, List, [], ◌∷◌, ◌++◌, length, take, drop, set, get_or, true, false, cond, refl, sym, ◌∙◌, ap, subst, arith, length-set, get_or-set_other, get_or-set_same, length-append, append-nil, append_assoc}
use Rattle.std.specs.Prelude.{nat_eq}
use Rattle.std.proofs.lemmas.Bool.{false≢true, eqb-true, eq-eqb, cases_Bool}
use Rattle.std.proofs.lemmas.List.{same_lists, take-append-drop, take-append-le, drop-append-le}
use Rattle.std.proofs.Math.Seq.{take-append_seam, drop-append_seam}
use Rattle.reo_growth.specs.declared.marks.Mark.{Mark}
use Rattle.reo_growth.specs.declared.trail.Old.{Old}
use Rattle.reo_growth.specs.declared.trail.Trail.{Trail}
use Rattle.reo_growth.specs.Lists.{Among}
use Rattle.reo_growth.specs.Trail.{undone, Undoes, AreSame}
use Rattle.reo_growth.proofs.ListLemmas.{among_front, among_back, append_gives}

undone-append : (xs ys : List Old) (k : ℕ) (m : Mark) → undone (xs ++ ys) k m ≡ undone xs k (undone ys k m)
undone-append [] ys k m = refl
undone-append (x ∷ xs) ys k m = ap (λ rest. cond (nat_eq x.place k) x.mark rest) (undone-append xs ys k m)

pub none_changed : (a b : Trail) → AreSame a b → Undoes a b
none_changed a b same = record {
  changes = [];
  logged = sym same.log ∙ sym (append-nil a.log.items);
  long = ap length (sym same.marks);
  within = λ change at. absurd at;
  back = λ k d below. ap (λ xs. get_or xs k d) (sym same.marks);
}

pub more_changed : (a b c : Trail) → Undoes a b → Undoes b c → Undoes a c
more_changed a b c first second = record {
  changes = first.changes ++ second.changes;
  logged = second.logged ∙ ap (λ xs. xs ++ second.changes) first.logged ∙ append_assoc a.log.items first.changes second.changes;
  long = second.long ∙ first.long;
  within = λ change at. elim (append_gives change first.changes second.changes at) [ inl here ↦ first.within change here | inr there ↦ subst (λ n. change.place < n) first.long (second.within change there) ];
  back = λ k d below.
      undone-append first.changes second.changes k (get_or c.marks.items k d)
      ∙ ap (undone first.changes k) (second.back k d (subst (λ n. k < n) (sym first.long) below)) ∙ first.back k d below;
}

-- all is as it was, where no change is left
pub all_undone : (a b : Trail) → Undoes a b → length b.log.items ≤ length a.log.items → AreSame a b
all_undone a b u few = go u.changes refl
  where
    go : (xs : List Old) → u.changes ≡ xs → AreSame a b
    go [] is = record {
      marks = same_lists a.marks.items b.marks.items (sym u.long) (λ k d below. sym (u.back k d below) ∙ ap (λ xs. undone xs k (get_or b.marks.items k d)) is);
      log = sym (u.logged ∙ ap (λ xs. a.log.items ++ xs) is ∙ append-nil a.log.items);
    }
    go (x ∷ xs) is =
        let more : length b.log.items ≡ length a.log.items + length (x ∷ xs) = ap length u.logged ∙ length-append a.log.items u.changes ∙ ap (λ ys. length a.log.items + length ys) is in
        absurd (omega arith)

-- the last change is changed back
module _ (a b c : Trail) (front : List Old) (old : Old) (u : Undoes a b) (popped : b.log.items ≡ front ++ old ∷ []) (more : length a.log.items < length b.log.items) where
  size : length b.log.items ≡ length front + 1
  size = ap length popped ∙ length-append front (old ∷ [])

  rest : List Old
  rest = drop (length a.log.items) front

  whole : u.changes ≡ rest ++ old ∷ []
  unfolding rest
  whole =
      sym (drop-append_seam a.log.items u.changes) ∙ ap (drop (length a.log.items)) (sym u.logged ∙ popped)
      ∙ drop-append-le (length a.log.items) front (old ∷ []) (omega (arith, size))

  starts : take (length a.log.items) front ≡ a.log.items
  starts =
      sym (take-append-le (length a.log.items) front (old ∷ []) (omega (arith, size)))
      ∙ ap (take (length a.log.items)) (sym popped ∙ u.logged) ∙ take-append_seam a.log.items u.changes

  last : Among old u.changes
  last = subst (Among old) (sym whole) (among_back old rest (old ∷ []) (inl refl))

  pub last_within : old.place < length b.marks.items
  last_within = subst (λ n. old.place < n) (sym u.long) (u.within old last)

  pub one_undone : c.log.items ≡ front → c.marks.items ≡ set b.marks.items old.place old.mark → Undoes a c
  unfolding rest
  one_undone logged marked = record {
    changes = rest;
    logged = logged ∙ sym (take-append-drop (length a.log.items) front) ∙ ap (λ xs. xs ++ rest) starts;
    long = ap length marked ∙ length-set b.marks.items old.place old.mark ∙ u.long;
    within = λ change at. u.within change (subst (Among change) (sym whole) (among_front change rest (old ∷ []) at));
    back = λ k d below. ap (undone rest k) (ap (λ xs. get_or xs k d) marked ∙ at_place k d below (cases_Bool (nat_eq old.place k)))
        ∙ sym (undone-append rest (old ∷ []) k (get_or b.marks.items k d)) ∙ ap (λ xs. undone xs k (get_or b.marks.items k d)) (sym whole) ∙ u.back k d below;
  }
    where
      at_place : (k : ℕ) (d : Mark) → k < length a.marks.items → (nat_eq old.place k ≡ true) ⊎ (nat_eq old.place k ≡ false)
          → get_or (set b.marks.items old.place old.mark) k d ≡ cond (nat_eq old.place k) old.mark (get_or b.marks.items k d)
      at_place k d below (inl here) =
          let e : old.place ≡ k = eqb-true old.place k here in
          ap (λ y. get_or (set b.marks.items old.place old.mark) y d) (sym e) ∙ get_or-set_same b.marks.items old.place old.mark d last_within
          ∙ sym (ap (λ q. cond q old.mark (get_or b.marks.items k d)) here)
      at_place k d below (inr other) =
          let ne : k ≡ old.place → ⊥ = λ e. false≢true (sym other ∙ eq-eqb old.place k (sym e)) in
          get_or-set_other b.marks.items old.place k old.mark d ne ∙ sym (ap (λ q. cond q old.mark (get_or b.marks.items k d)) other)
