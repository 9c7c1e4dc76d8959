-- Lists of places, of entries, and the count of cleared regions.
use Rattle.std.proofs.Common.{◌≡◌, ℕ, zero, suc, ◌+◌, ◌<◌, ◌≤◌, ◌⊎◌, inl, inr, ⊎_elim, Bool, true, false, cond, List, [], ◌∷◌, ◌++◌, length, nat_eq, Some, None, refl, sym, ap, ◌∙◌, subst, arith, append-nil}
use Rattle.std.proofs.lemmas.Bool.{cases_eq, eq-eqb, ne_eqb}
use Rattle.std.proofs.lemmas.Bool.Decides.{eqb_tells}
use Rattle.reo_fabric.specs.declared.entry.Entry.{Entry}
use Rattle.reo_fabric.specs.declared.entry.Numbered.{Numbered}
use Rattle.reo_fabric.specs.Entry.{at_place, RisesFrom}
use Rattle.reo_fabric.proofs.PlaceLemmas.{at_first, at_later, none_below, rises_from_below}
use Rattle.reo_coupling.specs.declared.view.RegionView.{RegionView}
use Rattle.reo_coupling.specs.declared.view.Stage.{Stage}
use Rattle.reo_coupling.specs.declared.view.Stage.TheVariants.{Between, UnderWay, Cleared}
use Rattle.reo_coupling.specs.Views.{without}
use Rattle.reo_coupling.specs.PortParts.{AreOnce}
use Rattle.reo_coupling.specs.Parts.{entries_of, clearance, cleared_below}

module _ {A : Type 0} where
  without_on : (c : ℕ) (p : ℕ × A) (places : List (ℕ × A)) → nat_eq c p.0 ≡ true → without c (p ∷ places) ≡ without c places
  without_on c p places is = ap (λ b. cond b (without c places) (p ∷ without c places)) is

  without_off : (c : ℕ) (p : ℕ × A) (places : List (ℕ × A)) → nat_eq c p.0 ≡ false → without c (p ∷ places) ≡ p ∷ without c places
  without_off c p places is = ap (λ b. cond b (without c places) (p ∷ without c places)) is

  -- nothing is left at the place, and all is left at each other
  pub without_here : (c : ℕ) (places : List (ℕ × A)) → at_place (without c places) c ≡ None
  without_here c [] = refl
  without_here c (p ∷ places) =
      ⊎_elim
      (λ is. ap (λ l. at_place l c) (without_on c p places is.0) ∙ without_here c places)
      (λ not. ap (λ l. at_place l c) (without_off c p places not.0) ∙ (at_later p (without c places) c not.0 ∙ without_here c places))
      (eqb_tells c p.0)

  pub without_else : (c d : ℕ) (places : List (ℕ × A)) → (d ≡ c → ⊥) → at_place (without c places) d ≡ at_place places d
  without_else c d [] ne = refl
  without_else c d (p ∷ places) ne =
      ⊎_elim
      (λ is. ap (λ l. at_place l d) (without_on c p places is.0) ∙ (without_else c d places ne ∙ sym (at_later p places d (ne_eqb d p.0 (λ e. ne (e ∙ sym is.1))))))
      (λ not.
      ap (λ l. at_place l d) (without_off c p places not.0)
      ∙ ⊎_elim
      (λ here. at_first p (without c places) d here.0 ∙ sym (at_first p places d here.0))
      (λ later. at_later p (without c places) d later.0 ∙ (without_else c d places ne ∙ sym (at_later p places d later.0)))
      (eqb_tells d p.0))
      (eqb_tells c p.0)

  -- what is left was there
  pub without_found : (c d : ℕ) (places : List (ℕ × A)) (value : A) → at_place (without c places) d ≡ Some value → at_place places d ≡ Some value
  without_found c d places value found =
      ⊎_elim
      (λ is.
      let none : at_place (without c places) d ≡ None = subst (λ n. at_place (without c places) n ≡ None) (sym is) (without_here c places) in
      cc)
      (λ ne. sym (without_else c d places ne) ∙ found)
      (cases_eq d c)

  pub without_rises : (c : ℕ) (places : List (ℕ × A)) (low : ℕ) → RisesFrom low places → RisesFrom low (without c places)
  without_rises c [] low rise = tt
  without_rises c (p ∷ places) low rise =
      let rest : RisesFrom (p.0 + 1) (without c places) = without_rises c places (p.0 + 1) rise.1 in
      ⊎_elim
      (λ is. subst (RisesFrom low) (sym (without_on c p places is.0)) (rises_from_below (without c places) low (p.0 + 1) (omega (arith, rise.0)) rest))
      (λ not. subst (RisesFrom low) (sym (without_off c p places not.0)) (rise.0, rest))
      (eqb_tells c p.0)

  pub without_once : (c : ℕ) (places : List (ℕ × A)) → AreOnce places → AreOnce (without c places)
  without_once c [] once = tt
  without_once c (p ∷ places) once =
      let rest = without_once c places once.1 in
      ⊎_elim
      (λ is. subst AreOnce (sym (without_on c p places is.0)) rest)
      (λ not. subst AreOnce (sym (without_off c p places not.0)) (without_else c p.0 places (λ same. not.1 (sym same)) ∙ once.0, rest))
      (eqb_tells c p.0)

  pub rising_once : (places : List (ℕ × A)) (low : ℕ) → RisesFrom low places → AreOnce places
  rising_once [] low rise = tt
  rising_once (p ∷ places) low rise = (none_below places (p.0 + 1) p.0 rise.1 (omega arith), rising_once places (p.0 + 1) rise.1)

-- what is at a place of a list with one place more at its end
pub at_more : (places : List (ℕ × ℕ)) (c d w x : ℕ) → at_place (places ++ (c, w) ∷ []) d ≡ Some x → (at_place places d ≡ Some x) ⊎ ((d ≡ c) × (w ≡ x))
at_more [] c d w x found = ⊎_elim (λ is. inr (is.1, same w x (sym (at_first (c, w) [] d is.0) ∙ found))) (λ not. inl (sym (at_later (c, w) [] d not.0) ∙ found)) (eqb_tells d c)
  where
    same : (a b : ℕ) → Some a ≡ Some b → a ≡ b
    same a b is = cc
at_more (p ∷ places) c d w x found =
    ⊎_elim
    (λ is. inl (at_first p places d is.0 ∙ (sym (at_first p (places ++ (c, w) ∷ []) d is.0) ∙ found)))
    (λ not.
    ⊎_elim
    (λ there. inl (at_later p places d not.0 ∙ there))
    (λ last. inr last)
    (at_more places c d w x (sym (at_later p (places ++ (c, w) ∷ []) d not.0) ∙ found)))
    (eqb_tells d p.0)

-- the entries of a region, with one entry more
entries_more : (region first : ℕ) (entries : List Entry) (entry : Entry) (number : ℕ) → number ≡ first + length entries
    → entries_of region first (entries ++ entry ∷ []) ≡ entries_of region first entries ++ cond (nat_eq region entry.region) (record { number = number; entry = entry } ∷ []) []
entries_more region first [] entry number is =
    let same : first ≡ number = omega arith in
    ap (λ n. cond (nat_eq region entry.region) (record { number = n; entry = entry } ∷ []) []) same
entries_more region first (e ∷ entries) entry number is =
    let rest = entries_more region (first + 1) entries entry number (omega arith) in
    let one : Numbered = record { number = first; entry = e } in
    go (nat_eq region e.region) one (entries_of region (first + 1) entries) (entries_of region (first + 1) (entries ++ entry ∷ [])) _ rest
  where
    go : (b : Bool) (x : Numbered) (xs ys zs : List Numbered) → ys ≡ xs ++ zs → cond b (x ∷ ys) ys ≡ cond b (x ∷ xs) xs ++ zs
    go true x xs ys zs same = ap (λ l. x ∷ l) same
    go false x xs ys zs same = same

pub entries_mine : (region : ℕ) (entries : List Entry) (entry : Entry) (number : ℕ) → number ≡ length entries → entry.region ≡ region
    → entries_of region 0 (entries ++ entry ∷ []) ≡ entries_of region 0 entries ++ record { number = number; entry = entry } ∷ []
entries_mine region entries entry number is mine =
    entries_more region 0 entries entry number (omega arith)
    ∙ ap (λ b. entries_of region 0 entries ++ cond b (record { number = number; entry = entry } ∷ []) []) (eq-eqb region entry.region (sym mine))

pub entries_other : (region : ℕ) (entries : List Entry) (entry : Entry) → (region ≡ entry.region → ⊥) → entries_of region 0 (entries ++ entry ∷ []) ≡ entries_of region 0 entries
entries_other region entries entry other =
    entries_more region 0 entries entry (length entries) (omega arith)
    ∙ (ap (λ b. entries_of region 0 entries ++ cond b (record { number = length entries; entry = entry } ∷ []) []) (ne_eqb region entry.region other) ∙ append-nil (entries_of region 0 entries))

at_most_one : (stage : Stage) → clearance stage ≤ 1
at_most_one Between = omega arith
at_most_one UnderWay = omega arith
at_most_one Cleared = omega arith

-- no more regions are cleared than there are
pub cleared_few : (n : ℕ) (book : ℕ → RegionView) → cleared_below n book ≤ n
cleared_few zero book = omega arith
cleared_few (suc n) book = omega (arith, at_most_one (book n).cells.stage, cleared_few n book)

pub cleared_no_more : (n : ℕ) (book later : ℕ → RegionView) → ((r : ℕ) → clearance (later r).cells.stage ≤ clearance (book r).cells.stage) → cleared_below n later ≤ cleared_below n book
cleared_no_more zero book later each = omega arith
cleared_no_more (suc n) book later each = omega (arith, each n, cleared_no_more n book later each)

-- one region's clearance is used
pub cleared_less : (n : ℕ) (book later : ℕ → RegionView) (region : ℕ) → region < n → ((r : ℕ) → clearance (later r).cells.stage ≤ clearance (book r).cells.stage)
    → (clearance (later region).cells.stage ≡ 0) → (clearance (book region).cells.stage ≡ 1) → cleared_below n later + 1 ≤ cleared_below n book
cleared_less zero book later region within each after before = absurd (omega arith)
cleared_less (suc n) book later region within each after before =
    ⊎_elim
    (λ is.
    let after' : clearance (later n).cells.stage ≡ 0 = subst (λ r. clearance (later r).cells.stage ≡ 0) is after in
    let before' : clearance (book n).cells.stage ≡ 1 = subst (λ r. clearance (book r).cells.stage ≡ 1) is before in
    omega (arith, after', before', cleared_no_more n book later each))
    (λ ne. omega (arith, each n, cleared_less n book later region (omega arith) each after before))
    (cases_eq region n)
