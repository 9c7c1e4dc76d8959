-- two labels made one are the labels of one pair more
use Rattle.std.proofs.Common.{◌≡◌, ℕ, ◌<◌, ◌≤◌, ◌⊎◌, ⊎_elim, inl, inr, cond, List, [], ◌∷◌, map, refl, sym, ap, ◌∙◌, subst, arith}
use Rattle.std.specs.List.{range_with_len}
use Rattle.std.proofs.lemmas.Bool.{cases_eq, eq-eqb, ne_eqb}
use Rattle.std.proofs.lemmas.List.{length-map, get_or-map}
use Rattle.std.proofs.lemmas.List.FromFn.{length-range_with_len, get_or-range_with_len}
use Rattle.reo_cut.specs.Labels.{moved, Linked, stays, forth, back, label_at, AreLabels}

-- at first each number has its own
pub own_labels : (n : ℕ) → AreLabels [] n (range_with_len 0 n)
own_labels n = record {
  len = length-range_with_len 0 n;
  inside = λ a b pair. absurd pair;
  same = λ x y in_x in_y e. subst (Linked [] x) (let at_x = own x in_x in let at_y = own y in_y in let is : x ≡ y = omega (arith, e, at_x, at_y) in is) stays;
  linked = λ x y in_x in_y path. ap (label_at (range_with_len 0 n)) (alone x path);
  least = λ x h. omega (arith, own x h);
  member = λ x h. subst (Linked [] x) (sym (own x h)) stays;
}
  where
    own : (x : ℕ) → x < n → label_at (range_with_len 0 n) x ≡ x
    own x h = let at = get_or-range_with_len 0 n x 0 h in omega (arith, at)

    alone : (x : ℕ) {y : ℕ} → Linked [] x y → x ≡ y
    alone x stays = refl
    alone x (forth b path pair) = absurd pair
    alone x (back a path pair) = absurd pair

-- more pairs link more
wider : (pairs : List (ℕ × ℕ)) (pair : ℕ × ℕ) (x : ℕ) {y : ℕ} → Linked pairs x y → Linked (pair ∷ pairs) x y
wider pairs pair x stays = stays
wider pairs pair x (forth b path is) = forth b (wider pairs pair x path) (inr is)
wider pairs pair x (back a path is) = back a (wider pairs pair x path) (inr is)

pub linked_on : (pairs : List (ℕ × ℕ)) (x y : ℕ) {z : ℕ} → Linked pairs x y → Linked pairs y z → Linked pairs x z
linked_on pairs x y path stays = path
linked_on pairs x y path (forth b more is) = forth b (linked_on pairs x y path more) is
linked_on pairs x y path (back a more is) = back a (linked_on pairs x y path more) is

pub linked_back : (pairs : List (ℕ × ℕ)) (x : ℕ) {y : ℕ} → Linked pairs x y → Linked pairs y x
linked_back pairs x stays = stays
linked_back pairs x (forth {a} b path is) = linked_on pairs b a (back a stays is) (linked_back pairs x path)
linked_back pairs x (back a {b} path is) = linked_on pairs a b (forth b stays is) (linked_back pairs x path)

pub moved_at : (from to : ℕ) → moved from to from ≡ to
moved_at from to = ap (λ b. cond b to from) (eq-eqb from from refl)

pub moved_past : (from to label : ℕ) → (label ≡ from → ⊥) → moved from to label ≡ label
moved_past from to label apart = ap (λ b. cond b to label) (ne_eqb label from apart)

-- a pair whose ends have two labels, of which the greater gives way
module _ (pairs : List (ℕ × ℕ)) (n : ℕ) (labels : List ℕ) (are : AreLabels pairs n labels) (p q a b : ℕ) (in_p : p < n) (in_q : q < n) (order : label_at labels q ≤ label_at labels p)
    (pair : ((p ≡ a) × (q ≡ b)) ⊎ ((p ≡ b) × (q ≡ a))) where
  from : ℕ
  from = label_at labels p

  to : ℕ
  to = label_at labels q

  new : List ℕ
  new = map (moved (label_at labels p) (label_at labels q)) labels

  abbrev more : List (ℕ × ℕ)
  more = (a, b) ∷ pairs

  at_new : (x : ℕ) → x < n → label_at new x ≡ moved (label_at labels p) (label_at labels q) (label_at labels x)
  unfolding new
  at_new x h = get_or-map (moved (label_at labels p) (label_at labels q)) labels x 0 0 (omega (arith, h, are.len))

  p_to_q : Linked more p q
  p_to_q =
      ⊎_elim
      (λ way. subst (λ x. Linked more x q) (sym way.0) (subst (Linked more a) (sym way.1) (forth b stays (inl (refl, refl)))))
      (λ way. subst (λ x. Linked more x q) (sym way.0) (subst (Linked more b) (sym way.1) (back a stays (inl (refl, refl)))))
      pair

  in_a : a < n
  in_a = ⊎_elim (λ way. subst (λ x. x < n) way.0 in_p) (λ way. subst (λ x. x < n) way.1 in_q) pair

  in_b : b < n
  in_b = ⊎_elim (λ way. subst (λ x. x < n) way.1 in_q) (λ way. subst (λ x. x < n) way.0 in_p) pair

  -- p and q have one label now
  p_is_q : label_at new p ≡ label_at new q
  p_is_q =
      at_new p in_p ∙ (moved_at (label_at labels p) (label_at labels q) ∙ sym (at_new q in_q ∙ ⊎_elim
      (λ (same : label_at labels q ≡ label_at labels p). ap (moved (label_at labels p) (label_at labels q)) same ∙ moved_at (label_at labels p) (label_at labels q))
      (λ apart. moved_past (label_at labels p) (label_at labels q) (label_at labels q) apart)
      (cases_eq (label_at labels q) (label_at labels p))))

  a_is_b : label_at new a ≡ label_at new b
  a_is_b =
      ⊎_elim
      (λ way. subst (λ x. label_at new x ≡ label_at new b) way.0 (p_is_q ∙ ap (label_at new) way.1))
      (λ way. sym (subst (λ x. label_at new x ≡ label_at new a) way.0 (p_is_q ∙ ap (label_at new) way.1)))
      pair

  kept : (x y : ℕ) → x < n → y < n → label_at labels x ≡ label_at labels y → label_at new x ≡ label_at new y
  kept x y in_x in_y same = at_new x in_x ∙ (ap (moved (label_at labels p) (label_at labels q)) same ∙ sym (at_new y in_y))

  -- a path gives one label
  along : (x : ℕ) → x < n → {y : ℕ} → Linked more x y → (y < n) × (label_at new x ≡ label_at new y)
  along x h stays = (h, refl)
  along x h (forth {a = c} d path is) =
      let so_far = along x h path in
      ⊎_elim
      (λ (first : (a ≡ c) × (b ≡ d)). (subst (λ z. z < n) first.1 in_b, so_far.1 ∙ (ap (label_at new) (sym first.0) ∙ (a_is_b ∙ ap (label_at new) first.1))))
      (λ old. let ends = are.inside c d old in (ends.1, so_far.1 ∙ kept c d ends.0 ends.1 (are.linked c d ends.0 ends.1 (forth d stays old))))
      is
  along x h (back c {b = d} path is) =
      let so_far = along x h path in
      ⊎_elim
      (λ (first : (a ≡ c) × (b ≡ d)). (subst (λ z. z < n) first.0 in_a, so_far.1 ∙ (ap (label_at new) (sym first.1) ∙ (sym a_is_b ∙ ap (label_at new) first.0))))
      (λ old. let ends = are.inside c d old in (ends.0, so_far.1 ∙ sym (kept c d ends.0 ends.1 (are.linked c d ends.0 ends.1 (forth d stays old)))))
      is

  -- what a number is linked to by its label
  to_label : (x y : ℕ) → x < n → y < n → label_at labels x ≡ label_at labels y → Linked more x y
  to_label x y in_x in_y same = wider pairs (a, b) x (are.same x y in_x in_y same)

  -- its label now
  new_cases : (x : ℕ) → x < n → ((label_at labels x ≡ label_at labels p) × (label_at new x ≡ label_at labels q)) ⊎ (label_at new x ≡ label_at labels x)
  new_cases x h =
      ⊎_elim
      (λ same. inl (same, at_new x h ∙ (ap (moved (label_at labels p) (label_at labels q)) same ∙ moved_at (label_at labels p) (label_at labels q))))
      (λ apart. inr (at_new x h ∙ moved_past (label_at labels p) (label_at labels q) (label_at labels x) apart))
      (cases_eq (label_at labels x) (label_at labels p))

  -- numbers with one label are linked
  one_label : (x y : ℕ) → x < n → y < n → label_at new x ≡ label_at new y → Linked more x y
  one_label x y in_x in_y same =
      ⊎_elim
      (λ at_x. ⊎_elim
      (λ at_y. to_label x y in_x in_y (at_x.0 ∙ sym at_y.0))
      (λ as_y.
      let q_to_y = to_label q y in_q in_y (sym at_x.1 ∙ (same ∙ as_y)) in
      linked_on more x q (linked_on more x p (to_label x p in_x in_p at_x.0) p_to_q) q_to_y)
      (new_cases y in_y))
      (λ as_x. ⊎_elim
      (λ at_y.
      let x_to_q = to_label x q in_x in_q (sym as_x ∙ (same ∙ at_y.1)) in
      linked_on more x p (linked_on more x q x_to_q (linked_back more p p_to_q)) (to_label p y in_p in_y (sym at_y.0)))
      (λ as_y. to_label x y in_x in_y (sym as_x ∙ (same ∙ as_y)))
      (new_cases y in_y))
      (new_cases x in_x)

  pub relabelled : AreLabels ((a, b) ∷ pairs) n (map (moved (label_at labels p) (label_at labels q)) labels)
  unfolding new
  relabelled = record {
    len = length-map labels (moved (label_at labels p) (label_at labels q)) ∙ are.len;
    inside = λ c d is. ⊎_elim (λ (first : (a ≡ c) × (b ≡ d)). (subst (λ z. z < n) first.0 in_a, subst (λ z. z < n) first.1 in_b)) (λ old. are.inside c d old) is;
    same = one_label;
    linked = λ x y in_x in_y path. (along x in_x path).1;
    least = λ x h. ⊎_elim (λ at. let low = are.least x h in omega (arith, at.0, at.1, order, low)) (λ stays_so. let low = are.least x h in omega (arith, stays_so, low)) (new_cases x h);
    member = λ x h. ⊎_elim
        (λ at. subst (Linked more x) (sym at.1) (linked_on more x q (linked_on more x p (to_label x p h in_p at.0) p_to_q) (wider pairs (a, b) q (are.member q in_q))))
        (λ stays_so. subst (Linked more x) (sym stays_so) (wider pairs (a, b) x (are.member x h)))
        (new_cases x h);
  }
