-- parents that lead to the labels of regions
use Rattle.std.proofs.Common.{◌≡◌, ℕ, ◌+◌, ◌<◌, ◌≤◌, ◌⊎◌, ⊎_elim, inl, inr, List, [], ◌∷◌, length, map, set, refl, sym, ap, ◌∙◌, subst, ext_get_or, arith, length-set, get_or-set_same, get_or-set_other}
use Rattle.std.proofs.lemmas.Bool.{cases_eq}
use Rattle.std.proofs.lemmas.List.{length-map, get_or-map}
use Rattle.std.proofs.lemmas.List.FromFn.{length-range_with_len, get_or-range_with_len}
use Rattle.std.specs.List.{range_with_len}
use Rattle.reo_cut.specs.Labels.{moved, label_at, AreLabels}
use Rattle.reo_cut.specs.Parents.{DoNotRise, LeadTo, AreParents, IsOnTheWay, IsSettledUpTo}
use Rattle.reo_cut.proofs.RelabelLaw.{own_labels, relabelled, moved_at, moved_past}

-- one parent more set: by cases on the number that is asked for
set_cases : (P : ℕ → ℕ → Type 0) (parents : List ℕ) (place parent : ℕ) → place < length parents → P place parent → ((x : ℕ) → (x ≡ place → ⊥) → P x (label_at parents x)) → (x : ℕ) → P x (label_at (set parents place parent) x)
set_cases P parents place parent within here there x =
    ⊎_elim
    (λ same. subst (λ z. P z (label_at (set parents place parent) z)) (sym same) (subst (P place) (sym (get_or-set_same parents place parent 0 within)) here))
    (λ apart. subst (P x) (sym (get_or-set_other parents place x parent 0 apart)) (there x apart))
    (cases_eq x place)

pub at_start : (number : ℕ) (parents : List ℕ) → number < length parents → DoNotRise parents → IsOnTheWay number parents parents number
at_start number parents within falls = record { len = refl; within = within; falls = falls; kept = λ labels lead. (lead, refl) }

-- a step up the way halves it
module _ (number : ℕ) (old parents : List ℕ) (place : ℕ) (way : IsOnTheWay number old parents place) where
  abbrev parent : ℕ
  parent = label_at parents place

  abbrev next : ℕ
  next = label_at parents (label_at parents place)

  abbrev new : List ℕ
  new = set parents place (label_at parents (label_at parents place))

  parent_within : label_at parents place < length parents
  parent_within = omega (arith, way.within, way.falls place way.within)

  pub next_within : label_at parents (label_at parents place) ≤ place
  next_within = omega (arith, way.falls (label_at parents place) parent_within, way.falls place way.within)

  new_falls : DoNotRise (set parents place (label_at parents (label_at parents place)))
  new_falls x h =
      set_cases (λ y up. y < length parents → up ≤ y) parents place next way.within (λ in_place. next_within) (λ y apart in_y. way.falls y in_y) x (omega (arith, h, length-set parents place next))

  module _ (labels : List ℕ) (lead : LeadTo labels parents) where
    here : place < length labels
    here = omega (arith, way.within, lead.len)

    up : label_at parents place < length labels
    up = omega (arith, parent_within, lead.len)

    next_same : label_at labels next ≡ label_at labels place
    next_same = lead.same parent up ∙ lead.same place here

    next_ends : next ≡ place → label_at labels place ≡ place
    next_ends e = lead.ends place here (let falls = way.falls (label_at parents place) parent_within in let first = way.falls place way.within in omega (arith, falls, first, e))

    new_lead : LeadTo labels (set parents place (label_at parents (label_at parents place)))
    new_lead = record {
      len = length-set parents place next ∙ lead.len;
      falls = set_cases (λ y parent. y < length labels → parent ≤ y) parents place next way.within (λ in_place. next_within) (λ y apart in_y. lead.falls y in_y);
      same = set_cases (λ y parent. y < length labels → label_at labels parent ≡ label_at labels y) parents place next way.within (λ in_place. next_same) (λ y apart in_y. lead.same y in_y);
      ends = set_cases (λ y parent. y < length labels → parent ≡ y → label_at labels y ≡ y) parents place next way.within (λ in_place. next_ends) (λ y apart in_y. lead.ends y in_y);
    }

  pub step_up : IsOnTheWay number old (set parents place (label_at parents (label_at parents place))) (label_at parents (label_at parents place))
  step_up = record {
    len = length-set parents place next ∙ way.len;
    within = omega (arith, next_within, way.within, length-set parents place next);
    falls = new_falls;
    kept = λ labels lead. let was = way.kept labels lead in (new_lead labels was.0, next_same labels was.0 ∙ was.1);
  }

-- at first each number is its own parent
own_at : (n x : ℕ) → x < n → label_at (range_with_len 0 n) x ≡ x
own_at n x h = let at = get_or-range_with_len 0 n x 0 h in omega (arith, at)

pub own_fall : (n : ℕ) → DoNotRise (range_with_len 0 n)
own_fall n x h = omega (arith, own_at n x (omega (arith, h, length-range_with_len 0 n)))

pub own_parents : (n : ℕ) → AreParents [] n (range_with_len 0 n)
own_parents n = record {
  labels = range_with_len 0 n;
  are = own_labels n;
  lead = record {
    len = refl;
    falls = own_fall n;
    same = λ x h. ap (label_at (range_with_len 0 n)) (own_at n x (omega (arith, h, length-range_with_len 0 n)));
    ends = λ x h own. own;
  };
}

-- the labels stay, and both ways lead to them
pub own_label : (number : ℕ) (old parents : List ℕ) (root : ℕ) → IsOnTheWay number old parents root → label_at parents root ≡ root → (labels : List ℕ) → LeadTo labels old → label_at labels root ≡ root
own_label number old parents root way end labels lead = let kept = (way.kept labels lead).0 in kept.ends root (omega (arith, way.within, kept.len)) end

-- the greater of two roots leads to the lesser
module _ (pairs : List (ℕ × ℕ)) (n : ℕ) (labels parents : List ℕ) (are : AreLabels pairs n labels) (lead : LeadTo labels parents) (p q greater lesser a b : ℕ) (in_p : p < n) (in_q : q < n)
    (at_p : greater ≡ label_at labels p) (at_q : lesser ≡ label_at labels q) (within : greater < length parents) (own_greater : label_at labels greater ≡ greater) (own_lesser : label_at labels lesser ≡ lesser)
    (order : lesser ≤ greater) (pair : ((p ≡ a) × (q ≡ b)) ⊎ ((p ≡ b) × (q ≡ a))) where
  abbrev joint : List ℕ
  joint = map (moved greater lesser) labels

  at_joint : (x : ℕ) → x < length labels → label_at (map (moved greater lesser) labels) x ≡ moved greater lesser (label_at labels x)
  at_joint x h = get_or-map (moved greater lesser) labels x 0 0 h

  len_joint : length (map (moved greater lesser) labels) ≡ length labels
  len_joint = length-map labels (moved greater lesser)

  in_greater : greater < length labels
  in_greater = omega (arith, within, lead.len)

  in_lesser : lesser < length labels
  in_lesser = omega (arith, in_greater, order)

  lesser_stays : moved greater lesser lesser ≡ lesser
  lesser_stays = ⊎_elim (λ (same : lesser ≡ greater). ap (moved greater lesser) same ∙ moved_at greater lesser) (λ apart. moved_past greater lesser lesser apart) (cases_eq lesser greater)

  greater_same : label_at joint lesser ≡ label_at joint greater
  greater_same =
      at_joint lesser in_lesser ∙ (ap (moved greater lesser) own_lesser ∙ (lesser_stays ∙ (sym (moved_at greater lesser) ∙ (ap (moved greater lesser) (sym own_greater) ∙ sym (at_joint greater in_greater)))))

  greater_ends : lesser ≡ greater → label_at joint greater ≡ greater
  greater_ends e = sym greater_same ∙ (at_joint lesser in_lesser ∙ (ap (moved greater lesser) own_lesser ∙ (lesser_stays ∙ e)))

  other_ends : (x : ℕ) → (x ≡ greater → ⊥) → x < length labels → label_at parents x ≡ x → label_at joint x ≡ x
  other_ends x apart h own = let label = lead.ends x h own in at_joint x h ∙ (ap (moved greater lesser) label ∙ moved_past greater lesser x apart)

  other_same : (x : ℕ) → x < length labels → label_at joint (label_at parents x) ≡ label_at joint x
  other_same x h = at_joint (label_at parents x) (omega (arith, h, lead.falls x h)) ∙ (ap (moved greater lesser) (lead.same x h) ∙ sym (at_joint x h))

  pub joined_parents : AreParents ((a, b) ∷ pairs) n (set parents greater lesser)
  joined_parents = record {
    labels = joint;
    are = subst (λ g. AreLabels ((a, b) ∷ pairs) n (map (moved g lesser) labels)) (sym at_p)
        (subst (λ l. AreLabels ((a, b) ∷ pairs) n (map (moved (label_at labels p) l) labels)) (sym at_q)
        (relabelled pairs n labels are p q a b in_p in_q (omega (arith, order, at_p, at_q)) pair));
    lead = record {
      len = length-set parents greater lesser ∙ (lead.len ∙ sym len_joint);
      falls = λ x h. set_cases (λ y parent. y < length labels → parent ≤ y) parents greater lesser within (λ here. order) (λ y apart in_y. lead.falls y in_y) x (omega (arith, h, len_joint));
      same = λ x h. set_cases (λ y parent. y < length labels → label_at joint parent ≡ label_at joint y) parents greater lesser within (λ here. greater_same) (λ y apart in_y. other_same y in_y) x (omega (arith, h, len_joint));
      ends = λ x h. set_cases (λ y parent. y < length labels → parent ≡ y → label_at joint y ≡ y) parents greater lesser within (λ here. greater_ends) (λ y apart in_y. other_ends y apart in_y) x (omega (arith, h, len_joint));
    };
  }

-- joined by the roots of both ends
module _ (one other : ℕ) (old mid new : List ℕ) (first second : ℕ) (way_one : IsOnTheWay one old mid first) (end_one : label_at mid first ≡ first) (way_other : IsOnTheWay other mid new second)
    (end_other : label_at new second ≡ second) (in_one : one < length old) (in_other : other < length old) (pairs : List (ℕ × ℕ)) (n : ℕ) (are : AreParents pairs n old) where
  abbrev labels : List ℕ
  labels = are.labels

  lead_mid : LeadTo are.labels mid
  lead_mid = (way_one.kept are.labels are.lead).0

  lead_new : LeadTo are.labels new
  lead_new = (way_other.kept are.labels lead_mid).0

  own_first : label_at are.labels first ≡ first
  own_first = own_label one old mid first way_one end_one are.labels are.lead

  own_second : label_at are.labels second ≡ second
  own_second = own_label other mid new second way_other end_other are.labels lead_mid

  first_is : first ≡ label_at are.labels one
  first_is = sym own_first ∙ (way_one.kept are.labels are.lead).1

  second_is : second ≡ label_at are.labels other
  second_is = sym own_second ∙ (way_other.kept are.labels lead_mid).1

  one_below : one < n
  one_below = omega (arith, in_one, are.lead.len, are.are.len)

  other_below : other < n
  other_below = omega (arith, in_other, are.lead.len, are.are.len)

  pub second_to_first : first ≤ second → AreParents ((one, other) ∷ pairs) n (set new second first)
  second_to_first order =
      joined_parents pairs n are.labels new are.are lead_new other one second first one other other_below one_below second_is first_is way_other.within own_second own_first order (inr (refl, refl))

  pub first_to_second : second ≤ first → AreParents ((one, other) ∷ pairs) n (set new first second)
  first_to_second order =
      joined_parents pairs n are.labels new are.are lead_new one other first second one other one_below other_below first_is second_is (omega (arith, way_one.within, way_other.len)) own_first own_second order (inl (refl, refl))

pub joined_fall : (parents : List ℕ) (greater lesser : ℕ) → greater < length parents → lesser ≤ greater → DoNotRise parents → DoNotRise (set parents greater lesser)
joined_fall parents greater lesser within order falls x h =
    set_cases (λ y parent. y < length parents → parent ≤ y) parents greater lesser within (λ here. order) (λ y apart in_y. falls y in_y) x (omega (arith, h, length-set parents greater lesser))

-- the parents are made labels from the least number on
pub settled_none : (parents : List ℕ) → IsSettledUpTo 0 parents parents
settled_none parents = record { len = refl; done = λ labels lead k h. absurd (omega (arith, h)); rest = λ k h. refl }

pub settled_more : (i : ℕ) (old parents : List ℕ) → i < length old → DoNotRise old → IsSettledUpTo i old parents → IsSettledUpTo (i + 1) old (set parents i (label_at parents (label_at parents i)))
settled_more i old parents within falls so_far = record {
  len = length-set parents i next ∙ so_far.len;
  done = λ labels lead k h. set_cases (λ y label. y < i + 1 → label ≡ label_at labels y) parents i next in_parents (λ here. at_next labels lead) (λ y apart in_y. so_far.done labels lead y (omega (arith, apart, in_y))) k h;
  rest = λ k h. get_or-set_other parents i k next 0 (λ e. omega (arith, h, e)) ∙ so_far.rest k (omega (arith, h));
}
  where
    next : ℕ
    next = label_at parents (label_at parents i)

    in_parents : i < length parents
    in_parents = omega (arith, within, so_far.len)

    parent_is : label_at parents i ≡ label_at old i
    parent_is = so_far.rest i (omega arith)

    at_next : (labels : List ℕ) → LeadTo labels old → label_at parents (label_at parents i) ≡ label_at labels i
    at_next labels lead =
        let in_i : i < length labels = omega (arith, within, lead.len) in
        ⊎_elim
        (λ (own : label_at parents i ≡ i). ap (label_at parents) own ∙ (own ∙ sym (lead.ends i in_i (sym parent_is ∙ own))))
        (λ apart. so_far.done labels lead (label_at parents i) (omega (arith, apart, parent_is, lead.falls i in_i)) ∙ (ap (label_at labels) parent_is ∙ lead.same i in_i))
        (cases_eq (label_at parents i) i)

pub settled_within : (i : ℕ) (old parents : List ℕ) → i < length old → DoNotRise old → IsSettledUpTo i old parents → label_at parents i < length parents
settled_within i old parents within falls so_far = omega (arith, within, so_far.len, so_far.rest i (omega arith), falls i within)

pub settled_all : (i : ℕ) (old parents : List ℕ) → length old ≤ i → IsSettledUpTo i old parents → (labels : List ℕ) → LeadTo labels old → parents ≡ labels
settled_all i old parents past so_far labels lead = ext_get_or 0 parents labels (so_far.len ∙ lead.len) (λ k h. so_far.done labels lead k (omega (arith, h, past, so_far.len)))
