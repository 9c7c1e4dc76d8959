-- Lists of names that are turned into places, or of places into names, element by element in the list itself.
use Rattle.std.proofs.Common.{◌≡◌, ℕ, ◌+◌, ◌<◌, ◌≤◌, ⊎_elim, List, [], ◌∷◌, ◌++◌, length, map, set, reverse, All, get_or, refl, sym, ap, ◌∙◌, subst, arith, get_or-set_same, get_or-set_other, append_assoc, append-nil}
use Rattle.std.proofs.lemmas.Bool.{cases_eq}
use Rattle.std.proofs.lemmas.List.{length-append, length-map, length-set, get_or-append-add, get_or-map, get_or_default, ext_get_or, reverse-append}
use Rattle.reo_automata.specs.declared.template.Link.{Link}
use Rattle.reo_product.specs.RegionWeb.{name_at}
use Rattle.reo_product.specs.Places.{AreEachPlacesOf, ArePlacesOf}

-- the first elements, so many, are turned, and the others are as they were
pub record AreTurned (R : ℕ → ℕ → Type 0) (old new : List ℕ) (i : ℕ) : Type 0 where
  pub long : length new ≡ length old
  pub done : (k : ℕ) → k < i → R (get_or old k 0) (get_or new k 0)
  pub left : (k : ℕ) → i ≤ k → get_or new k 0 ≡ get_or old k 0

pub none_turned : (R : ℕ → ℕ → Type 0) (xs : List ℕ) → AreTurned R xs xs 0
none_turned R xs = record { long = refl; done = λ k below. absurd (omega (arith, below)); left = λ k above. refl }

pub turned_more : (R : ℕ → ℕ → Type 0) (old new : List ℕ) (i x : ℕ) → i < length new → R (get_or old i 0) x → AreTurned R old new i → AreTurned R old (set new i x) (i + 1)
turned_more R old new i x within is before = record {
  long = length-set new i x ∙ before.long;
  done = λ k below. ⊎_elim
      (λ here. subst (λ n. R (get_or old n 0) (get_or (set new i x) n 0)) (sym here) (subst (R (get_or old i 0)) (sym (get_or-set_same new i x 0 within)) is))
      (λ other. subst (R (get_or old k 0)) (sym (get_or-set_other new i k x 0 (λ e. other e))) (before.done k (omega (arith, below, other))))
      (cases_eq k i);
  left = λ k above. get_or-set_other new i k x 0 (omega (arith, above)) ∙ before.left k (omega (arith, above));
}

-- what holds of all elements holds of one between others
pub between : {A : Type 0} (P : A → Type 0) (all before after : List A) (x : A) → all ≡ before ++ x ∷ after → All P all → P x
between P all before after x is holds =
    let at : get_or (before ++ x ∷ after) (length before + 0) x ≡ x = get_or-append-add before (x ∷ after) 0 x in
    let within : length before + 0 < length (before ++ x ∷ after) = omega (arith, length-append before (x ∷ after)) in
    subst P at (subst (All P) is holds (length before + 0) x within)

pub of_mapped : {A B : Type 0} (P : B → Type 0) (f : A → B) (xs : List A) → All P (map f xs) → All (λ x. P (f x)) xs
of_mapped P f xs all k d within = subst P (get_or-map f xs k d (f d) within) (all k (f d) (omega (arith, within, length-map xs f)))

-- a loop that uses a list up: what it went over and what is left are the whole
pub gone_on : {A : Type 0} (all gone left rest : List A) (x : A) → left ≡ x ∷ rest → gone ++ left ≡ all → gone ++ x ∷ [] ++ rest ≡ all
gone_on all gone left rest x is whole = append_assoc gone (x ∷ []) rest ∙ (ap (λ xs. gone ++ xs) (sym is) ∙ whole)

pub next_holds : {A : Type 0} (P : A → Type 0) (all gone left rest : List A) (x : A) → left ≡ x ∷ rest → gone ++ left ≡ all → All P all → P x
next_holds P all gone left rest x is whole holds = between P all gone rest x (sym whole ∙ ap (λ xs. gone ++ xs) is) holds

pub all_gone : {A : Type 0} (all gone left : List A) (count : ℕ) → count ≡ 0 → count ≡ length left → gone ++ left ≡ all → gone ≡ all
all_gone all gone [] count none long whole = sym (append-nil gone) ∙ whole
all_gone all gone (x ∷ xs) count none long whole = absurd (omega arith)

-- a name's place
abbrev pub IsPlaceOf : List ℕ → ℕ → ℕ → Type 0
IsPlaceOf names name place = (place < length names) × (name_at names place ≡ name)

pub all_placed : (names old new : List ℕ) → AreTurned (IsPlaceOf names) old new (length old) → ArePlacesOf names old new
all_placed names old new turned = record {
  named = ext_get_or 0 (map (name_at names) new) old (length-map new (name_at names) ∙ turned.long)
      (λ k below.
      let within : k < length new = omega (arith, below, length-map new (name_at names)) in
      get_or-map (name_at names) new k 0 0 within ∙ (turned.done k (omega (arith, within, turned.long))).1);
  within = λ k d below. subst (λ place. place < length names) (get_or_default new k 0 d below) (turned.done k (omega (arith, below, turned.long))).0;
}

-- a place's name
abbrev pub IsNameAt : List ℕ → ℕ → ℕ → Type 0
IsNameAt names place name = name ≡ name_at names place

pub all_named : (names old new : List ℕ) → AreTurned (IsNameAt names) old new (length old) → new ≡ map (name_at names) old
all_named names old new turned = ext_get_or 0 new (map (name_at names) old) (turned.long ∙ sym (length-map old (name_at names)))
    (λ k below.
    let within : k < length old = omega (arith, below, turned.long) in
    turned.done k within ∙ sym (get_or-map (name_at names) old k 0 0 within))

abbrev pub fires_of : List Link → List (List ℕ)
fires_of links = map (λ link. link.fires) links

-- of these links the last are placed, the last one first, and these are left
pub record AreTaken (names : List ℕ) (links left : List Link) (placed : List (List ℕ)) : Type 0 where
  pub taken : List Link
  pub split : links ≡ left ++ taken
  pub are : AreEachPlacesOf names (fires_of taken) (reverse placed)

pub none_taken : (names : List ℕ) (links : List Link) → AreTaken names links links []
none_taken names links = record { taken = []; split = sym (append-nil links); are = tt }

pub split_more : {A : Type 0} (all left rest taken : List A) (x : A) → left ≡ rest ++ x ∷ [] → all ≡ left ++ taken → all ≡ rest ++ x ∷ taken
split_more all left rest taken x is split = split ∙ (ap (λ xs. xs ++ taken) is ∙ append_assoc rest (x ∷ []) taken)

pub taken_more : (names : List ℕ) (links left rest : List Link) (link : Link) (placed : List (List ℕ)) (places : List ℕ) → left ≡ rest ++ link ∷ [] → ArePlacesOf names link.fires places
    → AreTaken names links left placed → AreTaken names links rest (placed ++ places ∷ [])
taken_more names links left rest link placed places is here before = record {
  taken = link ∷ before.taken;
  split = split_more links left rest before.taken link is before.split;
  are = subst (AreEachPlacesOf names (fires_of (link ∷ before.taken))) (sym (reverse-append placed (places ∷ []))) (here, before.are);
}

pub all_taken : (names : List ℕ) (links : List Link) (placed : List (List ℕ)) → AreTaken names links [] placed → AreEachPlacesOf names (fires_of links) (reverse placed)
all_taken names links placed done = subst (λ xs. AreEachPlacesOf names (fires_of xs) (reverse placed)) (sym done.split) done.are
