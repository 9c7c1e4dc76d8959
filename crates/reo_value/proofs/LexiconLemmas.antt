-- Laws of the place of a text, for the proofs here and in the crates above.
use Prim.Native.Nat.{zero}
use Rattle.std.proofs.Common.{◌≡◌, ℕ, suc, ◌+◌, ◌<◌, ◌≤◌, Bool, true, false, cond, List, [], ◌∷◌, ◌++◌, length, All, ◌≢◌, Option, Some, None, is_some, slice_get, refl, sym, ap, subst, arith, ◌∙◌, ◌⊎◌, inl, inr, length-append}
use Rattle.std.specs.Option.{option_map}
use Rattle.std.specs.Str.{bytes_eq}
use Rattle.std.proofs.lemmas.List.Elements.{All-push}
use Rattle.std.proofs.lemmas.Option.{none-some, same_Some, slice_get_within, get_or_from_slice_get}
use Rattle.std.proofs.lemmas.Slice.Eq.{bytes_eq-Decides}
use Rattle.reo_value.specs.Lexicon.{place_of, added, NoRepeats, IsLexicon}

-- the place of a text has that text
pub slice_get-place_of : (texts : List (List ℕ)) (text : List ℕ) (n : ℕ) → place_of texts text ≡ Some n → slice_get texts n ≡ Some text
slice_get-place_of [] text n found = absurd (none-some n found)
slice_get-place_of (t ∷ texts) text n found = by (bytes_eq text t) refl (place_of texts text) refl found (slice_get-place_of texts text)
  where
    by : (same : Bool) → bytes_eq text t ≡ same → (rest : Option ℕ) → place_of texts text ≡ rest → cond same (Some 0) (option_map suc rest) ≡ Some n
        → ((m : ℕ) → place_of texts text ≡ Some m → slice_get texts m ≡ Some text) → slice_get (t ∷ texts) n ≡ Some text
    by true same rest is at each =
        let here : 0 ≡ n = cc in
        subst (λ k. slice_get (t ∷ texts) k ≡ Some text) here (ap Some (sym ((bytes_eq-Decides text t).0 same)))
    by false same None is at each = absurd (none-some n at)
    by false same (Some m) is at each =
        let there : suc m ≡ n = cc in
        subst (λ k. slice_get (t ∷ texts) k ≡ Some text) there (each m is)

-- a place is below the length
pub place_of-within : (texts : List (List ℕ)) (text : List ℕ) (n : ℕ) → place_of texts text ≡ Some n → n < length texts
place_of-within texts text n found = slice_get_within texts n text (slice_get-place_of texts text n found)

-- a text without a place stands nowhere
pub place_of-None : (texts : List (List ℕ)) (text : List ℕ) → place_of texts text ≡ None → (n : ℕ) → slice_get texts n ≡ Some text → ⊥
place_of-None [] text absent n at = none-some text at
place_of-None (t ∷ texts) text absent n at = by n (bytes_eq text t) refl (place_of texts text) refl absent at (place_of-None texts text)
  where
    by : (n : ℕ) (same : Bool) → bytes_eq text t ≡ same → (rest : Option ℕ) → place_of texts text ≡ rest → cond same (Some 0) (option_map suc rest) ≡ None
        → slice_get (t ∷ texts) n ≡ Some text → (place_of texts text ≡ None → (m : ℕ) → slice_get texts m ≡ Some text → ⊥) → ⊥
    by n true same rest is absent at each = none-some 0 (sym absent)
    by n false same (Some m) is absent at each = none-some (suc m) (sym absent)
    by zero false same None is absent at each =
        let equal : bytes_eq text t ≡ true = (bytes_eq-Decides text t).1 (sym (same_Some _ _ at)) in cc
    by (suc n) false same None is absent at each = each is n at

-- where no text stands twice, the place of a text is where it stands
pub place_of-slice_get : (texts : List (List ℕ)) (text : List ℕ) (n : ℕ) → NoRepeats texts → slice_get texts n ≡ Some text → place_of texts text ≡ Some n
place_of-slice_get texts text n distinct at = by (place_of texts text) refl
  where
    by : (place : Option ℕ) → place_of texts text ≡ place → place_of texts text ≡ Some n
    by None is = absurd (place_of-None texts text is n at)
    by (Some m) is = is ∙ ap Some (distinct m n text (slice_get-place_of texts text m is) at)

-- a place stays as texts are added at the end
pub place_of-append : (texts more : List (List ℕ)) (text : List ℕ) (n : ℕ) → place_of texts text ≡ Some n → place_of (texts ++ more) text ≡ Some n
place_of-append [] more text n found = absurd (none-some n found)
place_of-append (t ∷ texts) more text n found = by (bytes_eq text t) (place_of texts text) refl found (place_of-append texts more text)
  where
    by : (same : Bool) (rest : Option ℕ) → place_of texts text ≡ rest → cond same (Some 0) (option_map suc rest) ≡ Some n
        → ((m : ℕ) → place_of texts text ≡ Some m → place_of (texts ++ more) text ≡ Some m)
        → cond same (Some 0) (option_map suc (place_of (texts ++ more) text)) ≡ Some n
    by true rest is at each = at
    by false None is at each = absurd (none-some n at)
    by false (Some m) is at each = ap (option_map suc) (each m is) ∙ at

-- a text that is not there is looked for among those that follow
pub place_of-append_after : (texts more : List (List ℕ)) (text : List ℕ) → place_of texts text ≡ None
    → place_of (texts ++ more) text ≡ option_map (λ n. length texts + n) (place_of more text)
place_of-append_after [] more text absent = by (place_of more text)
  where
    by : (place : Option ℕ) → place ≡ option_map (λ n. 0 + n) place
    by None = refl
    by (Some m) = ap Some (omega arith)
place_of-append_after (t ∷ texts) more text absent =
    by (bytes_eq text t) (place_of texts text) refl absent (place_of more text) refl (place_of-append_after texts more text)
  where
    by : (same : Bool) (rest : Option ℕ) → place_of texts text ≡ rest → cond same (Some 0) (option_map suc rest) ≡ None
        → (last : Option ℕ) → place_of more text ≡ last
        → (place_of texts text ≡ None → place_of (texts ++ more) text ≡ option_map (λ n. length texts + n) (place_of more text))
        → cond same (Some 0) (option_map suc (place_of (texts ++ more) text)) ≡ option_map (λ n. length (t ∷ texts) + n) last
    by true rest is at last ends each = absurd (none-some 0 (sym at))
    by false (Some m) is at last ends each = absurd (none-some (suc m) (sym at))
    by false None is at None ends each = ap (option_map suc) (each is ∙ ap (option_map (λ n. length texts + n)) ends)
    by false None is at (Some m) ends each =
        ap (option_map suc) (each is ∙ ap (option_map (λ n. length texts + n)) ends) ∙ ap Some (omega arith)

-- a text that is new has its place at the end
pub place_of-push : (texts : List (List ℕ)) (text : List ℕ) → place_of texts text ≡ None → place_of (texts ++ text ∷ []) text ≡ Some (length texts)
place_of-push texts text absent =
    place_of-append_after texts (text ∷ []) text absent
    ∙ ap (λ same. option_map (λ n. length texts + n) (cond same (Some 0) None)) ((bytes_eq-Decides text text).1 refl)
    ∙ ap Some (omega arith)

-- another text is not found at the end
pub place_of-push_other : (texts : List (List ℕ)) (last text : List ℕ) → text ≢ last → place_of (texts ++ last ∷ []) text ≡ place_of texts text
place_of-push_other texts last text other = by (place_of texts text) refl (bytes_eq text last) refl
  where
    by : (place : Option ℕ) → place_of texts text ≡ place → (same : Bool) → bytes_eq text last ≡ same → place_of (texts ++ last ∷ []) text ≡ place_of texts text
    by (Some n) is same ends = place_of-append texts (last ∷ []) text n is ∙ sym is
    by None is true ends = absurd (other ((bytes_eq-Decides text last).0 ends))
    by None is false ends =
        place_of-append_after texts (last ∷ []) text is ∙ ap (λ same. option_map (λ n. length texts + n) (cond same (Some 0) None)) ends ∙ sym is

-- an added text is there
pub place_of-added_itself : (texts : List (List ℕ)) (text : List ℕ) → (n : ℕ) × (place_of (added texts text) text ≡ Some n)
place_of-added_itself texts text = by (place_of texts text) refl
  where
    by : (place : Option ℕ) → place_of texts text ≡ place → (n : ℕ) × (place_of (cond (is_some place) texts (texts ++ text ∷ [])) text ≡ Some n)
    by None is = (length texts, place_of-push texts text is)
    by (Some n) is = (n, is)

-- and each text that was there keeps its place
pub place_of-added : (texts : List (List ℕ)) (text other : List ℕ) (n : ℕ) → place_of texts other ≡ Some n → place_of (added texts text) other ≡ Some n
place_of-added texts text other n found = by (is_some (place_of texts text))
  where
    by : (there : Bool) → place_of (cond there texts (texts ++ text ∷ [])) other ≡ Some n
    by true = found
    by false = place_of-append texts (text ∷ []) other n found

-- a text stands in a longer list where it stood
pub slice_get-append : (texts more : List (List ℕ)) (n : ℕ) (text : List ℕ) → slice_get texts n ≡ Some text → slice_get (texts ++ more) n ≡ Some text
slice_get-append [] more n text at = absurd (none-some text at)
slice_get-append (t ∷ texts) more zero text at = at
slice_get-append (t ∷ texts) more (suc n) text at = slice_get-append texts more n text at

-- and so after a text is added
pub slice_get-added : (texts : List (List ℕ)) (text other : List ℕ) (n : ℕ) → slice_get texts n ≡ Some other → slice_get (added texts text) n ≡ Some other
slice_get-added texts text other n at = by (is_some (place_of texts text))
  where
    by : (there : Bool) → slice_get (cond there texts (texts ++ text ∷ [])) n ≡ Some other
    by true = at
    by false = slice_get-append texts (text ∷ []) n other at

-- the list never shrinks
pub length-added : (texts : List (List ℕ)) (text : List ℕ) → (length texts ≤ length (added texts text)) × (length (added texts text) ≤ length texts + 1)
length-added texts text = by (is_some (place_of texts text))
  where
    by : (there : Bool) → (length texts ≤ length (cond there texts (texts ++ text ∷ []))) × (length (cond there texts (texts ++ text ∷ [])) ≤ length texts + 1)
    by true = (omega arith, omega arith)
    by false = (omega (arith, length-append texts (text ∷ [])), omega (arith, length-append texts (text ∷ [])))

-- at an index of a list with one more text stands one from before, or the last
slice_get-push_cases : (texts : List (List ℕ)) (last : List ℕ) (n : ℕ) (text : List ℕ) → slice_get (texts ++ last ∷ []) n ≡ Some text
    → (slice_get texts n ≡ Some text) ⊎ ((n ≡ length texts) × (last ≡ text))
slice_get-push_cases [] last zero text at = inr (refl, same_Some _ _ at)
slice_get-push_cases [] last (suc n) text at = absurd (none-some text at)
slice_get-push_cases (t ∷ texts) last zero text at = inl at
slice_get-push_cases (t ∷ texts) last (suc n) text at =
    elim (slice_get-push_cases texts last n text at) [ inl before ↦ inl before | inr end ↦ inr (omega arith, end.1) ]

-- a new text repeats none
pub NoRepeats-push : (texts : List (List ℕ)) (text : List ℕ) → NoRepeats texts → place_of texts text ≡ None → NoRepeats (texts ++ text ∷ [])
NoRepeats-push texts text distinct absent i j other at_i at_j =
    by (slice_get-push_cases texts text i other at_i) (slice_get-push_cases texts text j other at_j)
  where
    never : (k : ℕ) → slice_get texts k ≡ Some other → text ≡ other → ⊥
    never k at same = place_of-None texts text absent k (at ∙ ap Some (sym same))

    by : (slice_get texts i ≡ Some other) ⊎ ((i ≡ length texts) × (text ≡ other)) → (slice_get texts j ≡ Some other) ⊎ ((j ≡ length texts) × (text ≡ other)) → i ≡ j
    by (inl p) (inl q) = distinct i j other p q
    by (inl p) (inr q) = absurd (never i p q.1)
    by (inr p) (inl q) = absurd (never j q p.1)
    by (inr p) (inr q) = p.0 ∙ sym q.0

-- a list of texts stays a lexicon's as a new text of at most 255 bytes is added while there is room
pub IsLexicon-push : (texts : List (List ℕ)) (text : List ℕ) → IsLexicon texts → place_of texts text ≡ None → length text ≤ 255 → length texts < 16777216 → IsLexicon (texts ++ text ∷ [])
IsLexicon-push texts text was absent short room = record {
  distinct = NoRepeats-push texts text was.distinct absent;
  short = All-push (λ t. length t ≤ 255) texts text was.short short;
  few = omega (arith, length-append texts (text ∷ []));
}

-- each text at an index has at most 255 bytes
pub length-slice_get : (texts : List (List ℕ)) (text : List ℕ) (n : ℕ) → All (λ t. length t ≤ 255) texts → slice_get texts n ≡ Some text → length text ≤ 255
length-slice_get texts text n short at =
    subst (λ t. length t ≤ 255) (get_or_from_slice_get texts n text [] at) (short n [] (slice_get_within texts n text at))
