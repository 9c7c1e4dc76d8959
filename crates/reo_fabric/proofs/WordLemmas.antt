-- How a region's words are listed and read.
use Rattle.std.proofs.Common.{◌≡◌, ℕ, ◌+◌, ◌<◌, ◌⊎◌, ⊎_elim, inl, inr, append-nil, length-take-le, Bool, true, false, cond, List, [], ◌∷◌, ◌++◌, length, map, get_or, take, refl, sym, ap, ◌∙◌, arith, add-zero, None}
use Rattle.std.proofs.lemmas.Simd.{map-map}
use Rattle.std.proofs.lemmas.List.{ext_get_or, length-map, get_or-map, map-append, take_more}
use Rattle.reo_fabric.specs.declared.fabric.Fabric.{Fabric}
use Rattle.reo_fabric.specs.declared.reading.Reading.{Reading}
use Rattle.reo_fabric.specs.Entry.{State}
use Rattle.reo_fabric.specs.Reading.{places_of, Offers, cells_of, ports_of, cell_word, state_word, data_word, reading_of}
use Rattle.reo_fabric.specs.inside.Whole.{IsUnread}

-- a list of which each element is what a function makes of the old one
pub mapped_all : {A : Type 0} (f : A → A) (d : A) (old new : List A) → length new ≡ length old → ((k : ℕ) → k < length old → get_or new k d ≡ f (get_or old k d)) → new ≡ map f old
mapped_all f d old new len each =
    ext_get_or d new (map f old) (len ∙ sym (length-map old f))
    (λ k within. let inside : k < length old = omega (arith, len) in each k inside ∙ sym (get_or-map f old k d d inside))

module _ {A : Type 0} (test : A → Bool) where
  cases : (b : Bool) → (b ≡ true) ⊎ (b ≡ false)
  cases true = inl refl
  cases false = inr refl

  places_append : (n : ℕ) (xs ys : List A) → places_of test n (xs ++ ys) ≡ places_of test n xs ++ places_of test (n + length xs) ys
  places_append n [] ys = ap (λ m. places_of test m ys) (sym (add-zero n))
  places_append n (x ∷ xs) ys =
      let rest : places_of test (n + 1) (xs ++ ys) ≡ places_of test (n + 1) xs ++ places_of test (n + length (x ∷ xs)) ys =
      places_append (n + 1) xs ys ∙ ap (λ m. places_of test (n + 1) xs ++ places_of test m ys) (omega arith) in
      ⊎_elim
      (λ on. ap (λ b. cond b (n ∷ places_of test (n + 1) (xs ++ ys)) (places_of test (n + 1) (xs ++ ys))) on ∙ (ap (λ l. n ∷ l) rest
      ∙ ap (λ b. cond b (n ∷ places_of test (n + 1) xs) (places_of test (n + 1) xs) ++ places_of test (n + length (x ∷ xs)) ys) (sym on)))
      (λ off. ap (λ b. cond b (n ∷ places_of test (n + 1) (xs ++ ys)) (places_of test (n + 1) (xs ++ ys))) off ∙ (rest
      ∙ ap (λ b. cond b (n ∷ places_of test (n + 1) xs) (places_of test (n + 1) xs) ++ places_of test (n + length (x ∷ xs)) ys) (sym off)))
      (cases (test x))

  -- the places in a front that is longer by one
  pub one_more : (xs : List A) (i : ℕ) (d : A) → i < length xs → places_of test 0 (take (i + 1) xs) ≡ places_of test 0 (take i xs) ++ cond (test (get_or xs i d)) (i ∷ []) []
  one_more xs i d within =
      ap (places_of test 0) (take_more xs i d within)
      ∙ (places_append 0 (take i xs) (get_or xs i d ∷ []) ∙ ap (λ m. places_of test 0 (take i xs) ++ cond (test (get_or xs i d)) (m ∷ []) []) (omega (arith, length-take-le i xs)))

  -- the next element passes, or does not
  pub passed : (xs : List A) (i : ℕ) (d : A) → i < length xs → test (get_or xs i d) ≡ true → places_of test 0 (take (i + 1) xs) ≡ places_of test 0 (take i xs) ++ i ∷ []
  passed xs i d within on = one_more xs i d within ∙ ap (λ b. places_of test 0 (take i xs) ++ cond b (i ∷ []) []) on

  pub failed : (xs : List A) (i : ℕ) (d : A) → i < length xs → test (get_or xs i d) ≡ false → places_of test 0 (take (i + 1) xs) ≡ places_of test 0 (take i xs)
  failed xs i d within off = one_more xs i d within ∙ (ap (λ b. places_of test 0 (take i xs) ++ cond b (i ∷ []) []) off ∙ append-nil (places_of test 0 (take i xs)))

  -- a list of places takes one more, where the next element passes
  pub kept : {E : Type 0} (first : E → ℕ) (xs : List A) (i : ℕ) (d : A) (old new : List E) (w : E) → i < length xs → test (get_or xs i d) ≡ true → first w ≡ i → new ≡ old ++ w ∷ []
      → map first old ≡ places_of test 0 (take i xs) → map first new ≡ places_of test 0 (take (i + 1) xs)
  kept first xs i d old new w within on place is before =
      ap (map first) is ∙ (map-append first old (w ∷ []) ∙ (ap (λ l. l ++ first w ∷ []) before ∙ (ap (λ m. places_of test 0 (take i xs) ++ m ∷ []) place ∙ sym (passed xs i d within on))))

-- the words of the region's places, read anew
pub reading_anew : (fabric : Fabric) (region : ℕ) (state : State) (offers : Offers) (old : Reading) (cells : List (ℕ × ℕ)) (ports : List (ℕ × ℕ × ℕ)) → IsUnread fabric region old
    → cells ≡ map (λ p. (p.0, cell_word (get_or state p.0 None))) old.cells
    → ports ≡ map (λ p. (p.0, state_word (get_or offers p.0 None), data_word (get_or offers p.0 None))) old.ports
    → record old { cells = cells; ports = ports } ≡ reading_of fabric region state offers
reading_anew fabric region state offers old cells ports unread cells_are ports_are =
    let cell : ℕ → ℕ × ℕ = λ c. (c, cell_word (get_or state c None)) in
    let port : ℕ → ℕ × ℕ × ℕ = λ p. (p, state_word (get_or offers p None), data_word (get_or offers p None)) in
    let same_cells : cells ≡ map cell (cells_of fabric region) = cells_are ∙ (sym (map-map cell (λ (p : ℕ × ℕ). p.0) old.cells) ∙ ap (map cell) unread.of_region.cells) in
    let same_ports : ports ≡ map port (ports_of fabric region) = ports_are ∙ (sym (map-map port (λ (p : ℕ × ℕ × ℕ). p.0) old.ports) ∙ ap (map port) unread.of_region.ports) in
    cc (unread.of_region.region_is, unread.no_round, unread.no_clock, same_cells, same_ports)
