-- two lists of all the regions of a circuit are one list
use Rattle.std.proofs.Common.{◌≡◌, ℕ, suc, zero, ◌+◌, ◌<◌, ◌≤◌, List, [], ◌∷◌, length, map, get_or, Contains, refl, sym, ap, ◌∙◌, subst, ext_get_or, add-one, arith}
use Rattle.std.specs.List.Sorted.{IsStrictlyIncreasing}
use Rattle.std.proofs.lemmas.List.{length-map, get_or-map}
use Rattle.std.proofs.lemmas.Option.{slice_get_within}
use Rattle.reo_net.specs.declared.circuit.RawCircuit.{RawCircuit}
use Rattle.reo_net.specs.Regions.{Automaton, OfChannel, OfNode, automaton_number, IsSynchronous, AreRegions}
use Rattle.reo_net.specs.Laws.{RegionsAreOneList}

-- the number stands in the list
unfoldable pub StandsIn : List ℕ → ℕ → Type 0
StandsIn xs n = (k : ℕ) × (k < length xs) × (get_or xs k 0 ≡ n)

-- an element is below the next, written as a list with a head has it
next_above : (x : ℕ) (xs : List ℕ) → IsStrictlyIncreasing (x ∷ xs) → (k : ℕ) → k + 1 < length xs → get_or xs k 0 < get_or xs (k + 1) 0
next_above x xs rising k h =
    subst (λ j. get_or (x ∷ xs) (suc k) 0 < get_or (x ∷ xs) j 0) (add-one (suc k) ∙ ap suc (sym (add-one k))) (rising (suc k) (omega (arith, h)))

above_head : (x : ℕ) (xs : List ℕ) → IsStrictlyIncreasing (x ∷ xs) → (k : ℕ) → k < length xs → x < get_or xs k 0
above_head x xs rising zero h = rising 0 (omega (arith, h))
above_head x xs rising (suc k) h =
    let before = above_head x xs rising k (omega (arith, h)) in
    let next = subst (λ j. get_or xs k 0 < get_or xs j 0) (add-one k) (next_above x xs rising k (omega (arith, h))) in
    omega (arith, before, next)

tail_rises : (x : ℕ) (xs : List ℕ) → IsStrictlyIncreasing (x ∷ xs) → IsStrictlyIncreasing xs
tail_rises x xs rising = next_above x xs rising

head_least : (x y : ℕ) (ys : List ℕ) → IsStrictlyIncreasing (y ∷ ys) → StandsIn (y ∷ ys) x → y ≤ x
unfolding StandsIn
head_least x y ys rising (zero, within, at) = omega (arith, at)
head_least x y ys rising (suc k, within, at) = omega (arith, at, above_head y ys rising k (omega (arith, within)))

in_tail : (x y n : ℕ) (ys : List ℕ) → x ≡ y → x < n → StandsIn (y ∷ ys) n → StandsIn ys n
unfolding StandsIn
in_tail x y n ys same above (zero, within, at) = absurd (omega (arith, at))
in_tail x y n ys same above (suc k, within, at) = (k, omega (arith, within), at)

-- two rising lists with the same numbers are one
pub same_list : (xs ys : List ℕ) → IsStrictlyIncreasing xs → IsStrictlyIncreasing ys → ((n : ℕ) → StandsIn xs n → StandsIn ys n) → ((n : ℕ) → StandsIn ys n → StandsIn xs n) → xs ≡ ys
unfolding StandsIn
same_list [] [] rises_x rises_y to from = refl
same_list [] (y ∷ ys) rises_x rises_y to from = absurd (omega (arith, (from y (0, omega arith, refl)).1))
same_list (x ∷ xs) [] rises_x rises_y to from = absurd (omega (arith, (to x (0, omega arith, refl)).1))
same_list (x ∷ xs) (y ∷ ys) rises_x rises_y to from =
    let one = head_least x y ys rises_y (to x (0, omega arith, refl)) in
    let other = head_least y x xs rises_x (from y (0, omega arith, refl)) in
    let same : x ≡ y = omega arith in
    let rest = same_list xs ys (tail_rises x xs rises_x) (tail_rises y ys rises_y)
    (λ n at. in_tail x y n ys same (subst (λ m. x < m) at.2 (above_head x xs rises_x at.0 at.1)) (to n (suc at.0, omega (arith, at.1), at.2)))
    (λ n at. in_tail y x n xs (sym same) (subst (λ m. y < m) at.2 (above_head y ys rises_y at.0 at.1)) (from n (suc at.0, omega (arith, at.1), at.2))) in
    ap (λ h. h ∷ xs) same ∙ ap (λ t. y ∷ t) rest

-- automata of the circuit with one number are one
pub same_number : (c : RawCircuit) (x y : Automaton) → IsSynchronous c x → IsSynchronous c y → automaton_number c x ≡ automaton_number c y → x ≡ y
same_number c (OfChannel j) (OfChannel k) at_x at_y e = ap OfChannel e
same_number c (OfChannel j) (OfNode n) at_x at_y e = absurd (omega (arith, e, slice_get_within c.channels j at_x.0 at_x.1))
same_number c (OfNode m) (OfChannel k) at_x at_y e = absurd (omega (arith, e, slice_get_within c.channels k at_y.0 at_y.1))
same_number c (OfNode m) (OfNode n) at_x at_y e = ap OfNode (omega (arith, e))

module _ (c : RawCircuit) where
  numbers : List Automaton → List ℕ
  numbers xs = map (automaton_number c) xs

  number_stands : (xs : List Automaton) (x : Automaton) → Contains xs x → StandsIn (numbers xs) (automaton_number c x)
  unfolding numbers StandsIn
  number_stands xs x at =
      (at.0, subst (λ n. at.0 < n) (sym (length-map xs (automaton_number c))) at.1, get_or-map (automaton_number c) xs at.0 x 0 at.1 ∙ ap (automaton_number c) at.2)

  moves_over : (xs ys : List Automaton) → AreRegions c xs → AreRegions c ys → (n : ℕ) → StandsIn (numbers xs) n → StandsIn (numbers ys) n
  unfolding numbers StandsIn
  moves_over xs ys are_x are_y n (k, within, at) =
      let inside = subst (λ m. k < m) (length-map xs (automaton_number c)) within in
      let x = get_or xs k (OfNode 0) in
      let is = sym (get_or-map (automaton_number c) xs k (OfNode 0) 0 inside) ∙ at in
      subst (StandsIn (numbers ys)) is (number_stands ys x (are_y.every x (are_x.each k (OfNode 0) inside)))

  one_list : (xs ys : List Automaton) → AreRegions c xs → AreRegions c ys → xs ≡ ys
  unfolding numbers StandsIn
  one_list xs ys are_x are_y =
      let same = same_list (numbers xs) (numbers ys) are_x.rising are_y.rising (moves_over xs ys are_x are_y) (moves_over ys xs are_y are_x) in
      let len : length xs ≡ length ys = sym (length-map xs (automaton_number c)) ∙ (ap length same ∙ length-map ys (automaton_number c)) in
      ext_get_or (OfNode 0) xs ys len (λ k h.
      let h' : k < length ys = omega arith in
      same_number c (get_or xs k (OfNode 0)) (get_or ys k (OfNode 0)) (are_x.each k (OfNode 0) h).synchronous (are_y.each k (OfNode 0) h').synchronous
      (sym (get_or-map (automaton_number c) xs k (OfNode 0) 0 h) ∙ (ap (λ l. get_or l k 0) same ∙ get_or-map (automaton_number c) ys k (OfNode 0) 0 h')))

pub regions_are_one_list : RegionsAreOneList
regions_are_one_list c xs ys are_x are_y = one_list c xs ys are_x are_y
