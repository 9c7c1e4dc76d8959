-- How what growth has found adds up over lists of vertices.
use Rattle.std.proofs.Common.{◌≡◌, ℕ, zero, suc, ◌+◌, ◌<◌, ◌≤◌, List, [], ◌∷◌, ◌++◌, length, map, take, drop, get_or, Bool, true, false, cond, ◌&&◌, Some, None, refl, sym, ◌∙◌, ap, arith, append_assoc, length-append, append-nil, add-one}
use Rattle.std.specs.Prelude.{filter, flat_map}
use Rattle.std.proofs.lemmas.List.{map-append, take_more, take-append-drop}
use Rattle.std.proofs.lemmas.List.Concat.{flat_map-append}
use Rattle.std.proofs.lemmas.List.Elements.{filter-append}
use Rattle.std.proofs.lemmas.Bool.{le-ltb, lt-ltb}
use Rattle.reo_growth.specs.declared.found.Found.{Found}
use Rattle.reo_growth.specs.declared.web.Web.{Web}
use Rattle.reo_growth.specs.Growth.{Vertex, least_open, agrees, fits, with_link, extended, children_at, grown, is_complete, complete_ones}
use Rattle.reo_growth.specs.Found.{rows_of, row_of_vertex, WentOver, Went}
use Rattle.reo_growth.specs.Sound.{widened}

module _ (w : Web) where
  pub went_none : (found : Found) → WentOver w [] found found
  went_none found = record { room = omega arith; count = omega arith; rows = λ few. sym (append-nil (rows_of found)) }

  complete-append : (xs ys : List Vertex) → complete_ones w (xs ++ ys) ≡ complete_ones w xs ++ complete_ones w ys
  complete-append xs ys = filter-append (is_complete w) xs ys

  pub went_more : (xs ys : List Vertex) (a b c : Found) → WentOver w xs a b → WentOver w ys b c → WentOver w (xs ++ ys) a c
  went_more xs ys a b c first second = record {
    room = omega (arith, length-append xs ys, first.room, second.room);
    count = second.count ∙ ap (λ n. n + length (complete_ones w ys)) first.count ∙ sum;
    rows = λ few.
        second.rows few ∙ ap (λ rows. rows ++ map (row_of_vertex w) (complete_ones w ys)) (first.rows (omega (arith, second.count)))
        ∙ append_assoc (rows_of a) (map (row_of_vertex w) (complete_ones w xs)) (map (row_of_vertex w) (complete_ones w ys))
        ∙ ap (λ rows. rows_of a ++ rows) (sym (map-append (row_of_vertex w) (complete_ones w xs) (complete_ones w ys)) ∙ ap (map (row_of_vertex w)) (sym (complete-append xs ys)));
  }
    where
      lengths : length (complete_ones w (xs ++ ys)) ≡ length (complete_ones w xs) + length (complete_ones w ys)
      lengths = ap length (complete-append xs ys) ∙ length-append (complete_ones w xs) (complete_ones w ys)

      sum : a.count + length (complete_ones w xs) + length (complete_ones w ys) ≡ a.count + length (complete_ones w (xs ++ ys))
      sum = omega (arith, lengths)

  pub stopped : (xs ys : List Vertex) (a b : Found) → WentOver w xs a b → b.room < length ys → a.room < length (xs ++ ys)
  stopped xs ys a b first over = omega (arith, length-append xs ys, first.room)

  -- one result after vertices
  pub went_on : (xs ys : List Vertex) (a b c : Found) (within : Bool) → WentOver w xs a b → Went w ys b c within → Went w (xs ++ ys) a c within
  went_on xs ys a b c true first second = went_more xs ys a b c first second
  went_on xs ys a b c false first second = stopped xs ys a b first second

  pub complete_vertex : (v : Vertex) → is_complete w v ≡ true → (old new : Found) → new.room + 1 ≡ old.room → new.count ≡ old.count + 1
      → (new.count ≤ 4096 → rows_of new ≡ rows_of old ++ row_of_vertex w v ∷ []) → WentOver w (v ∷ []) old new
  complete_vertex v is old new room count rows =
      let ones : complete_ones w (v ∷ []) ≡ v ∷ [] = ap (λ b. cond b (v ∷ []) []) is in
      record {
        room = room;
        count = count ∙ ap (λ xs. old.count + length xs) (sym ones);
        rows = λ few. rows few ∙ ap (λ xs. rows_of old ++ map (row_of_vertex w) xs) (sym ones);
      }

  pub open_vertex : (v : Vertex) → is_complete w v ≡ false → (old new : Found) → new.room + 1 ≡ old.room → new.count ≡ old.count → rows_of new ≡ rows_of old → WentOver w (v ∷ []) old new
  open_vertex v is old new room count rows =
      let ones : complete_ones w (v ∷ []) ≡ [] = ap (λ b. cond b (v ∷ []) []) is in
      record {
        room = room;
        count = count ∙ (let e : old.count ≡ old.count + 0 = omega arith in e) ∙ ap (λ xs. old.count + length xs) (sym ones);
        rows = λ few. rows ∙ sym (append-nil (rows_of old)) ∙ ap (λ xs. rows_of old ++ map (row_of_vertex w) xs) (sym ones);
      }

  -- what grows from a list with no open automaton, with one before the root or with no automaton left
  pub grown_alone : (root n : ℕ) (v : Vertex) → least_open w v ≡ None → grown w root n v ≡ v ∷ []
  unfolding grown children_at
  grown_alone root zero v is = refl
  grown_alone root (suc n) v is = ap (λ o. v ∷ flat_map (grown w root n) (children_at w root v o)) is

  pub grown_below : (root n x : ℕ) (v : Vertex) → least_open w v ≡ Some x → x < root → grown w root n v ≡ v ∷ []
  unfolding grown children_at
  grown_below root zero x v is less = refl
  grown_below root (suc n) x v is less =
      ap (λ o. v ∷ flat_map (grown w root n) (children_at w root v o)) is
      ∙ ap (λ b. v ∷ flat_map (grown w root n) (cond b [] (extended w v x))) (lt-ltb x root less)

  pub grown_zero : (root : ℕ) (v : Vertex) → grown w root 0 v ≡ v ∷ []
  unfolding grown
  grown_zero root v = refl

  pub grown_on : (root n m x : ℕ) (v : Vertex) → least_open w v ≡ Some x → root ≤ x → n ≡ m + 1 → grown w root n v ≡ v ∷ flat_map (grown w root m) (extended w v x)
  unfolding grown children_at
  grown_on root n m x v is above more =
      ap (λ n. grown w root n v) (more ∙ add-one m)
      ∙ ap (λ o. v ∷ flat_map (grown w root m) (children_at w root v o)) is
      ∙ ap (λ b. v ∷ flat_map (grown w root m) (cond b [] (extended w v x))) (le-ltb x root above)

  pub room_for_one : (root n : ℕ) (v : Vertex) → 0 < length (grown w root n v)
  unfolding grown
  room_for_one root zero v = omega arith
  room_for_one root (suc n) v = omega arith

  -- the lists that some links make, link by link
  module _ (v : Vertex) (x : ℕ) where
    pub widened-append : (xs ys : List (List ℕ)) → widened w v x (xs ++ ys) ≡ widened w v x xs ++ widened w v x ys
    widened-append xs ys =
        let test : List ℕ → Bool = λ link. agrees w v x link && fits w (with_link v x link) in
        ap (map (with_link v x)) (filter-append test xs ys) ∙ map-append (with_link v x) (filter test xs) (filter test ys)

    pub from-append : (f : Vertex → List Vertex) (xs ys : List (List ℕ)) → flat_map f (widened w v x (xs ++ ys)) ≡ flat_map f (widened w v x xs) ++ flat_map f (widened w v x ys)
    from-append f xs ys = ap (flat_map f) (widened-append xs ys) ∙ flat_map-append f (widened w v x xs) (widened w v x ys)

    pub from_more : (f : Vertex → List Vertex) (links : List (List ℕ)) (i : ℕ) (link : List ℕ) → i < length links → link ≡ get_or links i [] → flat_map f (widened w v x (take (i + 1) links)) ≡ flat_map f (widened w v x (take i links)) ++ flat_map f (widened w v x (link ∷ []))
    from_more f links i link within is =
        ap (λ xs. flat_map f (widened w v x xs)) (take_more links i [] within ∙ ap (λ y. take i links ++ y ∷ []) (sym is)) ∙ from-append f (take i links) (link ∷ [])

    pub from_front : (f : Vertex → List Vertex) (links : List (List ℕ)) (i : ℕ) → length (flat_map f (widened w v x (take i links))) ≤ length (flat_map f (widened w v x links))
    from_front f links i =
        let whole = ap (λ xs. length (flat_map f (widened w v x xs))) (sym (take-append-drop i links)) ∙ ap length (from-append f (take i links) (drop i links)) ∙ length-append (flat_map f (widened w v x (take i links))) (flat_map f (widened w v x (drop i links))) in
        omega arith

    pub widened_no : (link : List ℕ) → (agrees w v x link && fits w (with_link v x link)) ≡ false → widened w v x (link ∷ []) ≡ []
    widened_no link is = ap (λ b. map (with_link v x) (cond b (link ∷ []) [])) is

    pub widened_yes : (link : List ℕ) → (agrees w v x link && fits w (with_link v x link)) ≡ true → widened w v x (link ∷ []) ≡ with_link v x link ∷ []
    widened_yes link is = ap (λ b. map (with_link v x) (cond b (link ∷ []) [])) is
