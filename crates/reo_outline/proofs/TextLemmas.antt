-- The texts of names that follow one another stand side by side among those of all names.
use Rattle.std.proofs.Common.{◌≡◌, ℕ, ◌+◌, ◌-◌, ◌≤◌, zero, suc, List, [], ◌∷◌, ◌++◌, length, map, take, drop, get_or, Result, Ok, Err, refl, sym, ap, ◌∙◌, arith, append_assoc, append-nil, length-append, subst}
use Rattle.std.specs.Prelude.{Vec}
use Rattle.std.specs.List.{range_with_len, flat_map, slice_range}
use Rattle.std.proofs.lemmas.Grind.{flat_map-append}
use Rattle.std.proofs.lemmas.List.FromFn.{length-map-range_with_len, get_or-map-range_with_len, map-range_with_len_more}
use Rattle.reo_net.specs.declared.circuit.RawCircuit.{RawCircuit}
use Rattle.reo_net.specs.Names.{name_count}
use Rattle.reo_trace.specs.Buffer.{HasTaken, Takes}
use Rattle.reo_trace.proofs.BufferLemmas.{HasTaken-trans}
use Rattle.reo_outline.specs.Buffer.{Adds}
use Rattle.reo_outline.specs.Outline.{name_part}
use Rattle.reo_outline.specs.Texts.{texts_below, AreTexts, IsHeld, names_of, run_text}
use Rattle.reo_outline.specs.declared.texts.NameTexts.{NameTexts}
use Rattle.reo_outline.specs.declared.texts.Run.{Run}

-- so many numbers, and so many more behind them
pub range_split : (a n m : ℕ) → range_with_len a (n + m) ≡ range_with_len a n ++ range_with_len (a + n) m
range_split a zero m =
    let none : zero + m ≡ m = omega arith in
    let at : a ≡ a + zero = omega arith in
    ap (range_with_len a) none ∙ ap (λ b. range_with_len b m) at
range_split a (suc n) m =
    let first : suc n + m ≡ suc (n + m) = omega arith in
    let at : a + 1 + n ≡ a + suc n = omega arith in
    ap (range_with_len a) first ∙ ap (λ l. a ∷ l) (range_split (a + 1) n m ∙ ap (λ b. range_with_len (a + 1) n ++ range_with_len b m) at)

-- one number more
pub range_more : (a b : ℕ) → a ≤ b → range_with_len a (b + 1 - a) ≡ range_with_len a (b - a) ++ b ∷ []
range_more a b le =
    let long : b + 1 - a ≡ b - a + 1 = omega arith in
    let at : a + (b - a) ≡ b = omega arith in
    ap (range_with_len a) long ∙ range_split a (b - a) 1 ∙ ap (λ k. range_with_len a (b - a) ++ k ∷ []) at

-- a front of a list, and what stands behind a front
take_front : (xs ys : List ℕ) → take (length xs) (xs ++ ys) ≡ xs
take_front [] ys = refl
take_front (x ∷ xs) ys = ap (λ l. x ∷ l) (take_front xs ys)

drop_front : (xs ys : List ℕ) → drop (length xs) (xs ++ ys) ≡ ys
drop_front [] ys = refl
drop_front (x ∷ xs) ys = drop_front xs ys

-- nothing is added
nothing_taken : {Z : Type 0} (a : Vec ℕ Z) → HasTaken a a []
nothing_taken a = record { items = sym (append-nil a.items); len = omega arith; capacity = omega arith }

module _ (c : RawCircuit) (nodes : List (List ℕ)) where
  -- the texts below a number, then those from it on
  pub below_split : (from to : ℕ) → from ≤ to → texts_below c nodes to ≡ texts_below c nodes from ++ flat_map (name_part c nodes) (range_with_len from (to - from))
  below_split from to le =
      let whole : to ≡ from + (to - from) = omega arith in
      let at : 0 + from ≡ from = omega arith in
      ap (λ n. flat_map (name_part c nodes) (range_with_len 0 n)) whole
      ∙ ap (flat_map (name_part c nodes)) (range_split 0 from (to - from) ∙ ap (λ k. range_with_len 0 from ++ range_with_len k (to - from)) at)
      ∙ flat_map-append (name_part c nodes) (range_with_len 0 from) (range_with_len from (to - from))

  pub below_longer : (from to : ℕ) → from ≤ to → length (texts_below c nodes from) ≤ length (texts_below c nodes to)
  below_longer from to le =
      omega (arith, ap length (below_split from to le), length-append (texts_below c nodes from) (flat_map (name_part c nodes) (range_with_len from (to - from))))

  -- where the texts of the names below a number end, the others begin
  pub between : (from to n : ℕ) → from ≤ to → to ≤ n
      → slice_range (texts_below c nodes n) (length (texts_below c nodes from)) (length (texts_below c nodes to)) ≡ flat_map (name_part c nodes) (range_with_len from (to - from))
  between from to n le within =
      let run : List ℕ = flat_map (name_part c nodes) (range_with_len from (to - from)) in
      let rest : List ℕ = flat_map (name_part c nodes) (range_with_len to (n - to)) in
      let front : List ℕ = texts_below c nodes from in
      let long : length (texts_below c nodes to) - length front ≡ length run = omega (arith, ap length (below_split from to le), length-append front run) in
      let whole : texts_below c nodes n ≡ front ++ (run ++ rest) =
      below_split to n within ∙ ap (λ l. l ++ rest) (below_split from to le) ∙ append_assoc front run rest in
      ap (λ k. take k (drop (length front) (texts_below c nodes n))) long
      ∙ ap (λ l. take (length run) (drop (length front) l)) whole
      ∙ ap (take (length run)) (drop_front front (run ++ rest))
      ∙ take_front run rest

  pub below_more : (name : ℕ) → texts_below c nodes (name + 1) ≡ texts_below c nodes name ++ name_part c nodes name
  below_more name =
      let one : name + 1 - name ≡ 1 = omega arith in
      below_split name (name + 1) (omega arith)
      ∙ ap (λ n. texts_below c nodes name ++ flat_map (name_part c nodes) (range_with_len name n)) one
      ∙ ap (λ l. texts_below c nodes name ++ l) (append-nil (name_part c nodes name))

  -- the next start
  pub starts_more : (starts new : List ℕ) (name end : ℕ) → starts ≡ map (λ n. length (texts_below c nodes n)) (range_with_len 0 (name + 1))
      → end ≡ length (texts_below c nodes (name + 1)) → new ≡ starts ++ end ∷ []
      → new ≡ map (λ n. length (texts_below c nodes n)) (range_with_len 0 (name + 1 + 1))
  starts_more starts new name end are ends is =
      is ∙ ap (λ l. l ++ end ∷ []) are ∙ ap (λ n. map (λ n. length (texts_below c nodes n)) (range_with_len 0 (name + 1)) ++ n ∷ []) ends
      ∙ sym (map-range_with_len_more (λ n. length (texts_below c nodes n)) 0 (name + 1) (name + 1) (omega arith))

  -- all texts are made
  pub are_texts : (texts : NameTexts) (n : ℕ) → n ≡ name_count c → texts.bytes.items ≡ texts_below c nodes n
      → texts.starts.items ≡ map (λ n. length (texts_below c nodes n)) (range_with_len 0 (n + 1)) → AreTexts c nodes texts
  are_texts texts n all bytes starts = record {
    bytes = bytes ∙ ap (texts_below c nodes) all;
    count = ap length starts ∙ length-map-range_with_len (λ n. length (texts_below c nodes n)) 0 (n + 1) ∙ ap (λ k. k + 1) all;
    starts = λ name d le. ap (λ l. get_or l name d) starts
        ∙ get_or-map-range_with_len (λ n. length (texts_below c nodes n)) 0 (n + 1) name name d (omega (arith, all, le)) (omega arith);
  }

  -- the texts of names one after the other
  pub none_taken : {Z : Type 0} (a : Vec ℕ Z) (from : ℕ) → HasTaken a a (flat_map (name_part c nodes) (range_with_len from (from - from)))
  none_taken a from =
      let none : from - from ≡ 0 = omega arith in
      subst (λ n. HasTaken a a (flat_map (name_part c nodes) (range_with_len from n))) (sym none) (nothing_taken a)

  pub each_more : {Z : Type 0} (a b d : Vec ℕ Z) (from name : ℕ) → from ≤ name → HasTaken a b (flat_map (name_part c nodes) (range_with_len from (name - from)))
      → HasTaken b d (name_part c nodes name) → HasTaken a d (flat_map (name_part c nodes) (range_with_len from (name + 1 - from)))
  each_more a b d from name le p q =
      subst (λ l. HasTaken a d l)
      (sym (ap (flat_map (name_part c nodes)) (range_more from name le) ∙ flat_map-append (name_part c nodes) (range_with_len from (name - from)) (name ∷ [])
      ∙ ap (λ l. flat_map (name_part c nodes) (range_with_len from (name - from)) ++ l) (append-nil (name_part c nodes name))))
      (HasTaken-trans a b d (flat_map (name_part c nodes) (range_with_len from (name - from))) (name_part c nodes name) p q)

  -- the part between two places is what is to be added
  pub part_added : {Z T E : Type 0} (a b : Vec ℕ Z) (r : Result T E) (texts : NameTexts) (bytes : List ℕ) (run place : Run) → AreTexts c nodes texts → bytes ≡ texts.bytes.items → run.from ≤ run.to → run.to ≤ name_count c
      → place.from ≡ length (texts_below c nodes run.from) → place.to ≡ length (texts_below c nodes run.to)
      → Takes a b r (slice_range bytes place.from place.to) → Adds a b r (run_text c nodes run)
  part_added a b (Err e) texts bytes run place are same order within from to taken = tt
  part_added a b (Ok done) texts bytes run place are same order within from to taken =
      subst (λ l. HasTaken a b l)
      (ap (λ l. slice_range l place.from place.to) (same ∙ are.bytes) ∙ ap (λ k. slice_range (texts_below c nodes (name_count c)) k place.to) from
      ∙ ap (λ k. slice_range (texts_below c nodes (name_count c)) (length (texts_below c nodes run.from)) k) to
      ∙ between run.from run.to (name_count c) order within)
      taken

  -- no name is held back yet
  pub held_none : {Z : Type 0} (a : Vec ℕ Z) (run : Run) → run.from ≡ run.to → IsHeld c nodes a a run []
  held_none a run same =
      let none : run.to - run.from ≡ 0 = omega (arith, same) in
      record { front = []; taken = nothing_taken a; whole = ap (range_with_len run.from) none }

  -- a name that follows is held back too
  pub held_on : {Z : Type 0} (a : Vec ℕ Z) (run : Run) (name : ℕ) → run.from ≤ run.to → name ≡ run.to
      → IsHeld c nodes a a (record { from = run.from; to = name + 1 }) (names_of run ++ name ∷ [])
  held_on a run name order follows = record {
    front = [];
    taken = nothing_taken a;
    whole = range_more run.from name (omega (arith, order, follows)) ∙ ap (λ k. range_with_len run.from (k - run.from) ++ name ∷ []) follows;
  }

  -- a name that does not follow is held back alone
  pub held_anew : {Z : Type 0} (a b : Vec ℕ Z) (run : Run) (name : ℕ) → HasTaken a b (run_text c nodes run)
      → IsHeld c nodes a b (record { from = name; to = name + 1 }) (names_of run ++ name ∷ [])
  held_anew a b run name taken =
      let one : name + 1 - name ≡ 1 = omega arith in
      record { front = names_of run; taken = taken; whole = ap (λ n. names_of run ++ range_with_len name n) one }

  -- held back, and then held back with one more
  pub held_more : {Z : Type 0} (a b d : Vec ℕ Z) (run more : Run) (names : List ℕ) (name : ℕ)
      → IsHeld c nodes a b run names → IsHeld c nodes b d more (names_of run ++ name ∷ []) → IsHeld c nodes a d more (names ++ name ∷ [])
  held_more a b d run more names name p q = record {
    front = p.front ++ q.front;
    taken = subst (λ l. HasTaken a d l) (sym (flat_map-append (name_part c nodes) p.front q.front))
        (HasTaken-trans a b d (flat_map (name_part c nodes) p.front) (flat_map (name_part c nodes) q.front) p.taken q.taken);
    whole = append_assoc p.front q.front (names_of more) ∙ ap (λ l. p.front ++ l) q.whole ∙ sym (append_assoc p.front (names_of run) (name ∷ []))
        ∙ ap (λ l. l ++ name ∷ []) p.whole;
  }

  -- what was held back is added
  pub held_added : {Z T E : Type 0} (a b d : Vec ℕ Z) (r : Result T E) (run : Run) (names : List ℕ)
      → IsHeld c nodes a b run names → Adds b d r (run_text c nodes run) → Adds a d r (flat_map (name_part c nodes) names)
  held_added a b d (Err e) run names p q = tt
  held_added a b d (Ok done) run names p q =
      subst (λ l. HasTaken a d (flat_map (name_part c nodes) l)) p.whole
      (subst (λ l. HasTaken a d l) (sym (flat_map-append (name_part c nodes) p.front (names_of run)))
      (HasTaken-trans a b d (flat_map (name_part c nodes) p.front) (run_text c nodes run) p.taken q))
