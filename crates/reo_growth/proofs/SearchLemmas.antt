-- The search from all roots.
use Rattle.std.proofs.Common.{◌≡◌, ℕ, ◌+◌, ◌*◌, ◌-◌, ◌^◌, ◌<◌, ◌≤◌, List, [], ◌∷◌, ◌++◌, length, map, sym, ◌∙◌, ap, subst, arith, add-one, zero-add, length-append, append-nil}
use Rattle.std.specs.Prelude.{flat_map}
use Rattle.std.specs.List.{range_with_len}
use Rattle.std.proofs.lemmas.List.Concat.{flat_map-append}
use Rattle.std.proofs.Math.Nat.{mul-le-mul}
use Rattle.reo_growth.specs.declared.found.Found.{Found}
use Rattle.reo_growth.specs.declared.web.Web.{Web}
use Rattle.reo_growth.specs.Growth.{Vertex, vertices_of, vertices, growth_count, complete_ones, extended, grown}
use Rattle.reo_growth.specs.Found.{rows_of, row_of_vertex, WentOver}
use Rattle.reo_growth.specs.Search.{Covers}
use Rattle.reo_growth.proofs.ListLemmas.{range_more, range_split}
use Rattle.reo_growth.proofs.WentLemmas.{went_none, went_more, stopped}

module _ (w : Web) where
  -- the vertices of the roots before this one
  pub vertices_before : ℕ → List Vertex
  vertices_before root = flat_map (vertices_of w) (range_with_len 0 root)

  pub before_more : (root : ℕ) → vertices_before (root + 1) ≡ vertices_before root ++ vertices_of w root
  unfolding vertices_before
  before_more root =
      ap (λ n. flat_map (vertices_of w) (range_with_len 0 n)) (add-one root) ∙ ap (flat_map (vertices_of w)) (range_more 0 root ∙ ap (λ n. range_with_len 0 root ++ n ∷ []) (zero-add root))
      ∙ flat_map-append (vertices_of w) (range_with_len 0 root) (root ∷ []) ∙ ap (λ xs. vertices_before root ++ xs) (append-nil (vertices_of w root))

  pub search_none : (found : Found) → WentOver w (vertices_before 0) found found
  unfolding vertices_before
  search_none found = went_none w found

  pub search_more : (root : ℕ) (a b c : Found) → WentOver w (vertices_before root) a b → WentOver w (flat_map (grown w root (length w.automata)) (extended w [] root)) b c → WentOver w (vertices_before (root + 1)) a c
  unfolding vertices_of
  search_more root a b c first second = subst (λ list. WentOver w list a c) (sym (before_more root)) (went_more w (vertices_before root) (vertices_of w root) a b c first second)

  before_bound : (root : ℕ) → root ≤ length w.automata → length (vertices_before root) ≤ growth_count w
  unfolding vertices_before growth_count vertices
  before_bound root h =
      let split = ap (λ n. length (flat_map (vertices_of w) (range_with_len 0 n))) (let e : length w.automata ≡ root + (length w.automata - root) = omega arith in e)
      ∙ ap (λ xs. length (flat_map (vertices_of w) xs)) (range_split 0 root (length w.automata - root))
      ∙ ap length (flat_map-append (vertices_of w) (range_with_len 0 root) (range_with_len (0 + root) (length w.automata - root)))
      ∙ length-append (flat_map (vertices_of w) (range_with_len 0 root)) (flat_map (vertices_of w) (range_with_len (0 + root) (length w.automata - root))) in
      omega arith

  pub search_over : (root : ℕ) (a b : Found) → root < length w.automata → a.room ≡ 65536 → WentOver w (vertices_before root) a b → b.room < length (flat_map (grown w root (length w.automata)) (extended w [] root)) → 65536 < growth_count w
  unfolding vertices_of
  search_over root a b below room first over =
      let more = stopped w (vertices_before root) (vertices_of w root) a b first over in
      let all = before_bound (root + 1) (omega arith) in
      let e = ap length (before_more root) in
      omega (arith, room, more, all, e)

  pub search_all : (a b : Found) → a.room ≡ 65536 → a.count ≡ 0 → rows_of a ≡ [] → WentOver w (vertices_before (length w.automata)) a b → Covers w b
  unfolding vertices_before growth_count vertices
  search_all a b room count rows went = record {
    room = went.room ∙ room;
    count = went.count ∙ ap (λ n. n + length (complete_ones w (vertices_before (length w.automata)))) count ∙ zero-add (length (complete_ones w (vertices_before (length w.automata))));
    rows = λ few. went.rows few ∙ ap (λ xs. xs ++ map (row_of_vertex w) (complete_ones w (vertices_before (length w.automata)))) rows;
  }

-- the levels of marks can be counted
pub levels_fit : (n m width : ℕ) → n < 2 ^ 26 → m < 2 ^ 26 → width ≡ n + m → (n + 1) * width < 2 ^ 63
levels_fit n m width few_n few_m is =
    let one : n + 1 ≤ 2 ^ 26 = omega arith in
    let two : width ≤ 2 ^ 27 = omega arith in
    let bound : (n + 1) * width ≤ 2 ^ 26 * 2 ^ 27 = mul-le-mul one two in
    omega arith
