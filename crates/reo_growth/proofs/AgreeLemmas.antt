-- In a vertex, to agree with each automaton is to agree with all as one.
use Rattle.std.proofs.Common.{◌≡◌, ℕ, List, true, not, ◌||◌, sym, ◌∙◌}
use Rattle.reo_growth.specs.declared.web.Web.{Web}
use Rattle.reo_growth.specs.Lists.{has, Among}
use Rattle.reo_growth.specs.Web.{names_of, IsWeb}
use Rattle.reo_growth.specs.Growth.{Move, Vertex, fired, places, known, same, agrees, agrees_as_one, vertices_of, vertices}
use Rattle.reo_growth.specs.Laws.{AgreesAsOne}
use Rattle.reo_growth.proofs.ListLemmas.{same_tests, any_from, any_gives, all_gives, all_from, flat_map_gives, has_among, among_has}
use Rattle.reo_growth.proofs.VertexLemmas.{implied, implies, same_from, same_gives, agrees_gives, agrees_from}
use Rattle.reo_growth.specs.Sound.{IsSound}
use Rattle.reo_growth.proofs.SoundLemmas.{fires_as, sound_of_root}

pub known_from : (w : Web) (v : Vertex) (move : Move) (name : ℕ) → Among move v → has (names_of w move.automaton) name ≡ true → known w v name ≡ true
unfolding known
known_from w v move name at its = any_from (λ move. has (names_of w move.automaton) name) v move at its

pub known_gives : (w : Web) (v : Vertex) (name : ℕ) → known w v name ≡ true → (move : Move) × Among move v × (has (names_of w move.automaton) name ≡ true)
unfolding known
known_gives w v name h = any_gives (λ move. has (names_of w move.automaton) name) v h

module _ (w : Web) (v : Vertex) (x : ℕ) (link : List ℕ) where
  as_one_gives : agrees_as_one w v x link ≡ true → (name : ℕ) → has (names_of w x) name ≡ true → known w v name ≡ true → has link name ≡ fired v name
  unfolding agrees_as_one
  as_one_gives h name its is =
      same_gives (has link name) (fired v name) (implied (known w v name) (same (has link name) (fired v name))
      (all_gives (λ name. not (known w v name) || same (has link name) (fired v name)) (names_of w x) name h (has_among (names_of w x) name its)) is)

  as_one_from : ((name : ℕ) → has (names_of w x) name ≡ true → known w v name ≡ true → has link name ≡ fired v name) → agrees_as_one w v x link ≡ true
  unfolding agrees_as_one
  as_one_from h =
      all_from (λ name. not (known w v name) || same (has link name) (fired v name)) (names_of w x) (λ name at.
      implies (known w v name) (same (has link name) (fired v name)) (λ is. same_from (has link name) (fired v name) (h name (among_has (names_of w x) name at) is)))

  pub agrees_is : (root : ℕ) → IsWeb w → IsSound w root v → agrees w v x link ≡ agrees_as_one w v x link
  agrees_is root is_web sound = same_tests (agrees w v x link) (agrees_as_one w v x link)
      (λ each. as_one_from (λ name its is. let m = known_gives w v name is in
      agrees_gives w v x link each m.0 name m.1 its m.2 ∙ sym (fires_as w is_web root v sound m.0 name m.1 m.2)))
      (λ whole. agrees_from w v x link (λ move name at its theirs.
      as_one_gives whole name its (known_from w v move name at theirs) ∙ fires_as w is_web root v sound move name at theirs))

pub agrees_as_one_is : AgreesAsOne
unfolding vertices
agrees_as_one_is w is_web v at x link =
    let f = flat_map_gives (vertices_of w) (places w) v at in
    agrees_is w v x link f.0 is_web (sound_of_root w is_web f.0 v f.2)
