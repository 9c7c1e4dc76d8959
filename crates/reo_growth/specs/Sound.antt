-- Words that mirror the code of growth: what it knows of the list that it makes wider.
use Rattle.std.specs.Prelude.{◌≡◌, ℕ, ◌≤◌, List, map, filter, true, ◌&&◌}
use Rattle.reo_growth.specs.declared.web.Web.{Web}
use Rattle.reo_growth.specs.Lists.{has, Among}
use Rattle.reo_growth.specs.Web.{names_of, links_of, Together}
use Rattle.reo_growth.specs.Growth.{Move, Vertex, fired, is_listed, known, agrees, agrees_as_one, fits, with_link, extended}

-- what is true of each vertex
pub record IsSound (w : Web) (root : ℕ) (v : Vertex) : Type 0 where
  -- each move is by a link of its automaton, which is not less than the root
  pub its : (move : Move) → Among move v → Among move.fires (links_of w move.automaton)
  pub above : (move : Move) → Among move v → root ≤ move.automaton
  pub root_is : is_listed v root ≡ true
  -- two moves agree on each name that both automata have
  pub agree : (one other : Move) (name : ℕ) → Among one v → Among other v → has (names_of w one.automaton) name ≡ true → has (names_of w other.automaton) name ≡ true → has one.fires name ≡ has other.fires name
  pub fit : fits w v ≡ true
  pub hangs : (move : Move) → Among move v → Together w (fired v) root move.automaton

-- automaton x can make this list wider
pub record IsReady (w : Web) (root : ℕ) (v : Vertex) (x : ℕ) : Type 0 where
  -- what it makes of the list is sound
  pub children : (u : Vertex) → Among u (extended w v x) → IsSound w root u
  -- each link agrees with each automaton just where it agrees with all as one
  pub agree : (link : List ℕ) → agrees w v x link ≡ agrees_as_one w v x link
  -- what fires is known
  pub knows : (name : ℕ) → fired v name ≡ true → known w v name ≡ true
  pub fit : fits w v ≡ true

-- the lists that automaton x makes of this one with some of its links
abbrev pub widened : Web → Vertex → ℕ → List (List ℕ) → List Vertex
widened w v x links = map (with_link v x) (filter (λ link. agrees w v x link && fits w (with_link v x link)) links)
