use Rattle.std.proofs.Common.{◌+◌, ◌*◌, ◌≤◌, take}
use Rattle.std.specs.Prelude.{flat_map}
use Rattle.reo_growth.specs.Growth.{Vertex, grown}
use Rattle.reo_growth.specs.Ground.{AreMarksOf, AreUnchanged}
use Rattle.reo_growth.specs.Found.{WentOver}
use Rattle.reo_growth.specs.Sound.{IsReady, widened}
use Rattle.reo_growth.proofs.engine.+growth.Given as goal

abbrev pub decreases-grow : goal.decreases-grow
decreases-grow l = 3 * l.left

abbrev pub decreases-grow_child : goal.decreases-grow_child
decreases-grow_child l = 3 * l.left + 1

abbrev pub decreases-widen : goal.decreases-widen
decreases-widen l = 3 * l.left + 2

abbrev pub invariant-widen-loop-link : goal.invariant-widen-loop-link
invariant-widen-loop-link l = record {
  same : AreUnchanged l.initial.marking l.marking;
  room : l.found.count + l.found.room ≤ l.initial.found.count + l.initial.found.room;
  went : (v : Vertex) → IsReady l.ground.web l.root v l.x → AreMarksOf l.ground.web v l.initial.marking
      → WentOver l.ground.web (flat_map (grown l.ground.web l.root l.left) (widened l.ground.web v l.x (take l.link-index l.link-items))) l.initial.found l.found;
}
