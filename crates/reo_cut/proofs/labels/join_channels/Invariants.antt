use Rattle.std.proofs.Common.{◌≡◌, ℕ, length, []}
use Rattle.reo_cut.specs.Labels.{pairs_below}
use Rattle.reo_cut.specs.Parents.{DoNotRise, AreParents}
use Rattle.reo_cut.proofs.labels.join_channels.Given as goal

abbrev pub invariant-loop-number : goal.invariant-loop-number
invariant-loop-number l = record {
  len : length l.parents ≡ length l.initial.parents;
  falls : DoNotRise l.parents;
  so_far : (n : ℕ) → AreParents [] n l.initial.parents → AreParents (pairs_below l.channels l.number) n l.parents;
}
