use Rattle.std.proofs.Common.{◌≡◌, ◌≤◌, ◌-◌, vec_len}
use Rattle.std.specs.Io.KnownBytes.{Consumes}
use Rattle.reo_base.specs.Streams.{RisesAtMost}
use Rattle.reo_base.proofs.whole_read.read_all.Given as goal

abbrev pub invariant-pieces : goal.invariant-pieces
invariant-pieces g l = record {
  within : vec_len l.bytes ≤ l.max;
  kept : g.S.Source.faults l.source ≡ g.S.Source.faults l.initial.source;
  consumed : Consumes (g.S.Source.left l.initial.source) (g.S.Source.left l.source) l.bytes.items;
  calls : RisesAtMost (g.S.Source.reads l.initial.source) (g.S.Source.reads l.source) (vec_len l.bytes);
}

abbrev pub decreases-pieces : goal.decreases-pieces
decreases-pieces g l = l.max - vec_len l.bytes
