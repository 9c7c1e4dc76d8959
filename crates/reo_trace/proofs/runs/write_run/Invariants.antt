use Rattle.std.proofs.Common.{◌≡◌, ◌+◌, ◌*◌, ◌≤◌, length, take}
use Rattle.std.specs.List.{flat_map}
use Rattle.reo_trace.specs.Buffer.{HasWritten}
use Rattle.reo_trace.specs.ReportText.{pair_text}
use Rattle.reo_trace.proofs.runs.write_run.Given as goal

abbrev pub invariant-loop-pair : goal.invariant-loop-pair
invariant-loop-pair l = record {
  pairs : l.run.pairs ≡ l.pair-index;
  used : l.run.used ≤ l.fn.used + 64 * l.run.pairs;
  written : HasWritten l.fn.room l.fn.used l.room l.run.used (flat_map (pair_text l.net l.nodes l.texts) (take l.run.pairs l.pairs));
  length : length l.room ≡ length l.fn.room;
}
