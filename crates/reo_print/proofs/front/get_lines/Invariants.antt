use Rattle.std.proofs.Common.{◌≡◌, length}
use Rattle.reo_print.specs.Canonical.{get_line}
use Rattle.reo_print.specs.Front.{AreOf}
use Rattle.reo_print.proofs.front.get_lines.Given as goal

abbrev pub invariant-loop-port : goal.invariant-loop-port
invariant-loop-port l = record {
  texts : AreOf (get_line l.nodes) l.ports l.texts;
  long : length l.texts ≡ l.port;
}
