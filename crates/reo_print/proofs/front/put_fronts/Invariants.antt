use Rattle.std.proofs.Common.{◌≡◌, length}
use Rattle.reo_print.specs.Canonical.{put_front}
use Rattle.reo_print.specs.Front.{AreOf}
use Rattle.reo_print.proofs.front.put_fronts.Given as goal

abbrev pub invariant-loop-port : goal.invariant-loop-port
invariant-loop-port l = record {
  texts : AreOf (put_front l.nodes) l.ports l.texts;
  long : length l.texts ≡ l.port;
}
