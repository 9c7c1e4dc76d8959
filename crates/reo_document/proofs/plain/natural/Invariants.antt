use Rattle.std.proofs.Common.{◌≡◌}
use Rattle.reo_document.proofs.PlainLineLemmas.{ReadSo}
use Rattle.reo_document.proofs.plain.natural.Given as goal

abbrev pub invariant-loop-byte : goal.invariant-loop-byte
invariant-loop-byte l = record {
  reads : ReadSo l.digits l.byte-index l.value;
  count : l.len ≡ l.byte-index;
}
