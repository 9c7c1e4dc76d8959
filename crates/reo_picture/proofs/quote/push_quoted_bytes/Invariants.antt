use Rattle.std.proofs.Common.{take}
use Rattle.std.specs.List.{flat_map}
use Rattle.reo_trace.specs.Buffer.{HasTaken}
use Rattle.reo_picture.specs.Picture.{quoted_byte}
use Rattle.reo_picture.proofs.quote.push_quoted_bytes.Given as goal

abbrev pub invariant-loop-byte : goal.invariant-loop-byte
invariant-loop-byte l = HasTaken l.initial.buffer l.buffer (flat_map quoted_byte (take l.byte-index l.bytes))
