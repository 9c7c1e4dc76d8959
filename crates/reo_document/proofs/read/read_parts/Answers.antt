use Rattle.std.proofs.Common.{length}
use Rattle.reo_document.specs.Builder.{data_of}
use Rattle.reo_document.specs.Reading.{IsRefusalOf}
use Rattle.reo_document.proofs.ReadLemmas.{refusal_of, passed_on}
use Rattle.reo_document.proofs.RoomLemmas.{room_first}
use Rattle.reo_document.proofs.read.read_parts.Goals as goal

pub returns-in_err-read_lines-clause-refused : goal.returns-in_err-read_lines-clause-refused
returns-in_err-read_lines-clause-refused c =
    passed_on c.from_residual.result c.in_err-read_lines.field-0.0 (IsRefusalOf c.args.bytes.now) c.from_residual.ensures.1
    (refusal_of (data_of c.new-builder.result) c.args.bytes.now c.in_err-read_lines.field-0.0 c.new-builder.ensures.empty c.in_default.ensures.cases.1 c.in_err-read_lines.ensures.stops)

pub read_lines-requires-clause-room : goal.read_lines-requires-clause-room
read_lines-requires-clause-room c = room_first (data_of c.new-builder.result) (length c.args.bytes.now) c.new-builder.ensures.empty c.requires
