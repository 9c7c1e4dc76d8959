use Rattle.std.proofs.Common.{take}
use Rattle.reo_sentence.specs.Said.{name_at}
use Rattle.reo_document.specs.Lines.{lines_of}
use Rattle.reo_document.specs.Builder.{data_of, operation_said}
use Rattle.reo_document.specs.Reading.{StopsIn}
use Rattle.reo_document.proofs.PlainLemmas.{said_plainly}
use Rattle.reo_document.proofs.PlainLineLemmas.{lines_at}
use Rattle.reo_document.proofs.PastLemmas.{past_line, past_plain}
use Rattle.reo_document.proofs.ReadLemmas.{stops_in, passed_on}
use Rattle.reo_document.proofs.builder.Builder.read_next.Goals as goal

pub returns-in_err-operate-clause-stops : goal.returns-in_err-operate-clause-stops
returns-in_err-operate-clause-stops c =
    let bytes = c.args.bytes.now in
    let plain = c.in-Some.plain in
    let d = data_of c.args.self.now in
    passed_on c.from_residual.result c.in_err-operate.field-0.0 (StopsIn (data_of c.args.self.now) c.args.number (lines_of c.args.bytes.now)) c.from_residual.ensures.1
    (stops_in d bytes (take plain.len bytes) _ c.args.number c.in_err-operate.field-0.0 (lines_at bytes plain.len c.in-Some.ensures.plain.ends)
    (c.in_err-operate.ensures.stops d (said_plainly d (take plain.len bytes) plain.node plain.value c.in-Some.ensures.place c.in-Some.ensures.plain.says)))

pub returns-in-Some-clause-goes : goal.returns-in-Some-clause-goes
returns-in-Some-clause-goes c =
    let bytes = c.args.bytes.now in
    let plain = c.in-Some.plain in
    let d = data_of c.args.self.now in
    past_plain d (data_of c.operate.new.self) c.args.number bytes plain.len (operation_said (name_at (take plain.len bytes) plain.node) plain.value) c.in-Some.ensures.plain.ends c.requires.utf8 c.requires.room
    c.in_ok-operate.ensures.exact (c.in_ok-operate.ensures.goes d (said_plainly d (take plain.len bytes) plain.node plain.value c.in-Some.ensures.place c.in-Some.ensures.plain.says))

pub returns-in_err-read-clause-stops : goal.returns-in_err-read-clause-stops
returns-in_err-read-clause-stops c =
    passed_on c.from_residual-in_err-read.result c.in_err-read.field-0.0 (StopsIn (data_of c.args.self.now) c.args.number (lines_of c.args.bytes.now)) c.from_residual-in_err-read.ensures.1
    (stops_in (data_of c.args.self.now) c.args.bytes.now c.next_line.result.0.now _ c.args.number c.in_err-read.field-0.0 c.next_line.ensures.exact c.in_err-read.ensures.stops)

pub returns-clause-goes : goal.returns-clause-goes
returns-clause-goes c =
    past_line (data_of c.args.self.now) (data_of c.read.new.self) c.args.number c.args.bytes.now c.next_line.result.0.now c.next_line.result.1 c.next_line.ensures.exact c.next_line.ensures.fewer c.next_line.ensures.rest
    c.requires.room c.in_ok-read.ensures.room c.in_ok-read.ensures.goes
