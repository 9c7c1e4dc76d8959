use Rattle.reo_grammar.specs.Machine.Lines.{WantA, WantB, Behind, begun}
use Rattle.reo_sentence.specs.Said.{name_at}
use Rattle.reo_sentence.specs.LineReading.{StopsLine, channel_word}
use Rattle.reo_sentence.proofs.ReadingLemmas.{passed_on}
use Rattle.reo_sentence.proofs.LineLemmas.{stops_name, stops_behind_name, stops_line_after, stops_behind_kind, stops_kind, wants_a, wants_b, finishes_channel, led_kind}
use Rattle.reo_sentence.proofs.cursor.Cursor.channel.Goals as goal

pub returns-in_err-a-clause-stops : goal.returns-in_err-a-clause-stops
returns-in_err-a-clause-stops c =
    passed_on c.from_residual.result c.in_err-a.field-0.0 (StopsLine (WantA (channel_word c.args.word)) c.args.self.now c.name.new.self) c.from_residual.ensures.1
    (stops_name (WantA (channel_word c.args.word)) _ (wants_a (channel_word c.args.word)) c.args.self.now c.name.new.self _ c.in_err-a.ensures.refused.0 c.in_err-a.ensures.refused.1 c.in_err-a.ensures.refused.2)

pub returns-in_err-b-clause-stops : goal.returns-in_err-b-clause-stops
returns-in_err-b-clause-stops c =
    passed_on c.from_residual-in_err-b.result c.in_err-b.field-0.0 (StopsLine (WantA (channel_word c.args.word)) c.args.self.now c.name-2.new.self) c.from_residual-in_err-b.ensures.1
    (stops_behind_name (WantA (channel_word c.args.word)) _ (wants_a (channel_word c.args.word)) c.args.self.now c.name.new.self c.name-2.new.self (name_at c.args.self.now.line.now c.in_ok-a.a) _ c.in_ok-a.ensures.taken
    (stops_name (WantB (channel_word c.args.word) (name_at c.args.self.now.line.now c.in_ok-a.a)) _ (wants_b (channel_word c.args.word) (name_at c.args.self.now.line.now c.in_ok-a.a)) c.name.new.self c.name-2.new.self _ c.in_err-b.ensures.refused.0 c.in_err-b.ensures.refused.1 c.in_err-b.ensures.refused.2))

pub returns-in_err-kind-clause-stops : goal.returns-in_err-kind-clause-stops
returns-in_err-kind-clause-stops c =
    passed_on c.from_residual-in_err-kind.result c.in_err-kind.field-0.0 (StopsLine (WantA (channel_word c.args.word)) c.args.self.now c.kind.new.self) c.from_residual-in_err-kind.ensures.1
    (stops_behind_name (WantA (channel_word c.args.word)) _ (wants_a (channel_word c.args.word)) c.args.self.now c.name.new.self c.kind.new.self (name_at c.args.self.now.line.now c.in_ok-a.a) c.in_err-kind.field-0.0 c.in_ok-a.ensures.taken
    (stops_behind_name (WantB (channel_word c.args.word) (name_at c.args.self.now.line.now c.in_ok-a.a)) _ (wants_b (channel_word c.args.word) (name_at c.args.self.now.line.now c.in_ok-a.a)) c.name.new.self c.name-2.new.self c.kind.new.self (name_at c.name.new.self.line.now c.in_ok-b.b) c.in_err-kind.field-0.0 c.in_ok-b.ensures.taken
    (stops_kind (channel_word c.args.word) (name_at c.args.self.now.line.now c.in_ok-a.a) (name_at c.name.new.self.line.now c.in_ok-b.b) c.name-2.new.self c.kind.new.self c.in_err-kind.field-0.0 c.in_err-kind.ensures.stops)))

pub returns-in_err-end-clause-stops : goal.returns-in_err-end-clause-stops
returns-in_err-end-clause-stops c =
    let reads = c.in_ok-kind.ensures.reads in
    passed_on c.from_residual-in_err-end.result c.in_err-end.field-0.0 (StopsLine (WantA (channel_word c.args.word)) c.args.self.now c.kind.new.self) c.from_residual-in_err-end.ensures.1
    (stops_behind_name (WantA (channel_word c.args.word)) _ (wants_a (channel_word c.args.word)) c.args.self.now c.name.new.self c.kind.new.self (name_at c.args.self.now.line.now c.in_ok-a.a) c.in_err-end.field-0.0 c.in_ok-a.ensures.taken
    (stops_behind_name (WantB (channel_word c.args.word) (name_at c.args.self.now.line.now c.in_ok-a.a)) _ (wants_b (channel_word c.args.word) (name_at c.args.self.now.line.now c.in_ok-a.a)) c.name.new.self c.name-2.new.self c.kind.new.self (name_at c.name.new.self.line.now c.in_ok-b.b) c.in_err-end.field-0.0 c.in_ok-b.ensures.taken
    (stops_line_after (Behind (begun (channel_word c.args.word)) (name_at c.args.self.now.line.now c.in_ok-a.a) (name_at c.name.new.self.line.now c.in_ok-b.b)) (Behind reads.state (name_at c.args.self.now.line.now c.in_ok-a.a) (name_at c.name.new.self.line.now c.in_ok-b.b)) c.name-2.new.self c.kind.new.self c.kind.new.self reads.front c.in_err-end.field-0.0 reads.reads.goes (led_kind (channel_word c.args.word) c.name-2.new.self c.kind.new.self c.args.texts.now c.kind.new.texts c.in_ok-kind.kind (name_at c.args.self.now.line.now c.in_ok-a.a) (name_at c.name.new.self.line.now c.in_ok-b.b) reads)
    (stops_behind_kind reads.state (name_at c.args.self.now.line.now c.in_ok-a.a) (name_at c.name.new.self.line.now c.in_ok-b.b) c.kind.new.self _ c.in_err-end.ensures.refused.0 reads.ended c.in_err-end.ensures.refused.1))))

pub returns-clause-reads : goal.returns-clause-reads
returns-clause-reads c =
    finishes_channel (channel_word c.args.word) c.args.self.now c.name.new.self c.name-2.new.self c.kind.new.self c.args.texts.now c.kind.new.texts c.in_ok-kind.kind c.in_ok-a.a c.in_ok-b.b c.in_ok-a.ensures.taken c.in_ok-b.ensures.taken c.in_ok-a.ensures.within c.in_ok-b.ensures.within c.in_ok-kind.ensures.reads c.in_ok-end.ensures.over
