use Rattle.reo_grammar.specs.Lines.{Component}
use Rattle.reo_grammar.specs.Machine.Lines.{WantName}
use Rattle.reo_sentence.specs.Said.{name_at}
use Rattle.reo_sentence.specs.LineReading.{StopsLine}
use Rattle.reo_sentence.proofs.ReadingLemmas.{passed_on}
use Rattle.reo_sentence.proofs.LineLemmas.{stops_name, stops_behind_name, stops_over, wants_name, finishes_component}
use Rattle.reo_sentence.proofs.cursor.Cursor.component.Goals as goal

pub returns-in_err-name-clause-stops : goal.returns-in_err-name-clause-stops
returns-in_err-name-clause-stops c =
    passed_on c.from_residual.result c.in_err-name.field-0.0 (StopsLine WantName c.args.self.now c.name.new.self) c.from_residual.ensures.1
    (stops_name WantName _ wants_name c.args.self.now c.name.new.self _ c.in_err-name.ensures.refused.0 c.in_err-name.ensures.refused.1 c.in_err-name.ensures.refused.2)

pub returns-in_err-end-clause-stops : goal.returns-in_err-end-clause-stops
returns-in_err-end-clause-stops c =
    passed_on c.from_residual-in_err-end.result c.in_err-end.field-0.0 (StopsLine WantName c.args.self.now c.name.new.self) c.from_residual-in_err-end.ensures.1
    (stops_behind_name WantName _ wants_name c.args.self.now c.name.new.self c.name.new.self (name_at c.args.self.now.line.now c.in_ok-name.name) _ c.in_ok-name.ensures.taken
    (stops_over (Component (name_at c.args.self.now.line.now c.in_ok-name.name)) c.name.new.self _ c.in_err-end.ensures.refused.0 c.in_err-end.ensures.refused.1))

pub returns-clause-reads : goal.returns-clause-reads
returns-clause-reads c texts =
    finishes_component c.args.self.now c.name.new.self texts c.in_ok-name.name c.in_ok-name.ensures.taken c.in_ok-name.ensures.within c.in_ok-end.ensures.over
