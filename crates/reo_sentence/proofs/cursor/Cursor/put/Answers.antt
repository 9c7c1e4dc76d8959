use Rattle.reo_grammar.specs.Lines.{Put}
use Rattle.reo_grammar.specs.Machine.Lines.{LineOver, WantPutNode, WantPutConst}
use Rattle.reo_sentence.specs.Said.{name_at}
use Rattle.reo_sentence.specs.Reading.{left}
use Rattle.reo_sentence.specs.LineReading.{StopsLine}
use Rattle.reo_sentence.proofs.ReadingLemmas.{passed_on}
use Rattle.reo_sentence.proofs.LineLemmas.{stops_name, stops_behind_name, stops_over, stops_line_refused, stops_line_after, stuck_value, led_value, wants_put_node, finishes_put}
use Rattle.reo_sentence.proofs.cursor.Cursor.put.Goals as goal

pub returns-in_err-node-clause-stops : goal.returns-in_err-node-clause-stops
returns-in_err-node-clause-stops c =
    passed_on c.from_residual.result c.in_err-node.field-0.0 (StopsLine WantPutNode c.args.self.now c.name.new.self) c.from_residual.ensures.1
    (stops_name WantPutNode _ wants_put_node c.args.self.now c.name.new.self _ c.in_err-node.ensures.refused.0 c.in_err-node.ensures.refused.1 c.in_err-node.ensures.refused.2)

pub returns-in_err-value-clause-stops : goal.returns-in_err-value-clause-stops
returns-in_err-value-clause-stops c =
    passed_on c.from_residual-in_err-value.result c.in_err-value.field-0.0 (StopsLine WantPutNode c.args.self.now c.constant.new.self) c.from_residual-in_err-value.ensures.1
    (stops_behind_name WantPutNode _ wants_put_node c.args.self.now c.name.new.self c.constant.new.self (name_at c.args.self.now.line.now c.in_ok-node.node) c.in_err-value.field-0.0 c.in_ok-node.ensures.taken
    (stops_line_refused (WantPutConst (name_at c.args.self.now.line.now c.in_ok-node.node)) c.name.new.self c.constant.new.self _ c.in_err-value.field-0.0 c.in_err-value.ensures.refused (stuck_value (name_at c.args.self.now.line.now c.in_ok-node.node) (left c.name.new.self))))

pub returns-in_err-end-clause-stops : goal.returns-in_err-end-clause-stops
returns-in_err-end-clause-stops c =
    let taken = c.in_ok-value.ensures.taken in
    passed_on c.from_residual-in_err-end.result c.in_err-end.field-0.0 (StopsLine WantPutNode c.args.self.now c.constant.new.self) c.from_residual-in_err-end.ensures.1
    (stops_behind_name WantPutNode _ wants_put_node c.args.self.now c.name.new.self c.constant.new.self (name_at c.args.self.now.line.now c.in_ok-node.node) _ c.in_ok-node.ensures.taken
    (stops_line_after (WantPutConst (name_at c.args.self.now.line.now c.in_ok-node.node)) (LineOver (Put (name_at c.args.self.now.line.now c.in_ok-node.node) taken.constant)) c.name.new.self c.constant.new.self c.constant.new.self _ _ taken.reads.goes (led_value (name_at c.args.self.now.line.now c.in_ok-node.node) taken.constant)
    (stops_over (Put (name_at c.args.self.now.line.now c.in_ok-node.node) taken.constant) c.constant.new.self _ c.in_err-end.ensures.refused.0 c.in_err-end.ensures.refused.1)))

pub returns-clause-reads : goal.returns-clause-reads
returns-clause-reads c =
    finishes_put c.args.self.now c.name.new.self c.constant.new.self c.args.texts.now c.constant.new.texts c.in_ok-node.node c.in_ok-value.value c.in_ok-node.ensures.taken c.in_ok-node.ensures.within c.in_ok-value.ensures.taken c.in_ok-end.ensures.over
