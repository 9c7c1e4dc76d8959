use Rattle.reo_grammar.specs.Lines.{Get}
use Rattle.reo_grammar.specs.Machine.Lines.{WantGetNode}
use Rattle.reo_sentence.specs.Said.{name_at}
use Rattle.reo_sentence.specs.LineReading.{StopsLine}
use Rattle.reo_sentence.proofs.ReadingLemmas.{passed_on}
use Rattle.reo_sentence.proofs.LineLemmas.{stops_name, stops_behind_name, stops_over, wants_get_node, finishes_get}
use Rattle.reo_sentence.proofs.cursor.Cursor.get.Goals as goal

pub returns-in_err-node-clause-stops : goal.returns-in_err-node-clause-stops
returns-in_err-node-clause-stops c =
    passed_on c.from_residual.result c.in_err-node.field-0.0 (StopsLine WantGetNode c.args.self.now c.name.new.self) c.from_residual.ensures.1
    (stops_name WantGetNode _ wants_get_node c.args.self.now c.name.new.self _ c.in_err-node.ensures.refused.0 c.in_err-node.ensures.refused.1 c.in_err-node.ensures.refused.2)

pub returns-in_err-end-clause-stops : goal.returns-in_err-end-clause-stops
returns-in_err-end-clause-stops c =
    passed_on c.from_residual-in_err-end.result c.in_err-end.field-0.0 (StopsLine WantGetNode c.args.self.now c.name.new.self) c.from_residual-in_err-end.ensures.1
    (stops_behind_name WantGetNode _ wants_get_node c.args.self.now c.name.new.self c.name.new.self (name_at c.args.self.now.line.now c.in_ok-node.node) _ c.in_ok-node.ensures.taken
    (stops_over (Get (name_at c.args.self.now.line.now c.in_ok-node.node)) c.name.new.self _ c.in_err-end.ensures.refused.0 c.in_err-end.ensures.refused.1))

pub returns-clause-reads : goal.returns-clause-reads
returns-clause-reads c texts =
    finishes_get c.args.self.now c.name.new.self texts c.in_ok-node.node c.in_ok-node.ensures.taken c.in_ok-node.ensures.within c.in_ok-end.ensures.over
