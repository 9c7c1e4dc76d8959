use Rattle.std.proofs.Common.{refl, sym, ◌∙◌}
use Rattle.std.proofs.lemmas.Bool.{false≢true}
use Rattle.reo_token.specs.declared.token.Symbol.TheVariants.{Plus, Minus, Star}
use Rattle.reo_grammar.specs.Token.{Sign}
use Rattle.reo_grammar.specs.Machine.Functions.{Start, AfterSign, Adds, Subtracts, Multiplies}
use Rattle.reo_sentence.specs.Reading.{left}
use Rattle.reo_sentence.specs.FunctionReading.{StopsFunction}
use Rattle.reo_sentence.proofs.ReadingLemmas.{passed_on, symbol_taken, Goes-here}
use Rattle.reo_sentence.proofs.FunctionLemmas.{reads_operator, stops_at, stops_behind_token, stuck_operand, stuck_start}
use Rattle.reo_sentence.proofs.cursor.Cursor.calculation.Goals as goal

pub returns-in_err-operand-clause-stops : goal.returns-in_err-operand-clause-stops
returns-in_err-operand-clause-stops c =
    passed_on c.from_residual.result c.in_err-operand.field-0.0 (StopsFunction Start c.args.self.now c.operand.new.self) c.from_residual.ensures.1
    (stops_behind_token Start (AfterSign Adds) c.args.self.now c.advance.new.self c.operand.new.self (Sign Plus) _ (symbol_taken c.args.self.now c.advance.new.self Plus (sym (c.sees_symbol.ensures.0 c.if-sees_symbol.true)) c.advance.ensures) refl
    (stops_at (AfterSign Adds) c.advance.new.self c.operand.new.self _ c.in_err-operand.ensures.refused.0 c.in_err-operand.ensures.refused.1 (stuck_operand Adds (left c.advance.new.self) c.in_err-operand.ensures.refused.2)))

pub returns-then-sees_symbol-clause-reads : goal.returns-then-sees_symbol-clause-reads
returns-then-sees_symbol-clause-reads c texts =
    reads_operator Adds c.args.self.now c.advance.new.self c.operand.new.self texts c.in_ok-operand.field-0 (symbol_taken c.args.self.now c.advance.new.self Plus (sym (c.sees_symbol.ensures.0 c.if-sees_symbol.true)) c.advance.ensures) (c.in_ok-operand.ensures.reads texts)

pub returns-in_err-operand-2-clause-stops : goal.returns-in_err-operand-2-clause-stops
returns-in_err-operand-2-clause-stops c =
    passed_on c.from_residual-in_err-operand-2.result c.in_err-operand-2.field-0.0 (StopsFunction Start c.args.self.now c.operand-then-sees_symbol-2.new.self) c.from_residual-in_err-operand-2.ensures.1
    (stops_behind_token Start (AfterSign Subtracts) c.args.self.now c.advance-then-sees_symbol-2.new.self c.operand-then-sees_symbol-2.new.self (Sign Minus) _ (symbol_taken c.args.self.now c.advance-then-sees_symbol-2.new.self Minus (sym (c.sees_symbol-2.ensures.0 c.if-sees_symbol-2.true)) c.advance-then-sees_symbol-2.ensures) refl
    (stops_at (AfterSign Subtracts) c.advance-then-sees_symbol-2.new.self c.operand-then-sees_symbol-2.new.self _ c.in_err-operand-2.ensures.refused.0 c.in_err-operand-2.ensures.refused.1 (stuck_operand Subtracts (left c.advance-then-sees_symbol-2.new.self) c.in_err-operand-2.ensures.refused.2)))

pub returns-then-sees_symbol-2-clause-reads : goal.returns-then-sees_symbol-2-clause-reads
returns-then-sees_symbol-2-clause-reads c texts =
    reads_operator Subtracts c.args.self.now c.advance-then-sees_symbol-2.new.self c.operand-then-sees_symbol-2.new.self texts c.in_ok-operand-2.field-0 (symbol_taken c.args.self.now c.advance-then-sees_symbol-2.new.self Minus (sym (c.sees_symbol-2.ensures.0 c.if-sees_symbol-2.true)) c.advance-then-sees_symbol-2.ensures) (c.in_ok-operand-2.ensures.reads texts)

pub returns-in_err-operand-3-clause-stops : goal.returns-in_err-operand-3-clause-stops
returns-in_err-operand-3-clause-stops c =
    passed_on c.from_residual-in_err-operand-3.result c.in_err-operand-3.field-0.0 (StopsFunction Start c.args.self.now c.operand-then-sees_symbol-3.new.self) c.from_residual-in_err-operand-3.ensures.1
    (stops_behind_token Start (AfterSign Multiplies) c.args.self.now c.advance-then-sees_symbol-3.new.self c.operand-then-sees_symbol-3.new.self (Sign Star) _ (symbol_taken c.args.self.now c.advance-then-sees_symbol-3.new.self Star (sym (c.sees_symbol-3.ensures.0 c.if-sees_symbol-3.true)) c.advance-then-sees_symbol-3.ensures) refl
    (stops_at (AfterSign Multiplies) c.advance-then-sees_symbol-3.new.self c.operand-then-sees_symbol-3.new.self _ c.in_err-operand-3.ensures.refused.0 c.in_err-operand-3.ensures.refused.1 (stuck_operand Multiplies (left c.advance-then-sees_symbol-3.new.self) c.in_err-operand-3.ensures.refused.2)))

pub returns-then-sees_symbol-3-clause-reads : goal.returns-then-sees_symbol-3-clause-reads
returns-then-sees_symbol-3-clause-reads c texts =
    reads_operator Multiplies c.args.self.now c.advance-then-sees_symbol-3.new.self c.operand-then-sees_symbol-3.new.self texts c.in_ok-operand-3.field-0 (symbol_taken c.args.self.now c.advance-then-sees_symbol-3.new.self Star (sym (c.sees_symbol-3.ensures.0 c.if-sees_symbol-3.true)) c.advance-then-sees_symbol-3.ensures) (c.in_ok-operand-3.ensures.reads texts)

pub returns-clause-stops : goal.returns-clause-stops
returns-clause-stops c =
    stops_at Start c.args.self.now c.args.self.now _ refl (Goes-here c.args.self.now)
    (stuck_start (left c.args.self.now) c.requires (λ is. false≢true (sym c.if-sees_symbol.false ∙ c.sees_symbol.ensures.1 is)) (λ is. false≢true (sym c.if-sees_symbol-2.false ∙ c.sees_symbol-2.ensures.1 is)) (λ is. false≢true (sym c.if-sees_symbol-3.false ∙ c.sees_symbol-3.ensures.1 is)))
