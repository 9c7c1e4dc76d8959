use Rattle.std.proofs.Common.{refl}
use Rattle.reo_token.specs.declared.token.Symbol.TheVariants.{Arrow}
use Rattle.reo_grammar.specs.Token.{Sign, const_token}
use Rattle.reo_grammar.specs.Machine.Functions.{WantFirst, HaveFirst, WantSecond}
use Rattle.reo_grammar.proofs.FunctionMachine.{first_step}
use Rattle.reo_sentence.specs.Reading.{left}
use Rattle.std.proofs.Common.{[], ◌∷◌}
use Rattle.reo_sentence.proofs.ReadingLemmas.{passed_on}
use Rattle.reo_sentence.proofs.FunctionLemmas.{reads_pair, stops_at, stops_refused_at, stops_after, stops_behind_token, led_by, stuck_first, stuck_arrow, stuck_second, StopsPair}
use Rattle.reo_sentence.proofs.cursor.Cursor.pair.Goals as goal

pub returns-in_err-first-clause-stops : goal.returns-in_err-first-clause-stops
returns-in_err-first-clause-stops c =
    passed_on c.from_residual.result c.in_err-first.field-0.0 (StopsPair c.args.self.now c.constant.new.self) c.from_residual.ensures.1
    (λ pairs more. stops_refused_at (WantFirst pairs) c.args.self.now c.constant.new.self _ c.in_err-first.field-0.0 c.in_err-first.ensures.refused (stuck_first pairs (left c.args.self.now) more))

pub returns-in_err-expect-clause-stops : goal.returns-in_err-expect-clause-stops
returns-in_err-expect-clause-stops c =
    let first = c.in_ok-first.ensures.taken in
    passed_on c.from_residual-in_err-expect.result c.in_err-expect.field-0.0 (StopsPair c.args.self.now c.expect.new.self) c.from_residual-in_err-expect.ensures.1
    (λ pairs more. stops_after (WantFirst pairs) (HaveFirst pairs first.constant) c.args.self.now c.constant.new.self c.expect.new.self (const_token first.constant ∷ []) _ first.reads.goes (led_by (WantFirst pairs) (HaveFirst pairs first.constant) (const_token first.constant) (first_step pairs first.constant))
    (stops_at (HaveFirst pairs first.constant) c.constant.new.self c.expect.new.self _ c.in_err-expect.ensures.refused.0 c.in_err-expect.ensures.refused.1 (stuck_arrow pairs first.constant (left c.constant.new.self) c.in_err-expect.ensures.refused.2)))

pub returns-in_err-second-clause-stops : goal.returns-in_err-second-clause-stops
returns-in_err-second-clause-stops c =
    let first = c.in_ok-first.ensures.taken in
    passed_on c.from_residual-in_err-second.result c.in_err-second.field-0.0 (StopsPair c.args.self.now c.constant-2.new.self) c.from_residual-in_err-second.ensures.1
    (λ pairs more. stops_after (WantFirst pairs) (HaveFirst pairs first.constant) c.args.self.now c.constant.new.self c.constant-2.new.self (const_token first.constant ∷ []) c.in_err-second.field-0.0 first.reads.goes (led_by (WantFirst pairs) (HaveFirst pairs first.constant) (const_token first.constant) (first_step pairs first.constant))
    (stops_behind_token (HaveFirst pairs first.constant) (WantSecond pairs first.constant) c.constant.new.self c.expect.new.self c.constant-2.new.self (Sign Arrow) c.in_err-second.field-0.0 c.in_ok-expect.ensures.taken refl
    (stops_refused_at (WantSecond pairs first.constant) c.expect.new.self c.constant-2.new.self _ c.in_err-second.field-0.0 c.in_err-second.ensures.refused (stuck_second pairs first.constant (left c.expect.new.self)))))

pub returns-clause-reads : goal.returns-clause-reads
returns-clause-reads c =
    reads_pair c.args.self.now c.constant.new.self c.expect.new.self c.constant-2.new.self c.args.texts.now c.constant.new.texts c.constant-2.new.texts c.in_ok-first.first c.in_ok-second.second c.in_ok-first.ensures.taken c.in_ok-expect.ensures.taken c.in_ok-second.ensures.taken
