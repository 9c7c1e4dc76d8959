use Rattle.std.proofs.Common.{[], ◌∷◌, ◌++◌, refl, sym, ap, subst, ◌∙◌}
use Rattle.std.proofs.lemmas.Bool.{false≢true}
use Rattle.reo_token.specs.declared.token.Symbol.TheVariants.{OpenBrace, CloseBrace, Comma}
use Rattle.reo_guard.specs.declared.fun.Fun.TheVariants as fun
use Rattle.reo_grammar.specs.Token.{Sign}
use Rattle.reo_grammar.specs.Machine.Functions.{AfterMap, WantFirst}
use Rattle.reo_sentence.specs.Reading.{left}
use Rattle.reo_sentence.specs.FunctionReading.{StopsFunction, CompletesMap, ReadsPairs}
use Rattle.reo_sentence.proofs.ReadingLemmas.{passed_on, symbol_taken}
use Rattle.reo_sentence.proofs.FunctionLemmas.{completes_map, completes_empty, pairs_one, pairs_more, stops_at, stops_behind_token, stops_in_pair, stops_unclosed, stuck_brace}
use Rattle.reo_sentence.proofs.cursor.Cursor.after_map.Goals as goal

pub returns-in_err-expect-clause-stops : goal.returns-in_err-expect-clause-stops
returns-in_err-expect-clause-stops c =
    passed_on c.from_residual.result c.in_err-expect.field-0.0 (StopsFunction AfterMap c.args.self.now c.expect.new.self) c.from_residual.ensures.1
    (stops_at AfterMap c.args.self.now c.expect.new.self _ c.in_err-expect.ensures.refused.0 c.in_err-expect.ensures.refused.1 (stuck_brace (left c.args.self.now) c.in_err-expect.ensures.refused.2))

pub returns-then-sees_symbol-clause-reads : goal.returns-then-sees_symbol-clause-reads
returns-then-sees_symbol-clause-reads c =
    subst (λ pairs. CompletesMap c.args.self.now c.advance.new.self c.args.texts.now c.args.texts.now (fun.Map pairs)) (sym c.new-pairs.ensures)
    (completes_empty c.args.self.now c.expect.new.self c.advance.new.self c.args.texts.now c.in_ok-expect.ensures.taken (symbol_taken c.expect.new.self c.advance.new.self CloseBrace (sym (c.sees_symbol.ensures.0 c.if-sees_symbol.true)) c.advance.ensures))

pub returns-in_err-first-clause-stops : goal.returns-in_err-first-clause-stops
returns-in_err-first-clause-stops c =
    passed_on c.from_residual-in_err-first.result c.in_err-first.field-0.0 (StopsFunction AfterMap c.args.self.now c.pair.new.self) c.from_residual-in_err-first.ensures.1
    (stops_behind_token AfterMap (WantFirst []) c.args.self.now c.expect.new.self c.pair.new.self (Sign OpenBrace) c.in_err-first.field-0.0 c.in_ok-expect.ensures.taken refl
    (c.in_err-first.ensures.stops [] (λ is. false≢true (sym c.if-sees_symbol.false ∙ c.sees_symbol.ensures.1 is))))

pub pairs-init : goal.pairs-init
pairs-init c =
    record {
      brace = c.expect.new.self;
      opens = c.in_ok-expect.ensures.taken;
      pairs = subst (λ vs. ReadsPairs c.expect.new.self c.pair.new.self c.args.texts.now c.pair.new.texts vs) (sym (c.in_ok-push.ensures.ok ∙ ap (λ vs. vs ++ c.in_ok-first.first ∷ []) c.new-pairs.ensures))
          (pairs_one c.expect.new.self c.pair.new.self c.args.texts.now c.pair.new.texts c.in_ok-first.first c.in_ok-first.ensures.reads);
    }

pub returns-in_err-pair-clause-stops : goal.returns-in_err-pair-clause-stops
returns-in_err-pair-clause-stops c =
    passed_on c.from_residual-in_err-pair.result c.in_err-pair.field-0.0 (StopsFunction AfterMap c.args.self.now c.pair-in-pairs.new.self) c.from_residual-in_err-pair.ensures.1
    (stops_in_pair c.args.self.now c.pairs.self c.advance-in-pairs.new.self c.pair-in-pairs.new.self c.args.texts.now c.pairs.texts c.pairs.pairs c.in_err-pair.field-0.0 c.pairs.invariant
    (symbol_taken c.pairs.self c.advance-in-pairs.new.self Comma (sym (c.sees_symbol-in-pairs.ensures.0 c.pairs-test.true)) c.advance-in-pairs.ensures) c.in_err-pair.ensures.stops)

pub pairs-preserved : goal.pairs-preserved
pairs-preserved c =
    record {
      brace = c.pairs.invariant.brace;
      opens = c.pairs.invariant.opens;
      pairs = subst (λ vs. ReadsPairs c.pairs.invariant.brace c.pair-in-pairs.new.self c.args.texts.now c.pair-in-pairs.new.texts vs) (sym c.in_ok-push-2.ensures.ok)
          (pairs_more c.pairs.invariant.brace c.pairs.self c.advance-in-pairs.new.self c.pair-in-pairs.new.self c.args.texts.now c.pairs.texts c.pair-in-pairs.new.texts c.pairs.pairs c.in_ok-pair.pair c.pairs.invariant.pairs
          (symbol_taken c.pairs.self c.advance-in-pairs.new.self Comma (sym (c.sees_symbol-in-pairs.ensures.0 c.pairs-test.true)) c.advance-in-pairs.ensures) c.in_ok-pair.ensures.reads);
    }

pub returns-in_err-expect-2-clause-stops : goal.returns-in_err-expect-2-clause-stops
returns-in_err-expect-2-clause-stops c =
    passed_on c.from_residual-in_err-expect-2.result c.in_err-expect-2.field-0.0 (StopsFunction AfterMap c.args.self.now c.expect-2.new.self) c.from_residual-in_err-expect-2.ensures.1
    (stops_unclosed c.args.self.now c.pairs.self c.expect-2.new.self c.args.texts.now c.pairs.texts c.pairs.pairs _ c.pairs.invariant c.in_err-expect-2.ensures.refused.0 c.in_err-expect-2.ensures.refused.1
    (λ is. false≢true (sym c.pairs-test.false ∙ c.sees_symbol-in-pairs.ensures.1 is)) c.in_err-expect-2.ensures.refused.2)

pub returns-clause-reads : goal.returns-clause-reads
returns-clause-reads c =
    completes_map c.args.self.now c.pairs.self c.expect-2.new.self c.args.texts.now c.pairs.texts c.pairs.pairs c.pairs.invariant c.in_ok-expect-2.ensures.taken
