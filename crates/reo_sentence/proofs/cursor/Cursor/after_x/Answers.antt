use Rattle.std.proofs.Common.{refl, sym, ◌∙◌}
use Rattle.std.proofs.lemmas.Bool.{false≢true}
use Rattle.reo_grammar.specs.declared.key.Key.TheVariants as key
use Rattle.reo_grammar.specs.Token.{word, Sign}
use Rattle.reo_grammar.specs.Guards.{sign_of}
use Rattle.reo_grammar.specs.Machine.Guards.{AfterX, AfterMod, AfterCmp}
use Rattle.reo_sentence.specs.GuardReading.{StopsIn}
use Rattle.reo_sentence.specs.Reading.{left}
use Rattle.reo_sentence.proofs.ReadingLemmas.{passed_on, key_taken, Goes-here}
use Rattle.reo_sentence.proofs.AtomLemmas.{completes_behind, completes_compare, stops_here, stops_refused, stops_behind, stuck_x, stuck_const, cmp_step, cmp_taken, mod_step, IfOk-with, IfErr-with}
use Rattle.reo_sentence.proofs.cursor.Cursor.after_x.Goals as goal

pub returns-then-sees-clause-reads : goal.returns-then-sees-clause-reads
returns-then-sees-clause-reads c =
    IfOk-with c.after_mod.result _ _ (λ made. completes_behind AfterX AfterMod c.args.self.now c.advance.new.self c.after_mod.new.self c.args.texts.now c.args.texts.now (word key.Mod) made refl
    (key_taken c.args.self.now c.advance.new.self key.Mod (sym (c.sees.ensures.0 c.if-sees.true)) c.advance.ensures)) (c.after_mod.ensures.reads c.args.texts.now)

pub returns-then-sees-clause-stops : goal.returns-then-sees-clause-stops
returns-then-sees-clause-stops c =
    IfErr-with c.after_mod.result _ (StopsIn AfterX c.args.self.now c.after_mod.new.self) (λ e. stops_behind AfterX AfterMod c.args.self.now c.advance.new.self c.after_mod.new.self (word key.Mod) e
    (key_taken c.args.self.now c.advance.new.self key.Mod (sym (c.sees.ensures.0 c.if-sees.true)) c.advance.ensures) mod_step) c.after_mod.ensures.stops

pub returns-in_default-clause-stops : goal.returns-in_default-clause-stops
returns-in_default-clause-stops c =
    stops_here AfterX c.args.self.now c.args.self.now _ refl (Goes-here c.args.self.now)
    (stuck_x (left c.args.self.now) (λ is. false≢true (sym c.if-sees.false ∙ c.sees.ensures.1 is)) c.in_default.ensures)

pub returns-in_err-constant-clause-stops : goal.returns-in_err-constant-clause-stops
returns-in_err-constant-clause-stops c =
    passed_on c.from_residual.result c.in_err-constant.field-0.0 (StopsIn AfterX c.args.self.now c.constant.new.self) c.from_residual.ensures.1
    (stops_behind AfterX (AfterCmp c.in-Some.cmp) c.args.self.now c.advance-2.new.self c.constant.new.self (Sign (sign_of c.in-Some.cmp)) _ (cmp_taken c.args.self.now c.advance-2.new.self c.in-Some.cmp c.in-Some.ensures c.advance-2.ensures) (cmp_step c.in-Some.cmp)
    (stops_refused (AfterCmp c.in-Some.cmp) c.advance-2.new.self c.constant.new.self _ _ c.in_err-constant.ensures.refused (stuck_const c.in-Some.cmp (left c.advance-2.new.self))))

pub returns-clause-reads : goal.returns-clause-reads
returns-clause-reads c =
    completes_behind AfterX (AfterCmp c.in-Some.cmp) c.args.self.now c.advance-2.new.self c.constant.new.self c.args.texts.now c.constant.new.texts (Sign (sign_of c.in-Some.cmp)) _ refl
    (cmp_taken c.args.self.now c.advance-2.new.self c.in-Some.cmp c.in-Some.ensures c.advance-2.ensures)
    (completes_compare c.advance-2.new.self c.constant.new.self c.args.texts.now c.constant.new.texts c.in-Some.cmp c.in_ok-constant.constant c.in_ok-constant.ensures.taken)
