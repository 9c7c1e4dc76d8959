use Rattle.std.proofs.Common.{IfErr, refl, sym, subst}
use Rattle.reo_grammar.specs.Lines.{Circuit, Scripts}
use Rattle.reo_grammar.specs.Lines as lines
use Rattle.reo_sentence.specs.LineReading.{StopsStart, place_of}
use Rattle.reo_sentence.proofs.AtomLemmas.{IfErr-with}
use Rattle.reo_sentence.proofs.cursor.Cursor.sentence.Goals as goal

pub returns-in-First-clause-stops : goal.returns-in-First-clause-stops
returns-in-First-clause-stops c =
    subst (λ p. IfErr c.circuit_line.result (StopsStart (place_of p) c.args.self.now c.circuit_line.new.self)) (sym c.in-First.is) (IfErr-with c.circuit_line.result _ _ (λ e stops. stops lines.First refl) c.circuit_line.ensures.stops)

pub returns-in-Circuit-clause-stops : goal.returns-in-Circuit-clause-stops
returns-in-Circuit-clause-stops c =
    subst (λ p. IfErr c.circuit_line-in-Circuit.result (StopsStart (place_of p) c.args.self.now c.circuit_line-in-Circuit.new.self)) (sym c.in-Circuit.is) (IfErr-with c.circuit_line-in-Circuit.result _ _ (λ e stops. stops Circuit refl) c.circuit_line-in-Circuit.ensures.stops)

pub returns-in-Scripts-clause-stops : goal.returns-in-Scripts-clause-stops
returns-in-Scripts-clause-stops c =
    subst (λ p. IfErr c.script_line.result (StopsStart (place_of p) c.args.self.now c.script_line.new.self)) (sym c.in-Scripts.is) c.script_line.ensures.stops
