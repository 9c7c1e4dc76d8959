use Rattle.reo_value.specs.declared.op.Way.TheVariants as way
use Rattle.reo_grammar.specs.declared.key.Key.TheVariants as key
use Rattle.reo_grammar.specs.Token.{word}
use Rattle.reo_grammar.specs.Machine.Lines.{WantNode, WantName}
use Rattle.reo_sentence.proofs.ReadingLemmas.{key_taken}
use Rattle.reo_sentence.proofs.AtomLemmas.{IfOk-with, IfErr-with}
use Rattle.reo_sentence.proofs.StartLemmas.{begins_port, begins_component, starts, stops_start}
use Rattle.reo_sentence.proofs.cursor.Cursor.circuit_line.Goals as goal

pub returns-in-In-clause-reads : goal.returns-in-In-clause-reads
returns-in-In-clause-reads c =
    IfOk-with c.port.result _ _ (λ s finishes p here. starts p (WantNode way.Put) (word key.In) c.args.self.now c.advance.new.self c.port.new.self c.args.texts.now c.args.texts.now s (key_taken c.args.self.now c.advance.new.self key.In c.in-In.ensures c.advance.ensures) (begins_port way.Put p here) finishes) (c.port.ensures.reads c.args.texts.now)

pub returns-in-In-clause-stops : goal.returns-in-In-clause-stops
returns-in-In-clause-stops c =
    IfErr-with c.port.result _ _ (λ e stops p here. stops_start p (WantNode way.Put) (word key.In) c.args.self.now c.advance.new.self c.port.new.self e (key_taken c.args.self.now c.advance.new.self key.In c.in-In.ensures c.advance.ensures) (begins_port way.Put p here) stops) c.port.ensures.stops

pub returns-in-Out-clause-reads : goal.returns-in-Out-clause-reads
returns-in-Out-clause-reads c =
    IfOk-with c.port-in-Out.result _ _ (λ s finishes p here. starts p (WantNode way.Get) (word key.Out) c.args.self.now c.advance-in-Out.new.self c.port-in-Out.new.self c.args.texts.now c.args.texts.now s (key_taken c.args.self.now c.advance-in-Out.new.self key.Out c.in-Out.ensures c.advance-in-Out.ensures) (begins_port way.Get p here) finishes) (c.port-in-Out.ensures.reads c.args.texts.now)

pub returns-in-Out-clause-stops : goal.returns-in-Out-clause-stops
returns-in-Out-clause-stops c =
    IfErr-with c.port-in-Out.result _ _ (λ e stops p here. stops_start p (WantNode way.Get) (word key.Out) c.args.self.now c.advance-in-Out.new.self c.port-in-Out.new.self e (key_taken c.args.self.now c.advance-in-Out.new.self key.Out c.in-Out.ensures c.advance-in-Out.ensures) (begins_port way.Get p here) stops) c.port-in-Out.ensures.stops

pub returns-in-Component-clause-reads : goal.returns-in-Component-clause-reads
returns-in-Component-clause-reads c =
    IfOk-with c.component.result _ _ (λ s finishes p here. starts p WantName (word key.Component) c.args.self.now c.advance-in-Component.new.self c.component.new.self c.args.texts.now c.args.texts.now s (key_taken c.args.self.now c.advance-in-Component.new.self key.Component c.in-Component.ensures c.advance-in-Component.ensures) (begins_component p) finishes) (c.component.ensures.reads c.args.texts.now)

pub returns-in-Component-clause-stops : goal.returns-in-Component-clause-stops
returns-in-Component-clause-stops c =
    IfErr-with c.component.result _ _ (λ e stops p here. stops_start p WantName (word key.Component) c.args.self.now c.advance-in-Component.new.self c.component.new.self e (key_taken c.args.self.now c.advance-in-Component.new.self key.Component c.in-Component.ensures c.advance-in-Component.ensures) (begins_component p) stops) c.component.ensures.stops
