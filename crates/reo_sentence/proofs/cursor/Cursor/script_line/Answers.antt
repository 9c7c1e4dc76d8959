use Rattle.std.proofs.Common.{refl, ◌∙◌}
use Rattle.reo_grammar.specs.declared.key.Key.TheVariants as key
use Rattle.reo_grammar.specs.Token.{word}
use Rattle.reo_grammar.specs.Lines.{Scripts}
use Rattle.reo_grammar.specs.Machine.Lines.{WantName, WantPutNode, WantGetNode}
use Rattle.reo_sentence.specs.Reading.{left, next_key}
use Rattle.reo_sentence.proofs.ReadingLemmas.{key_taken, Goes-here}
use Rattle.reo_sentence.proofs.AtomLemmas.{IfOk-with, IfErr-with}
use Rattle.reo_sentence.proofs.StartLemmas.{begins_component, begins_put, begins_get, starts, stops_start, stops_at_start, stuck_script}
use Rattle.reo_sentence.proofs.cursor.Cursor.script_line.Goals as goal

pub returns-in-Put-clause-reads : goal.returns-in-Put-clause-reads
returns-in-Put-clause-reads c =
    IfOk-with c.put.result _ _ (λ s finishes. starts Scripts WantPutNode (word key.Put) c.args.self.now c.advance.new.self c.put.new.self c.args.texts.now c.put.new.texts s (key_taken c.args.self.now c.advance.new.self key.Put c.in-Put.ensures c.advance.ensures) (begins_put) finishes) c.put.ensures.reads

pub returns-in-Put-clause-stops : goal.returns-in-Put-clause-stops
returns-in-Put-clause-stops c =
    IfErr-with c.put.result _ _ (λ e stops. stops_start Scripts WantPutNode (word key.Put) c.args.self.now c.advance.new.self c.put.new.self e (key_taken c.args.self.now c.advance.new.self key.Put c.in-Put.ensures c.advance.ensures) (begins_put) stops) c.put.ensures.stops

pub returns-in-Get-clause-reads : goal.returns-in-Get-clause-reads
returns-in-Get-clause-reads c =
    IfOk-with c.get.result _ _ (λ s finishes. starts Scripts WantGetNode (word key.Get) c.args.self.now c.advance-in-Get.new.self c.get.new.self c.args.texts.now c.args.texts.now s (key_taken c.args.self.now c.advance-in-Get.new.self key.Get c.in-Get.ensures c.advance-in-Get.ensures) (begins_get) finishes) (c.get.ensures.reads c.args.texts.now)

pub returns-in-Get-clause-stops : goal.returns-in-Get-clause-stops
returns-in-Get-clause-stops c =
    IfErr-with c.get.result _ _ (λ e stops. stops_start Scripts WantGetNode (word key.Get) c.args.self.now c.advance-in-Get.new.self c.get.new.self e (key_taken c.args.self.now c.advance-in-Get.new.self key.Get c.in-Get.ensures c.advance-in-Get.ensures) (begins_get) stops) c.get.ensures.stops

pub returns-in-Component-clause-reads : goal.returns-in-Component-clause-reads
returns-in-Component-clause-reads c =
    IfOk-with c.component.result _ _ (λ s finishes. starts Scripts WantName (word key.Component) c.args.self.now c.advance-in-Component.new.self c.component.new.self c.args.texts.now c.args.texts.now s (key_taken c.args.self.now c.advance-in-Component.new.self key.Component c.in-Component.ensures c.advance-in-Component.ensures) (begins_component Scripts) finishes) (c.component.ensures.reads c.args.texts.now)

pub returns-in-Component-clause-stops : goal.returns-in-Component-clause-stops
returns-in-Component-clause-stops c =
    IfErr-with c.component.result _ _ (λ e stops. stops_start Scripts WantName (word key.Component) c.args.self.now c.advance-in-Component.new.self c.component.new.self e (key_taken c.args.self.now c.advance-in-Component.new.self key.Component c.in-Component.ensures c.advance-in-Component.ensures) (begins_component Scripts) stops) c.component.ensures.stops

pub returns-in_default-clause-stops : goal.returns-in_default-clause-stops
returns-in_default-clause-stops c =
    stops_at_start Scripts c.args.self.now c.args.self.now _ refl (Goes-here c.args.self.now)
    (stuck_script (next_key (left c.args.self.now)) (λ is. c.in_default.not-Put (c.key.ensures ∙ is)) (λ is. c.in_default.not-Get (c.key.ensures ∙ is)) (λ is. c.in_default.not-Component (c.key.ensures ∙ is)))
