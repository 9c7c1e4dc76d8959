use Rattle.reo_grammar.specs.declared.key.Key.TheVariants as key
use Rattle.reo_grammar.specs.Token.{word}
use Rattle.reo_grammar.specs.Machine.Functions.{Start, AfterMap}
use Rattle.reo_sentence.specs.FunctionReading.{StopsFunction}
use Rattle.reo_sentence.proofs.ReadingLemmas.{key_taken}
use Rattle.reo_sentence.proofs.AtomLemmas.{IfOk-with, IfErr-with}
use Rattle.reo_sentence.proofs.FunctionLemmas.{reads_neg, reads_len, reads_map, map_step, stops_behind_token}
use Rattle.reo_sentence.proofs.cursor.Cursor.function.Goals as goal

pub returns-in-Neg-clause-reads : goal.returns-in-Neg-clause-reads
returns-in-Neg-clause-reads c =
    reads_neg c.args.self.now c.advance.new.self c.args.texts.now (key_taken c.args.self.now c.advance.new.self key.Neg c.in-Neg.ensures c.advance.ensures)

pub returns-in-Len-clause-reads : goal.returns-in-Len-clause-reads
returns-in-Len-clause-reads c =
    reads_len c.args.self.now c.advance-in-Len.new.self c.args.texts.now (key_taken c.args.self.now c.advance-in-Len.new.self key.Len c.in-Len.ensures c.advance-in-Len.ensures)

pub returns-in-Map-clause-reads : goal.returns-in-Map-clause-reads
returns-in-Map-clause-reads c =
    IfOk-with c.after_map.result _ _ (λ made. reads_map c.args.self.now c.advance-in-Map.new.self c.after_map.new.self c.args.texts.now c.after_map.new.texts made
    (key_taken c.args.self.now c.advance-in-Map.new.self key.Map c.in-Map.ensures c.advance-in-Map.ensures)) c.after_map.ensures.reads

pub returns-in-Map-clause-stops : goal.returns-in-Map-clause-stops
returns-in-Map-clause-stops c =
    IfErr-with c.after_map.result _ (StopsFunction Start c.args.self.now c.after_map.new.self) (λ e. stops_behind_token Start AfterMap c.args.self.now c.advance-in-Map.new.self c.after_map.new.self (word key.Map) e
    (key_taken c.args.self.now c.advance-in-Map.new.self key.Map c.in-Map.ensures c.advance-in-Map.ensures) map_step) c.after_map.ensures.stops
