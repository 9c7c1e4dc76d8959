use Rattle.std.proofs.Common.{refl, sym, ap, ◌∙◌}
use Rattle.reo_grammar.specs.Token.{word}
use Rattle.reo_grammar.specs.Machine.Lines.{WantA, channel_key, line_word}
use Rattle.reo_sentence.specs.LineReading.{channel_word}
use Rattle.reo_sentence.proofs.ReadingLemmas.{Goes-here}
use Rattle.reo_sentence.proofs.AtomLemmas.{IfOk-with, IfErr-with}
use Rattle.reo_sentence.proofs.StartLemmas.{begins_channel, starts, stops_start, stops_at_start, stuck_circuit, channel_taken}
use Rattle.reo_sentence.proofs.cursor.Cursor.channel_line.Goals as goal

pub returns-in_default-clause-stops : goal.returns-in_default-clause-stops
returns-in_default-clause-stops c =
    (λ p here. stops_at_start p c.args.self.now c.args.self.now _ refl (Goes-here c.args.self.now) (ap (line_word p) (sym c.requires.seen) ∙ stuck_circuit p c.args.key here c.requires.other (sym c.in_default.ensures)))

pub returns-clause-reads : goal.returns-clause-reads
returns-clause-reads c =
    IfOk-with c.channel.result _ _ (λ s finishes p here. starts p (WantA (channel_word c.in-Some.word)) (word (channel_key (channel_word c.in-Some.word))) c.args.self.now c.advance.new.self c.channel.new.self c.args.texts.now c.channel.new.texts s (channel_taken c.args.self.now c.advance.new.self c.args.key (channel_word c.in-Some.word) (sym c.in-Some.ensures) c.requires.seen c.advance.ensures) (begins_channel (channel_word c.in-Some.word) p here) finishes) c.channel.ensures.reads

pub returns-clause-stops : goal.returns-clause-stops
returns-clause-stops c =
    IfErr-with c.channel.result _ _ (λ e stops p here. stops_start p (WantA (channel_word c.in-Some.word)) (word (channel_key (channel_word c.in-Some.word))) c.args.self.now c.advance.new.self c.channel.new.self e (channel_taken c.args.self.now c.advance.new.self c.args.key (channel_word c.in-Some.word) (sym c.in-Some.ensures) c.requires.seen c.advance.ensures) (begins_channel (channel_word c.in-Some.word) p here) stops) c.channel.ensures.stops
