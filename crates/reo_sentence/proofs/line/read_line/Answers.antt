use Rattle.std.proofs.Common.{refl}
use Rattle.reo_sentence.specs.LineReading.{place_of}
use Rattle.std.proofs.lemmas.Grind.{merely}
use Rattle.reo_sentence.proofs.QuoteLemmas.{quoted_tokens}
use Rattle.reo_sentence.proofs.NameLemmas.{names_in}
use Rattle.reo_sentence.proofs.VerdictLemmas.{wide_line, long_line, says_line, stopped_line}
use Rattle.reo_sentence.proofs.line.read_line.Goals as goal

pub invariant_of-cursor : goal.invariant_of-cursor
invariant_of-cursor c = record { within = c.requires.within; quoted = quoted_tokens c.args.line.now c.args.tokens.now c.requires.cut; utf8 = merely c.requires.utf8 }

pub returns-then-cursor-clause-refused : goal.returns-then-cursor-clause-refused
returns-then-cursor-clause-refused c = wide_line (place_of c.args.place) _ _ _ _ _ c.in-Ok.ensures.reads refl c.if-cursor.true

pub returns-then-cursor-2-clause-refused : goal.returns-then-cursor-2-clause-refused
returns-then-cursor-2-clause-refused c = long_line (place_of c.args.place) _ _ _ _ _ c.in-Ok.ensures.reads refl c.if-cursor.false refl c.if-cursor-2.true

pub returns-else-cursor-2-clause-says : goal.returns-else-cursor-2-clause-says
returns-else-cursor-2-clause-says c = says_line (place_of c.args.place) _ _ _ _ _ c.in-Ok.ensures.reads refl c.if-cursor.false refl c.if-cursor-2.false

pub returns-in-Err-Syntax-clause-refused : goal.returns-in-Err-Syntax-clause-refused
returns-in-Err-Syntax-clause-refused c = stopped_line (place_of c.args.place) _ _ c.column.result c.in-Err-Syntax.field-0 c.in-Err-Syntax.ensures.stops c.in-Err-Syntax.field-0-is c.column.ensures

pub returns-else-cursor-2-clause-names : goal.returns-else-cursor-2-clause-names
returns-else-cursor-2-clause-names c =
    names_in (place_of c.args.place) c.args.line.now c.args.tokens.now _ _ _ (says_line (place_of c.args.place) _ _ _ _ _ c.in-Ok.ensures.reads refl c.if-cursor.false refl c.if-cursor-2.false)
    c.requires.cut c.in-Ok.ensures.reads.names
