use Rattle.reo_print.proofs.LineWriteLemmas.{sentence_writes, read_again}
use Rattle.reo_print.proofs.laws.written_lines_are_read_again.Goals as goal

pub returns-clause-written : goal.returns-clause-written
returns-clause-written c = sentence_writes

pub returns-clause-again : goal.returns-clause-again
returns-clause-again c = read_again
