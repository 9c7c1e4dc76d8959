use Rattle.reo_print.proofs.TextLemmas.{cut_again, meant_again}
use Rattle.reo_print.proofs.laws.written_texts_are_read_again.Goals as goal

pub returns-clause-cut : goal.returns-clause-cut
returns-clause-cut c = cut_again

pub returns-clause-meant : goal.returns-clause-meant
returns-clause-meant c = meant_again
