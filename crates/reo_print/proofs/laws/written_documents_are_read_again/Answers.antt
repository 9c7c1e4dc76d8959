use Rattle.reo_print.proofs.SpelledAgainLemmas.{spelled_again, no_other, settled, not_refused, told_apart}
use Rattle.reo_print.proofs.laws.written_documents_are_read_again.Goals as goal

pub returns-clause-again : goal.returns-clause-again
returns-clause-again c = spelled_again

pub returns-clause-alone : goal.returns-clause-alone
returns-clause-alone c = no_other

pub returns-clause-settled : goal.returns-clause-settled
returns-clause-settled c = settled

pub returns-clause-taken : goal.returns-clause-taken
returns-clause-taken c = not_refused

pub returns-clause-apart : goal.returns-clause-apart
returns-clause-apart c = told_apart
