use Rattle.reo_print.proofs.NumberLemmas.{number_cut, number_meant}
use Rattle.reo_print.proofs.laws.written_numbers_are_read_again.Goals as goal

pub returns-clause-cut : goal.returns-clause-cut
returns-clause-cut c = λ texts number rest small ends. number_cut number rest small ends

pub returns-clause-meant : goal.returns-clause-meant
returns-clause-meant c = λ texts number rest small. number_meant number rest small
