use Rattle.reo_print.proofs.NameLemmas.{name_cut, name_meant}
use Rattle.reo_print.proofs.laws.written_names_are_read_again.Goals as goal

pub returns-clause-cut : goal.returns-clause-cut
returns-clause-cut c = name_cut

pub returns-clause-meant : goal.returns-clause-meant
returns-clause-meant c = name_meant
