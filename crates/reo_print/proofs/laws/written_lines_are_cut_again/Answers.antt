use Rattle.reo_print.proofs.LineCutLemmas.{line_cut}
use Rattle.reo_print.proofs.laws.written_lines_are_cut_again.Goals as goal

pub returns : goal.returns
returns c = line_cut
