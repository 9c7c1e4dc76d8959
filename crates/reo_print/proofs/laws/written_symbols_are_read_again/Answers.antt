use Rattle.reo_print.proofs.TokenLemmas.{symbol_cut}
use Rattle.reo_print.proofs.laws.written_symbols_are_read_again.Goals as goal

pub returns : goal.returns
returns c = symbol_cut
