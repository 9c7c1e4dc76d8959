use Rattle.reo_print.proofs.FunctionWriteLemmas.{function_writes}
use Rattle.reo_print.proofs.laws.written_functions_are_their_tokens.Goals as goal

pub returns : goal.returns
returns c = function_writes
