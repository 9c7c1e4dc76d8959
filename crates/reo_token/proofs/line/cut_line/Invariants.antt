use Rattle.std.proofs.Common.{◌-◌, length}
use Rattle.reo_token.proofs.CutLemmas.{Cuts}
use Rattle.reo_token.proofs.line.cut_line.Given as goal

abbrev pub invariant-loop-rest : goal.invariant-loop-rest
invariant-loop-rest l = Cuts l.line l.rest l.tokens.items

abbrev pub decreases-loop-rest : goal.decreases-loop-rest
decreases-loop-rest l = 512 - length l.tokens.items
