use Rattle.reo_picture.proofs.LineLemmas.{lines_hold}
use Rattle.reo_picture.proofs.laws.each_stands_in_one_line.Goals as goal

pub returns : goal.returns
returns c = lines_hold
