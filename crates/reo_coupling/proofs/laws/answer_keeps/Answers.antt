use Rattle.reo_coupling.specs.Steps.{Answers}
use Rattle.reo_coupling.proofs.EachPart.{answer_keeps}
use Rattle.reo_coupling.proofs.Seating.{whole, keeps_the_rule}
use Rattle.reo_coupling.proofs.laws.answer_keeps.Goals as goal

pub returns : goal.returns
returns c = record { parts = answer_keeps; whole = whole Answers answer_keeps; seats = keeps_the_rule Answers answer_keeps }
