use Rattle.reo_tool.proofs.WordLemmas.{of_three, of_many}
use Rattle.reo_tool.proofs.command.command_of.Goals as goal

pub returns-in_default-2 : goal.returns-in_default-2
returns-in_default-2 c = record { command = of_three c.args.words.now c.in_default.len_at_least c.in_default.len_below; room = tt }

pub returns-in_default-3 : goal.returns-in_default-3
returns-in_default-3 c = record { command = of_many c.args.words.now c.in_default.len_at_least; room = tt }
