use Rattle.reo_schedule.proofs.QuietLaw.{enabled_steps_split}
use Rattle.reo_schedule.proofs.laws.enabled_steps_split.Goals as goal

pub returns : goal.returns
returns c = enabled_steps_split
