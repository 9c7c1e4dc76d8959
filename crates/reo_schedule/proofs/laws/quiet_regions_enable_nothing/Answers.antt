use Rattle.reo_schedule.proofs.QuietLaw.{quiet_is_not_enabled}
use Rattle.reo_schedule.proofs.laws.quiet_regions_enable_nothing.Goals as goal

pub returns : goal.returns
returns c = quiet_is_not_enabled
