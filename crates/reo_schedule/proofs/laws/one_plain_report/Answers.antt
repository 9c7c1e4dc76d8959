use Rattle.reo_schedule.proofs.PlainLaw.{one_plain_report}
use Rattle.reo_schedule.proofs.laws.one_plain_report.Goals as goal

pub returns : goal.returns
returns c = one_plain_report
