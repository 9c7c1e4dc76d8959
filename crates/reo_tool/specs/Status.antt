-- The statuses of the program, by their codes and by how a run ended.
use Rattle.std.specs.Prelude.{ℕ}
use Rattle.reo_trace.specs.declared.report.Ending.{Ending}
use Rattle.reo_trace.specs.declared.report.Ending.TheVariants as ending
use Rattle.reo_tool.specs.declared.status.Status.{Status}
use Rattle.reo_tool.specs.declared.status.Status.TheVariants.{Done, Stuck, Limit, Refused, Usage, ReadFault, WriteFault, Memory}

abbrev pub code_of : Status → ℕ
code_of Done = 0
code_of Stuck = 1
code_of Limit = 2
code_of Refused = 3
code_of Usage = 4
code_of ReadFault = 5
code_of WriteFault = 6
code_of Memory = 7

abbrev pub status_of : Ending → Status
status_of ending.Done = Done
status_of ending.Stuck = Stuck
status_of ending.Limit = Limit
