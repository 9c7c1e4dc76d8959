-- The text of a run.
use Rattle.std.specs.Prelude.{◌≡◌, ℕ, List}
use Rattle.reo_value.specs.declared.op.Op.{Op}
use Rattle.reo_net.specs.declared.circuit.RawCircuit.{RawCircuit}
use Rattle.reo_trace.specs.declared.report.Report.{Report}
use Rattle.reo_trace.specs.ReportText.{report_text}
use Rattle.reo_schedule.specs.Plain.{IsPlainReport}
use Rattle.reo_session.specs.declared.session.ReportText.{ReportText}

-- the text is that of a report of the plain schedule
pub record IsTextOfRun (c : RawCircuit) (nodes texts people : List (List ℕ)) (scripts : List (List Op)) (limit : ℕ) (text : ReportText) : Type 0 where
  pub report : Report
  pub plain : IsPlainReport c texts scripts limit report
  pub bytes : text.bytes.items ≡ report_text c nodes texts people report
  pub ending : text.ending ≡ report.ending
