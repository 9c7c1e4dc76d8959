-- What a call of the program may answer, and what it has read and written then.
use Rattle.std.specs.Prelude.{◌≡◌, ◌≢◌, ℕ, ◌+◌, ◌<◌, ◌≤◌, ◌⊎◌, List, length, map, take, Some, None}
use Rattle.std.specs.declared.option.Option.{Option}
use Rattle.std.specs.Borrow.{Bor}
use Rattle.reo_base.specs.declared.source.Source.{Ghosts as SourceOf}
use Rattle.reo_base.specs.declared.sink.Sink.{Ghosts as SinkOf}
use Rattle.reo_base.specs.Faults.{Rose}
use Rattle.reo_base.specs.Streams.{IsReadWhole, HasMoreThan, LosesFirst, LosesAtMost, IsExtended}
use Rattle.reo_net.specs.Checks.{IsChecked}
use Rattle.reo_net.specs.Regions.{Automaton, IsRegion}
use Rattle.reo_cut.specs.declared.cut.Cut.{Cut}
use Rattle.reo_cut.specs.Cut.{IsCut}
use Rattle.reo_product.specs.declared.table.RegionTable.{RegionTable}
use Rattle.reo_net.specs.Refusals.{Refuses}
use Rattle.reo_net.specs.declared.net.CheckRefusal.{CheckRefusal}
use Rattle.reo_net.specs.declared.net.CheckRefusal.TheVariants as check
use Rattle.reo_document.specs.declared.refusal.TextRefusal.{TextRefusal}
use Rattle.reo_document.specs.Document.{DocumentData, circuit_of}
use Rattle.reo_document.specs.Spells.{Spells, IsRefusedAs}
use Rattle.reo_trace.specs.declared.report.Report.{Report}
use Rattle.reo_trace.specs.ReportText.{report_text}
use Rattle.reo_outline.specs.Outline.{outline_text}
use Rattle.reo_schedule.specs.Plain.{IsPlainReport}
use Rattle.reo_session.specs.Prepared.{HasTable, AreRegionTables, IsLeastTooLarge}
use Rattle.reo_print.specs.Canonical.{canonical_text}
use Rattle.reo_tool.specs.declared.command.Command.{Command}
use Rattle.reo_tool.specs.declared.command.Command.TheVariants.{Run, Show, Plan}
use Rattle.reo_tool.specs.declared.status.Status.{Status}
use Rattle.reo_tool.specs.declared.status.Status.TheVariants.{Done, Refused, Usage, ReadFault, WriteFault, Memory}
use Rattle.reo_tool.specs.Status.{status_of}
use Rattle.reo_tool.specs.Words.{command_of}
use Rattle.reo_tool.specs.FaultText.{usage_text, read_failed_text, too_long_text, out_of_memory_text, text_text, region_text, check_text}

-- what the words ask for
abbrev pub asked : List (Bor (List ℕ)) → Option Command
asked words = command_of (map (λ word. word.now) words)

-- the most bytes of a document
abbrev pub most_bytes : ℕ
most_bytes = 1048576

-- What a source tells: what it has left, where it tells that, and its count of faults.
pub record SourceSeen : Type 0 where
  pub left : Option (List ℕ)
  pub faults : ℕ

abbrev pub source_seen : {S : Type 0} → SourceOf S → S → SourceSeen
source_seen s source = record { left = s.left source; faults = s.faults source }

-- What a sink tells: what it holds, where it tells that, and its count of faults.
pub record SinkSeen : Type 0 where
  pub held : Option (List ℕ)
  pub faults : ℕ

abbrev pub sink_seen : {K : Type 0} → SinkOf K → K → SinkSeen
sink_seen k sink = record { held = k.written sink; faults = k.faults sink }

-- the two sinks of a call
pub data Target : Type 0 where
  ToOut : Target
  ToErr : Target

pub record Sinks : Type 0 where
  pub out : SinkSeen
  pub err : SinkSeen

abbrev pub sink_at : Target → Sinks → SinkSeen
sink_at ToOut sinks = sinks.out
sink_at ToErr sinks = sinks.err

abbrev pub other_sink : Target → Sinks → SinkSeen
other_sink ToOut sinks = sinks.err
other_sink ToErr sinks = sinks.out

-- what the two sinks tell at one moment
abbrev pub sinks_seen : {K E : Type 0} → SinkOf K → SinkOf E → K → E → Sinks
sinks_seen k e out err = record { out = sink_seen k out; err = sink_seen e err }

-- a sink took the whole text
abbrev pub TakesWhole : SinkSeen → SinkSeen → List ℕ → Type 0
TakesWhole before after text = IsExtended before.held after.held text

-- its count of faults rose, and it took a front of the text alone
pub record Breaks (before after : SinkSeen) (text : List ℕ) : Type 0 where
  pub rose : Rose before.faults after.faults
  pub count : ℕ
  pub short : count < length text
  pub front : TakesWhole before after (take count text)

-- a text that was to be written: it was written whole, and its own status is told, or its write failed
abbrev pub IsWritten : SinkSeen → SinkSeen → List ℕ → Status → Status → Type 0
IsWritten before after text own status = ((status ≡ own) × TakesWhole before after text) ⊎ ((status ≡ WriteFault) × Breaks before after text)

-- What a call has to write: which text, to which sink, and the status that goes with it. That was written, and the other sink is as it was.
pub record Writes (HasToWrite : Target → List ℕ → Status → Type 0) (before after : Sinks) (status : Status) : Type 0 where
  pub target : Target
  pub text : List ℕ
  pub own : Status
  pub cause : HasToWrite target text own
  pub written : IsWritten (sink_at target before) (sink_at target after) text own status
  pub quiet : other_sink target after ≡ other_sink target before

-- a document's circuit passes the checks, and none of its regions is too large
pub record IsAccepted (document : DocumentData) : Type 0 where
  pub checked : IsChecked (circuit_of document)
  pub tabled : (root : Automaton) → IsRegion (circuit_of document) root → HasTable (circuit_of document) root

-- the text is that of the plain report of the document and the limit, and the status is its ending
pub record IsReportOf (limit : ℕ) (document : DocumentData) (text : List ℕ) (status : Status) : Type 0 where
  pub accepted : IsAccepted document
  pub report : Report
  pub plain : IsPlainReport (circuit_of document) document.texts document.scripts limit report
  pub told : text ≡ report_text (circuit_of document) document.nodes document.texts document.people report
  pub ending : status ≡ status_of report.ending

-- the text tells the regions of the document's circuit with their tables, its buffers and its ports
pub record IsOutlineOf (document : DocumentData) (text : List ℕ) : Type 0 where
  pub accepted : IsAccepted document
  pub cut : Cut
  pub is_cut : IsCut (circuit_of document) cut
  pub tables : List RegionTable
  pub are_tables : AreRegionTables (circuit_of document) cut tables
  pub told : text ≡ outline_text (circuit_of document) document.nodes cut tables

-- why a document can not be run, and the text for it
pub data IsNotRun (document : DocumentData) (text : List ℕ) : Type 0 where
  -- the checks refuse its circuit
  ForCircuit : (refused : CheckRefusal) → Refuses (circuit_of document) refused → refused ≢ check.NoMemory → text ≡ check_text document.nodes refused → IsNotRun document text
  -- they accept it, but it has a region that is too large; the least is told, by its number from 1
  ForRegion : (region count : ℕ) → IsChecked (circuit_of document) → IsLeastTooLarge (circuit_of document) region count → text ≡ region_text (region + 1) count → IsNotRun document text

-- the text is the canonical one, which spells the document again
pub record IsTextOf (document : DocumentData) (text : List ℕ) : Type 0 where
  pub canonical : text ≡ canonical_text document
  pub again : Spells text document

-- what a command answers for a document
abbrev pub Answers : Command → DocumentData → List ℕ → Status → Type 0
Answers (Run limit) document text status = IsReportOf limit document text status
Answers Show document text status = IsTextOf document text × (status ≡ Done)
Answers Plan document text status = IsOutlineOf document text × (status ≡ Done)

-- for which documents it answers
abbrev pub CanAnswer : Command → DocumentData → Type 0
CanAnswer (Run limit) document = IsAccepted document
CanAnswer Show document = Unit {0}
CanAnswer Plan document = IsAccepted document

-- why it does not for others, and the text for it
abbrev pub CannotAnswer : Command → DocumentData → List ℕ → Type 0
CannotAnswer (Run limit) document text = IsNotRun document text
CannotAnswer Show document text = ⊥
CannotAnswer Plan document text = IsNotRun document text

-- what a command has to write for a document; want of memory needs no cause
pub data ForDocument (command : Command) (document : DocumentData) : Target → List ℕ → Status → Type 0 where
  Answer : (text : List ℕ) (status : Status) → Answers command document text status → ForDocument command document ToOut text status
  Refusal : (text : List ℕ) → CannotAnswer command document text → ForDocument command document ToErr text Refused
  Wanting : ForDocument command document ToErr out_of_memory_text Memory

-- what it has to write for bytes
pub data ForBytes (command : Command) (bytes : List ℕ) : Target → List ℕ → Status → Type 0 where
  -- they spell a document
  Spelled : (document : DocumentData) (target : Target) (text : List ℕ) (status : Status) → Spells bytes document → ForDocument command document target text status → ForBytes command bytes target text status
  -- they are no document, for this reason
  NoDocument : (refused : TextRefusal) → IsRefusedAs bytes refused → ForBytes command bytes ToErr (text_text refused) Refused
  BytesWanting : ForBytes command bytes ToErr out_of_memory_text Memory

-- What a call has to write, by its words and what became of its source.
pub data ForCall (words : List (Bor (List ℕ))) (before after : SourceSeen) : Target → List ℕ → Status → Type 0 where
  -- a command was asked for, and the source was read to its end
  Read : (command : Command) (bytes : List ℕ) (target : Target) (text : List ℕ) (status : Status) → asked words ≡ Some command → IsReadWhole before.left after.left bytes
      → length bytes ≤ most_bytes → after.faults ≡ before.faults → ForBytes command bytes target text status → ForCall words before after target text status
  -- none was, and nothing was read
  NoCommand : asked words ≡ None → after ≡ before → ForCall words before after ToErr usage_text Usage
  -- a read failed, and no more bytes were taken than a document has
  ReadFailed : (command : Command) → asked words ≡ Some command → Rose before.faults after.faults → LosesAtMost before.left after.left most_bytes → ForCall words before after ToErr read_failed_text ReadFault
  -- byte 1,048,577 was taken
  TooLong : (command : Command) → asked words ≡ Some command → HasMoreThan before.left most_bytes → LosesFirst before.left after.left (most_bytes + 1) → ForCall words before after ToErr too_long_text ReadFault
  -- memory was wanting while the source was read: no read failed, and no more bytes were taken than a document has
  ReadWanting : (command : Command) → asked words ≡ Some command → after.faults ≡ before.faults → LosesAtMost before.left after.left most_bytes → ForCall words before after ToErr out_of_memory_text Memory

-- the words ask for a command, the input spells a document for which it answers, no stream fails, and memory suffices
pub record IsPromised (words : List (Bor (List ℕ))) (source_before source_after : SourceSeen) (before after : Sinks) (command : Command) (document : DocumentData) (status : Status) : Type 0 where
  pub asked_for : asked words ≡ Some command
  pub input : List ℕ
  pub told : source_before.left ≡ Some input
  pub short : length input ≤ most_bytes
  pub spelled : Spells input document
  pub can : CanAnswer command document
  pub source_held : Rose source_before.faults source_after.faults → ⊥
  pub sinks_held : (target : Target) → Rose (sink_at target before).faults (sink_at target after).faults → ⊥
  pub memory : status ≢ Memory

-- the command's answer for the document was written whole, nothing to the other sink, and its status was told
pub record IsAnswered (command : Command) (document : DocumentData) (before after : Sinks) (status : Status) : Type 0 where
  pub text : List ℕ
  pub answer : Answers command document text status
  pub written : TakesWhole before.out after.out text
  pub quiet : after.err ≡ before.err

-- what is promised is done
abbrev pub KeepsItsPromise : List (Bor (List ℕ)) → SourceSeen → SourceSeen → Sinks → Sinks → Status → Type 0
KeepsItsPromise words source_before source_after before after status =
    (command : Command) (document : DocumentData) → IsPromised words source_before source_after before after command document status → IsAnswered command document before after status

-- bytes that are refused: they are no document, or one for which the command does not answer
abbrev pub AreRefused : Command → List ℕ → Type 0
AreRefused command input = ((refused : TextRefusal) × IsRefusedAs input refused) ⊎ ((document : DocumentData) × Spells input document × (CanAnswer command document → ⊥))

-- the input is refused, and no read fails
pub record IsRefusable (words : List (Bor (List ℕ))) (before after : SourceSeen) : Type 0 where
  pub command : Command
  pub asked_for : asked words ≡ Some command
  pub input : List ℕ
  pub told : before.left ≡ Some input
  pub short : length input ≤ most_bytes
  pub refused : AreRefused command input
  pub source_held : Rose before.faults after.faults → ⊥

-- the input is longer than a document may be
pub record IsOverlong (words : List (Bor (List ℕ))) (before : SourceSeen) : Type 0 where
  pub command : Command
  pub asked_for : asked words ≡ Some command
  pub input : List ℕ
  pub told : before.left ≡ Some input
  pub long : most_bytes + 1 ≤ length input

-- this status, or one that stands above it: a write failed, or memory was wanting
abbrev pub IsOrAbove : Status → Status → Type 0
IsOrAbove status result = (result ≡ status) ⊎ ((result ≡ WriteFault) ⊎ (result ≡ Memory))

-- a text for standard error was told, or want of memory in its place
abbrev pub IsTold : SinkSeen → SinkSeen → List ℕ → Status → Status → Type 0
IsTold before after text own status = IsWritten before after text own status ⊎ IsWritten before after out_of_memory_text Memory status
