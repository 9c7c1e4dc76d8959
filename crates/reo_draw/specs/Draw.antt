-- What a call of the program may write, and what it has read and written then.
use Rattle.std.specs.Prelude.{◌≡◌, ◌≢◌, ℕ, ◌+◌, ◌≤◌, List, length, Some}
use Rattle.reo_base.specs.Faults.{Rose}
use Rattle.reo_base.specs.Streams.{IsReadWhole, HasMoreThan, LosesFirst, LosesAtMost}
use Rattle.reo_net.specs.Checks.{IsChecked}
use Rattle.reo_net.specs.Refusals.{Refuses}
use Rattle.reo_net.specs.declared.net.CheckRefusal.{CheckRefusal}
use Rattle.reo_net.specs.declared.net.CheckRefusal.TheVariants as check
use Rattle.reo_cut.specs.declared.cut.Cut.{Cut}
use Rattle.reo_cut.specs.Cut.{IsCut}
use Rattle.reo_document.specs.declared.refusal.TextRefusal.{TextRefusal}
use Rattle.reo_document.specs.Document.{DocumentData, circuit_of}
use Rattle.reo_document.specs.Spells.{Spells, IsRefusedAs}
use Rattle.reo_picture.specs.Picture.{picture_text}
use Rattle.reo_tool.specs.declared.status.Status.{Status}
use Rattle.reo_tool.specs.declared.status.Status.TheVariants.{Done, Refused, ReadFault, Memory}
use Rattle.reo_tool.specs.FaultText.{read_failed_text, too_long_text, out_of_memory_text, text_text, check_text}
use Rattle.reo_tool.specs.Call.{most_bytes, SourceSeen, Target, ToOut, ToErr, Sinks, sink_at, TakesWhole}

-- the text is the picture of the document's circuit, which passes the checks and is cut into its regions
pub record IsPictureOf (document : DocumentData) (text : List ℕ) : Type 0 where
  pub checked : IsChecked (circuit_of document)
  pub cut : Cut
  pub is_cut : IsCut (circuit_of document) cut
  pub told : text ≡ picture_text (circuit_of document) document.nodes document.texts cut

-- the checks refuse the document's circuit, and this is the text for it
pub record IsNotDrawn (document : DocumentData) (text : List ℕ) : Type 0 where
  pub refused : CheckRefusal
  pub refuses : Refuses (circuit_of document) refused
  pub named : refused ≢ check.NoMemory
  pub told : text ≡ check_text document.nodes refused

-- what has to be written for a document; want of memory needs no cause
pub data ForDocument (document : DocumentData) : Target → List ℕ → Status → Type 0 where
  Picture : (text : List ℕ) → IsPictureOf document text → ForDocument document ToOut text Done
  Refusal : (text : List ℕ) → IsNotDrawn document text → ForDocument document ToErr text Refused
  Wanting : ForDocument document ToErr out_of_memory_text Memory

-- what has to be written for bytes
pub data ForBytes (bytes : List ℕ) : Target → List ℕ → Status → Type 0 where
  -- they spell a document
  Spelled : (document : DocumentData) (target : Target) (text : List ℕ) (status : Status) → Spells bytes document → ForDocument document target text status → ForBytes bytes target text status
  -- they are no document, for this reason
  NoDocument : (refused : TextRefusal) → IsRefusedAs bytes refused → ForBytes bytes ToErr (text_text refused) Refused
  BytesWanting : ForBytes bytes ToErr out_of_memory_text Memory

-- What has to be written, by what became of the source.
pub data ForDrawing (before after : SourceSeen) : Target → List ℕ → Status → Type 0 where
  -- it was read to its end
  Read : (bytes : List ℕ) (target : Target) (text : List ℕ) (status : Status) → IsReadWhole before.left after.left bytes → length bytes ≤ most_bytes → after.faults ≡ before.faults
      → ForBytes bytes target text status → ForDrawing before after target text status
  -- a read failed
  ReadFailed : Rose before.faults after.faults → LosesAtMost before.left after.left most_bytes → ForDrawing before after ToErr read_failed_text ReadFault
  -- byte 1,048,577 was taken
  TooLong : HasMoreThan before.left most_bytes → LosesFirst before.left after.left (most_bytes + 1) → ForDrawing before after ToErr too_long_text ReadFault
  -- memory was wanting while it was read
  ReadWanting : after.faults ≡ before.faults → LosesAtMost before.left after.left most_bytes → ForDrawing before after ToErr out_of_memory_text Memory

-- the input spells a document whose circuit passes the checks, no stream fails, and memory suffices
pub record IsPromised (source_before source_after : SourceSeen) (before after : Sinks) (document : DocumentData) (status : Status) : Type 0 where
  pub input : List ℕ
  pub told : source_before.left ≡ Some input
  pub short : length input ≤ most_bytes
  pub spelled : Spells input document
  pub checked : IsChecked (circuit_of document)
  pub source_held : Rose source_before.faults source_after.faults → ⊥
  pub sinks_held : (target : Target) → Rose (sink_at target before).faults (sink_at target after).faults → ⊥
  pub memory : status ≢ Memory

-- the picture was written whole, nothing to the other sink, and the status is 0
pub record IsDrawn (document : DocumentData) (before after : Sinks) (status : Status) : Type 0 where
  pub text : List ℕ
  pub picture : IsPictureOf document text
  pub done : status ≡ Done
  pub written : TakesWhole before.out after.out text
  pub quiet : after.err ≡ before.err

-- what is promised is done
abbrev pub KeepsItsPromise : SourceSeen → SourceSeen → Sinks → Sinks → Status → Type 0
KeepsItsPromise source_before source_after before after status =
    (document : DocumentData) → IsPromised source_before source_after before after document status → IsDrawn document before after status
