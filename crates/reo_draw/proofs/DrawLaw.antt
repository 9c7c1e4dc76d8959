-- What has to be written, and what is promised.
use Rattle.std.proofs.Common.{◌≡◌, ℕ, List, refl, ⊎_elim, subst, arith}
use Rattle.reo_net.specs.declared.net.CheckRefusal.{CheckRefusal}
use Rattle.reo_net.specs.declared.net.CheckRefusal.TheVariants as check
use Rattle.reo_net.specs.Refusals.{Refuses}
use Rattle.reo_document.specs.declared.refusal.TextRefusal.{TextRefusal}
use Rattle.reo_document.specs.declared.refusal.TextRefusal.TheVariants as text
use Rattle.reo_document.specs.Document.{DocumentData, circuit_of}
use Rattle.reo_document.specs.Reading.{IsRefusalOf}
use Rattle.reo_document.proofs.SpellLemmas.{one_document, refused_alone}
use Rattle.reo_tool.specs.declared.status.Status.{Status}
use Rattle.reo_tool.specs.declared.status.Status.TheVariants.{Refused, Memory}
use Rattle.reo_tool.specs.FaultText.{out_of_memory_text, text_text, check_text}
use Rattle.reo_tool.specs.Call.{SourceSeen, Target, ToOut, ToErr, Sinks, sink_at, other_sink, IsWritten, IsTold, Writes}
use Rattle.reo_tool.proofs.RefusalLaw.{not_accepted}
use Rattle.reo_tool.proofs.CallLaw.{writes_err, writes_told}
use Rattle.reo_draw.specs.Draw.{ForDocument, Picture, Refusal, Wanting, ForBytes, Spelled, NoDocument, BytesWanting, ForDrawing, Read, ReadFailed, TooLong, ReadWanting, IsPromised, IsDrawn}

-- a refusal of bytes is told, where it is no want of memory
pub bytes_told : (bytes : List ℕ) (refused : TextRefusal) (before after : Sinks) (status : Status) → IsRefusalOf bytes refused
    → IsTold before.err after.err (text_text refused) Refused status → (refused ≡ text.NoMemory → IsWritten before.err after.err out_of_memory_text Memory status)
    → after.out ≡ before.out → Writes (ForBytes bytes) before after status
bytes_told bytes text.NoMemory before after status why told wanting quiet = writes_err (ForBytes bytes) before after out_of_memory_text Memory status BytesWanting (wanting refl) quiet
bytes_told bytes refused before after status why told wanting quiet =
    writes_told (ForBytes bytes) before after (text_text refused) Refused status (NoDocument refused why) BytesWanting told quiet

-- and so is a refusal of the checks
pub check_told : (document : DocumentData) (refused : CheckRefusal) (before after : Sinks) (status : Status) → Refuses (circuit_of document) refused
    → IsTold before.err after.err (check_text document.nodes refused) Refused status → (refused ≡ check.NoMemory → IsWritten before.err after.err out_of_memory_text Memory status)
    → after.out ≡ before.out → Writes (ForDocument document) before after status
check_told document check.NoMemory before after status why told wanting quiet = writes_err (ForDocument document) before after out_of_memory_text Memory status Wanting (wanting refl) quiet
check_told document refused before after status why told wanting quiet =
    writes_told (ForDocument document) before after (check_text document.nodes refused) Refused status
    (Refusal (check_text document.nodes refused) (record { refused = refused; refuses = why; named = λ is. cc; told = refl })) Wanting told quiet

module _ (source_before source_after : SourceSeen) (before after : Sinks) (document : DocumentData) (status : Status) (p : IsPromised source_before source_after before after document status) where
  by_document : (target : Target) (told : List ℕ) (own : Status) → ForDocument document target told own → IsWritten (sink_at target before) (sink_at target after) told own status
      → other_sink target after ≡ other_sink target before → IsDrawn document before after status
  by_document _ _ _ (Picture told picture) written quiet =
      ⊎_elim (λ w. record { text = told; picture = picture; done = w.0; written = w.1; quiet = quiet }) (λ w. absurd (p.sinks_held ToOut w.1.rose)) written
  by_document _ _ _ (Refusal told why) written quiet = absurd (not_accepted (circuit_of document) why.refused why.refuses why.named p.checked)
  by_document _ _ _ Wanting written quiet = ⊎_elim (λ w. absurd (p.memory w.0)) (λ w. absurd (p.sinks_held ToErr w.1.rose)) written

  by_bytes : (target : Target) (told : List ℕ) (own : Status) → ForBytes p.input target told own → IsWritten (sink_at target before) (sink_at target after) told own status
      → other_sink target after ≡ other_sink target before → IsDrawn document before after status
  by_bytes _ _ _ (Spelled other target told own spells has) written quiet =
      by_document target told own (subst (λ (d : DocumentData). ForDocument d target told own) (one_document p.input other document spells p.spelled) has) written quiet
  by_bytes _ _ _ (NoDocument refused is) written quiet = absurd (refused_alone p.input document refused p.spelled is)
  by_bytes _ _ _ BytesWanting written quiet = ⊎_elim (λ w. absurd (p.memory w.0)) (λ w. absurd (p.sinks_held ToErr w.1.rose)) written

  by_drawing : (target : Target) (told : List ℕ) (own : Status) → ForDrawing source_before source_after target told own → IsWritten (sink_at target before) (sink_at target after) told own status
      → other_sink target after ≡ other_sink target before → IsDrawn document before after status
  by_drawing _ _ _ (Read bytes target told own read short held has) written quiet =
      by_bytes target told own (subst (λ (b : List ℕ). ForBytes b target told own) (read p.input p.told).0 has) written quiet
  by_drawing _ _ _ (ReadFailed rose lost) written quiet = absurd (p.source_held rose)
  by_drawing _ _ _ (TooLong more gone) written quiet = absurd (omega (arith, more p.input p.told, p.short))
  by_drawing _ _ _ (ReadWanting held gone) written quiet = ⊎_elim (λ w. absurd (p.memory w.0)) (λ w. absurd (p.sinks_held ToErr w.1.rose)) written

  pub promise_kept : Writes (ForDrawing source_before source_after) before after status → IsDrawn document before after status
  promise_kept w = by_drawing w.target w.text w.own w.cause w.written w.quiet
