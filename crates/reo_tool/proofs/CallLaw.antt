-- The causes of what a call writes, and what they rule out.
use Rattle.std.proofs.Common.{◌≡◌, ℕ, ◌<◌, ◌⊎◌, List, length, take, Some, None, refl, sym, ap, ◌∙◌, subst, inl, inr, ⊎_elim, arith}
use Rattle.std.specs.Prelude.{Result, Ok, Err}
use Rattle.std.specs.Result.{OnOk, IfErr, MatchResult}
use Rattle.std.specs.Borrow.{Bor}
use Rattle.std.proofs.lemmas.Option.{none-some, same_Some}
use Rattle.reo_base.specs.Faults.{HasCause}
use Rattle.reo_base.specs.Streams.{IsExtended}
use Rattle.reo_base.specs.declared.whole_write.WriteFault.{WriteFault as Fault}
use Rattle.reo_document.specs.declared.refusal.TextRefusal.{TextRefusal}
use Rattle.reo_document.specs.declared.refusal.TextRefusal.TheVariants as text
use Rattle.reo_document.specs.Document.{DocumentData, circuit_of}
use Rattle.reo_document.specs.Reading.{IsRefusalOf}
use Rattle.reo_document.specs.Spells.{Spells}
use Rattle.reo_document.proofs.SpellLemmas.{one_document, refused_alone}
use Rattle.reo_session.specs.declared.preparation.SessionRefusal.{SessionRefusal}
use Rattle.reo_session.specs.declared.preparation.SessionRefusal.TheVariants as session
use Rattle.reo_session.specs.Prepared.{Declines}
use Rattle.reo_tool.specs.declared.command.Command.{Command}
use Rattle.reo_tool.specs.declared.command.Command.TheVariants.{Run, Show, Plan}
use Rattle.reo_tool.specs.declared.status.Status.{Status}
use Rattle.reo_tool.specs.declared.status.Status.TheVariants.{Refused, Usage, ReadFault, WriteFault, Memory}
use Rattle.reo_tool.specs.FaultText.{out_of_memory_text, text_text, session_text}
use Rattle.reo_tool.specs.Call.{asked, SourceSeen, SinkSeen, Target, ToOut, ToErr, Sinks, sink_at, other_sink, IsWritten, IsTold, Writes, IsNotRun, Answers, CanAnswer, CannotAnswer, ForDocument, Answer, Refusal, Wanting, ForBytes, Spelled, NoDocument, BytesWanting, ForCall, Read, NoCommand, ReadFailed, TooLong, ReadWanting, IsPromised, IsAnswered, IsRefusable, IsOverlong, IsOrAbove}
use Rattle.reo_tool.proofs.RefusalLaw.{not_run, not_run_for}

-- what a write of a whole text tells
pub written_by : (before after : SinkSeen) (told : List ℕ) (own status : Status) (r : Result (Unit {0}) Fault) → OnOk r (IsExtended before.held after.held told)
    → IfErr r (λ fault. IsExtended before.held after.held (take fault.written told)) → IfErr r (λ fault. fault.written < length told) → HasCause before.faults after.faults r
    → MatchResult r (λ _. status ≡ own) (λ _. status ≡ WriteFault) → IsWritten before after told own status
written_by before after told own status (Ok done) whole front short cause is = inl (is, whole)
written_by before after told own status (Err fault) whole front short cause is = inr (is, record { rose = cause.failed; count = fault.written; short = short; front = front })

-- a text for one of the sinks
pub writes_err : (H : Target → List ℕ → Status → Type 0) (before after : Sinks) (told : List ℕ) (own status : Status) → H ToErr told own → IsWritten before.err after.err told own status
    → after.out ≡ before.out → Writes H before after status
writes_err H before after told own status cause written quiet = record { target = ToErr; text = told; own = own; cause = cause; written = written; quiet = quiet }

pub writes_out : (H : Target → List ℕ → Status → Type 0) (before after : Sinks) (told : List ℕ) (own status : Status) → H ToOut told own → IsWritten before.out after.out told own status
    → after.err ≡ before.err → Writes H before after status
writes_out H before after told own status cause written quiet = record { target = ToOut; text = told; own = own; cause = cause; written = written; quiet = quiet }

-- a text for standard error, or want of memory in its place
pub writes_told : (H : Target → List ℕ → Status → Type 0) (before after : Sinks) (told : List ℕ) (own status : Status) → H ToErr told own → H ToErr out_of_memory_text Memory
    → IsTold before.err after.err told own status → after.out ≡ before.out → Writes H before after status
writes_told H before after told own status cause wanting is quiet =
    ⊎_elim (λ w. writes_err H before after told own status cause w quiet) (λ w. writes_err H before after out_of_memory_text Memory status wanting w quiet) is

-- with a cause for each cause
pub writes_as : (H J : Target → List ℕ → Status → Type 0) (before after : Sinks) (status : Status) → ((target : Target) (told : List ℕ) (own : Status) → H target told own → J target told own)
    → Writes H before after status → Writes J before after status
writes_as H J before after status forth is =
    record { target = is.target; text = is.text; own = is.own; cause = forth is.target is.text is.own is.cause; written = is.written; quiet = is.quiet }

-- a refusal of bytes is told, where it is no want of memory
pub text_told : (command : Command) (bytes : List ℕ) (refused : TextRefusal) (before after : Sinks) (status : Status) → IsRefusalOf bytes refused
    → IsTold before.err after.err (text_text refused) Refused status → (refused ≡ text.NoMemory → IsWritten before.err after.err out_of_memory_text Memory status)
    → after.out ≡ before.out → Writes (ForBytes command bytes) before after status
text_told command bytes text.NoMemory before after status why told wanting quiet = writes_err (ForBytes command bytes) before after out_of_memory_text Memory status BytesWanting (wanting refl) quiet
text_told command bytes refused before after status why told wanting quiet =
    writes_told (ForBytes command bytes) before after (text_text refused) Refused status (NoDocument refused why) BytesWanting told quiet

-- and so is a refusal of a session
pub session_told : (command : Command) (document : DocumentData) (refused : SessionRefusal) (before after : Sinks) (status : Status) → ((told : List ℕ) → IsNotRun document told → CannotAnswer command document told)
    → Declines (circuit_of document) refused → IsTold before.err after.err (session_text document.nodes refused) Refused status
    → (refused ≡ session.NoMemory → IsWritten before.err after.err out_of_memory_text Memory status) → after.out ≡ before.out → Writes (ForDocument command document) before after status
session_told command document session.NoMemory before after status cannot why told wanting quiet = writes_err (ForDocument command document) before after out_of_memory_text Memory status Wanting (wanting refl) quiet
session_told command document refused before after status cannot why told wanting quiet =
    writes_told (ForDocument command document) before after (session_text document.nodes refused) Refused status
    (Refusal (session_text document.nodes refused) (cannot (session_text document.nodes refused) (not_run_for document refused why (λ is. cc)))) Wanting told quiet

-- no command answers and does not
not_both : (command : Command) (document : DocumentData) (told : List ℕ) → CanAnswer command document → CannotAnswer command document told → ⊥
not_both (Run limit) document told can cannot = not_run document told cannot can
not_both Show document told can cannot = cannot
not_both Plan document told can cannot = not_run document told cannot can

-- what a command answers for a document, it can answer
answers_can : (command : Command) (document : DocumentData) (told : List ℕ) (status : Status) → Answers command document told status → CanAnswer command document
answers_can (Run limit) document told status answers = answers.accepted
answers_can Show document told status answers = tt
answers_can Plan document told status answers = answers.0.accepted

or_above : (wanted own status : Status) (before after : SinkSeen) (told : List ℕ) → own ≡ wanted → IsWritten before after told own status → IsOrAbove wanted status
or_above wanted own status before after told same written = ⊎_elim (λ w. inl (w.0 ∙ same)) (λ w. inr (inl w.0)) written

memory_above : (wanted status : Status) (before after : SinkSeen) (told : List ℕ) → IsWritten before after told Memory status → IsOrAbove wanted status
memory_above wanted status before after told written = ⊎_elim (λ w. inr (inr w.0)) (λ w. inr (inl w.0)) written

module _ (words : List (Bor (List ℕ))) (source_before source_after : SourceSeen) (before after : Sinks) (status : Status) where
  one_command : (one other : Command) → asked words ≡ Some one → asked words ≡ Some other → one ≡ other
  one_command one other is also = same_Some _ _ (sym is ∙ also)

  no_command : (command : Command) → asked words ≡ Some command → asked words ≡ None → ⊥
  no_command command is none = none-some command (sym none ∙ is)

  module _ (command : Command) (document : DocumentData) (p : IsPromised words source_before source_after before after command document status) where
    by_document : (target : Target) (told : List ℕ) (own : Status) → ForDocument command document target told own → IsWritten (sink_at target before) (sink_at target after) told own status
        → other_sink target after ≡ other_sink target before → IsAnswered command document before after status
    by_document _ _ _ (Answer told own answers) written quiet =
        ⊎_elim (λ w. record { text = told; answer = subst (Answers command document told) (sym w.0) answers; written = w.1; quiet = quiet }) (λ w. absurd (p.sinks_held ToOut w.1.rose)) written
    by_document _ _ _ (Refusal told cannot) written quiet = absurd (not_both command document told p.can cannot)
    by_document _ _ _ Wanting written quiet = ⊎_elim (λ w. absurd (p.memory w.0)) (λ w. absurd (p.sinks_held ToErr w.1.rose)) written

    by_bytes : (target : Target) (told : List ℕ) (own : Status) → ForBytes command p.input target told own → IsWritten (sink_at target before) (sink_at target after) told own status
        → other_sink target after ≡ other_sink target before → IsAnswered command document before after status
    by_bytes _ _ _ (Spelled other target told own spells has) written quiet =
        by_document target told own (subst (λ (d : DocumentData). ForDocument command d target told own) (one_document p.input other document spells p.spelled) has) written quiet
    by_bytes _ _ _ (NoDocument refused is) written quiet = absurd (refused_alone p.input document refused p.spelled is)
    by_bytes _ _ _ BytesWanting written quiet = ⊎_elim (λ w. absurd (p.memory w.0)) (λ w. absurd (p.sinks_held ToErr w.1.rose)) written

    by_call : (target : Target) (told : List ℕ) (own : Status) → ForCall words source_before source_after target told own → IsWritten (sink_at target before) (sink_at target after) told own status
        → other_sink target after ≡ other_sink target before → IsAnswered command document before after status
    by_call _ _ _ (Read other bytes target told own asks read short held has) written quiet =
        by_bytes target told own
        (subst (λ (c : Command). ForBytes c p.input target told own) (one_command other command asks p.asked_for)
        (subst (λ (b : List ℕ). ForBytes other b target told own) (read p.input p.told).0 has)) written quiet
    by_call _ _ _ (NoCommand none unread) written quiet = absurd (no_command command p.asked_for none)
    by_call _ _ _ (ReadFailed other asks rose lost) written quiet = absurd (p.source_held rose)
    by_call _ _ _ (TooLong other asks more gone) written quiet = absurd (omega (arith, more p.input p.told, p.short))
    by_call _ _ _ (ReadWanting other asks held gone) written quiet = ⊎_elim (λ w. absurd (p.memory w.0)) (λ w. absurd (p.sinks_held ToErr w.1.rose)) written

  pub promise_kept : Writes (ForCall words source_before source_after) before after status → (command : Command) (document : DocumentData)
      → IsPromised words source_before source_after before after command document status → IsAnswered command document before after status
  promise_kept w command document p = by_call command document p w.target w.text w.own w.cause w.written w.quiet

  -- other words are told the usage
  usage_by : (target : Target) (told : List ℕ) (own : Status) → asked words ≡ None → ForCall words source_before source_after target told own
      → IsWritten (sink_at target before) (sink_at target after) told own status → (status ≡ Usage) ⊎ (status ≡ WriteFault)
  usage_by _ _ _ none (Read command bytes target told own asks read short held has) written = absurd (no_command command asks none)
  usage_by _ _ _ none (NoCommand also unread) written = ⊎_elim (λ w. inl w.0) (λ w. inr w.0) written
  usage_by _ _ _ none (ReadFailed command asks rose lost) written = absurd (no_command command asks none)
  usage_by _ _ _ none (TooLong command asks more gone) written = absurd (no_command command asks none)
  usage_by _ _ _ none (ReadWanting command asks held gone) written = absurd (no_command command asks none)

  pub usage_told : Writes (ForCall words source_before source_after) before after status → asked words ≡ None → (status ≡ Usage) ⊎ (status ≡ WriteFault)
  usage_told w none = usage_by w.target w.text w.own none w.cause w.written

  -- input that is refused is told to be
  module _ (r : IsRefusable words source_before source_after) where
    refusal_of_document : (document : DocumentData) (target : Target) (told : List ℕ) (own : Status) → Spells r.input document → ForDocument r.command document target told own
        → IsWritten (sink_at target before) (sink_at target after) told own status → IsOrAbove Refused status
    refusal_of_document document _ _ _ spells (Answer told own answers) written =
        absurd (⊎_elim (λ why. refused_alone r.input document why.0 spells why.1)
        (λ d. d.2 (answers_can r.command d.0 told own (subst (λ (e : DocumentData). Answers r.command e told own) (one_document r.input document d.0 spells d.1) answers))) r.refused)
    refusal_of_document document _ _ _ spells (Refusal told cannot) written = or_above Refused Refused status before.err after.err told refl written
    refusal_of_document document _ _ _ spells Wanting written = memory_above Refused status before.err after.err out_of_memory_text written

    refusal_of_bytes : (target : Target) (told : List ℕ) (own : Status) → ForBytes r.command r.input target told own
        → IsWritten (sink_at target before) (sink_at target after) told own status → IsOrAbove Refused status
    refusal_of_bytes _ _ _ (Spelled document target told own spells has) written = refusal_of_document document target told own spells has written
    refusal_of_bytes _ _ _ (NoDocument refused is) written = or_above Refused Refused status before.err after.err (text_text refused) refl written
    refusal_of_bytes _ _ _ BytesWanting written = memory_above Refused status before.err after.err out_of_memory_text written

    refusal_of_call : (target : Target) (told : List ℕ) (own : Status) → ForCall words source_before source_after target told own
        → IsWritten (sink_at target before) (sink_at target after) told own status → IsOrAbove Refused status
    refusal_of_call _ _ _ (Read other bytes target told own asks read short held has) written =
        refusal_of_bytes target told own
        (subst (λ (c : Command). ForBytes c r.input target told own) (one_command other r.command asks r.asked_for)
        (subst (λ (b : List ℕ). ForBytes other b target told own) (read r.input r.told).0 has)) written
    refusal_of_call _ _ _ (NoCommand none unread) written = absurd (no_command r.command r.asked_for none)
    refusal_of_call _ _ _ (ReadFailed other asks rose lost) written = absurd (r.source_held rose)
    refusal_of_call _ _ _ (TooLong other asks more gone) written = absurd (omega (arith, more r.input r.told, r.short))
    refusal_of_call _ _ _ (ReadWanting other asks held gone) written = memory_above Refused status before.err after.err out_of_memory_text written

  pub refusal_told : Writes (ForCall words source_before source_after) before after status → IsRefusable words source_before source_after → IsOrAbove Refused status
  refusal_told w r = refusal_of_call r w.target w.text w.own w.cause w.written

  -- and so is input that is too long
  length_by : (target : Target) (told : List ℕ) (own : Status) → IsOverlong words source_before → ForCall words source_before source_after target told own
      → IsWritten (sink_at target before) (sink_at target after) told own status → IsOrAbove ReadFault status
  length_by _ _ _ o (Read other bytes target told own asks read short held has) written = let same = (read o.input o.told).0 in absurd (omega (arith, o.long, short, ap length same))
  length_by _ _ _ o (NoCommand none unread) written = absurd (no_command o.command o.asked_for none)
  length_by _ _ _ o (ReadFailed other asks rose lost) written = or_above ReadFault ReadFault status before.err after.err _ refl written
  length_by _ _ _ o (TooLong other asks more gone) written = or_above ReadFault ReadFault status before.err after.err _ refl written
  length_by _ _ _ o (ReadWanting other asks held gone) written = memory_above ReadFault status before.err after.err out_of_memory_text written

  pub length_told : Writes (ForCall words source_before source_after) before after status → IsOverlong words source_before → IsOrAbove ReadFault status
  length_told w o = length_by w.target w.text w.own o w.cause w.written
