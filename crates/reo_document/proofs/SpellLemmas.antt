-- Bytes spell one document, or are refused in one way.
use Prim.Native.Nat.{zero}
use Rattle.std.proofs.Common.{◌≡◌, ◌⊎◌, inl, inr, ℕ, suc, nat_lt, ◌+◌, ◌<◌, Bool, true, false, if◌then◌else◌, Option, Some, None, List, [], ◌∷◌, length, take, refl, sym, ap, subst, ◌∙◌, arith}
use Rattle.std.specs.Prelude.{IsUtf8}
use Rattle.std.specs.Str.{IsValidUpTo, is_utf8}
use Rattle.std.proofs.lemmas.Bool.{false≢true}
use Rattle.std.proofs.lemmas.List.{take_all}
use borrow.Author.Tests.{ltb-true, ltb-false}
use Rattle.std.proofs.lemmas.Str.{IsUtf8-from_is_utf8, is_utf8-from_IsUtf8, utf8_valid_len-IsUtf8, utf8_valid_len-IsValidUpTo, IsUtf8-nil}
use Rattle.reo_document.specs.declared.refusal.TextRefusal.{TextRefusal}
use Rattle.reo_document.specs.declared.refusal.TextRefusal.TheVariants as why
use Rattle.reo_document.specs.Document.{DocumentData}
use Rattle.reo_document.specs.Lines.{lines_of}
use Rattle.reo_document.specs.Spells.{empty, Outcome, Goes, Stops, outcome_by, outcome_of, placed, Leads, bad, large, skipped, wrong, says, Then, LinesLead, Spells, IsRefusedAs}
use Rattle.reo_document.specs.declared.refusal.Misplaced.{Misplaced}
use Rattle.reo_document.specs.declared.refusal.Misplaced.TheVariants as misplaced
use Rattle.reo_grammar.specs.Lines.{Sentence}
use Rattle.reo_sentence.specs.Limits.{is_wide, is_long}
use Rattle.reo_sentence.specs.Said.{numbered_sentence}
use Rattle.reo_document.specs.Laws.{SpellOrAreRefused, SpellOneDocument, SpellOrAreRefusedAlone, AreRefusedOnce}
use Rattle.reo_document.proofs.LeadLemmas.{lines_lead_somewhere, lines_lead_one_way}

same_goes : (one other : DocumentData) → Goes one ≡ Goes other → one ≡ other
same_goes one other is = cc

same_stops : (one other : TextRefusal) → Stops one ≡ Stops other → one ≡ other
same_stops one other is = cc

goes_stops : (d : DocumentData) (r : TextRefusal) → Goes d ≡ Stops r → ⊥
goes_stops d r is = cc

-- bytes are not UTF-8 and no UTF-8
not_both : (bytes : List ℕ) (n : ℕ) → IsUtf8 bytes → IsValidUpTo bytes n → ⊥
not_both bytes n utf8 valid = absurd (omega (arith, valid.short, utf8_valid_len-IsUtf8 bytes utf8, utf8_valid_len-IsValidUpTo bytes n valid))

pub one_document : SpellOneDocument
one_document bytes one other first second = same_goes one other (lines_lead_one_way empty 1 (lines_of bytes) (Goes one) (Goes other) first.1 second.1)

-- no line is refused as no UTF-8
abbrev pub IsOfLines : Outcome → Type 0
IsOfLines (Goes document) = Unit {0}
IsOfLines (Stops (why.NotUtf8 byte)) = ⊥
IsOfLines (Stops refusal) = Unit {0}

outcome_of_lines : (number : ℕ) (reason : Option Misplaced) (d : DocumentData) → IsOfLines (outcome_by number reason d)
outcome_of_lines number None d = tt
outcome_of_lines number (Some misplaced.TooManyComponents) d = tt
outcome_of_lines number (Some misplaced.ComponentTwice) d = tt
outcome_of_lines number (Some misplaced.UnknownPort) d = tt
outcome_of_lines number (Some misplaced.WrongWay) d = tt
outcome_of_lines number (Some misplaced.PortShared) d = tt
outcome_of_lines number (Some misplaced.TooManyOps) d = tt

sentence_of_lines : (number : ℕ) (d : DocumentData) (sentence : Sentence) → IsOfLines (outcome_of number d sentence)
sentence_of_lines number d sentence = by (is_wide sentence) (is_long sentence)
  where
    by : (wide long : Bool) → IsOfLines (if wide then Stops (why.NumberRange number) else (if long then Stops (why.TextLong number) else placed number d (numbered_sentence sentence d.texts)))
    by true long = tt
    by false true = tt
    by false false = outcome_of_lines number _ _

line_of_lines : (d : DocumentData) (number : ℕ) (line : List ℕ) (outcome : Outcome) → Leads d number line outcome → IsOfLines outcome
line_of_lines d number line _ (bad at is) = tt
line_of_lines d number line _ (large is) = tt
line_of_lines d number line _ (skipped over none) = tt
line_of_lines d number line _ (wrong front rest over some split goes) = tt
line_of_lines d number line _ (says sentence over some is) = sentence_of_lines number d sentence

lines_of_lines : (d : DocumentData) (number : ℕ) (lines : List (List ℕ)) (outcome : Outcome) → LinesLead d number lines outcome → IsOfLines outcome
unfolding LinesLead
lines_of_lines d number [] outcome lead = subst IsOfLines (sym lead) tt
lines_of_lines d number (line ∷ lines) outcome lead = by lead.0 (line_of_lines d number line lead.0 lead.1.0) lead.1.1 (λ next. lines_of_lines next (number + 1) lines outcome)
  where
    by : (middle : Outcome) → IsOfLines middle → Then middle (λ next. LinesLead next (number + 1) lines outcome) outcome
        → ((next : DocumentData) → LinesLead next (number + 1) lines outcome → IsOfLines outcome) → IsOfLines outcome
    by (Goes next) is rest each = each next rest
    by (Stops refusal) is same each = subst IsOfLines (sym same) is

pub refused : (bytes : List ℕ) (refusal : TextRefusal) → IsUtf8 bytes → LinesLead empty 1 (lines_of bytes) (Stops refusal) → IsRefusedAs bytes refusal
refused bytes (why.NotUtf8 byte) utf8 lead = absurd (lines_of_lines empty 1 (lines_of bytes) (Stops (why.NotUtf8 byte)) lead)
refused bytes refusal utf8 lead = (utf8, lead)

-- what a refusal that is not of the bytes is
abbrev pub IsInLines : List ℕ → TextRefusal → Type 0
IsInLines bytes refusal = IsUtf8 bytes × LinesLead empty 1 (lines_of bytes) (Stops refusal)

-- where bytes are no UTF-8, there is the byte up to which they are
longest : (bytes : List ℕ) (most : ℕ) → most < length bytes → ((m : ℕ) → most < m → IsUtf8 (take m bytes) → ⊥) → (n : ℕ) × IsValidUpTo bytes n
longest bytes zero within beyond = (0, record { short = within; front = IsUtf8-nil; longest = beyond })
longest bytes (suc most) within beyond = by (is_utf8 (take (suc most) bytes)) refl (longest bytes most (omega (arith, within)))
  where
    lower : is_utf8 (take (suc most) bytes) ≡ false → (m : ℕ) → most < m → IsUtf8 (take m bytes) → (above : Bool) → nat_lt (suc most) m ≡ above → ⊥
    lower invalid m less utf8 true above = beyond m (ltb-true (suc most) m above) utf8
    lower invalid m less utf8 false above =
        let same : m ≡ suc most = omega (arith, less, ltb-false (suc most) m above) in
        false≢true (sym invalid ∙ is_utf8-from_IsUtf8 (take (suc most) bytes) (subst (λ n. IsUtf8 (take n bytes)) same utf8))

    by : (valid : Bool) → is_utf8 (take (suc most) bytes) ≡ valid → (((m : ℕ) → most < m → IsUtf8 (take m bytes) → ⊥) → (n : ℕ) × IsValidUpTo bytes n) → (n : ℕ) × IsValidUpTo bytes n
    by true valid fewer = (suc most, record { short = within; front = IsUtf8-from_is_utf8 (take (suc most) bytes) valid; longest = beyond })
    by false invalid fewer = fewer (λ m less utf8. lower invalid m less utf8 (nat_lt (suc most) m) refl)

valid_up_to : (bytes : List ℕ) → (IsUtf8 bytes → ⊥) → (n : ℕ) × IsValidUpTo bytes n
valid_up_to [] none = absurd (none IsUtf8-nil)
valid_up_to (byte ∷ bytes) none =
    longest (byte ∷ bytes) (length bytes) (omega arith) (λ m long utf8. none (subst IsUtf8 (take_all m (byte ∷ bytes) (omega (arith, long))) utf8))

pub spell_or_are_refused : SpellOrAreRefused
spell_or_are_refused bytes = by (is_utf8 bytes) refl
  where
    by_lines : IsUtf8 bytes → (outcome : Outcome) × LinesLead empty 1 (lines_of bytes) outcome → ((document : DocumentData) × Spells bytes document) ⊎ ((refusal : TextRefusal) × IsRefusedAs bytes refusal)
    by_lines utf8 (Goes document, lead) = inl (document, (utf8, lead))
    by_lines utf8 (Stops refusal, lead) = inr (refusal, refused bytes refusal utf8 lead)

    by : (valid : Bool) → is_utf8 bytes ≡ valid → ((document : DocumentData) × Spells bytes document) ⊎ ((refusal : TextRefusal) × IsRefusedAs bytes refusal)
    by true valid = by_lines (IsUtf8-from_is_utf8 bytes valid) (lines_lead_somewhere empty 1 (lines_of bytes))
    by false invalid =
        let found = valid_up_to bytes (λ utf8. false≢true (sym invalid ∙ is_utf8-from_IsUtf8 bytes utf8)) in
        inr (why.NotUtf8 found.0, found.1)

pub refused_alone : SpellOrAreRefusedAlone
refused_alone bytes document (why.NotUtf8 n) spells valid = not_both bytes n spells.0 valid
refused_alone bytes document refusal spells is = goes_stops document refusal (lines_lead_one_way empty 1 (lines_of bytes) (Goes document) (Stops refusal) spells.1 is.1)

-- a refusal is of the bytes or of a line
pub data Refused (bytes : List ℕ) : TextRefusal → Type 0 where
  of_bytes : (n : ℕ) → IsValidUpTo bytes n → Refused bytes (why.NotUtf8 n)
  of_line : (refusal : TextRefusal) → IsInLines bytes refusal → Refused bytes refusal

how_refused : (bytes : List ℕ) (refusal : TextRefusal) → IsRefusedAs bytes refusal → Refused bytes refusal
how_refused bytes (why.NotUtf8 n) is = of_bytes n is
how_refused bytes refusal is = of_line refusal is

refused_one_way : (bytes : List ℕ) (one other : TextRefusal) → Refused bytes one → Refused bytes other → one ≡ other
refused_one_way bytes _ _ (of_bytes n valid) (of_bytes m valid_2) = ap why.NotUtf8 (sym (utf8_valid_len-IsValidUpTo bytes n valid) ∙ utf8_valid_len-IsValidUpTo bytes m valid_2)
refused_one_way bytes _ _ (of_bytes n valid) (of_line refusal is) = absurd (not_both bytes n is.0 valid)
refused_one_way bytes _ _ (of_line refusal is) (of_bytes n valid) = absurd (not_both bytes n is.0 valid)
refused_one_way bytes _ _ (of_line one is) (of_line other also) = same_stops one other (lines_lead_one_way empty 1 (lines_of bytes) (Stops one) (Stops other) is.1 also.1)

pub refused_once : AreRefusedOnce
refused_once bytes one other first second = refused_one_way bytes one other (how_refused bytes one first) (how_refused bytes other second)
