-- The canonical text of a document spells it again.
use Rattle.std.specs.Prelude.{◌≡◌}
use Rattle.reo_document.specs.declared.refusal.TextRefusal.{TextRefusal}
use Rattle.reo_document.specs.Document.{DocumentData}
use Rattle.reo_document.specs.Spells.{Spells, IsSpelled, IsRefusedAs}
use Rattle.reo_print.specs.Canonical.{canonical_text}

-- a document that bytes spell is spelled by its canonical text
abbrev pub DocumentsAreSpelledAgain : Type 0
DocumentsAreSpelledAgain = (document : DocumentData) → IsSpelled document → Spells (canonical_text document) document

-- this text spells no other document
abbrev pub TextsSpellNoOther : Type 0
TextsSpellNoOther = (one other : DocumentData) → IsSpelled one → Spells (canonical_text one) other → other ≡ one

-- so a document that is read of it has this text again
abbrev pub TextsAreSettled : Type 0
TextsAreSettled = (one other : DocumentData) → IsSpelled one → Spells (canonical_text one) other → canonical_text other ≡ canonical_text one

-- it is not refused
abbrev pub TextsAreNotRefused : Type 0
TextsAreNotRefused = (document : DocumentData) (refusal : TextRefusal) → IsSpelled document
    → IsRefusedAs (canonical_text document) refusal → ⊥

-- documents with one canonical text are one
abbrev pub TextsTellApart : Type 0
TextsTellApart = (one other : DocumentData) → IsSpelled one → IsSpelled other
    → canonical_text one ≡ canonical_text other → one ≡ other
