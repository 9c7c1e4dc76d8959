-- What is true of all bytes.
use Rattle.std.specs.Prelude.{◌≡◌, ℕ, ◌⊎◌, List}
use Rattle.reo_document.specs.declared.refusal.TextRefusal.{TextRefusal}
use Rattle.reo_document.specs.Document.{DocumentData}
use Rattle.reo_document.specs.Spells.{Spells, IsRefusedAs}

-- all bytes spell a document or are refused
abbrev pub SpellOrAreRefused : Type 0
SpellOrAreRefused = (bytes : List ℕ) → ((document : DocumentData) × Spells bytes document) ⊎ ((refusal : TextRefusal) × IsRefusedAs bytes refusal)

-- none spell two documents
abbrev pub SpellOneDocument : Type 0
SpellOneDocument = (bytes : List ℕ) (one other : DocumentData) → Spells bytes one → Spells bytes other → one ≡ other

-- none do both
abbrev pub SpellOrAreRefusedAlone : Type 0
SpellOrAreRefusedAlone = (bytes : List ℕ) (document : DocumentData) (refusal : TextRefusal) → Spells bytes document → IsRefusedAs bytes refusal → ⊥

-- none are refused in two ways
abbrev pub AreRefusedOnce : Type 0
AreRefusedOnce = (bytes : List ℕ) (one other : TextRefusal) → IsRefusedAs bytes one → IsRefusedAs bytes other → one ≡ other
