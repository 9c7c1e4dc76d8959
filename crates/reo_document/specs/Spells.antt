-- Which bytes spell which document, and which refusal comes else.
use Rattle.std.specs.Prelude.{◌≡◌, ◌≢◌, ℕ, ◌+◌, if◌then◌else◌, List, [], ◌∷◌, ◌++◌, map, Option, Some, None, IsUtf8}
use Rattle.std.specs.Str.{IsValidUpTo}
use Rattle.reo_token.specs.declared.token.Token.{Token}
use Rattle.reo_token.specs.declared.token.End.TheVariants.{Over, Bad, Large}
use Rattle.reo_token.specs.Cut.{cut}
use Rattle.reo_grammar.specs.Lines.{Place, Circuit, Scripts, Sentence, IsLine}
use Rattle.reo_grammar.specs.Wrong.{IsFirstWrong}
use Rattle.reo_sentence.specs.Seen.{seen}
use Rattle.reo_sentence.specs.Limits.{is_wide, is_long}
use Rattle.reo_sentence.specs.Said.{Said, numbered_sentence}
use Rattle.reo_sentence.specs.ReadLine.{column_at}
use Rattle.reo_document.specs.declared.refusal.Misplaced.{Misplaced}
use Rattle.reo_document.specs.declared.refusal.Misplaced.TheVariants as why
use Rattle.reo_document.specs.declared.refusal.TextRefusal.{TextRefusal}
use Rattle.reo_document.specs.declared.refusal.TextRefusal.TheVariants.{NotUtf8, Syntax, LineLarge, NumberRange, TextLong, TooManyComponents, ComponentTwice, UnknownPort, WrongWay, PortShared, TooManyOps}
use Rattle.reo_document.specs.Document.{DocumentData}
use Rattle.reo_document.specs.Lines.{lines_of}
use Rattle.reo_document.specs.Placed.{misplaced, with_said}

abbrev pub empty : DocumentData
empty = record { lines = []; nodes = []; texts = []; people = []; scripts = [] }

-- a line before the first component line stands in the circuit, one behind it in the scripts
abbrev pub place_by : List (List ℕ) → Place
place_by [] = Circuit
place_by (name ∷ people) = Scripts

abbrev pub place_in : DocumentData → Place
place_in d = place_by d.people

-- what comes of a line: the document with it, or a refusal
pub data Outcome : Type 0 where
  Goes : (document : DocumentData) → Outcome
  Stops : (refusal : TextRefusal) → Outcome

abbrev pub refusal_at : ℕ → Misplaced → TextRefusal
refusal_at number why.TooManyComponents = TooManyComponents number
refusal_at number why.ComponentTwice = ComponentTwice number
refusal_at number why.UnknownPort = UnknownPort number
refusal_at number why.WrongWay = WrongWay number
refusal_at number why.PortShared = PortShared number
refusal_at number why.TooManyOps = TooManyOps number

abbrev pub outcome_by : ℕ → Option Misplaced → DocumentData → Outcome
outcome_by number None document = Goes document
outcome_by number (Some reason) document = Stops (refusal_at number reason)

-- what comes of a sentence whose numbers and texts are lawful
abbrev pub placed : ℕ → DocumentData → List (List ℕ) × Said → Outcome
placed number d numbered = outcome_by number (misplaced d numbered.1) (with_said (record d { texts = numbered.0 }) numbered.1)

-- what comes of a sentence
abbrev pub outcome_of : ℕ → DocumentData → Sentence → Outcome
outcome_of number d sentence =
    if is_wide sentence then Stops (NumberRange number) else (if is_long sentence then Stops (TextLong number) else placed number d (numbered_sentence sentence d.texts))

abbrev pub tokens_in : List ℕ → List Token
tokens_in line = (cut 512 0 line).0

-- The line of this number leads from the document so far to an outcome.
pub data Leads (d : DocumentData) (number : ℕ) (line : List ℕ) : Outcome → Type 0 where
  bad : (at : ℕ) → (cut 512 0 line).1 ≡ Bad at → Leads d number line (Stops (Syntax number (at + 1)))
  large : (cut 512 0 line).1 ≡ Large → Leads d number line (Stops (LineLarge number))
  skipped : (cut 512 0 line).1 ≡ Over → tokens_in line ≡ [] → Leads d number line (Goes d)
  wrong : (front rest : List Token) → (cut 512 0 line).1 ≡ Over → tokens_in line ≢ [] → tokens_in line ≡ front ++ rest
      → IsFirstWrong (place_in d) (map (seen line) (tokens_in line)) (map (seen line) rest) → Leads d number line (Stops (Syntax number (column_at (tokens_in line) rest)))
  says : (sentence : Sentence) → (cut 512 0 line).1 ≡ Over → tokens_in line ≢ [] → IsLine (place_in d) (map (seen line) (tokens_in line)) sentence
      → Leads d number line (outcome_of number d sentence)

-- a document goes on, and a refusal is the last
abbrev pub Then : Outcome → (DocumentData → Type 0) → Outcome → Type 0
Then (Goes d) more outcome = more d
Then (Stops refusal) more outcome = outcome ≡ Stops refusal

-- the lines, the first of them of this number, lead from the document so far to an outcome
unfoldable pub LinesLead : DocumentData → ℕ → List (List ℕ) → Outcome → Type 0
LinesLead d number [] outcome = outcome ≡ Goes d
LinesLead d number (line ∷ lines) outcome =
    (middle : Outcome) × (Leads d number line middle × Then middle (λ next. LinesLead next (number + 1) lines outcome) outcome)

-- the bytes are UTF-8, and their lines lead to the document
abbrev pub Spells : List ℕ → DocumentData → Type 0
Spells bytes document = IsUtf8 bytes × LinesLead empty 1 (lines_of bytes) (Goes document)

-- some bytes spell the document
pub record IsSpelled (document : DocumentData) : Type 0 where
  pub bytes : List ℕ
  pub spells : Spells bytes document

-- they are not UTF-8 from this byte on, counted from 0; or they are, and their lines lead to the refusal
abbrev pub IsRefusedAs : List ℕ → TextRefusal → Type 0
IsRefusedAs bytes (NotUtf8 byte) = IsValidUpTo bytes byte
IsRefusedAs bytes refusal = IsUtf8 bytes × LinesLead empty 1 (lines_of bytes) (Stops refusal)
