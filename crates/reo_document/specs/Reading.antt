-- Where the reading of a line stops.
use Rattle.std.specs.Prelude.{◌≡◌, ◌≢◌, ℕ, ◌<◌, List, [], ◌∷◌, length, Option, IsUtf8, Result, OnOk, IfErr, IfSome}
use Rattle.reo_token.specs.declared.token.Token.{Token}
use Rattle.reo_token.specs.declared.token.End.TheVariants.{Over}
use Rattle.reo_token.specs.Cut.{cut}
use Rattle.reo_sentence.specs.Said.{Said}
use Rattle.reo_sentence.specs.ReadLine.{SaysIt}
use Rattle.reo_document.specs.declared.refusal.TextRefusal.{TextRefusal}
use Rattle.reo_document.specs.declared.refusal.TextRefusal.TheVariants.{NoMemory}
use Rattle.reo_document.specs.Document.{DocumentData}
use Rattle.reo_document.specs.Lines.{lines_of, lines_behind}
use Rattle.reo_document.specs.Builder.{HasRoom}
use Rattle.reo_document.specs.Spells.{place_in, Leads, LinesLead, Goes, Stops, IsRefusedAs}

-- the line leads to the refusal; want of memory tells nothing
abbrev pub StopsWith : DocumentData → ℕ → List ℕ → TextRefusal → Type 0
StopsWith d number line NoMemory = Unit {0}
StopsWith d number line refusal = Leads d number line (Stops refusal)

abbrev pub StopsIn : DocumentData → ℕ → List (List ℕ) → TextRefusal → Type 0
StopsIn d number lines NoMemory = Unit {0}
StopsIn d number lines refusal = LinesLead d number lines (Stops refusal)

-- what a refusal tells of the bytes; want of memory tells nothing
abbrev pub IsRefusalOf : List ℕ → TextRefusal → Type 0
IsRefusalOf bytes NoMemory = Unit {0}
IsRefusalOf bytes refusal = IsRefusedAs bytes refusal

-- behind the document so far the line says this, and the texts are those that are known then
pub record HasSaid (d : DocumentData) (line : List ℕ) (now : DocumentData) (it : Said) : Type 0 where
  pub tokens : List Token
  pub cut_so : (tokens, Over) ≡ cut 512 0 line
  pub some : tokens ≢ []
  pub says : SaysIt (place_in d) line tokens d.texts now.texts it
  pub same : now ≡ record d { texts = now.texts }

-- a line that says this leads to the next document where the call went well, and to its refusal where it did not
abbrev pub LeadsTo : {V : Type 0} → DocumentData → ℕ → List ℕ → Said → Result V TextRefusal → DocumentData → Type 0
LeadsTo now number line it result next = (d : DocumentData) → HasSaid d line now it → OnOk result (Leads d number line (Goes next))

abbrev pub StopsAs : {V : Type 0} → DocumentData → ℕ → List ℕ → Said → Result V TextRefusal → Type 0
StopsAs now number line it result = (d : DocumentData) → HasSaid d line now it → IfErr result (StopsWith d number line)

-- the first line of the bytes leads to the next document, and this is left behind it
pub record GoesPast (d : DocumentData) (number : ℕ) (bytes : List ℕ) (next : DocumentData) (more : Option (List ℕ)) : Type 0 where
  pub line : List ℕ
  pub exact : lines_of bytes ≡ line ∷ lines_behind more
  pub goes : Leads d number line (Goes next)
  pub fewer : IfSome more (λ rest. length rest < length bytes)
  pub room : IfSome more (λ rest. HasRoom next (length rest))
  pub utf8 : IfSome more IsUtf8
