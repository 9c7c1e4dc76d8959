-- What the tokens of a line say in their place, or why they are refused.
use Rattle.std.specs.Prelude.{◌≡◌, ℕ, ◌+◌, ◌-◌, true, false, List, [], ◌∷◌, ◌++◌, length, map, slice_get, Option, Some, None}
use Rattle.reo_token.specs.declared.token.Token.{Token as CutToken}
use Rattle.reo_grammar.specs.Lines.{Place, Sentence, IsLine}
use Rattle.reo_grammar.specs.Wrong.{IsFirstWrong}
use Rattle.reo_sentence.specs.declared.said.Sentence as rust
use Rattle.reo_sentence.specs.declared.line.LineRefusal.{LineRefusal}
use Rattle.reo_sentence.specs.declared.line.LineRefusal.TheVariants.{Syntax, NumberRange, TextLong, NoMemory}
use Rattle.reo_sentence.specs.Seen.{seen}
use Rattle.reo_sentence.specs.Limits.{is_wide, is_long}
use Rattle.reo_sentence.specs.Said.{Said, numbered_sentence, said}

-- The tokens say a sentence, and nothing is wrong with it; with its texts numbered it is this.
pub record SaysIt (place : Place) (line : List ℕ) (tokens : List CutToken) (known texts : List (List ℕ)) (it : Said) : Type 0 where
  pub sentence : Sentence
  pub is_line : IsLine place (map (seen line) tokens) sentence
  pub in_range : is_wide sentence ≡ false
  pub short : is_long sentence ≡ false
  pub numbered : numbered_sentence sentence known ≡ (texts, it)

abbrev pub Says : Place → List ℕ → List CutToken → List (List ℕ) → List (List ℕ) → rust.Sentence → Type 0
Says place line tokens known texts sentence = SaysIt place line tokens known texts (said line sentence)

abbrev pub end_at : Option CutToken → ℕ
end_at None = 0
end_at (Some token) = token.end

-- where the last token ends
abbrev pub end_of : List CutToken → ℕ
end_of tokens = end_at (slice_get tokens (length tokens - 1))

-- the column of the first of the rest, or that right behind the last token, from 1
abbrev pub column_at : List CutToken → List CutToken → ℕ
column_at tokens [] = end_of tokens + 1
column_at tokens (token ∷ rest) = token.start + 1

-- The column is that of the first token with which no line goes on, or else the one behind the last token.
pub record IsWrongAt (place : Place) (line : List ℕ) (tokens : List CutToken) (column : ℕ) : Type 0 where
  pub front : List CutToken
  pub rest : List CutToken
  pub split : tokens ≡ front ++ rest
  pub wrong : IsFirstWrong place (map (seen line) tokens) (map (seen line) rest)
  pub at : column ≡ column_at tokens rest

-- they are a line in which a number is out of range
pub record IsWide (place : Place) (line : List ℕ) (tokens : List CutToken) : Type 0 where
  pub sentence : Sentence
  pub is_line : IsLine place (map (seen line) tokens) sentence
  pub out_of_range : is_wide sentence ≡ true

-- they are one in which none is, and a text is too long
pub record IsLong (place : Place) (line : List ℕ) (tokens : List CutToken) : Type 0 where
  pub sentence : Sentence
  pub is_line : IsLine place (map (seen line) tokens) sentence
  pub in_range : is_wide sentence ≡ false
  pub too_long : is_long sentence ≡ true

-- want of memory tells nothing
abbrev pub IsRefusedLine : Place → List ℕ → List CutToken → LineRefusal → Type 0
IsRefusedLine place line tokens (Syntax column) = IsWrongAt place line tokens column
IsRefusedLine place line tokens NumberRange = IsWide place line tokens
IsRefusedLine place line tokens TextLong = IsLong place line tokens
IsRefusedLine place line tokens NoMemory = Unit {0}
