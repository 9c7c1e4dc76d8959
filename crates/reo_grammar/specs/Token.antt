-- The tokens of a line, as the grammar sees them: how they are spelled plays no part.
use Rattle.std.specs.Prelude.{ℕ, ℤ, List}
use Rattle.reo_token.specs.declared.token.Symbol.{Symbol}
use Rattle.reo_grammar.specs.declared.key.Key.{Key}
use Rattle.reo_grammar.specs.Key.{spelled}

pub data Token : Type 0 where
  Word : (bytes : List ℕ) → Token
  Number : (value : ℤ) → Token
  -- a text by its value
  Text : (value : List ℕ) → Token
  Sign : (symbol : Symbol) → Token

-- a constant: a number or a text
pub data Const : Type 0 where
  Integer : (value : ℤ) → Const
  Phrase : (value : List ℕ) → Const

abbrev pub const_token : Const → Token
const_token (Integer value) = Number value
const_token (Phrase value) = Text value

abbrev pub word : Key → Token
word key = Word (spelled key)
