-- Tokens as they are written, one behind another.
use Rattle.std.specs.Prelude.{◌≡◌, ℕ, ◌^◌, ◌<◌, ◌≤◌, ◌==◌, nat_abs, Bool, true, ◌||◌, List, [], ◌∷◌, ◌++◌, length, map, flat_map, Some, codes, IsUtf8}
use Rattle.std.specs.Fmt.{signed_decimal}
use Rattle.std.specs.List.{list_all}
use Rattle.reo_token.specs.declared.token.Symbol.{Symbol}
use Rattle.reo_token.specs.declared.token.Symbol.TheVariants.{Arrow, LessOrEqual, GreaterOrEqual, NotEqual, Less, Greater, Equal, Plus, Minus, Star, Open, Close, OpenBrace, CloseBrace, Comma}
use Rattle.reo_token.specs.declared.token.Lexeme.TheVariants as lexeme
use Rattle.reo_token.specs.declared.token.End.TheVariants.{Over}
use Rattle.reo_token.specs.Cut.{token_at, cut}
use Rattle.reo_grammar.specs.Token.{Token, Word, Number, Text, Sign}
use Rattle.reo_sentence.specs.Seen.{seen}
use Rattle.reo_trace.specs.ReportText.{escaped}
use Rattle.reo_print.specs.Laws.{can_be_a_name, can_be_spelled}

abbrev pub symbol_text : Symbol → List ℕ
symbol_text Arrow = codes "->"
symbol_text LessOrEqual = codes "<="
symbol_text GreaterOrEqual = codes ">="
symbol_text NotEqual = codes "!="
symbol_text Less = codes "<"
symbol_text Greater = codes ">"
symbol_text Equal = codes "="
symbol_text Plus = codes "+"
symbol_text Minus = codes "-"
symbol_text Star = codes "*"
symbol_text Open = codes "("
symbol_text Close = codes ")"
symbol_text OpenBrace = codes "{"
symbol_text CloseBrace = codes "}"
symbol_text Comma = codes ","

-- how a token is written
abbrev pub written : Token → List ℕ
written (Word bytes) = bytes
written (Number value) = signed_decimal value
written (Text value) = codes "\"" ++ flat_map escaped value ++ codes "\""
written (Sign symbol) = symbol_text symbol

-- the line ends, or a blank, a closing bracket or a comma comes: the token before is over
abbrev pub breaks : List ℕ → Bool
breaks [] = true
breaks (byte ∷ bytes) = (byte == 32) || ((byte == 41) || (byte == 44))

-- behind an opening bracket anything may come
abbrev pub breaks_behind : Symbol → List ℕ → Bool
breaks_behind Open rest = true
breaks_behind symbol rest = breaks rest

-- a name, a number of at most 64 bits, or a text of bytes that can be spelled
abbrev pub CanBeWritten : Token → Type 0
CanBeWritten (Word bytes) = can_be_a_name bytes ≡ true
CanBeWritten (Number value) = nat_abs value < 2 ^ 64
CanBeWritten (Text value) = (list_all can_be_spelled value ≡ true) × IsUtf8 value
CanBeWritten (Sign symbol) = Unit {0}

-- The bytes are these tokens as they are written, with blanks between them where they need one.
pub data IsWritten : List ℕ → List Token → Type 0 where
  over : IsWritten [] []
  blank : (bytes : List ℕ) (tokens : List Token) → IsWritten bytes tokens → IsWritten (32 ∷ bytes) tokens
  opens : (bytes : List ℕ) (tokens : List Token) → IsWritten bytes tokens → IsWritten (40 ∷ bytes) (Sign Open ∷ tokens)
  token : (first : Token) (bytes : List ℕ) (tokens : List Token) → CanBeWritten first → breaks bytes ≡ true
      → IsWritten bytes tokens
      → IsWritten (written first ++ bytes) (first ∷ tokens)

-- a symbol is cut off as one token, which is the symbol
abbrev pub SymbolsAreCutAgain : Type 0
SymbolsAreCutAgain = (symbol : Symbol) (rest : List ℕ) → breaks_behind symbol rest ≡ true
    → token_at (symbol_text symbol ++ rest) ≡ Some (lexeme.Sign symbol, length (symbol_text symbol))

-- a line of at most 512 tokens as they are written is cut into these tokens again
abbrev pub LinesAreCutAgain : Type 0
LinesAreCutAgain = (line : List ℕ) (tokens : List Token) → IsWritten line tokens → length tokens ≤ 512
    → ((cut 512 0 line).1 ≡ Over) × (map (seen line) (cut 512 0 line).0 ≡ tokens)
