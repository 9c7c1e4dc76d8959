-- Operations in their plainest spelling.
use Rattle.std.specs.Prelude.{◌≡◌, ◌≢◌, ℕ, ℤ, ◌<◌, ◌≤◌, ◌==◌, nat_lt, Bool, true, false, ◌||◌, List, [], ◌∷◌, length, take, get_or, Option, Some}
use Rattle.std.specs.List.{list_all}
use Rattle.reo_token.specs.declared.token.Token.{Token}
use Rattle.reo_token.specs.declared.token.Lexeme.{Lexeme}
use Rattle.reo_token.specs.declared.token.Lexeme.TheVariants.{Word, Number}
use Rattle.reo_token.specs.declared.token.End.TheVariants.{Over}
use Rattle.reo_token.specs.Cut.{blanks, is_over, run, token_at, cut}
use Rattle.reo_token.specs.Bytes.{is_letter, is_digit}
use Rattle.reo_grammar.specs.Lines.{Scripts}
use Rattle.reo_sentence.specs.declared.said.Name.{Name}
use Rattle.reo_value.specs.declared.value.Value.{Value}
use Rattle.reo_sentence.specs.Seen.{decimal_value, number_value}
use Rattle.reo_sentence.specs.Limits.{is_number}
use Rattle.reo_sentence.specs.Said.{IsNameIn, name_at}
use Rattle.reo_sentence.specs.ReadLine.{SaysIt}
use Rattle.reo_document.specs.declared.plain.Plain.{Plain}
use Rattle.reo_document.specs.Builder.{operation_said}

-- behind a component line, the line says this operation, whatever texts are known
pub record SaysPlainly (line : List ℕ) (operation : Name × Option Value) : Type 0 where
  pub tokens : List Token
  pub cut_so : (tokens, Over) ≡ cut 512 0 line
  pub some : tokens ≢ []
  pub says : (texts : List (List ℕ)) → SaysIt Scripts line tokens texts texts (operation_said (name_at line operation.0) operation.1)

-- a token of so many bytes begins here, with no blank before it
pub record BeginsWith (bytes : List ℕ) (lexeme : Lexeme) (len : ℕ) : Type 0 where
  pub close : blanks bytes ≡ 0
  pub more : is_over bytes ≡ false
  pub token : token_at bytes ≡ Some (lexeme, len)

-- a name of so many bytes does
pub record BeginsWithName (bytes : List ℕ) (len : ℕ) : Type 0 where
  pub begins : BeginsWith bytes Word len
  pub within : len ≤ length bytes
  pub short : len ≤ 64

-- the bytes are this number
pub record IsPlainNumber (bytes : List ℕ) (number : ℤ) : Type 0 where
  pub begins : BeginsWith bytes Number (length bytes)
  pub value : number_value bytes ≡ number
  pub in_range : is_number number ≡ true

-- the first digit is above 0, or the only one
abbrev pub starts_natural : List ℕ → Bool
starts_natural [] = false
starts_natural (byte ∷ bytes) = nat_lt 48 byte || (length bytes == 0)

-- the first byte is a letter
abbrev pub starts_name : List ℕ → Bool
starts_name [] = false
starts_name (byte ∷ bytes) = is_letter byte

-- a name of so many bytes stands here, and no longer one
pub record StandsName (bytes : List ℕ) (len : ℕ) : Type 0 where
  pub starts : starts_name bytes ≡ true
  pub all : len ≡ run bytes
  pub within : len ≤ length bytes
  pub short : len ≤ 64

-- the first line has so many bytes, an LF (10) behind them, and none below the blank (32)
pub record EndsLine (bytes : List ℕ) (len : ℕ) : Type 0 where
  pub within : len < length bytes
  pub feed : get_or bytes len 0 ≡ 10
  pub printed : list_all (nat_lt 31) (take len bytes) ≡ true

-- the first line is this natural number, of so many digits
pub record EndsNatural (bytes : List ℕ) (value len : ℕ) : Type 0 where
  pub starts : starts_natural (take len bytes) ≡ true
  pub all : list_all is_digit (take len bytes) ≡ true
  pub is : decimal_value (take len bytes) ≡ value
  pub small : value < 1000000000000000000
  pub within : len < length bytes
  pub feed : get_or bytes len 0 ≡ 10

-- the first line says this operation
pub record IsPlain (bytes : List ℕ) (plain : Plain) : Type 0 where
  pub says : SaysPlainly (take plain.len bytes) (plain.node, plain.value)
  pub named : IsNameIn (take plain.len bytes) plain.node
  pub ends : EndsLine bytes plain.len
