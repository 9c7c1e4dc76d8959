-- The tokens of a line, as the grammar sees them.
use Rattle.std.specs.Prelude.{◌≡◌, ℕ, ℤ, pos, neg_ℤ, ◌+◌, ◌-◌, ◌*◌, ◌==◌, if◌then◌else◌, Bool, true, false, List, [], ◌∷◌, Option, Some, None, slice_index, slice_range}
use Rattle.reo_token.specs.declared.token.Token.{Token as CutToken}
use Rattle.reo_token.specs.declared.token.Lexeme.{Lexeme}
use Rattle.reo_token.specs.declared.token.Lexeme.TheVariants as lexeme
use Rattle.reo_grammar.specs.Token.{Token, Word, Number, Text, Sign}

-- the number that digits stand for behind those of n
abbrev pub decimal_after : ℕ → List ℕ → ℕ
decimal_after n [] = n
decimal_after n (digit ∷ digits) = decimal_after (10 * n + (digit - 48)) digits

abbrev pub decimal_value : List ℕ → ℕ
decimal_value digits = decimal_after 0 digits

-- the number that digits stand for, behind a minus sign or not
abbrev pub number_value : List ℕ → ℤ
number_value [] = pos 0
number_value (byte ∷ bytes) = if byte == 45 then neg_ℤ (pos (decimal_value bytes)) else pos (decimal_value (byte ∷ bytes))

-- behind a backslash, n is LF and t is tab, and a quote and a backslash are themselves
abbrev pub meant : ℕ → ℕ
meant byte = if byte == 110 then 10 else (if byte == 116 then 9 else byte)

-- what a byte of a text adds to its value, where it is escaped and where it is not; nothing where the next one is escaped
abbrev pub byte_step : Bool → ℕ → Option ℕ
byte_step true byte = Some (meant byte)
byte_step false byte = if byte == 92 then None else Some byte

abbrev pub behind_byte : Option ℕ → (Bool → List ℕ) → List ℕ
behind_byte None more = more true
behind_byte (Some byte) more = byte ∷ more false

-- the value of a text by the bytes between its quotes; is the first of them escaped?
unfoldable pub unescaped_from : Bool → List ℕ → List ℕ
unescaped_from escaped [] = []
unescaped_from escaped (byte ∷ bytes) = behind_byte (byte_step escaped byte) (λ next. unescaped_from next bytes)

abbrev pub unescaped : List ℕ → List ℕ
unescaped text = unescaped_from false text

abbrev pub seen_as : Lexeme → List ℕ → ℕ → ℕ → Token
seen_as lexeme.Word line start end = Word (slice_range line start end)
seen_as lexeme.Number line start end = Number (number_value (slice_range line start end))
seen_as lexeme.Text line start end = Text (unescaped (slice_range line (start + 1) (end - 1)))
seen_as (lexeme.Sign symbol) line start end = Sign symbol

-- a token of the line
abbrev pub seen : List ℕ → CutToken → Token
seen line token = seen_as token.lexeme line token.start token.end

-- the first and the last byte of a text are its quotes
pub record IsQuoted (line : List ℕ) (token : CutToken) : Type 0 where
  pub opens : token.lexeme ≡ lexeme.Text → slice_index line token.start ≡ 34
  pub closes : token.lexeme ≡ lexeme.Text → slice_index line (token.end - 1) ≡ 34
