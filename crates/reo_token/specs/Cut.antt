-- The tokens of a line, and how they end.
use Prim.Native.Nat.{zero}
use Rattle.std.specs.Prelude.{◌≡◌, ℕ, suc, ◌+◌, ◌<◌, ◌≤◌, ◌==◌, nat_lt, if◌then◌else◌, Bool, true, false, ◌&&◌, ◌||◌, List, [], ◌∷◌, length, take, drop, slice_index, Option, Some, None}
use Rattle.std.specs.List.{prefix_len, list_all}
use Rattle.std.specs.Option.{option_map}
use Rattle.reo_token.specs.declared.bytes.TheConstants.{SPACE, QUOTE, HASH, MINUS, ZERO, BACKSLASH}
use Rattle.reo_token.specs.declared.line.Step.{Step}
use Rattle.reo_token.specs.declared.line.Step.TheVariants.{Closes, Bad, On}
use Rattle.reo_token.specs.declared.token.Symbol.{Symbol}
use Rattle.reo_token.specs.declared.token.Symbol.TheVariants.{Arrow, LessOrEqual, GreaterOrEqual, NotEqual, Less, Greater, Equal, Plus, Minus, Star, Open, Close, OpenBrace, CloseBrace, Comma}
use Rattle.reo_token.specs.declared.token.Lexeme.{Lexeme}
use Rattle.reo_token.specs.declared.token.Lexeme.TheVariants.{Word, Number, Text, Sign}
use Rattle.reo_token.specs.declared.token.Token.{Token}
use Rattle.reo_token.specs.declared.token.End.{End}
use Rattle.reo_token.specs.declared.token.End.TheVariants as ends
use Rattle.reo_token.specs.Bytes.{is_letter, is_digit, is_word_byte, is_blank, can_be_escaped}

-- how many blanks stand here
abbrev pub blanks : List ℕ → ℕ
blanks bytes = prefix_len is_blank bytes

-- the line is over, or a comment begins
abbrev pub is_over : List ℕ → Bool
is_over [] = true
is_over (byte ∷ bytes) = byte == HASH

-- the longest run of word bytes
abbrev pub run : List ℕ → ℕ
run bytes = prefix_len is_word_byte bytes

-- digits, of which the first is above 0 or the only one
abbrev pub is_natural : List ℕ → Bool
is_natural [] = false
is_natural (byte ∷ bytes) = list_all is_digit (byte ∷ bytes) && (nat_lt ZERO byte || (length bytes == 0))

-- a number is the whole run, and behind a minus sign it does not begin with 0
abbrev pub number_at : Bool → List ℕ → Option (Lexeme × ℕ)
number_at is_negative digits =
    if is_natural (take (run digits) digits) then (if is_negative && (slice_index digits 0 == ZERO) then None else Some (Number, run digits)) else None

abbrev pub behind_minus : List ℕ → Option (Lexeme × ℕ)
behind_minus digits = option_map (λ t. (t.0, t.1 + 1)) (number_at true digits)

-- what a byte of a text does to it, where it is escaped and where it is not
abbrev pub text_step : Bool → ℕ → Step
text_step true byte = if can_be_escaped byte then On false else Bad
text_step false byte =
    if byte == QUOTE then Closes else (if byte == BACKSLASH then On true else (if nat_lt byte SPACE then Bad else On false))

abbrev pub text_by : Step → (Bool → Option ℕ) → Option ℕ
text_by Closes more = Some 0
text_by Bad more = None
text_by (On escaped) more = option_map suc (more escaped)

-- how many bytes stand before the closing quote; is the first of them escaped?
unfoldable pub text_len : Bool → List ℕ → Option ℕ
text_len escaped [] = None
text_len escaped (byte ∷ bytes) = text_by (text_step escaped byte) (λ next. text_len next bytes)

-- a text has its two quotes
abbrev pub text_at : List ℕ → Option (Lexeme × ℕ)
text_at bytes = option_map (λ n. (Text, n + 2)) (text_len false bytes)

-- -> <= >= !=
abbrev pub long_symbol : ℕ → ℕ → Option Symbol
long_symbol byte next =
    if (byte == 45) && (next == 62) then Some Arrow else (if (byte == 60) && (next == 61) then Some LessOrEqual else (if (byte == 62) && (next == 61) then Some GreaterOrEqual else (if (byte == 33) && (next == 61) then Some NotEqual else None)))

-- < > = + - * ( ) { } ,
abbrev pub short_symbol : ℕ → Option Symbol
short_symbol byte =
    if byte == 60 then Some Less else (if byte == 62 then Some Greater else (if byte == 61 then Some Equal else (if byte == 43 then Some Plus else (if byte == 45 then Some Minus else (if byte == 42 then Some Star else (if byte == 40 then Some Open else (if byte == 41 then Some Close else (if byte == 123 then Some OpenBrace else (if byte == 125 then Some CloseBrace else (if byte == 44 then Some Comma else None))))))))))

abbrev pub signed : ℕ → Option Symbol → Option (Lexeme × ℕ)
signed len symbol = option_map (λ s. (Sign s, len)) symbol

abbrev pub or_else : Option (Lexeme × ℕ) → Option (Lexeme × ℕ) → Option (Lexeme × ℕ)
or_else (Some t) other = Some t
or_else None other = other

-- a longer symbol goes before a shorter one
abbrev pub symbol_at : ℕ → ℕ → Option (Lexeme × ℕ)
symbol_at byte next = or_else (signed 2 (long_symbol byte next)) (signed 1 (short_symbol byte))

-- the row of the table that fits the first byte: a token and its number of bytes, or none where it is bad
abbrev pub token_by : ℕ → List ℕ → List ℕ → Option (Lexeme × ℕ)
token_by byte more bytes =
    if is_letter byte then Some (Word, run bytes) else (if is_digit byte then number_at false bytes else (if (byte == MINUS) && is_digit (slice_index more 0) then behind_minus more else (if byte == QUOTE then text_at more else symbol_at byte (slice_index more 0))))

abbrev pub token_at : List ℕ → Option (Lexeme × ℕ)
token_at [] = None
token_at (byte ∷ more) = token_by byte more (byte ∷ more)

-- a token of so many bytes at a place, with those behind it; or a bad one there
abbrev pub first_token : Option (Lexeme × ℕ) → ℕ → (ℕ → List Token × End) → List Token × End
first_token None at more = ([], ends.Bad at)
first_token (Some t) at more = (record { lexeme = t.0; start = at; end = at + t.1 } ∷ (more t.1).0, (more t.1).1)

-- The tokens of the bytes from a place on, where so many more may come, and how they end.
unfoldable pub cut : ℕ → ℕ → List ℕ → List Token × End
cut zero at bytes = ([], if is_over (drop (blanks bytes) bytes) then ends.Over else ends.Large)
cut (suc n) at bytes =
    let here = drop (blanks bytes) bytes in
    if is_over here then ([], ends.Over) else first_token (token_at here) (at + blanks bytes) (λ len. cut n (at + blanks bytes + len) (drop len here))

-- the token stands in a line of so many bytes, and a text has its quotes there
pub record IsWithin (len : ℕ) (token : Token) : Type 0 where
  pub some : token.start < token.end
  pub end : token.end ≤ len
  pub quotes : token.lexeme ≡ Text → token.start + 2 ≤ token.end

-- a bad token begins in a line of so many bytes
abbrev pub IsEndWithin : ℕ → End → Type 0
IsEndWithin len ends.Over = Unit {0}
IsEndWithin len (ends.Bad at) = at ≤ len
IsEndWithin len ends.Large = Unit {0}
