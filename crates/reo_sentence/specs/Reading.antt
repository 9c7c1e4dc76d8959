-- What a reader has taken of a line, in the words of the machine of the grammar.
use Rattle.std.specs.Prelude.{◌≡◌, ℕ, ◌+◌, ◌≤◌, ℤ, Bool, false, ◌||◌, List, [], ◌∷◌, ◌++◌, length, map, Option, Some, None}
use Rattle.reo_token.specs.declared.token.Symbol.{Symbol}
use Rattle.reo_token.specs.declared.token.Token.{Token as CutToken}
use Rattle.reo_grammar.specs.declared.key.Key.{Key}
use Rattle.reo_grammar.specs.declared.key.Key.TheVariants as key
use Rattle.reo_grammar.specs.Token.{Token, Word, Number, Text, Sign, Const, const_token}
use Rattle.reo_grammar.specs.Machine.Run.{run, IsStuck}
use Rattle.reo_grammar.specs.Machine.Guards.{token_key, number_of, text_of, const_of}
use Rattle.reo_value.specs.declared.value.Value.{Value}
use Rattle.reo_sentence.specs.declared.cursor.Cursor.{Cursor}
use Rattle.reo_sentence.specs.declared.stop.Stop.{Stop}
use Rattle.reo_sentence.specs.declared.stop.Stop.TheVariants as stop
use Rattle.reo_sentence.specs.Seen.{seen}
use Rattle.reo_sentence.specs.Limits.{in_range, is_wide_number, is_wide_const, is_long_const, is_long_text}
use Rattle.reo_sentence.specs.Numbered.{Numbering, numbered_text, numbered_const}

-- the tokens that are left
abbrev pub left : Cursor → List Token
left cursor = map (seen cursor.line.now) cursor.rest.now

abbrev pub next_key : List Token → Key
next_key [] = key.Other
next_key (token ∷ tokens) = token_key token

abbrev pub symbol_of : Token → Option Symbol
symbol_of (Word bytes) = None
symbol_of (Number value) = None
symbol_of (Text value) = None
symbol_of (Sign symbol) = Some symbol

abbrev pub next_symbol : List Token → Option Symbol
next_symbol [] = None
next_symbol (token ∷ tokens) = symbol_of token

abbrev pub next_number : List Token → Option ℤ
next_number [] = None
next_number (token ∷ tokens) = number_of token

abbrev pub next_text : List Token → Option (List ℕ)
next_text [] = None
next_text (token ∷ tokens) = text_of token

abbrev pub next_const : List Token → Option Const
next_const [] = None
next_const (token ∷ tokens) = const_of token

-- there is room for a text for each token that is left
abbrev pub HasRoom : Cursor → List (List ℕ) → Type 0
HasRoom cursor texts = length texts + length cursor.rest.now ≤ 16777216

-- one token was taken
pub record Takes (old new : Cursor) (token : Token) : Type 0 where
  pub cut : CutToken
  pub rest : old.rest.now ≡ cut ∷ new.rest.now
  pub is : seen old.line.now cut ≡ token
  pub line : new.line.now ≡ old.line.now
  pub wide : new.is_wide ≡ old.is_wide
  pub long : new.is_long ≡ old.is_long

-- some token was
pub record Advances (old new : Cursor) : Type 0 where
  pub token : Token
  pub takes : Takes old new token

-- these tokens were taken
pub record Goes (old new : Cursor) (front : List Token) : Type 0 where
  pub passed : List CutToken
  pub rest : old.rest.now ≡ passed ++ new.rest.now
  pub is : map (seen old.line.now) passed ≡ front
  pub line : new.line.now ≡ old.line.now

-- the number was taken; nothing is given where it is out of range
pub record TakesNumber (old new : Cursor) (number : Option ℤ) : Type 0 where
  pub value : ℤ
  pub takes : Takes old new (Number value)
  pub is : number ≡ in_range value

-- nothing was taken, and this was noted
pub record Notes (old new : Cursor) (wide long : Bool) : Type 0 where
  pub rest : new.rest.now ≡ old.rest.now
  pub line : new.line.now ≡ old.line.now
  pub wide_noted : new.is_wide ≡ (old.is_wide || wide)
  pub long_noted : new.is_long ≡ (old.is_long || long)

-- The tokens in front were read, what is wrong with them is noted, and where nothing is, they stand for the value. Each of them adds one text at most.
pub record Reads {V : Type 0} (old new : Cursor) (known texts : List (List ℕ)) (front : List Token) (wide long : Bool) (numbers : Numbering V) (value : V) : Type 0 where
  pub goes : Goes old new front
  pub wide_noted : new.is_wide ≡ (old.is_wide || wide)
  pub long_noted : new.is_long ≡ (old.is_long || long)
  pub numbered : new.is_wide ≡ false → new.is_long ≡ false → numbers known ≡ (texts, value)
  pub few : length texts + length new.rest.now ≤ length known + length old.rest.now

pub record ReadsText (old new : Cursor) (known texts : List (List ℕ)) (number : ℕ) : Type 0 where
  pub text : List ℕ
  pub reads : Reads old new known texts (Text text ∷ []) false (is_long_text text) (numbered_text text) number

pub record ReadsNumber (old new : Cursor) (known : List (List ℕ)) (number : ℤ) : Type 0 where
  pub value : ℤ
  pub reads : Reads old new known known (Number value ∷ []) (is_wide_number value) false (λ texts. (texts, value)) number

pub record ReadsConst (old new : Cursor) (known texts : List (List ℕ)) (value : Value) : Type 0 where
  pub constant : Const
  pub reads : Reads old new known texts (const_token constant ∷ []) (is_wide_const constant) (is_long_const constant) (numbered_const constant) value

-- The tokens lead the machine from one state to another up to what is left, and there it is stuck.
pub record Halts {S T : Type 0} (step : S → Token → Option S) (whole : S → Option T) (start : S) (old new : Cursor) : Type 0 where
  pub front : List Token
  pub goes : Goes old new front
  pub state : S
  pub led : run step (Some start) front ≡ Some state
  pub stuck : IsStuck step whole state (left new)

-- the reader stops where the machine is stuck; want of memory tells nothing
abbrev pub StopsAt : {S T : Type 0} → (S → Token → Option S) → (S → Option T) → S → Cursor → Cursor → Stop → Type 0
StopsAt step whole start old new stop.Syntax = Halts step whole start old new
StopsAt step whole start old new stop.NoMemory = Unit {0}

-- nothing was taken, since this is not what comes next; want of memory tells nothing
abbrev pub Refuses : Cursor → Cursor → Type 0 → Stop → Type 0
Refuses old new asked stop.Syntax = Goes old new [] × asked
Refuses old new asked stop.NoMemory = Unit {0}
