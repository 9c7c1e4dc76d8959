-- What has come of a function, and how it goes on.
use Rattle.std.specs.Prelude.{ℤ, List, [], ◌∷◌, ◌++◌, Option, Some, None}
use Rattle.std.specs.Option.{option_map}
use Rattle.reo_token.specs.declared.token.Symbol.{Symbol}
use Rattle.reo_token.specs.declared.token.Symbol.TheVariants.{Plus, Minus, Star, OpenBrace, CloseBrace, Comma, Arrow}
use Rattle.reo_grammar.specs.declared.key.Key.{Key}
use Rattle.reo_grammar.specs.declared.key.Key.TheVariants as key
use Rattle.reo_grammar.specs.Key.{key_of}
use Rattle.reo_grammar.specs.Token.{Token, Word, Number, Text, Sign, Const, Integer, Phrase, const_token, word}
use Rattle.reo_grammar.specs.Functions.{Function, Add, Sub, Mul, Neg, Len, Map, pairs_tokens, function_tokens}
use Rattle.reo_grammar.specs.Machine.Guards.{const_of, number_of}

-- a function of a number
pub data Operator : Type 0 where
  Adds : Operator
  Subtracts : Operator
  Multiplies : Operator

abbrev pub sign_of : Operator → Symbol
sign_of Adds = Plus
sign_of Subtracts = Minus
sign_of Multiplies = Star

abbrev pub function_with : Operator → ℤ → Function
function_with Adds number = Add number
function_with Subtracts number = Sub number
function_with Multiplies number = Mul number

pub data FunctionState : Type 0 where
  Start : FunctionState
  AfterSign : (operator : Operator) → FunctionState
  AfterMap : FunctionState
  -- behind the brace, or behind these pairs and a comma
  WantFirst : (pairs : List (Const × Const)) → FunctionState
  HaveFirst : (pairs : List (Const × Const)) (first : Const) → FunctionState
  WantSecond : (pairs : List (Const × Const)) (first : Const) → FunctionState
  -- behind these pairs
  HavePairs : (pair : Const × Const) (pairs : List (Const × Const)) → FunctionState
  Over : (function : Function) → FunctionState

-- pairs, the last one with a comma behind it
abbrev pub opened : List (Const × Const) → List Token
opened [] = []
opened (pair ∷ pairs) = pairs_tokens (pair ∷ pairs) ++ Sign Comma ∷ []

abbrev pub function_before : FunctionState → List Token
function_before Start = []
function_before (AfterSign operator) = Sign (sign_of operator) ∷ []
function_before AfterMap = word key.Map ∷ []
function_before (WantFirst pairs) = word key.Map ∷ Sign OpenBrace ∷ opened pairs
function_before (HaveFirst pairs first) = word key.Map ∷ Sign OpenBrace ∷ (opened pairs ++ const_token first ∷ [])
function_before (WantSecond pairs first) = word key.Map ∷ Sign OpenBrace ∷ (opened pairs ++ const_token first ∷ Sign Arrow ∷ [])
function_before (HavePairs pair pairs) = word key.Map ∷ Sign OpenBrace ∷ pairs_tokens (pair ∷ pairs)
function_before (Over function) = function_tokens function

abbrev pub start_word : Key → Option FunctionState
start_word key.Neg = Some (Over Neg)
start_word key.Len = Some (Over Len)
start_word key.Map = Some AfterMap
start_word key = None

abbrev pub start_sign : Symbol → Option FunctionState
start_sign Plus = Some (AfterSign Adds)
start_sign Minus = Some (AfterSign Subtracts)
start_sign Star = Some (AfterSign Multiplies)
start_sign symbol = None

abbrev pub at_start : Token → Option FunctionState
at_start (Word bytes) = start_word (key_of bytes)
at_start (Number value) = None
at_start (Text value) = None
at_start (Sign symbol) = start_sign symbol

abbrev pub map_sign : Symbol → Option FunctionState
map_sign OpenBrace = Some (WantFirst [])
map_sign symbol = None

abbrev pub after_map : Token → Option FunctionState
after_map (Sign symbol) = map_sign symbol
after_map token = None

-- an empty map may close at once
abbrev pub empty_sign : Symbol → Option FunctionState
empty_sign CloseBrace = Some (Over (Map []))
empty_sign symbol = None

abbrev pub no_pairs : Token → Option FunctionState
no_pairs (Word bytes) = None
no_pairs (Number value) = Some (HaveFirst [] (Integer value))
no_pairs (Text value) = Some (HaveFirst [] (Phrase value))
no_pairs (Sign symbol) = empty_sign symbol

abbrev pub want_first : List (Const × Const) → Token → Option FunctionState
want_first [] token = no_pairs token
want_first (pair ∷ pairs) token = option_map (HaveFirst (pair ∷ pairs)) (const_of token)

abbrev pub first_sign : List (Const × Const) → Const → Symbol → Option FunctionState
first_sign pairs first Arrow = Some (WantSecond pairs first)
first_sign pairs first symbol = None

abbrev pub have_first : List (Const × Const) → Const → Token → Option FunctionState
have_first pairs first (Sign symbol) = first_sign pairs first symbol
have_first pairs first token = None

-- these pairs with one behind them
abbrev pub with_pair : List (Const × Const) → Const × Const → FunctionState
with_pair [] last = HavePairs last []
with_pair (pair ∷ pairs) last = HavePairs pair (pairs ++ last ∷ [])

abbrev pub pairs_sign : Const × Const → List (Const × Const) → Symbol → Option FunctionState
pairs_sign pair pairs Comma = Some (WantFirst (pair ∷ pairs))
pairs_sign pair pairs CloseBrace = Some (Over (Map (pair ∷ pairs)))
pairs_sign pair pairs symbol = None

abbrev pub have_pairs : Const × Const → List (Const × Const) → Token → Option FunctionState
have_pairs pair pairs (Sign symbol) = pairs_sign pair pairs symbol
have_pairs pair pairs token = None

abbrev pub function_step : FunctionState → Token → Option FunctionState
function_step Start token = at_start token
function_step (AfterSign operator) token = option_map (λ number. Over (function_with operator number)) (number_of token)
function_step AfterMap token = after_map token
function_step (WantFirst pairs) token = want_first pairs token
function_step (HaveFirst pairs first) token = have_first pairs first token
function_step (WantSecond pairs first) token = option_map (λ second. with_pair pairs (first, second)) (const_of token)
function_step (HavePairs pair pairs) token = have_pairs pair pairs token
function_step (Over function) token = None

abbrev pub whole_function : FunctionState → Option Function
whole_function (Over function) = Some function
whole_function state = None
