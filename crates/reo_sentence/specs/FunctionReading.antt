-- What a reader of functions has taken.
use Rattle.std.specs.Prelude.{◌≢◌, ℕ, Bool, true, false, ◌||◌, List, [], ◌∷◌, ◌++◌, Some}
use Rattle.reo_token.specs.declared.token.Symbol.TheVariants.{OpenBrace, CloseBrace}
use Rattle.reo_value.specs.declared.value.Value.{Value}
use Rattle.reo_guard.specs.declared.fun.Fun.{Fun}
use Rattle.reo_grammar.specs.declared.key.Key.{Key}
use Rattle.reo_grammar.specs.declared.key.Key.TheVariants as key
use Rattle.reo_grammar.specs.Token.{Token, Sign, Const}
use Rattle.reo_grammar.specs.Functions.{Function, Map, pair_tokens, pairs_tokens, function_tokens}
use Rattle.reo_grammar.specs.Machine.Functions.{FunctionState, function_step, whole_function}
use Rattle.reo_sentence.specs.declared.cursor.Cursor.{Cursor}
use Rattle.reo_sentence.specs.declared.stop.Stop.{Stop}
use Rattle.reo_sentence.specs.Limits.{is_wide_const, is_long_const, are_wide_pairs, are_long_pairs, is_wide_function, is_long_function}
use Rattle.reo_sentence.specs.Numbered.{numbered_pair, numbered_pairs, numbered_function}
use Rattle.reo_sentence.specs.Reading.{next_symbol, Reads, StopsAt}

pub record ReadsFunction (old new : Cursor) (known texts : List (List ℕ)) (fun : Fun) : Type 0 where
  pub function : Function
  pub reads : Reads old new known texts (function_tokens function) (is_wide_function function) (is_long_function function) (numbered_function function) fun

-- the pairs of a map in their braces were read
pub record CompletesMap (old new : Cursor) (known texts : List (List ℕ)) (fun : Fun) : Type 0 where
  pub pairs : List (Const × Const)
  pub reads :
      Reads old new known texts (Sign OpenBrace ∷ (pairs_tokens pairs ++ Sign CloseBrace ∷ [])) (are_wide_pairs pairs) (are_long_pairs pairs) (numbered_function (Map pairs)) fun

pub record ReadsPair (old new : Cursor) (known texts : List (List ℕ)) (value : Value × Value) : Type 0 where
  pub pair : Const × Const
  pub reads :
      Reads old new known texts (pair_tokens pair) (is_wide_const pair.0 || is_wide_const pair.1) (is_long_const pair.0 || is_long_const pair.1) (numbered_pair pair) value

-- at least one pair
pub record ReadsPairs (old new : Cursor) (known texts : List (List ℕ)) (values : List (Value × Value)) : Type 0 where
  pub first : Const × Const
  pub more : List (Const × Const)
  pub reads :
      Reads old new known texts (pairs_tokens (first ∷ more)) (are_wide_pairs (first ∷ more)) (are_long_pairs (first ∷ more)) (numbered_pairs (first ∷ more)) values

-- the reader stops where the machine is stuck
abbrev pub StopsFunction : FunctionState → Cursor → Cursor → Stop → Type 0
StopsFunction state old new stop = StopsAt function_step whole_function state old new stop

-- behind these pairs a map may not end with what comes next
abbrev pub MayNotEnd : List (Const × Const) → List Token → Type 0
MayNotEnd [] tokens = next_symbol tokens ≢ Some CloseBrace
MayNotEnd (pair ∷ pairs) tokens = Unit {0}

-- the words with which a function begins
abbrev pub is_function_key : Key → Bool
is_function_key key.Neg = true
is_function_key key.Len = true
is_function_key key.Map = true
is_function_key key = false
