-- The grammar of functions. A function says by itself how it is written.
use Rattle.std.specs.Prelude.{ℤ, List, [], ◌∷◌, ◌++◌}
use Rattle.reo_token.specs.declared.token.Symbol.TheVariants.{Plus, Minus, Star, OpenBrace, CloseBrace, Comma, Arrow}
use Rattle.reo_grammar.specs.declared.key.Key.TheVariants as key
use Rattle.reo_grammar.specs.Token.{Token, Number, Sign, Const, const_token, word}

pub data Function : Type 0 where
  Add : (more : ℤ) → Function
  Sub : (less : ℤ) → Function
  Mul : (factor : ℤ) → Function
  Neg : Function
  Len : Function
  Map : (pairs : List (Const × Const)) → Function

abbrev pub pair_tokens : Const × Const → List Token
pair_tokens pair = const_token pair.0 ∷ Sign Arrow ∷ const_token pair.1 ∷ []

-- each pair behind a comma
unfoldable pub further_tokens : List (Const × Const) → List Token
further_tokens [] = []
further_tokens (pair ∷ pairs) = Sign Comma ∷ (pair_tokens pair ++ further_tokens pairs)

-- pairs with commas between them
abbrev pub pairs_tokens : List (Const × Const) → List Token
pairs_tokens [] = []
pairs_tokens (pair ∷ pairs) = pair_tokens pair ++ further_tokens pairs

abbrev pub function_tokens : Function → List Token
function_tokens (Add more) = Sign Plus ∷ Number more ∷ []
function_tokens (Sub less) = Sign Minus ∷ Number less ∷ []
function_tokens (Mul factor) = Sign Star ∷ Number factor ∷ []
function_tokens Neg = word key.Neg ∷ []
function_tokens Len = word key.Len ∷ []
function_tokens (Map pairs) = word key.Map ∷ Sign OpenBrace ∷ (pairs_tokens pairs ++ Sign CloseBrace ∷ [])
