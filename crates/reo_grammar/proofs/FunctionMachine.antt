-- The machine of functions: each step adds its token, each state can be finished, and a function's tokens lead to it.
use Rattle.std.proofs.Common.{◌≡◌, ℕ, pos, List, [], ◌∷◌, ◌++◌, Some, IfSome, refl, sym, ap, ◌∙◌, append_assoc, append-nil}
use Rattle.reo_token.specs.declared.token.Symbol.TheVariants.{Plus, Minus, Star, OpenBrace, CloseBrace, Comma, Arrow}
use Rattle.reo_grammar.specs.declared.key.Key.{Key}
use Rattle.reo_grammar.specs.declared.key.Key.TheVariants as key
use Rattle.reo_grammar.specs.Key.{key_of}
use Rattle.reo_grammar.specs.Token.{Token, Word, Number, Text, Sign, Const, Integer, Phrase, const_token, word}
use Rattle.reo_grammar.specs.Functions.{Function, Add, Sub, Mul, Neg, Len, Map, pair_tokens, further_tokens, pairs_tokens, function_tokens}
use Rattle.reo_grammar.specs.Machine.Run.{run}
use Rattle.reo_grammar.specs.Machine.Functions.{Operator, Adds, Subtracts, Multiplies, function_with, FunctionState, Start, AfterSign, AfterMap, WantFirst, HaveFirst, WantSecond, HavePairs, Over, opened, function_before, start_word, with_pair, function_step, whole_function}
use Rattle.reo_grammar.proofs.KeyLemmas.{IsSpelled, key_spelled}
use Rattle.reo_grammar.proofs.RunLemmas.{run-append, run-step}

-- Each step adds its token.
abbrev pub StepAdds : FunctionState → Token → FunctionState → Type 0
StepAdds state token next = function_before next ≡ function_before state ++ token ∷ []

start_word_adds : (bytes : List ℕ) (k : Key) → IsSpelled k bytes → IfSome (start_word k) (StepAdds Start (Word bytes))
start_word_adds bytes key.Neg is = ap (λ b. Word b ∷ []) (sym is)
start_word_adds bytes key.Len is = ap (λ b. Word b ∷ []) (sym is)
start_word_adds bytes key.Map is = ap (λ b. Word b ∷ []) (sym is)
start_word_adds bytes k is = tt

start_adds : (token : Token) → IfSome (function_step Start token) (StepAdds Start token)
start_adds (Word bytes) = start_word_adds bytes (key_of bytes) (key_spelled bytes)
start_adds (Sign Plus) = refl
start_adds (Sign Minus) = refl
start_adds (Sign Star) = refl
start_adds token = tt

number_adds : (operator : Operator) (token : Token) → IfSome (function_step (AfterSign operator) token) (StepAdds (AfterSign operator) token)
number_adds Adds (Number value) = refl
number_adds Subtracts (Number value) = refl
number_adds Multiplies (Number value) = refl
number_adds operator token = tt

map_adds : (token : Token) → IfSome (function_step AfterMap token) (StepAdds AfterMap token)
map_adds (Sign OpenBrace) = refl
map_adds token = tt

first_adds : (pairs : List (Const × Const)) (token : Token) → IfSome (function_step (WantFirst pairs) token) (StepAdds (WantFirst pairs) token)
first_adds [] (Number value) = refl
first_adds [] (Text value) = refl
first_adds [] (Sign CloseBrace) = refl
first_adds (pair ∷ pairs) (Number value) = refl
first_adds (pair ∷ pairs) (Text value) = refl
first_adds pairs token = tt

-- the tokens of pairs and a comma, and one and two more
arrow_adds : (pairs : List (Const × Const)) (first : Const) (token : Token) → IfSome (function_step (HaveFirst pairs first) token) (StepAdds (HaveFirst pairs first) token)
arrow_adds pairs first (Sign Arrow) = ap (λ ts. word key.Map ∷ Sign OpenBrace ∷ ts) (sym (append_assoc (opened pairs) (const_token first ∷ []) (Sign Arrow ∷ [])))
arrow_adds pairs first token = tt

pub further-append : (pairs : List (Const × Const)) (last : Const × Const) → further_tokens (pairs ++ last ∷ []) ≡ further_tokens pairs ++ (Sign Comma ∷ pair_tokens last)
unfolding further_tokens
further-append [] last = ap (λ ts. Sign Comma ∷ ts) (append-nil (pair_tokens last))
further-append (pair ∷ pairs) last = ap (λ ts. Sign Comma ∷ (pair_tokens pair ++ ts)) (further-append pairs last)

pair_adds : (pairs : List (Const × Const)) (first second : Const) → function_before (with_pair pairs (first, second)) ≡ function_before (WantSecond pairs first) ++ const_token second ∷ []
unfolding further_tokens
pair_adds [] first second = refl
pair_adds (pair ∷ pairs) first second =
    ap (λ ts. word key.Map ∷ Sign OpenBrace ∷ (pair_tokens pair ++ ts)) (further-append pairs (first, second)) ∙ again pair (further_tokens pairs)
  where
    again : (p : Const × Const) (inner : List Token)
        → word key.Map ∷ Sign OpenBrace ∷ (pair_tokens p ++ (inner ++ (Sign Comma ∷ pair_tokens (first, second))))
        ≡ word key.Map ∷ Sign OpenBrace ∷ ((((pair_tokens p ++ inner) ++ Sign Comma ∷ []) ++ const_token first ∷ Sign Arrow ∷ []) ++ const_token second ∷ [])
    again p inner = simp append_assoc

second_adds : (pairs : List (Const × Const)) (first : Const) (token : Token) → IfSome (function_step (WantSecond pairs first) token) (StepAdds (WantSecond pairs first) token)
second_adds pairs first (Number value) = pair_adds pairs first (Integer value)
second_adds pairs first (Text value) = pair_adds pairs first (Phrase value)
second_adds pairs first token = tt

pairs_adds : (pair : Const × Const) (pairs : List (Const × Const)) (token : Token) → IfSome (function_step (HavePairs pair pairs) token) (StepAdds (HavePairs pair pairs) token)
pairs_adds pair pairs (Sign Comma) = refl
pairs_adds pair pairs (Sign CloseBrace) = refl
pairs_adds pair pairs token = tt

pub function_adds : (state : FunctionState) (token : Token) → IfSome (function_step state token) (StepAdds state token)
function_adds Start token = start_adds token
function_adds (AfterSign operator) token = number_adds operator token
function_adds AfterMap token = map_adds token
function_adds (WantFirst pairs) token = first_adds pairs token
function_adds (HaveFirst pairs first) token = arrow_adds pairs first token
function_adds (WantSecond pairs first) token = second_adds pairs first token
function_adds (HavePairs pair pairs) token = pairs_adds pair pairs token
function_adds (Over function) token = tt

-- Each state can be finished.
pub map_with : List (Const × Const) → Const × Const → Function
map_with pairs last = Map (pairs ++ last ∷ [])

zero : Const
zero = Integer (pos 0)

pub finished_function : FunctionState → Function
finished_function Start = Neg
finished_function (AfterSign operator) = function_with operator (pos 0)
finished_function AfterMap = Map []
finished_function (WantFirst pairs) = map_with pairs (zero, zero)
finished_function (HaveFirst pairs first) = map_with pairs (first, zero)
finished_function (WantSecond pairs first) = map_with pairs (first, zero)
finished_function (HavePairs pair pairs) = Map (pair ∷ pairs)
finished_function (Over function) = function

pub function_tail : FunctionState → List Token
function_tail Start = word key.Neg ∷ []
function_tail (AfterSign operator) = Number (pos 0) ∷ []
function_tail AfterMap = Sign OpenBrace ∷ Sign CloseBrace ∷ []
function_tail (WantFirst pairs) = Number (pos 0) ∷ Sign Arrow ∷ Number (pos 0) ∷ Sign CloseBrace ∷ []
function_tail (HaveFirst pairs first) = Sign Arrow ∷ Number (pos 0) ∷ Sign CloseBrace ∷ []
function_tail (WantSecond pairs first) = Number (pos 0) ∷ Sign CloseBrace ∷ []
function_tail (HavePairs pair pairs) = Sign CloseBrace ∷ []
function_tail (Over function) = []

-- the tokens of a map with a pair more
map-tokens : (pairs : List (Const × Const)) (first second : Const)
    → function_tokens (map_with pairs (first, second)) ≡ word key.Map ∷ Sign OpenBrace ∷ ((opened pairs ++ const_token first ∷ Sign Arrow ∷ const_token second ∷ []) ++ Sign CloseBrace ∷ [])
unfolding map_with further_tokens
map-tokens [] first second = refl
map-tokens (pair ∷ pairs) first second =
    ap (λ ts. word key.Map ∷ Sign OpenBrace ∷ ((pair_tokens pair ++ ts) ++ Sign CloseBrace ∷ [])) (further-append pairs (first, second)) ∙ again pair (further_tokens pairs)
  where
    again : (p : Const × Const) (inner : List Token)
        → word key.Map ∷ Sign OpenBrace ∷ ((pair_tokens p ++ (inner ++ (Sign Comma ∷ pair_tokens (first, second)))) ++ Sign CloseBrace ∷ [])
        ≡ word key.Map ∷ Sign OpenBrace ∷ ((((pair_tokens p ++ inner) ++ Sign Comma ∷ []) ++ const_token first ∷ Sign Arrow ∷ const_token second ∷ []) ++ Sign CloseBrace ∷ [])
    again p inner = simp append_assoc

pub function_ends : (state : FunctionState) → function_tokens (finished_function state) ≡ function_before state ++ function_tail state
unfolding finished_function function_tail zero
function_ends Start = refl
function_ends (AfterSign Adds) = refl
function_ends (AfterSign Subtracts) = refl
function_ends (AfterSign Multiplies) = refl
function_ends AfterMap = refl
function_ends (WantFirst pairs) = map-tokens pairs zero zero ∙ simp append_assoc
function_ends (HaveFirst pairs first) = map-tokens pairs first zero ∙ simp append_assoc
function_ends (WantSecond pairs first) = map-tokens pairs first zero ∙ simp append_assoc
function_ends (HavePairs pair pairs) = refl
function_ends (Over function) = sym (append-nil (function_tokens function))

pub whole_function-before : (state : FunctionState) → IfSome (whole_function state) (λ function. function_tokens function ≡ function_before state)
whole_function-before (Over function) = refl
whole_function-before state = tt

-- The tokens of a function lead to it.
leads_on : (state next : FunctionState) (token : Token) (tokens : List Token) (end : FunctionState) → function_step state token ≡ Some next
    → run function_step (Some next) tokens ≡ Some end → run function_step (Some state) (token ∷ tokens) ≡ Some end
leads_on state next token tokens end is rest = run-step function_step state next token tokens (Some end) is rest

pub first_step : (pairs : List (Const × Const)) (first : Const) → function_step (WantFirst pairs) (const_token first) ≡ Some (HaveFirst pairs first)
first_step [] (Integer value) = refl
first_step [] (Phrase value) = refl
first_step (pair ∷ pairs) (Integer value) = refl
first_step (pair ∷ pairs) (Phrase value) = refl

pub second_step : (pairs : List (Const × Const)) (first second : Const) → function_step (WantSecond pairs first) (const_token second) ≡ Some (with_pair pairs (first, second))
second_step pairs first (Integer value) = refl
second_step pairs first (Phrase value) = refl

-- a pair, and then the rest
pub reads_pair : (pairs : List (Const × Const)) (pair : Const × Const) (tokens : List Token) (end : FunctionState) → run function_step (Some (with_pair pairs pair)) tokens ≡ Some end
    → run function_step (Some (WantFirst pairs)) (pair_tokens pair ++ tokens) ≡ Some end
reads_pair pairs pair tokens end rest =
    leads_on (WantFirst pairs) (HaveFirst pairs pair.0) (const_token pair.0) (Sign Arrow ∷ const_token pair.1 ∷ tokens) end (first_step pairs pair.0)
    (leads_on (HaveFirst pairs pair.0) (WantSecond pairs pair.0) (Sign Arrow) (const_token pair.1 ∷ tokens) end refl
    (leads_on (WantSecond pairs pair.0) (with_pair pairs pair) (const_token pair.1) tokens end (second_step pairs pair.0 pair.1) rest))

-- pairs lead from pair to pair
leads_further : (pair : Const × Const) (pairs more : List (Const × Const)) → run function_step (Some (HavePairs pair pairs)) (further_tokens more) ≡ Some (HavePairs pair (pairs ++ more))
unfolding further_tokens run
leads_further pair pairs [] = ap (λ ps. Some (HavePairs pair ps)) (sym (append-nil pairs))
leads_further pair pairs (next ∷ more) =
    leads_on (HavePairs pair pairs) (WantFirst (pair ∷ pairs)) (Sign Comma) (pair_tokens next ++ further_tokens more) _ refl
    (reads_pair (pair ∷ pairs) next (further_tokens more) _ (leads_further pair (pairs ++ next ∷ []) more ∙ ap (λ ps. Some (HavePairs pair ps)) (append_assoc pairs (next ∷ []) more)))

pub leads_pairs : (pair : Const × Const) (pairs : List (Const × Const)) → run function_step (Some (WantFirst [])) (pairs_tokens (pair ∷ pairs)) ≡ Some (HavePairs pair pairs)
leads_pairs pair pairs = reads_pair [] pair (further_tokens pairs) _ (leads_further pair [] pairs)

reads_pairs : (pairs : List (Const × Const)) → run function_step (Some (WantFirst [])) (pairs_tokens pairs ++ Sign CloseBrace ∷ []) ≡ Some (Over (Map pairs))
unfolding run
reads_pairs [] = refl
reads_pairs (pair ∷ pairs) =
    run-append function_step (Some (WantFirst [])) (pairs_tokens (pair ∷ pairs)) (Sign CloseBrace ∷ []) ∙ ap (λ s. run function_step s (Sign CloseBrace ∷ [])) (leads_pairs pair pairs)

pub reads_function : (function : Function) → run function_step (Some Start) (function_tokens function) ≡ Some (Over function)
unfolding run key_of
reads_function (Add more) = refl
reads_function (Sub less) = refl
reads_function (Mul factor) = refl
reads_function Neg = refl
reads_function Len = refl
reads_function (Map pairs) = reads_pairs pairs
