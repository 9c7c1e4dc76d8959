-- Functions, read part by part.
use Rattle.std.proofs.Common.{◌≡◌, ◌≢◌, ℕ, ℤ, Bool, true, false, ◌||◌, List, [], ◌∷◌, ◌++◌, Some, None, refl, sym, ap, subst, ◌∙◌, append_assoc}
use Rattle.std.proofs.lemmas.Bool.{false≢true}
use Rattle.std.proofs.lemmas.Option.{none-some}
use Rattle.std.specs.Option.{option_map}
use Rattle.reo_token.specs.declared.token.Symbol.TheVariants.{Plus, Minus, Star, OpenBrace, CloseBrace, Comma, Arrow}
use Rattle.reo_value.specs.declared.value.Value.{Value}
use Rattle.reo_guard.specs.declared.fun.Fun.{Fun}
use Rattle.reo_guard.specs.declared.fun.Fun.TheVariants as fun
use Rattle.reo_grammar.specs.declared.key.Key.{Key}
use Rattle.reo_grammar.specs.declared.key.Key.TheVariants as key
use Rattle.reo_grammar.specs.Key.{key_of}
use Rattle.reo_grammar.specs.Token.{Token, Word, Number, Text, Sign, Const, const_token, word}
use Rattle.reo_grammar.specs.Functions.{Add, Sub, Mul, Neg, Len, Map, pair_tokens, further_tokens, pairs_tokens}
use Rattle.reo_grammar.specs.Machine.Run.{run, IsStuck}
use Rattle.reo_grammar.specs.Machine.Functions.{Operator, Adds, Subtracts, Multiplies, sign_of, FunctionState, Start, AfterSign, AfterMap, WantFirst, HaveFirst, WantSecond, HavePairs, start_word, function_step, whole_function}
use Rattle.reo_grammar.proofs.RunLemmas.{run-step}
use Rattle.reo_grammar.proofs.FunctionMachine.{further-append, leads_pairs}
use Rattle.reo_sentence.specs.declared.cursor.Cursor.{Cursor}
use Rattle.reo_sentence.specs.declared.stop.Stop.{Stop}
use Rattle.reo_sentence.specs.declared.stop.Stop.TheVariants as stop
use Rattle.reo_sentence.specs.Limits.{is_wide_const, is_long_const, are_wide_pairs, are_long_pairs}
use Rattle.reo_sentence.specs.Numbered.{Numbering, in_turn, numbered_const, numbered_pair, numbered_pairs}
use Rattle.reo_sentence.specs.Reading.{left, next_key, next_symbol, next_number, next_const, Takes, Goes, Reads, ReadsNumber, ReadsConst, Refuses}
use Rattle.reo_sentence.specs.FunctionReading.{ReadsFunction, CompletesMap, ReadsPair, ReadsPairs, StopsFunction, MayNotEnd, is_function_key}
use Rattle.reo_sentence.proofs.ReadingLemmas.{Goes-left, Goes-one, Goes-on, Halts-behind, Reads-in_turn, Reads-then_as, Reads-behind, Reads-before, or_false}
use Rattle.reo_sentence.proofs.AtomLemmas.{plain_reads}

-- the same reading, told otherwise
Reads-as : {A B : Type 0} (old new : Cursor) (known texts : List (List ℕ)) (front other : List Token) (wide long wide_is long_is : Bool) (numbers : Numbering A) (numbers_are : Numbering B) (a : A) (b : B)
    → Reads old new known texts front wide long numbers a → front ≡ other → wide ≡ wide_is → long ≡ long_is → (numbers known ≡ (texts, a) → numbers_are known ≡ (texts, b))
    → Reads old new known texts other wide_is long_is numbers_are b
Reads-as old new known texts front other wide long wide_is long_is numbers numbers_are a b reads same_front same_wide same_long same = record {
  goes = subst (Goes old new) same_front reads.goes;
  wide_noted = reads.wide_noted ∙ ap (λ w. old.is_wide || w) same_wide;
  long_noted = reads.long_noted ∙ ap (λ w. old.is_long || w) same_long;
  numbered = λ w l. same (reads.numbered w l);
  few = reads.few;
}

-- Where the reader stops.
pub stops_at : (state : FunctionState) (old new : Cursor) (e : Stop) → e ≡ stop.Syntax → Goes old new [] → IsStuck function_step whole_function state (left old) → StopsFunction state old new e
unfolding run
stops_at state old new e is goes stuck =
    subst (StopsFunction state old new) (sym is)
    (record { front = []; goes = goes; state = state; led = refl; stuck = subst (IsStuck function_step whole_function state) (Goes-left old new [] goes) stuck })

pub stops_refused_at : (state : FunctionState) (old new : Cursor) (asked : Type 0) (e : Stop) → Refuses old new asked e → (asked → IsStuck function_step whole_function state (left old)) → StopsFunction state old new e
stops_refused_at state old new asked stop.Syntax refuses stuck = stops_at state old new stop.Syntax refl refuses.0 (stuck refuses.1)
stops_refused_at state old new asked stop.NoMemory refuses stuck = tt

pub stops_after : (state next : FunctionState) (old middle new : Cursor) (front : List Token) (e : Stop) → Goes old middle front → run function_step (Some state) front ≡ Some next
    → StopsFunction next middle new e → StopsFunction state old new e
stops_after state next old middle new front stop.NoMemory goes led stops = tt
stops_after state next old middle new front stop.Syntax goes led stops = Halts-behind function_step whole_function state next old middle new front goes led stops

-- behind one token
pub led_by : (state next : FunctionState) (token : Token) → function_step state token ≡ Some next → run function_step (Some state) (token ∷ []) ≡ Some next
unfolding run
led_by state next token is = is

pub stops_behind_token : (state next : FunctionState) (old middle new : Cursor) (token : Token) (e : Stop) → Takes old middle token → function_step state token ≡ Some next
    → StopsFunction next middle new e → StopsFunction state old new e
stops_behind_token state next old middle new token e takes is stops = stops_after state next old middle new (token ∷ []) e (Goes-one old middle token takes) (led_by state next token is) stops

-- the reader of a pair stops where the machine is stuck, behind whatever pairs
abbrev pub StopsPair : Cursor → Cursor → Stop → Type 0
StopsPair old new e = (pairs : List (Const × Const)) → MayNotEnd pairs (left old) → StopsFunction (WantFirst pairs) old new e

-- Where the machine is stuck.
stuck_start_word : (k : Key) → is_function_key k ≡ false → start_word k ≡ None
stuck_start_word key.Neg is = absurd (false≢true (sym is))
stuck_start_word key.Len is = absurd (false≢true (sym is))
stuck_start_word key.Map is = absurd (false≢true (sym is))
stuck_start_word k is = refl

pub stuck_start : (tokens : List Token) → is_function_key (next_key tokens) ≡ false → next_symbol tokens ≢ Some Plus → next_symbol tokens ≢ Some Minus → next_symbol tokens ≢ Some Star
    → IsStuck function_step whole_function Start tokens
stuck_start [] no_word a b c = refl
stuck_start (Word bytes ∷ tokens) no_word a b c = stuck_start_word (key_of bytes) no_word
stuck_start (Number value ∷ tokens) no_word a b c = refl
stuck_start (Text value ∷ tokens) no_word a b c = refl
stuck_start (Sign Plus ∷ tokens) no_word a b c = absurd (a refl)
stuck_start (Sign Minus ∷ tokens) no_word a b c = absurd (b refl)
stuck_start (Sign Star ∷ tokens) no_word a b c = absurd (c refl)
stuck_start (Sign symbol ∷ tokens) no_word a b c = refl

pub stuck_operand : (operator : Operator) (tokens : List Token) → next_number tokens ≡ None → IsStuck function_step whole_function (AfterSign operator) tokens
stuck_operand operator [] none = refl
stuck_operand operator (token ∷ tokens) none = ap (option_map _) none

pub stuck_brace : (tokens : List Token) → next_symbol tokens ≢ Some OpenBrace → IsStuck function_step whole_function AfterMap tokens
stuck_brace [] differs = refl
stuck_brace (Word bytes ∷ tokens) differs = refl
stuck_brace (Number value ∷ tokens) differs = refl
stuck_brace (Text value ∷ tokens) differs = refl
stuck_brace (Sign OpenBrace ∷ tokens) differs = absurd (differs refl)
stuck_brace (Sign symbol ∷ tokens) differs = refl

pub stuck_first : (pairs : List (Const × Const)) (tokens : List Token) → MayNotEnd pairs tokens → next_const tokens ≡ None → IsStuck function_step whole_function (WantFirst pairs) tokens
stuck_first pairs [] more none = refl
stuck_first (pair ∷ pairs) (token ∷ tokens) more none = ap (option_map _) none
stuck_first [] (Word bytes ∷ tokens) more none = refl
stuck_first [] (Number value ∷ tokens) more none = absurd (none-some _ (sym none))
stuck_first [] (Text value ∷ tokens) more none = absurd (none-some _ (sym none))
stuck_first [] (Sign CloseBrace ∷ tokens) more none = absurd (more refl)
stuck_first [] (Sign symbol ∷ tokens) more none = refl

pub stuck_arrow : (pairs : List (Const × Const)) (first : Const) (tokens : List Token) → next_symbol tokens ≢ Some Arrow → IsStuck function_step whole_function (HaveFirst pairs first) tokens
stuck_arrow pairs first [] differs = refl
stuck_arrow pairs first (Word bytes ∷ tokens) differs = refl
stuck_arrow pairs first (Number value ∷ tokens) differs = refl
stuck_arrow pairs first (Text value ∷ tokens) differs = refl
stuck_arrow pairs first (Sign Arrow ∷ tokens) differs = absurd (differs refl)
stuck_arrow pairs first (Sign symbol ∷ tokens) differs = refl

pub stuck_second : (pairs : List (Const × Const)) (first : Const) (tokens : List Token) → next_const tokens ≡ None → IsStuck function_step whole_function (WantSecond pairs first) tokens
stuck_second pairs first [] none = refl
stuck_second pairs first (token ∷ tokens) none = ap (option_map _) none

pub stuck_pairs : (pair : Const × Const) (pairs : List (Const × Const)) (tokens : List Token) → next_symbol tokens ≢ Some Comma → next_symbol tokens ≢ Some CloseBrace
    → IsStuck function_step whole_function (HavePairs pair pairs) tokens
stuck_pairs pair pairs [] no_comma no_brace = refl
stuck_pairs pair pairs (Word bytes ∷ tokens) no_comma no_brace = refl
stuck_pairs pair pairs (Number value ∷ tokens) no_comma no_brace = refl
stuck_pairs pair pairs (Text value ∷ tokens) no_comma no_brace = refl
stuck_pairs pair pairs (Sign Comma ∷ tokens) no_comma no_brace = absurd (no_comma refl)
stuck_pairs pair pairs (Sign CloseBrace ∷ tokens) no_comma no_brace = absurd (no_brace refl)
stuck_pairs pair pairs (Sign symbol ∷ tokens) no_comma no_brace = refl

-- What was read.
pub reads_neg : (old new : Cursor) (known : List (List ℕ)) → Takes old new (word key.Neg) → ReadsFunction old new known known fun.Neg
reads_neg old new known takes = record { function = Neg; reads = plain_reads old new known (word key.Neg) fun.Neg takes }

pub reads_len : (old new : Cursor) (known : List (List ℕ)) → Takes old new (word key.Len) → ReadsFunction old new known known fun.Len
reads_len old new known takes = record { function = Len; reads = plain_reads old new known (word key.Len) fun.Len takes }

-- what an operator makes of its number
abbrev pub made_with : Operator → ℤ → Fun
made_with Adds number = fun.Add number
made_with Subtracts number = fun.Sub number
made_with Multiplies number = fun.Mul number

pub reads_operator : (operator : Operator) (old middle new : Cursor) (known : List (List ℕ)) (number : ℤ) → Takes old middle (Sign (sign_of operator)) → ReadsNumber middle new known number
    → ReadsFunction old new known known (made_with operator number)
reads_operator Adds old middle new known number takes reads = record {
  function = Add reads.value;
  reads = Reads-behind old middle new known known (Sign Plus) (Number reads.value ∷ []) _ _ _ (fun.Add number) takes (Reads-then_as middle new known known _ _ _ (λ texts. (texts, reads.value)) fun.Add number reads.reads);
}
reads_operator Subtracts old middle new known number takes reads = record {
  function = Sub reads.value;
  reads = Reads-behind old middle new known known (Sign Minus) (Number reads.value ∷ []) _ _ _ (fun.Sub number) takes (Reads-then_as middle new known known _ _ _ (λ texts. (texts, reads.value)) fun.Sub number reads.reads);
}
reads_operator Multiplies old middle new known number takes reads = record {
  function = Mul reads.value;
  reads = Reads-behind old middle new known known (Sign Star) (Number reads.value ∷ []) _ _ _ (fun.Mul number) takes (Reads-then_as middle new known known _ _ _ (λ texts. (texts, reads.value)) fun.Mul number reads.reads);
}

pub operator_step : (operator : Operator) → function_step Start (Sign (sign_of operator)) ≡ Some (AfterSign operator)
operator_step Adds = refl
operator_step Subtracts = refl
operator_step Multiplies = refl

pub map_step : function_step Start (word key.Map) ≡ Some AfterMap
unfolding key_of
map_step = refl

pub reads_map : (old middle new : Cursor) (known texts : List (List ℕ)) (made : Fun) → Takes old middle (word key.Map) → CompletesMap middle new known texts made → ReadsFunction old new known texts made
reads_map old middle new known texts made takes map = record {
  function = Map map.pairs;
  reads = Reads-behind old middle new known texts (word key.Map) _ _ _ _ made takes map.reads;
}

pub reads_pair : (old first arrow new : Cursor) (known between texts : List (List ℕ)) (a b : Value) → ReadsConst old first known between a → Takes first arrow (Sign Arrow)
    → ReadsConst arrow new between texts b → ReadsPair old new known texts (a, b)
reads_pair old first arrow new known between texts a b one takes other = record {
  pair = (one.constant, other.constant);
  reads =
      Reads-in_turn old first new known between texts (const_token one.constant ∷ []) (Sign Arrow ∷ const_token other.constant ∷ []) _ _ _ _ (numbered_const one.constant) (numbered_const other.constant) (λ x y. (x, y)) a b one.reads
      (Reads-behind first arrow new between texts (Sign Arrow) (const_token other.constant ∷ []) _ _ _ b takes other.reads);
}

pub pairs_one : (old new : Cursor) (known texts : List (List ℕ)) (value : Value × Value) → ReadsPair old new known texts value → ReadsPairs old new known texts (value ∷ [])
unfolding further_tokens are_wide_pairs are_long_pairs numbered_pairs
pairs_one old new known texts value one = record {
  first = one.pair;
  more = [];
  reads =
      Reads-as old new known texts (pair_tokens one.pair) _ _ _ _ _ (numbered_pair one.pair) (numbered_pairs (one.pair ∷ [])) value (value ∷ []) one.reads refl (sym (or_false _)) (sym (or_false _))
      (λ is. ap (λ r. (r.0, r.1 ∷ [])) is);
}

wide-push : (pairs : List (Const × Const)) (last : Const × Const) → (are_wide_pairs pairs || (is_wide_const last.0 || is_wide_const last.1)) ≡ are_wide_pairs (pairs ++ last ∷ [])
unfolding are_wide_pairs
wide-push [] last = sym (or_false _)
wide-push (pair ∷ pairs) last = again (is_wide_const pair.0 || is_wide_const pair.1) (are_wide_pairs pairs) _ ∙ ap (λ w. (is_wide_const pair.0 || is_wide_const pair.1) || w) (wide-push pairs last)
  where
    again : (a b c : Bool) → ((a || b) || c) ≡ (a || (b || c))
    again true b c = refl
    again false b c = refl

long-push : (pairs : List (Const × Const)) (last : Const × Const) → (are_long_pairs pairs || (is_long_const last.0 || is_long_const last.1)) ≡ are_long_pairs (pairs ++ last ∷ [])
unfolding are_long_pairs
long-push [] last = sym (or_false _)
long-push (pair ∷ pairs) last = again (is_long_const pair.0 || is_long_const pair.1) (are_long_pairs pairs) _ ∙ ap (λ w. (is_long_const pair.0 || is_long_const pair.1) || w) (long-push pairs last)
  where
    again : (a b c : Bool) → ((a || b) || c) ≡ (a || (b || c))
    again true b c = refl
    again false b c = refl

numbered-push : (pairs : List (Const × Const)) (last : Const × Const) (known : List (List ℕ))
    → in_turn (numbered_pairs pairs) (numbered_pair last) (λ values value. values ++ value ∷ []) known ≡ numbered_pairs (pairs ++ last ∷ []) known
unfolding numbered_pairs
numbered-push [] last known = refl
numbered-push (pair ∷ pairs) last known = ap (λ r. (r.0, (numbered_pair pair known).1 ∷ r.1)) (numbered-push pairs last (numbered_pair pair known).0)

pub pairs_more : (old middle next new : Cursor) (known between texts : List (List ℕ)) (values : List (Value × Value)) (value : Value × Value) → ReadsPairs old middle known between values
    → Takes middle next (Sign Comma) → ReadsPair next new between texts value → ReadsPairs old new known texts (values ++ value ∷ [])
pairs_more old middle next new known between texts values value some takes one = record {
  first = some.first;
  more = some.more ++ one.pair ∷ [];
  reads =
      Reads-as old new known texts (pairs_tokens (some.first ∷ some.more) ++ (Sign Comma ∷ pair_tokens one.pair)) _ _ _ _ _ (in_turn (numbered_pairs (some.first ∷ some.more)) (numbered_pair one.pair) (λ vs v. vs ++ v ∷ [])) (numbered_pairs (some.first ∷ (some.more ++ one.pair ∷ []))) (values ++ value ∷ []) (values ++ value ∷ [])
      (Reads-in_turn old middle new known between texts (pairs_tokens (some.first ∷ some.more)) (Sign Comma ∷ pair_tokens one.pair) _ _ _ _ (numbered_pairs (some.first ∷ some.more)) (numbered_pair one.pair) (λ vs v. vs ++ v ∷ []) values value some.reads
      (Reads-behind middle next new between texts (Sign Comma) (pair_tokens one.pair) _ _ _ value takes one.reads))
      (append_assoc (pair_tokens some.first) (further_tokens some.more) (Sign Comma ∷ pair_tokens one.pair) ∙ ap (λ ts. pair_tokens some.first ++ ts) (sym (further-append some.more one.pair)))
      (wide-push (some.first ∷ some.more) one.pair) (long-push (some.first ∷ some.more) one.pair) (λ is. sym (numbered-push (some.first ∷ some.more) one.pair known) ∙ is);
}

-- pairs behind an opening brace
pub record Opened (old new : Cursor) (known texts : List (List ℕ)) (values : List (Value × Value)) : Type 0 where
  pub brace : Cursor
  pub opens : Takes old brace (Sign OpenBrace)
  pub pairs : ReadsPairs brace new known texts values

pub completes_map : (old last new : Cursor) (known texts : List (List ℕ)) (values : List (Value × Value)) → Opened old last known texts values → Takes last new (Sign CloseBrace)
    → CompletesMap old new known texts (fun.Map values)
completes_map old last new known texts values opened closes = record {
  pairs = opened.pairs.first ∷ opened.pairs.more;
  reads =
      Reads-behind old opened.brace new known texts (Sign OpenBrace) (pairs_tokens (opened.pairs.first ∷ opened.pairs.more) ++ Sign CloseBrace ∷ []) _ _ _ (fun.Map values) opened.opens
      (Reads-before opened.brace last new known texts (pairs_tokens (opened.pairs.first ∷ opened.pairs.more)) (Sign CloseBrace) _ _ _ (fun.Map values)
      (Reads-then_as opened.brace last known texts _ _ _ (numbered_pairs (opened.pairs.first ∷ opened.pairs.more)) fun.Map values opened.pairs.reads) closes);
}

pub completes_empty : (old brace new : Cursor) (known : List (List ℕ)) → Takes old brace (Sign OpenBrace) → Takes brace new (Sign CloseBrace) → CompletesMap old new known known (fun.Map [])
unfolding are_wide_pairs are_long_pairs numbered_pairs
completes_empty old brace new known opens closes = record {
  pairs = [];
  reads = Reads-behind old brace new known known (Sign OpenBrace) (Sign CloseBrace ∷ []) _ _ _ (fun.Map []) opens (plain_reads brace new known (Sign CloseBrace) (fun.Map []) closes);
}

-- the pairs lead the machine to where they have come
opened-led : (pair : Const × Const) (pairs : List (Const × Const)) → run function_step (Some AfterMap) (Sign OpenBrace ∷ pairs_tokens (pair ∷ pairs)) ≡ Some (HavePairs pair pairs)
opened-led pair pairs = run-step function_step AfterMap (WantFirst []) (Sign OpenBrace) (pairs_tokens (pair ∷ pairs)) (Some (HavePairs pair pairs)) refl (leads_pairs pair pairs)

Opened-goes : (old new : Cursor) (known texts : List (List ℕ)) (values : List (Value × Value)) (opened : Opened old new known texts values)
    → Goes old new (Sign OpenBrace ∷ pairs_tokens (opened.pairs.first ∷ opened.pairs.more))
Opened-goes old new known texts values opened =
    Goes-on old opened.brace new (Sign OpenBrace ∷ []) (pairs_tokens (opened.pairs.first ∷ opened.pairs.more)) (Goes-one old opened.brace (Sign OpenBrace) opened.opens) opened.pairs.reads.goes

-- the machine is stuck in the next pair
pub stops_in_pair : (old middle next new : Cursor) (known texts : List (List ℕ)) (values : List (Value × Value)) (e : Stop) → Opened old middle known texts values → Takes middle next (Sign Comma)
    → ((pairs : List (Const × Const)) → MayNotEnd pairs (left next) → StopsFunction (WantFirst pairs) next new e) → StopsFunction AfterMap old new e
stops_in_pair old middle next new known texts values e opened takes stops =
    stops_after AfterMap (HavePairs opened.pairs.first opened.pairs.more) old middle new (Sign OpenBrace ∷ pairs_tokens (opened.pairs.first ∷ opened.pairs.more)) e (Opened-goes old middle known texts values opened) (opened-led opened.pairs.first opened.pairs.more)
    (stops_behind_token (HavePairs opened.pairs.first opened.pairs.more) (WantFirst (opened.pairs.first ∷ opened.pairs.more)) middle next new (Sign Comma) e takes refl (stops (opened.pairs.first ∷ opened.pairs.more) tt))

-- or behind the last one
pub stops_unclosed : (old middle new : Cursor) (known texts : List (List ℕ)) (values : List (Value × Value)) (e : Stop) → Opened old middle known texts values → e ≡ stop.Syntax
    → Goes middle new [] → next_symbol (left middle) ≢ Some Comma → next_symbol (left middle) ≢ Some CloseBrace → StopsFunction AfterMap old new e
stops_unclosed old middle new known texts values e opened is goes no_comma no_brace =
    stops_after AfterMap (HavePairs opened.pairs.first opened.pairs.more) old middle new (Sign OpenBrace ∷ pairs_tokens (opened.pairs.first ∷ opened.pairs.more)) e (Opened-goes old middle known texts values opened) (opened-led opened.pairs.first opened.pairs.more)
    (stops_at (HavePairs opened.pairs.first opened.pairs.more) middle new e is goes (stuck_pairs opened.pairs.first opened.pairs.more (left middle) no_comma no_brace))

pub not_function : (k : Key) → k ≢ key.Neg → k ≢ key.Len → k ≢ key.Map → is_function_key k ≡ false
not_function key.Neg a b c = absurd (a refl)
not_function key.Len a b c = absurd (b refl)
not_function key.Map a b c = absurd (c refl)
not_function k a b c = refl
