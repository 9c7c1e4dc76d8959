-- What stands behind a channel's nodes, kind by kind.
use Rattle.std.proofs.Common.{arith, ◌≡◌, ◌≢◌, ℕ, false, List, [], ◌∷◌, Option, Some, None, refl, sym, ap, subst, ◌∙◌}
use Rattle.std.specs.Option.{option_map}
use Rattle.std.proofs.lemmas.Bool.{false≢true}
use Rattle.reo_value.specs.declared.value.Value.{Value}
use Rattle.reo_net.specs.declared.kind.Kind.TheVariants as kind
use Rattle.reo_guard.specs.declared.guard.Guard as numbered
use Rattle.reo_guard.specs.declared.fun.Fun.{Fun}
use Rattle.reo_token.specs.declared.token.Symbol.TheVariants.{Close}
use Rattle.reo_grammar.specs.declared.key.Key.{Key}
use Rattle.reo_grammar.specs.declared.key.Key.TheVariants as key
use Rattle.reo_grammar.specs.Key.{key_of}
use Rattle.reo_grammar.specs.Token.{Token, Word, Number, Text, Sign, Const, Integer, Phrase, const_token, word}
use Rattle.reo_grammar.specs.Guards.{GuardTree, Term, Or, TermTree, guard_tokens, guard_of}
use Rattle.reo_grammar.specs.Functions.{Function, function_tokens}
use Rattle.reo_grammar.specs.Lines.{KindTree, Sync, Lossy, Drain, Fifo, Full, Filter, Transform}
use Rattle.reo_grammar.specs.Machine.Run.{run, IsStuck}
use Rattle.reo_grammar.specs.Machine.Guards.{Top, TermPlace, First, AfterOr, Have, place_around, guard_with, closed, term_word, guard_start, guard_step, whole_guard, have_guard, token_key}
use Rattle.reo_grammar.specs.Machine.Functions.{Start, Over, function_step, whole_function}
use Rattle.reo_grammar.specs.Machine.Lines.{SyncWord, LossyWord, DrainWord, FifoWord, FilterWord, TransformWord, KindState, Whole, WantConst, InGuard, InFunction, fifo_word, kind_step, whole_kind}
use Rattle.reo_grammar.proofs.RunLemmas.{run-map}
use Rattle.reo_grammar.proofs.GuardMachine.{reads_guard, whole_guard-have}
use Rattle.reo_grammar.proofs.FunctionMachine.{reads_function}
use Rattle.reo_sentence.specs.declared.cursor.Cursor.{Cursor}
use Rattle.reo_sentence.specs.declared.stop.Stop.{Stop}
use Rattle.reo_sentence.specs.declared.stop.Stop.TheVariants as stop
use Rattle.reo_sentence.specs.Numbered.{numbered_const, numbered_guard, numbered_function}
use Rattle.reo_sentence.specs.Reading.{left, next_key, next_const, Takes, Reads, ReadsConst, Halts, Refuses}
use Rattle.reo_sentence.specs.GuardReading.{ReadsGuard, StopsGuard, is_joint}
use Rattle.reo_sentence.specs.FunctionReading.{ReadsFunction, StopsFunction}
use Rattle.reo_sentence.specs.LineReading.{NoStep, ReadsKind, StopsKind}
use Rattle.reo_sentence.proofs.ReadingLemmas.{Goes-left, Goes-one, Goes-here, Halts-behind, Reads-then_as, Reads-behind, or_false}

reads_nothing : {V : Type 0} (cursor : Cursor) (known : List (List ℕ)) (value : V) → Reads cursor cursor known known [] false false (λ texts. (texts, value)) value
reads_nothing cursor known value = record {
  goes = Goes-here cursor;
  wide_noted = sym (or_false cursor.is_wide);
  long_noted = sym (or_false cursor.is_long);
  numbered = λ w l. refl;
  few = omega arith;
}

sync_none : (tokens : List Token) → NoStep kind_step (Whole Sync) tokens
sync_none [] = tt
sync_none (token ∷ tokens) = refl

lossy_none : (tokens : List Token) → NoStep kind_step (Whole Lossy) tokens
lossy_none [] = tt
lossy_none (token ∷ tokens) = refl

drain_none : (tokens : List Token) → NoStep kind_step (Whole Drain) tokens
drain_none [] = tt
drain_none (token ∷ tokens) = refl

full_none : (constant : Const) (tokens : List Token) → NoStep kind_step (Whole (Full constant)) tokens
full_none constant [] = tt
full_none constant (token ∷ tokens) = refl

fifo_none : (tokens : List Token) → next_key tokens ≢ key.Full → NoStep kind_step (Whole Fifo) tokens
fifo_none [] differs = tt
fifo_none (token ∷ tokens) differs = by (token_key token) differs
  where
    by : (k : Key) → k ≢ key.Full → fifo_word k ≡ None
    by key.Full differs = absurd (differs refl)
    by k differs = refl

pub reads_sync : (cursor : Cursor) (known : List (List ℕ)) → ReadsKind SyncWord cursor cursor known known kind.Sync
unfolding run
reads_sync cursor known = record { tree = Sync; front = []; state = Whole Sync; led = refl; is_whole = refl; reads = reads_nothing cursor known kind.Sync; ended = sync_none (left cursor) }

pub reads_lossy : (cursor : Cursor) (known : List (List ℕ)) → ReadsKind LossyWord cursor cursor known known kind.Lossy
unfolding run
reads_lossy cursor known = record { tree = Lossy; front = []; state = Whole Lossy; led = refl; is_whole = refl; reads = reads_nothing cursor known kind.Lossy; ended = lossy_none (left cursor) }

pub reads_drain : (cursor : Cursor) (known : List (List ℕ)) → ReadsKind DrainWord cursor cursor known known kind.Drain
unfolding run
reads_drain cursor known = record { tree = Drain; front = []; state = Whole Drain; led = refl; is_whole = refl; reads = reads_nothing cursor known kind.Drain; ended = drain_none (left cursor) }

pub reads_fifo : (cursor : Cursor) (known : List (List ℕ)) → next_key (left cursor) ≢ key.Full → ReadsKind FifoWord cursor cursor known known (kind.Fifo None)
unfolding run
reads_fifo cursor known differs = record {
  tree = Fifo;
  front = [];
  state = Whole Fifo;
  led = refl;
  is_whole = refl;
  reads = reads_nothing cursor known (kind.Fifo None);
  ended = fifo_none (left cursor) differs;
}

led_full : (constant : Const) → run kind_step (Some (Whole Fifo)) (word key.Full ∷ const_token constant ∷ []) ≡ Some (Whole (Full constant))
unfolding run key_of
led_full (Integer value) = refl
led_full (Phrase value) = refl

led_word : run kind_step (Some (Whole Fifo)) (word key.Full ∷ []) ≡ Some WantConst
unfolding run key_of
led_word = refl

pub reads_full : (old middle new : Cursor) (known texts : List (List ℕ)) (value : Value) → Takes old middle (word key.Full) → ReadsConst middle new known texts value
    → ReadsKind FifoWord old new known texts (kind.Fifo (Some value))
reads_full old middle new known texts value takes reads = record {
  tree = Full reads.constant;
  front = word key.Full ∷ const_token reads.constant ∷ [];
  state = Whole (Full reads.constant);
  led = led_full reads.constant;
  is_whole = refl;
  reads =
      Reads-behind old middle new known texts (word key.Full) (const_token reads.constant ∷ []) _ _ _ (kind.Fifo (Some value)) takes
      (Reads-then_as middle new known texts _ _ _ (numbered_const reads.constant) (λ v. kind.Fifo (Some v)) value reads.reads);
  ended = full_none reads.constant (left new);
}

stuck_const : (tokens : List Token) → next_const tokens ≡ None → IsStuck kind_step whole_kind WantConst tokens
stuck_const [] none = refl
stuck_const (token ∷ tokens) none = ap (option_map _) none

pub stops_full : (old middle new : Cursor) (e : Stop) → Takes old middle (word key.Full) → Refuses middle new (next_const (left middle) ≡ None) e → StopsKind FifoWord old new e
unfolding run
stops_full old middle new stop.NoMemory takes refuses = tt
stops_full old middle new stop.Syntax takes refuses =
    Halts-behind kind_step whole_kind (Whole Fifo) WantConst old middle new (word key.Full ∷ []) (Goes-one old middle (word key.Full) takes) led_word
    (record { front = []; goes = refuses.0; state = WantConst; led = refl; stuck = subst (IsStuck kind_step whole_kind WantConst) (Goes-left middle new [] refuses.0) (stuck_const (left middle) refuses.1) })

-- Behind a whole guard nothing goes on but `or` and `and`.
have_none : (place : TermPlace) (term : TermTree) (tokens : List Token) → place_around place ≡ Top → is_joint (next_key tokens) ≡ false → NoStep kind_step (InGuard (Have place term)) tokens
have_none place term [] top no_word = tt
have_none place term (Word bytes ∷ tokens) top no_word = by (key_of bytes) no_word
  where
    by : (k : Key) → is_joint k ≡ false → option_map InGuard (term_word place term k) ≡ None
    by key.Or is = absurd (false≢true (sym is))
    by key.And is = absurd (false≢true (sym is))
    by k is = refl
have_none place term (Number value ∷ tokens) top no_word = refl
have_none place term (Text value ∷ tokens) top no_word = refl
have_none place term (Sign Close ∷ tokens) top no_word = ap (λ g. option_map InGuard (closed g (guard_with place term))) top
have_none place term (Sign symbol ∷ tokens) top no_word = refl

guard_none : (tree : GuardTree) (tokens : List Token) → is_joint (next_key tokens) ≡ false → NoStep kind_step (InGuard (have_guard Top tree)) tokens
guard_none (Term term) tokens no_word = have_none (First Top) term tokens refl no_word
guard_none (Or tree term) tokens no_word = have_none (AfterOr Top tree) term tokens refl no_word

pub reads_filter : (old new : Cursor) (known texts : List (List ℕ)) (made : numbered.Guard) → ReadsGuard old new known texts made → is_joint (next_key (left new)) ≡ false
    → ReadsKind FilterWord old new known texts (kind.Filter made)
reads_filter old new known texts made reads whole = record {
  tree = Filter reads.tree;
  front = guard_tokens reads.tree;
  state = InGuard (have_guard Top reads.tree);
  led = run-map InGuard guard_step kind_step (λ s token. refl) (Some guard_start) (guard_tokens reads.tree) ∙ ap (option_map InGuard) (reads_guard Top reads.tree);
  is_whole = ap (option_map Filter) (whole_guard-have reads.tree);
  reads = Reads-then_as old new known texts (guard_tokens reads.tree) _ _ (numbered_guard (guard_of reads.tree)) kind.Filter made reads.reads;
  ended = guard_none reads.tree (left new) whole;
}

over_none : (f : Function) (tokens : List Token) → NoStep kind_step (InFunction (Over f)) tokens
over_none f [] = tt
over_none f (token ∷ tokens) = refl

pub reads_transform : (old new : Cursor) (known texts : List (List ℕ)) (made : Fun) → ReadsFunction old new known texts made → ReadsKind TransformWord old new known texts (kind.Transform made)
reads_transform old new known texts made reads = record {
  tree = Transform reads.function;
  front = function_tokens reads.function;
  state = InFunction (Over reads.function);
  led = run-map InFunction function_step kind_step (λ s token. refl) (Some Start) (function_tokens reads.function) ∙ ap (option_map InFunction) (reads_function reads.function);
  is_whole = refl;
  reads = Reads-then_as old new known texts (function_tokens reads.function) _ _ (numbered_function reads.function) kind.Transform made reads.reads;
  ended = over_none reads.function (left new);
}

-- what is stuck in a part is stuck
Halts-lift : {S U : Type 0} (f : S → KindState) (g : U → KindTree) (inner : S → Token → Option S) (whole_inner : S → Option U) → ((s : S) (token : Token) → kind_step (f s) token ≡ option_map f (inner s token))
    → ((s : S) → whole_kind (f s) ≡ option_map g (whole_inner s)) → (start : S) (old new : Cursor) → Halts inner whole_inner start old new → Halts kind_step whole_kind (f start) old new
Halts-lift {S} f g inner whole_inner steps wholes start old new halts = record {
  front = halts.front;
  goes = halts.goes;
  state = f halts.state;
  led = run-map f inner kind_step steps (Some start) halts.front ∙ ap (option_map f) halts.led;
  stuck = by (left new) halts.stuck;
}
  where
    by : (tokens : List Token) → IsStuck inner whole_inner halts.state tokens → IsStuck kind_step whole_kind (f halts.state) tokens
    by [] stuck = wholes halts.state ∙ ap (option_map g) stuck
    by (token ∷ tokens) stuck = steps halts.state token ∙ ap (option_map f) stuck

pub stops_filter : (old new : Cursor) (e : Stop) → StopsGuard old new e → StopsKind FilterWord old new e
stops_filter old new stop.NoMemory stops = tt
stops_filter old new stop.Syntax stops = Halts-lift InGuard Filter guard_step whole_guard (λ s token. refl) (λ s. refl) guard_start old new (stops Top)

pub stops_transform : (old new : Cursor) (e : Stop) → StopsFunction Start old new e → StopsKind TransformWord old new e
stops_transform old new stop.NoMemory stops = tt
stops_transform old new stop.Syntax stops = Halts-lift InFunction Transform function_step whole_function (λ s token. refl) (λ s. refl) Start old new stops
