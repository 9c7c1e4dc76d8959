-- Atoms, read part by part.
use Rattle.std.proofs.Common.{◌≡◌, ◌≢◌, ℕ, ℤ, false, List, [], ◌∷◌, ◌++◌, Option, Some, None, IfSome, is_none, unwrap_or, refl, sym, ap, subst, ◌∙◌, append_assoc}
use Rattle.std.specs.Prelude.{Result, Ok, Err}
use Rattle.std.specs.Result.{IfOk, IfErr}
use Rattle.std.specs.Option.{option_map, option_and_then}
use Rattle.std.proofs.lemmas.Bool.{false≢true}
use Rattle.std.proofs.lemmas.Option.{none-some, same_Some}
use Rattle.reo_token.specs.declared.token.Symbol.{Symbol}
use Rattle.reo_token.specs.declared.token.Symbol.TheVariants.{Equal, NotEqual, Less, LessOrEqual, Greater, GreaterOrEqual}
use Rattle.reo_guard.specs.declared.guard.Cmp.{Cmp}
use Rattle.reo_guard.specs.declared.guard.Cmp.TheVariants.{Eq, Ne, Lt, Le, Gt, Ge}
use Rattle.reo_guard.specs.declared.guard.Guard as numbered
use Rattle.reo_guard.specs.declared.guard.Guard.TheVariants as guard
use Rattle.reo_value.specs.declared.value.Value.{Value}
use Rattle.reo_grammar.specs.declared.key.Key.{Key}
use Rattle.reo_grammar.specs.declared.key.Key.TheVariants as key
use Rattle.reo_grammar.specs.Key.{key_of}
use Rattle.reo_grammar.specs.Token.{Token, Word, Number, Text, Sign, const_token, word}
use Rattle.reo_grammar.specs.Guards.{Compare, Mod, IsInt, IsText, LenAtMost, Starts, sign_of}
use Rattle.reo_grammar.specs.Machine.Run.{run, IsStuck}
use Rattle.reo_grammar.specs.Machine.Guards.{Part, AfterX, AfterCmp, AfterMod, AfterDivisor, AfterEqual, AfterIs, AfterLen, AfterAtMost, AfterStarts, part_tokens, More, cmp_of, token_key, at_x_word, at_is, part_step, FactorPlace, Within, with_progress, guard_step, whole_guard}
use Rattle.reo_sentence.specs.declared.cursor.Cursor.{Cursor}
use Rattle.reo_sentence.specs.declared.stop.Stop.{Stop}
use Rattle.reo_sentence.specs.declared.stop.Stop.TheVariants as stop
use Rattle.reo_sentence.specs.Limits.{small_remainder, small_length}
use Rattle.reo_sentence.specs.Numbered.{mod_guard}
use Rattle.reo_sentence.specs.Reading.{left, next_key, next_symbol, next_number, next_text, next_const, Takes, Advances, Goes, Notes, Reads, ReadsText, ReadsConst, Refuses}
use Rattle.reo_sentence.specs.GuardReading.{Completes, StopsIn}
use Rattle.reo_sentence.proofs.ReadingLemmas.{symbol_taken, Goes-left, Goes-one, Halts-behind, Reads-then_as, Reads-behind, Reads-noted, notes_nothing, no_more}

pub IfOk-with : {V E : Type 0} (result : Result V E) (P Q : V → Type 0) → ((v : V) → P v → Q v) → IfOk result P → IfOk result Q
IfOk-with (Ok v) P Q f p = f v p
IfOk-with (Err e) P Q f p = tt

pub IfErr-with : {V E : Type 0} (result : Result V E) (P Q : E → Type 0) → ((e : E) → P e → Q e) → IfErr result P → IfErr result Q
IfErr-with (Ok v) P Q f p = tt
IfErr-with (Err e) P Q f p = f e p

-- The part has no step with what comes next.
abbrev pub IsStuckPart : Part → List Token → Type 0
IsStuckPart part [] = Unit {0}
IsStuckPart part (token ∷ tokens) = part_step part token ≡ None

stuck_part : (place : FactorPlace) (part : Part) (tokens : List Token) → IsStuckPart part tokens → IsStuck guard_step whole_guard (Within place part) tokens
stuck_part place part [] stuck = refl
stuck_part place part (token ∷ tokens) stuck = ap (option_map (with_progress place)) stuck

-- the reader stops where it stands
pub stops_here : (part : Part) (old new : Cursor) (e : Stop) → e ≡ stop.Syntax → Goes old new [] → IsStuckPart part (left old) → StopsIn part old new e
unfolding run
stops_here part old new e is goes stuck =
    subst (StopsIn part old new) (sym is)
    (λ place. record {
      front = [];
      goes = goes;
      state = Within place part;
      led = refl;
      stuck = stuck_part place part (left new) (subst (IsStuckPart part) (Goes-left old new [] goes) stuck);
    })

pub stops_refused : (part : Part) (old new : Cursor) (asked : Type 0) (e : Stop) → Refuses old new asked e → (asked → IsStuckPart part (left old)) → StopsIn part old new e
stops_refused part old new asked stop.Syntax refuses stuck = stops_here part old new stop.Syntax refl refuses.0 (stuck refuses.1)
stops_refused part old new asked stop.NoMemory refuses stuck = λ place. tt

-- or behind a token more
pub stops_behind : (part next : Part) (old middle new : Cursor) (token : Token) (e : Stop) → Takes old middle token → part_step part token ≡ Some (More next) → StopsIn next middle new e
    → StopsIn part old new e
unfolding run
stops_behind part next old middle new token stop.NoMemory takes is stops = λ place. tt
stops_behind part next old middle new token stop.Syntax takes is stops = λ place.
    Halts-behind guard_step whole_guard (Within place part) (Within place next) old middle new (token ∷ []) (Goes-one old middle token takes) (ap (option_map (with_progress place)) is) (stops place)

pub completes_behind : (part next : Part) (old middle new : Cursor) (known texts : List (List ℕ)) (token : Token) (made : numbered.Guard) → part_tokens next ≡ part_tokens part ++ token ∷ []
    → Takes old middle token → Completes next middle new known texts made → Completes part old new known texts made
completes_behind part next old middle new known texts token made is takes completes = record {
  atom = completes.atom;
  front = token ∷ completes.front;
  whole = sym (append_assoc (part_tokens part) (token ∷ []) completes.front) ∙ ap (λ ts. ts ++ completes.front) (sym is) ∙ completes.whole;
  reads = Reads-behind old middle new known texts token completes.front _ _ _ made takes completes.reads;
}

-- Behind x.
pub stuck_x : (tokens : List Token) → next_key tokens ≢ key.Mod → None ≡ option_and_then cmp_of (next_symbol tokens) → IsStuckPart AfterX tokens
stuck_x [] differs none = tt
stuck_x (Word bytes ∷ tokens) differs none = by (key_of bytes) differs
  where
    by : (k : Key) → k ≢ key.Mod → at_x_word k ≡ None
    by key.Mod differs = absurd (differs refl)
    by k differs = refl
stuck_x (Number value ∷ tokens) differs none = refl
stuck_x (Text value ∷ tokens) differs none = refl
stuck_x (Sign symbol ∷ tokens) differs none = ap (option_map (λ cmp. More (AfterCmp cmp))) (sym none)

-- a symbol that compares is that of its comparison
pub sign_is : (symbol : Symbol) (cmp : Cmp) → cmp_of symbol ≡ Some cmp → symbol ≡ sign_of cmp
sign_is Equal cmp is = ap sign_of (same_Some Eq cmp is)
sign_is NotEqual cmp is = ap sign_of (same_Some Ne cmp is)
sign_is Less cmp is = ap sign_of (same_Some Lt cmp is)
sign_is LessOrEqual cmp is = ap sign_of (same_Some Le cmp is)
sign_is Greater cmp is = ap sign_of (same_Some Gt cmp is)
sign_is GreaterOrEqual cmp is = ap sign_of (same_Some Ge cmp is)
sign_is symbol cmp is = absurd (none-some cmp is)

pub cmp_step : (cmp : Cmp) → part_step AfterX (Sign (sign_of cmp)) ≡ Some (More (AfterCmp cmp))
cmp_step Eq = refl
cmp_step Ne = refl
cmp_step Lt = refl
cmp_step Le = refl
cmp_step Gt = refl
cmp_step Ge = refl

pub completes_compare : (old new : Cursor) (known texts : List (List ℕ)) (cmp : Cmp) (value : Value) → ReadsConst old new known texts value
    → Completes (AfterCmp cmp) old new known texts (guard.Compare cmp value)
completes_compare old new known texts cmp value reads = record {
  atom = Compare cmp reads.constant;
  front = const_token reads.constant ∷ [];
  whole = refl;
  reads = Reads-then_as old new known texts (const_token reads.constant ∷ []) _ _ _ (guard.Compare cmp) value reads.reads;
}

pub stuck_const : (cmp : Cmp) (tokens : List Token) → next_const tokens ≡ None → IsStuckPart (AfterCmp cmp) tokens
stuck_const cmp [] none = tt
stuck_const cmp (token ∷ tokens) none = ap (option_map _) none

pub mod_step : part_step AfterX (word key.Mod) ≡ Some (More AfterMod)
unfolding key_of
mod_step = refl

-- the symbol of a comparison was taken
pub cmp_taken : (old new : Cursor) (cmp : Cmp) → Some cmp ≡ option_and_then cmp_of (next_symbol (left old)) → Advances old new → Takes old new (Sign (sign_of cmp))
cmp_taken old new cmp is advances = by (next_symbol (left old)) refl is
  where
    by : (symbol : Option Symbol) → next_symbol (left old) ≡ symbol → Some cmp ≡ option_and_then cmp_of symbol → Takes old new (Sign (sign_of cmp))
    by None none is = absurd (none-some cmp (sym is))
    by (Some symbol) some is = subst (λ s. Takes old new (Sign s)) (sign_is symbol cmp (sym is)) (symbol_taken old new symbol (sym some) advances)

-- Behind mod.
pub stuck_divisor : (tokens : List Token) → next_number tokens ≡ None → IsStuckPart AfterMod tokens
stuck_divisor [] none = tt
stuck_divisor (token ∷ tokens) none = ap (option_map _) none

pub stuck_equal : (divisor : ℤ) (tokens : List Token) → next_symbol tokens ≢ Some Equal → IsStuckPart (AfterDivisor divisor) tokens
stuck_equal divisor [] differs = tt
stuck_equal divisor (Word bytes ∷ tokens) differs = refl
stuck_equal divisor (Number value ∷ tokens) differs = refl
stuck_equal divisor (Text value ∷ tokens) differs = refl
stuck_equal divisor (Sign Equal ∷ tokens) differs = absurd (differs refl)
stuck_equal divisor (Sign symbol ∷ tokens) differs = refl

pub stuck_remainder : (divisor : ℤ) (tokens : List Token) → next_number tokens ≡ None → IsStuckPart (AfterEqual divisor) tokens
stuck_remainder divisor [] none = tt
stuck_remainder divisor (token ∷ tokens) none = ap (option_map _) none

mod_value : (parts : Option (ℕ × ℕ)) (made : numbered.Guard) → is_none parts ≡ false → IfSome parts (λ p. made ≡ guard.Mod p.0 p.1) → made ≡ mod_guard parts
mod_value None made some is = absurd (false≢true (sym some))
mod_value (Some parts) made some is = is

pub completes_mod : (old new last : Cursor) (known : List (List ℕ)) (divisor remainder : ℤ) (parts : Option (ℕ × ℕ)) (made : numbered.Guard) → Takes old new (Number remainder)
    → parts ≡ small_remainder divisor remainder → Notes new last (is_none parts) false → IfSome parts (λ p. made ≡ guard.Mod p.0 p.1) → Completes (AfterEqual divisor) old last known known made
completes_mod old new last known divisor remainder parts made takes is notes value = record {
  atom = Mod divisor remainder;
  front = Number remainder ∷ [];
  whole = refl;
  reads =
      Reads-noted old new last known known (Number remainder) (is_none parts) false _ false _ made takes notes (ap is_none is) refl
      (λ some l. ap (λ g. (known, g)) (sym (mod_value parts made some value ∙ ap mod_guard is))) (no_more known);
}

-- Behind is.
pub stuck_is : (tokens : List Token) → next_key tokens ≢ key.Int → next_key tokens ≢ key.Text → IsStuckPart AfterIs tokens
stuck_is [] not_int not_text = tt
stuck_is (token ∷ tokens) not_int not_text = by (token_key token) not_int not_text
  where
    by : (k : Key) → k ≢ key.Int → k ≢ key.Text → at_is k ≡ None
    by key.Int not_int not_text = absurd (not_int refl)
    by key.Text not_int not_text = absurd (not_text refl)
    by k not_int not_text = refl

pub plain_reads : {V : Type 0} (old new : Cursor) (known : List (List ℕ)) (token : Token) (value : V) → Takes old new token → Reads old new known known (token ∷ []) false false (λ texts. (texts, value)) value
plain_reads old new known token value takes = Reads-noted old new new known known token false false false false _ value takes (nothing new) refl refl (λ w l. refl) (no_more known)
  where
    nothing : (cursor : Cursor) → Notes cursor cursor false false
    nothing cursor = notes_nothing cursor

pub completes_int : (old new : Cursor) (known : List (List ℕ)) → Takes old new (word key.Int) → Completes AfterIs old new known known guard.IsInt
completes_int old new known takes = record { atom = IsInt; front = word key.Int ∷ []; whole = refl; reads = plain_reads old new known (word key.Int) guard.IsInt takes }

pub completes_text : (old new : Cursor) (known : List (List ℕ)) → Takes old new (word key.Text) → Completes AfterIs old new known known guard.IsText
completes_text old new known takes = record { atom = IsText; front = word key.Text ∷ []; whole = refl; reads = plain_reads old new known (word key.Text) guard.IsText takes }

-- Behind len.
pub stuck_at_most : (tokens : List Token) → next_symbol tokens ≢ Some LessOrEqual → IsStuckPart AfterLen tokens
stuck_at_most [] differs = tt
stuck_at_most (Word bytes ∷ tokens) differs = refl
stuck_at_most (Number value ∷ tokens) differs = refl
stuck_at_most (Text value ∷ tokens) differs = refl
stuck_at_most (Sign LessOrEqual ∷ tokens) differs = absurd (differs refl)
stuck_at_most (Sign symbol ∷ tokens) differs = refl

pub stuck_length : (tokens : List Token) → next_number tokens ≡ None → IsStuckPart AfterAtMost tokens
stuck_length [] none = tt
stuck_length (token ∷ tokens) none = ap (option_map _) none

most_value : (most : Option ℕ) (made : numbered.Guard) → is_none most ≡ false → IfSome most (λ n. made ≡ guard.LenAtMost n) → made ≡ guard.LenAtMost (unwrap_or most 0)
most_value None made some is = absurd (false≢true (sym some))
most_value (Some n) made some is = is

pub completes_length : (old new last : Cursor) (known : List (List ℕ)) (value : ℤ) (most : Option ℕ) (made : numbered.Guard) → Takes old new (Number value)
    → most ≡ small_length value → Notes new last (is_none most) false → IfSome most (λ n. made ≡ guard.LenAtMost n) → Completes AfterAtMost old last known known made
completes_length old new last known value most made takes is notes given = record {
  atom = LenAtMost value;
  front = Number value ∷ [];
  whole = refl;
  reads =
      Reads-noted old new last known known (Number value) (is_none most) false _ false _ made takes notes (ap is_none is) refl
      (λ some l. ap (λ g. (known, g)) (sym (most_value most made some given ∙ ap (λ m. guard.LenAtMost (unwrap_or m 0)) is))) (no_more known);
}

-- Behind starts.
pub stuck_text : (tokens : List Token) → next_text tokens ≡ None → IsStuckPart AfterStarts tokens
stuck_text [] none = tt
stuck_text (token ∷ tokens) none = ap (option_map _) none

pub completes_starts : (old new : Cursor) (known texts : List (List ℕ)) (number : ℕ) → ReadsText old new known texts number → Completes AfterStarts old new known texts (guard.Starts number)
completes_starts old new known texts number reads = record {
  atom = Starts reads.text;
  front = Text reads.text ∷ [];
  whole = refl;
  reads = Reads-then_as old new known texts (Text reads.text ∷ []) _ _ _ guard.Starts number reads.reads;
}
