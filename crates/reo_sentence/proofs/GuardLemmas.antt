-- Guards, read rule by rule.
use Rattle.std.proofs.Common.{◌≡◌, ◌≢◌, ℕ, ◌+◌, ◌≤◌, false, List, [], ◌∷◌, ◌++◌, length, Some, None, refl, sym, ap, subst, ◌∙◌, append-nil, length-append, arith}
use Rattle.std.proofs.lemmas.Bool.{false≢true}
use Rattle.reo_token.specs.declared.token.Symbol.TheVariants.{Open, Close}
use Rattle.reo_guard.specs.declared.guard.Guard as numbered
use Rattle.reo_guard.specs.declared.guard.Guard.TheVariants as guard
use Rattle.reo_grammar.specs.declared.key.Key.{Key}
use Rattle.reo_grammar.specs.declared.key.Key.TheVariants as key
use Rattle.reo_grammar.specs.Key.{key_of}
use Rattle.reo_grammar.specs.Token.{Token, Word, Number, Text, Sign, word}
use Rattle.reo_grammar.specs.Guards.{GuardTree, Term, Or, TermTree, Factor, And, Not, Brackets, Only, guard_tokens, term_tokens, factor_tokens, guard_of, term_of, factor_of}
use Rattle.reo_grammar.specs.Machine.Run.{run, IsStuck}
use Rattle.reo_grammar.specs.Machine.Guards.{Part, AfterX, AfterIs, AfterLen, AfterStarts, part_tokens, Bracket, TermPlace, First, AfterOr, FactorPlace, Front, AfterAnd, AfterNot, GuardState, Want, Within, Have, factor_word, term_word, guard_step, whole_guard, guard_at_top, have_guard, place_around, guard_with}
use Rattle.reo_grammar.proofs.GuardMachine.{have_or, and_step, not_step, run-over, run-end, reads_guard, reads_term}
use Rattle.reo_grammar.proofs.RunLemmas.{run-step}
use Rattle.reo_sentence.specs.declared.cursor.Cursor.{Cursor}
use Rattle.reo_sentence.specs.declared.stop.Stop.{Stop}
use Rattle.reo_sentence.specs.declared.stop.Stop.TheVariants as stop
use Rattle.reo_sentence.specs.Limits.{is_wide_guard, is_long_guard}
use Rattle.reo_sentence.specs.Numbered.{numbered_guard}
use Rattle.reo_sentence.specs.Reading.{left, next_key, next_symbol, Takes, Goes, Reads}
use Rattle.reo_sentence.specs.GuardReading.{Completes, ReadsGuard, ReadsTerm, ReadsFactor, StopsIn, StopsFactor, StopsTerm, StopsGuard, is_joint, is_factor_key}
use Rattle.reo_sentence.proofs.ReadingLemmas.{Goes-left, Goes-one, Goes-on, Halts-behind, Reads-in_turn, Reads-then_as, Reads-behind, Reads-before}

-- What was read.
pub reads_Term : (old new : Cursor) (known texts : List (List ℕ)) (made : numbered.Guard) → ReadsTerm old new known texts made → ReadsGuard old new known texts made
unfolding guard_tokens guard_of
reads_Term old new known texts made term = record { tree = Term term.tree; reads = term.reads }

pub reads_Or : (old middle next new : Cursor) (known between texts : List (List ℕ)) (l r : numbered.Guard) → ReadsGuard old middle known between l → Takes middle next (word key.Or)
    → ReadsTerm next new between texts r → ReadsGuard old new known texts (guard.Or l r)
unfolding guard_tokens guard_of is_wide_guard is_long_guard numbered_guard
reads_Or old middle next new known between texts l r first takes second = record {
  tree = Or first.tree second.tree;
  reads =
      Reads-in_turn old middle new known between texts (guard_tokens first.tree) (word key.Or ∷ term_tokens second.tree) _ _ _ _ (numbered_guard (guard_of first.tree)) (numbered_guard (term_of second.tree)) guard.Or l r first.reads
      (Reads-behind middle next new between texts (word key.Or) (term_tokens second.tree) _ _ _ r takes second.reads);
}

pub reads_Factor : (old new : Cursor) (known texts : List (List ℕ)) (made : numbered.Guard) → ReadsFactor old new known texts made → ReadsTerm old new known texts made
unfolding guard_tokens guard_of
reads_Factor old new known texts made factor = record { tree = Factor factor.tree; reads = factor.reads }

pub reads_And : (old middle next new : Cursor) (known between texts : List (List ℕ)) (l r : numbered.Guard) → ReadsTerm old middle known between l → Takes middle next (word key.And)
    → ReadsFactor next new between texts r → ReadsTerm old new known texts (guard.And l r)
unfolding guard_tokens guard_of is_wide_guard is_long_guard numbered_guard
reads_And old middle next new known between texts l r first takes second = record {
  tree = And first.tree second.tree;
  reads =
      Reads-in_turn old middle new known between texts (term_tokens first.tree) (word key.And ∷ factor_tokens second.tree) _ _ _ _ (numbered_guard (term_of first.tree)) (numbered_guard (factor_of second.tree)) guard.And l r first.reads
      (Reads-behind middle next new between texts (word key.And) (factor_tokens second.tree) _ _ _ r takes second.reads);
}

pub reads_Not : (old middle new : Cursor) (known texts : List (List ℕ)) (made : numbered.Guard) → Takes old middle (word key.Not) → ReadsFactor middle new known texts made
    → ReadsFactor old new known texts (guard.Not made)
unfolding guard_tokens guard_of is_wide_guard is_long_guard numbered_guard
reads_Not old middle new known texts made takes inner = record {
  tree = Not inner.tree;
  reads =
      Reads-behind old middle new known texts (word key.Not) (factor_tokens inner.tree) _ _ _ (guard.Not made) takes
      (Reads-then_as middle new known texts (factor_tokens inner.tree) _ _ (numbered_guard (factor_of inner.tree)) guard.Not made inner.reads);
}

pub reads_Brackets : (old first last new : Cursor) (known texts : List (List ℕ)) (made : numbered.Guard) → Takes old first (Sign Open) → ReadsGuard first last known texts made
    → Takes last new (Sign Close) → ReadsFactor old new known texts made
unfolding guard_tokens guard_of
reads_Brackets old first last new known texts made opens inner closes = record {
  tree = Brackets inner.tree;
  reads =
      Reads-behind old first new known texts (Sign Open) (guard_tokens inner.tree ++ Sign Close ∷ []) _ _ _ made opens
      (Reads-before first last new known texts (guard_tokens inner.tree) (Sign Close) _ _ _ made inner.reads closes);
}

-- an atom behind its first word
pub reads_Only : (part : Part) (old middle new : Cursor) (known texts : List (List ℕ)) (token : Token) (made : numbered.Guard) → part_tokens part ≡ token ∷ [] → Takes old middle token
    → Completes part middle new known texts made → ReadsFactor old new known texts made
unfolding guard_tokens guard_of is_wide_guard is_long_guard numbered_guard
reads_Only part old middle new known texts token made is takes completes = record {
  tree = Only completes.atom;
  reads =
      subst (λ ts. Reads old new known texts ts (is_wide_guard (factor_of (Only completes.atom))) (is_long_guard (factor_of (Only completes.atom))) (numbered_guard (factor_of (Only completes.atom))) made)
      (ap (λ ts. ts ++ completes.front) (sym is) ∙ completes.whole)
      (Reads-behind old middle new known texts token completes.front _ _ _ made takes completes.reads);
}

-- Where the reader stops.
pub stops_Factor : (old new : Cursor) (e : Stop) → StopsFactor old new e → StopsTerm old new e
stops_Factor old new e stops place = stops (Front place)

pub stops_Term : (old new : Cursor) (e : Stop) → StopsTerm old new e → StopsGuard old new e
stops_Term old new e stops place = stops (First place)

pub stops_And : (old middle next new : Cursor) (known between : List (List ℕ)) (l : numbered.Guard) (e : Stop) → ReadsTerm old middle known between l → Takes middle next (word key.And)
    → StopsFactor next new e → StopsTerm old new e
stops_And old middle next new known between l stop.NoMemory first takes stops place = tt
stops_And old middle next new known between l stop.Syntax first takes stops place =
    Halts-behind guard_step whole_guard (Want (Front place)) (Want (AfterAnd place first.tree)) old next new (term_tokens first.tree ++ word key.And ∷ [])
    (Goes-on old middle next (term_tokens first.tree) (word key.And ∷ []) first.reads.goes (Goes-one middle next (word key.And) takes))
    (run-over (Want (Front place)) (Have place first.tree) (Want (AfterAnd place first.tree)) (term_tokens first.tree) [] (word key.And) (Some (Want (AfterAnd place first.tree))) (reads_term place first.tree) (and_step place first.tree) (run-end (Want (AfterAnd place first.tree))))
    (stops (AfterAnd place first.tree))

pub stops_Or : (old middle next new : Cursor) (known between : List (List ℕ)) (l : numbered.Guard) (e : Stop) → ReadsGuard old middle known between l → Takes middle next (word key.Or)
    → StopsTerm next new e → StopsGuard old new e
stops_Or old middle next new known between l stop.NoMemory first takes stops place = tt
stops_Or old middle next new known between l stop.Syntax first takes stops place =
    Halts-behind guard_step whole_guard (Want (Front (First place))) (Want (Front (AfterOr place first.tree))) old next new (guard_tokens first.tree ++ word key.Or ∷ [])
    (Goes-on old middle next (guard_tokens first.tree) (word key.Or ∷ []) first.reads.goes (Goes-one middle next (word key.Or) takes))
    (run-over (Want (Front (First place))) (have_guard place first.tree) (Want (Front (AfterOr place first.tree))) (guard_tokens first.tree) [] (word key.Or) (Some (Want (Front (AfterOr place first.tree)))) (reads_guard place first.tree) (have_or place first.tree) (run-end (Want (Front (AfterOr place first.tree)))))
    (stops (AfterOr place first.tree))

-- behind one token
one_step : (start next : GuardState) (token : Token) → guard_step start token ≡ Some next → run guard_step (Some start) (token ∷ []) ≡ Some next
one_step start next token is = run-step guard_step start next token [] (Some next) is (run-end next)

pub stops_Not : (old middle new : Cursor) (e : Stop) → Takes old middle (word key.Not) → StopsFactor middle new e → StopsFactor old new e
stops_Not old middle new stop.NoMemory takes stops place = tt
stops_Not old middle new stop.Syntax takes stops place =
    Halts-behind guard_step whole_guard (Want place) (Want (AfterNot place)) old middle new (word key.Not ∷ []) (Goes-one old middle (word key.Not) takes)
    (one_step (Want place) (Want (AfterNot place)) (word key.Not) (not_step place)) (stops (AfterNot place))

pub stops_Open : (old middle new : Cursor) (e : Stop) → Takes old middle (Sign Open) → StopsGuard middle new e → StopsFactor old new e
stops_Open old middle new stop.NoMemory takes stops place = tt
stops_Open old middle new stop.Syntax takes stops place =
    Halts-behind guard_step whole_guard (Want place) (Want (Front (First (Bracket place)))) old middle new (Sign Open ∷ []) (Goes-one old middle (Sign Open) takes)
    (one_step (Want place) (Want (Front (First (Bracket place)))) (Sign Open) refl) (stops (Bracket place))

-- the word with which an atom begins
abbrev pub begins_with : Part → Key → Type 0
begins_with part k = (place : FactorPlace) → guard_step (Want place) (word k) ≡ Some (Within place part)

pub begins_x : begins_with AfterX key.X
unfolding key_of
begins_x place = refl

pub begins_is : begins_with AfterIs key.Is
unfolding key_of
begins_is place = refl

pub begins_len : begins_with AfterLen key.Len
unfolding key_of
begins_len place = refl

pub begins_starts : begins_with AfterStarts key.Starts
unfolding key_of
begins_starts place = refl

pub stops_Only : (part : Part) (k : Key) (old middle new : Cursor) (e : Stop) → begins_with part k → Takes old middle (word k) → StopsIn part middle new e → StopsFactor old new e
stops_Only part k old middle new stop.NoMemory begins takes stops place = tt
stops_Only part k old middle new stop.Syntax begins takes stops place =
    Halts-behind guard_step whole_guard (Want place) (Within place part) old middle new (word k ∷ []) (Goes-one old middle (word k) takes)
    (one_step (Want place) (Within place part) (word k) (begins place)) (stops place)

stuck_factor_word : (place : FactorPlace) (k : Key) → is_factor_key k ≡ false → factor_word place k ≡ None
stuck_factor_word place key.Not is = absurd (false≢true (sym is))
stuck_factor_word place key.X is = absurd (false≢true (sym is))
stuck_factor_word place key.Is is = absurd (false≢true (sym is))
stuck_factor_word place key.Len is = absurd (false≢true (sym is))
stuck_factor_word place key.Starts is = absurd (false≢true (sym is))
stuck_factor_word place k is = refl

stuck_factor : (place : FactorPlace) (tokens : List Token) → is_factor_key (next_key tokens) ≡ false → next_symbol tokens ≢ Some Open → IsStuck guard_step whole_guard (Want place) tokens
stuck_factor place [] no_word no_sign = refl
stuck_factor place (Word bytes ∷ tokens) no_word no_sign = stuck_factor_word place (key_of bytes) no_word
stuck_factor place (Number value ∷ tokens) no_word no_sign = refl
stuck_factor place (Text value ∷ tokens) no_word no_sign = refl
stuck_factor place (Sign Open ∷ tokens) no_word no_sign = absurd (no_sign refl)
stuck_factor place (Sign symbol ∷ tokens) no_word no_sign = refl

pub stops_no_factor : (old new : Cursor) (e : Stop) → e ≡ stop.Syntax → Goes old new [] → is_factor_key (next_key (left old)) ≡ false → next_symbol (left old) ≢ Some Open → StopsFactor old new e
stops_no_factor old new e is goes no_word no_sign =
    subst (StopsFactor old new) (sym is)
    (λ place. record {
      front = [];
      goes = goes;
      state = Want place;
      led = run-end (Want place);
      stuck = subst (IsStuck guard_step whole_guard (Want place)) (Goes-left old new [] goes) (stuck_factor place (left old) no_word no_sign);
    })

stuck_joint : (place : TermPlace) (term : TermTree) (k : Key) → is_joint k ≡ false → term_word place term k ≡ None
stuck_joint place term key.Or is = absurd (false≢true (sym is))
stuck_joint place term key.And is = absurd (false≢true (sym is))
stuck_joint place term k is = refl

stuck_have : (place : FactorPlace) (around : TermPlace) (term : TermTree) (tokens : List Token) → place_around around ≡ Bracket place → is_joint (next_key tokens) ≡ false
    → next_symbol tokens ≢ Some Close → IsStuck guard_step whole_guard (Have around term) tokens
stuck_have place around term [] is no_word no_sign = ap (λ g. guard_at_top g (guard_with around term)) is
stuck_have place around term (Word bytes ∷ tokens) is no_word no_sign = stuck_joint around term (key_of bytes) no_word
stuck_have place around term (Number value ∷ tokens) is no_word no_sign = refl
stuck_have place around term (Text value ∷ tokens) is no_word no_sign = refl
stuck_have place around term (Sign Close ∷ tokens) is no_word no_sign = absurd (no_sign refl)
stuck_have place around term (Sign symbol ∷ tokens) is no_word no_sign = refl

stuck_close : (place : FactorPlace) (tree : GuardTree) (tokens : List Token) → is_joint (next_key tokens) ≡ false → next_symbol tokens ≢ Some Close
    → IsStuck guard_step whole_guard (have_guard (Bracket place) tree) tokens
stuck_close place (Term term) tokens no_word no_sign = stuck_have place (First (Bracket place)) term tokens refl no_word no_sign
stuck_close place (Or tree term) tokens no_word no_sign = stuck_have place (AfterOr (Bracket place) tree) term tokens refl no_word no_sign

pub stops_Close : (old first last new : Cursor) (known texts : List (List ℕ)) (made : numbered.Guard) (e : Stop) → e ≡ stop.Syntax → Takes old first (Sign Open)
    → ReadsGuard first last known texts made → is_joint (next_key (left last)) ≡ false → Goes last new [] → next_symbol (left last) ≢ Some Close → StopsFactor old new e
stops_Close old first last new known texts made e is opens inner no_word goes no_sign =
    subst (StopsFactor old new) (sym is)
    (λ place. Halts-behind guard_step whole_guard (Want place) (Want (Front (First (Bracket place)))) old first new (Sign Open ∷ []) (Goes-one old first (Sign Open) opens)
    (one_step (Want place) (Want (Front (First (Bracket place)))) (Sign Open) refl)
    (record {
      front = guard_tokens inner.tree ++ [];
      goes = Goes-on first last new (guard_tokens inner.tree) [] inner.reads.goes goes;
      state = have_guard (Bracket place) inner.tree;
      led = ap (run guard_step (Some (Want (Front (First (Bracket place)))))) (append-nil (guard_tokens inner.tree)) ∙ reads_guard (Bracket place) inner.tree;
      stuck = subst (IsStuck guard_step whole_guard (have_guard (Bracket place) inner.tree)) (Goes-left last new [] goes) (stuck_close place inner.tree (left last) no_word no_sign);
    }))

pub not_joint : (k : Key) → k ≢ key.Or → k ≢ key.And → is_joint k ≡ false
not_joint key.Or no_or no_and = absurd (no_or refl)
not_joint key.And no_or no_and = absurd (no_and refl)
not_joint k no_or no_and = refl

pub not_factor : (k : Key) → k ≢ key.Not → k ≢ key.X → k ≢ key.Is → k ≢ key.Len → k ≢ key.Starts → is_factor_key k ≡ false
not_factor key.Not a b c d e = absurd (a refl)
not_factor key.X a b c d e = absurd (b refl)
not_factor key.Is a b c d e = absurd (c refl)
not_factor key.Len a b c d e = absurd (d refl)
not_factor key.Starts a b c d e = absurd (e refl)
not_factor k a b c d e = refl

-- Fewer tokens are left.
pub fewer : (old new : Cursor) (token : Token) → Takes old new token → length old.rest.now ≡ length new.rest.now + 1
fewer old new token takes = ap length takes.rest ∙ omega arith

pub no_more : (old new : Cursor) (front : List Token) → Goes old new front → length new.rest.now ≤ length old.rest.now
no_more old new front goes = omega (arith, ap length goes.rest, length-append goes.passed new.rest.now)
