-- The machine of guards: each step adds its token, each state can be finished, and the tokens of a tree lead to it.
use Rattle.std.proofs.Common.{◌≡◌, ℕ, pos, List, [], ◌∷◌, ◌++◌, Option, Some, None, IfSome, refl, sym, ap, ◌∙◌, append_assoc, append-nil}
use Rattle.std.specs.Option.{option_map}
use Rattle.reo_token.specs.declared.token.Symbol.TheVariants.{Equal, NotEqual, Less, LessOrEqual, Greater, GreaterOrEqual, Open, Close}
use Rattle.reo_guard.specs.declared.guard.Cmp.TheVariants.{Eq, Ne, Lt, Le, Gt, Ge}
use Rattle.reo_grammar.specs.declared.key.Key.{Key}
use Rattle.reo_grammar.specs.declared.key.Key.TheVariants as key
use Rattle.reo_grammar.specs.Key.{key_of}
use Rattle.reo_grammar.specs.Token.{Token, Word, Number, Text, Sign, Integer, Phrase, word}
use Rattle.reo_grammar.specs.Guards.{Atom, Compare, Mod, IsInt, IsText, LenAtMost, Starts, atom_tokens, GuardTree, Term, Or, TermTree, Factor, And, FactorTree, Not, Brackets, Only, guard_tokens, term_tokens, factor_tokens}
use Rattle.reo_grammar.specs.Machine.Run.{run}
use Rattle.reo_grammar.specs.Machine.Guards.{Part, AfterX, AfterCmp, AfterMod, AfterDivisor, AfterEqual, AfterIs, AfterLen, AfterAtMost, AfterStarts, part_tokens, Progress, More, Whole, progress_tokens, at_x_word, at_is, part_step, GuardPlace, Top, Bracket, TermPlace, First, AfterOr, FactorPlace, Front, AfterAnd, AfterNot, GuardState, Want, Within, Have, place_around, guard_with, put, before_guard, before_term, before_factor, guard_before, factor_word, with_progress, term_word, closed, guard_step, guard_at_top, whole_guard, have_guard}
use Rattle.reo_grammar.proofs.KeyLemmas.{IsSpelled, key_spelled}
use Rattle.reo_grammar.proofs.RunLemmas.{run-append, run-step}

-- Each step adds its token.

-- the tokens before a state, and one more
abbrev pub Adds : GuardState → Token → GuardState → Type 0
Adds state token next = guard_before next ≡ guard_before state ++ token ∷ []

-- the same in an atom
abbrev pub PartAdds : Part → Token → Progress → Type 0
PartAdds part token next = progress_tokens next ≡ part_tokens part ++ token ∷ []

put-before : (place : FactorPlace) (factor : FactorTree) → guard_before (put place factor) ≡ before_factor place ++ factor_tokens factor
unfolding put before_guard guard_tokens
put-before (Front place) factor = refl
put-before (AfterAnd place term) factor = simp append_assoc
put-before (AfterNot place) factor = put-before place (Not factor) ∙ simp append_assoc

-- a term behind what came before it is the guard so far
have-before : (place : TermPlace) (term : TermTree) → before_term place ++ term_tokens term ≡ before_guard (place_around place) ++ guard_tokens (guard_with place term)
unfolding before_guard guard_tokens
have-before (First place) term = refl
have-before (AfterOr place guard) term = simp append_assoc

x_word_adds : (bytes : List ℕ) (k : Key) → IsSpelled k bytes → IfSome (at_x_word k) (PartAdds AfterX (Word bytes))
x_word_adds bytes key.Mod is = ap (λ b. word key.X ∷ Word b ∷ []) (sym is)
x_word_adds bytes k is = tt

is_word_adds : (bytes : List ℕ) (k : Key) → IsSpelled k bytes → IfSome (at_is k) (PartAdds AfterIs (Word bytes))
is_word_adds bytes key.Int is = ap (λ b. word key.Is ∷ Word b ∷ []) (sym is)
is_word_adds bytes key.Text is = ap (λ b. word key.Is ∷ Word b ∷ []) (sym is)
is_word_adds bytes k is = tt

part_adds : (part : Part) (token : Token) → IfSome (part_step part token) (PartAdds part token)
part_adds AfterX (Word bytes) = x_word_adds bytes (key_of bytes) (key_spelled bytes)
part_adds AfterX (Sign Equal) = refl
part_adds AfterX (Sign NotEqual) = refl
part_adds AfterX (Sign Less) = refl
part_adds AfterX (Sign LessOrEqual) = refl
part_adds AfterX (Sign Greater) = refl
part_adds AfterX (Sign GreaterOrEqual) = refl
part_adds (AfterCmp cmp) (Number value) = refl
part_adds (AfterCmp cmp) (Text value) = refl
part_adds AfterMod (Number value) = refl
part_adds (AfterDivisor divisor) (Sign Equal) = refl
part_adds (AfterEqual divisor) (Number value) = refl
part_adds AfterIs (Word bytes) = is_word_adds bytes (key_of bytes) (key_spelled bytes)
part_adds AfterLen (Sign LessOrEqual) = refl
part_adds AfterAtMost (Number value) = refl
part_adds AfterStarts (Text value) = refl
part_adds part token = tt

progress_adds : (place : FactorPlace) (part : Part) (token : Token) (next : Progress) → PartAdds part token next → Adds (Within place part) token (with_progress place next)
unfolding guard_tokens
progress_adds place part token (More p) is = ap (λ ts. before_factor place ++ ts) is ∙ sym (append_assoc (before_factor place) (part_tokens part) (token ∷ []))
progress_adds place part token (Whole atom) is =
    put-before place (Only atom) ∙ ap (λ ts. before_factor place ++ ts) is ∙ sym (append_assoc (before_factor place) (part_tokens part) (token ∷ []))

within_adds : (place : FactorPlace) (part : Part) (token : Token) (next : Option Progress) → IfSome next (PartAdds part token) → IfSome (option_map (with_progress place) next) (Adds (Within place part) token)
within_adds place part token None is = tt
within_adds place part token (Some next) is = progress_adds place part token next is

factor_word_adds : (place : FactorPlace) (bytes : List ℕ) (k : Key) → IsSpelled k bytes → IfSome (factor_word place k) (Adds (Want place) (Word bytes))
unfolding before_guard
factor_word_adds place bytes key.Not is = ap (λ b. before_factor place ++ Word b ∷ []) (sym is)
factor_word_adds place bytes key.X is = ap (λ b. before_factor place ++ Word b ∷ []) (sym is)
factor_word_adds place bytes key.Is is = ap (λ b. before_factor place ++ Word b ∷ []) (sym is)
factor_word_adds place bytes key.Len is = ap (λ b. before_factor place ++ Word b ∷ []) (sym is)
factor_word_adds place bytes key.Starts is = ap (λ b. before_factor place ++ Word b ∷ []) (sym is)
factor_word_adds place bytes k is = tt

factor_adds : (place : FactorPlace) (token : Token) → IfSome (guard_step (Want place) token) (Adds (Want place) token)
unfolding before_guard
factor_adds place (Word bytes) = factor_word_adds place bytes (key_of bytes) (key_spelled bytes)
factor_adds place (Sign Open) = refl
factor_adds place token = tt

term_word_adds : (place : TermPlace) (term : TermTree) (bytes : List ℕ) (k : Key) → IsSpelled k bytes → IfSome (term_word place term k) (Adds (Have place term) (Word bytes))
unfolding before_guard
term_word_adds place term bytes key.Or is =
    sym (append_assoc (before_guard (place_around place)) (guard_tokens (guard_with place term)) (word key.Or ∷ []))
    ∙ ap (λ ts. ts ++ word key.Or ∷ []) (sym (have-before place term)) ∙ ap (λ b. (before_term place ++ term_tokens term) ++ Word b ∷ []) (sym is)
term_word_adds place term bytes key.And is =
    sym (append_assoc (before_term place) (term_tokens term) (word key.And ∷ [])) ∙ ap (λ b. (before_term place ++ term_tokens term) ++ Word b ∷ []) (sym is)
term_word_adds place term bytes k is = tt

closed_adds : (around : GuardPlace) (guard : GuardTree) (before : List Token) → before ≡ before_guard around ++ guard_tokens guard
    → IfSome (closed around guard) (λ next. guard_before next ≡ before ++ Sign Close ∷ [])
unfolding before_guard guard_tokens
closed_adds Top guard before is = tt
closed_adds (Bracket place) guard before is =
    put-before place (Brackets guard) ∙ again (before_factor place) (guard_tokens guard) ∙ ap (λ ts. ts ++ Sign Close ∷ []) (sym is)
  where
    again : (front inner : List Token) → front ++ (Sign Open ∷ (inner ++ Sign Close ∷ [])) ≡ ((front ++ Sign Open ∷ []) ++ inner) ++ Sign Close ∷ []
    again front inner = simp append_assoc

term_adds : (place : TermPlace) (term : TermTree) (token : Token) → IfSome (guard_step (Have place term) token) (Adds (Have place term) token)
term_adds place term (Word bytes) = term_word_adds place term bytes (key_of bytes) (key_spelled bytes)
term_adds place term (Sign Close) = closed_adds (place_around place) (guard_with place term) (before_term place ++ term_tokens term) (have-before place term)
term_adds place term token = tt

pub guard_adds : (state : GuardState) (token : Token) → IfSome (guard_step state token) (Adds state token)
guard_adds (Want place) token = factor_adds place token
guard_adds (Within place part) token = within_adds place part token (part_step part token) (part_adds part token)
guard_adds (Have place term) token = term_adds place term token

-- Each state can be finished.

unfoldable mutual
  finish_guard : GuardPlace → GuardTree → GuardTree
  finish_guard Top guard = guard
  finish_guard (Bracket place) guard = finish_factor place (Brackets guard)

  finish_term : TermPlace → TermTree → GuardTree
  finish_term (First place) term = finish_guard place (Term term)
  finish_term (AfterOr place guard) term = finish_guard place (Or guard term)

  finish_factor : FactorPlace → FactorTree → GuardTree
  finish_factor (Front place) factor = finish_term place (Factor factor)
  finish_factor (AfterAnd place term) factor = finish_term place (And term factor)
  finish_factor (AfterNot place) factor = finish_factor place (Not factor)

-- the brackets that have to be closed
unfoldable mutual
  tail_guard : GuardPlace → List Token
  tail_guard Top = []
  tail_guard (Bracket place) = Sign Close ∷ tail_factor place

  tail_term : TermPlace → List Token
  tail_term (First place) = tail_guard place
  tail_term (AfterOr place guard) = tail_guard place

  tail_factor : FactorPlace → List Token
  tail_factor (Front place) = tail_term place
  tail_factor (AfterAnd place term) = tail_term place
  tail_factor (AfterNot place) = tail_factor place

mutual
  unfolding finish_guard tail_guard before_guard guard_tokens

  ends_guard : (place : GuardPlace) (guard : GuardTree) → guard_tokens (finish_guard place guard) ≡ before_guard place ++ (guard_tokens guard ++ tail_guard place)
  ends_guard Top guard = sym (append-nil (guard_tokens guard))
  ends_guard (Bracket place) guard = ends_factor place (Brackets guard) ∙ simp append_assoc

  ends_term : (place : TermPlace) (term : TermTree) → guard_tokens (finish_term place term) ≡ before_term place ++ (term_tokens term ++ tail_term place)
  ends_term (First place) term = ends_guard place (Term term)
  ends_term (AfterOr place guard) term = ends_guard place (Or guard term) ∙ simp append_assoc

  ends_factor : (place : FactorPlace) (factor : FactorTree) → guard_tokens (finish_factor place factor) ≡ before_factor place ++ (factor_tokens factor ++ tail_factor place)
  ends_factor (Front place) factor = ends_term place (Factor factor)
  ends_factor (AfterAnd place term) factor = ends_term place (And term factor) ∙ simp append_assoc
  ends_factor (AfterNot place) factor = ends_factor place (Not factor) ∙ simp append_assoc

-- an atom that is begun so
finish_part : Part → Atom
finish_part AfterX = Compare Eq (Integer (pos 0))
finish_part (AfterCmp cmp) = Compare cmp (Integer (pos 0))
finish_part AfterMod = Mod (pos 1) (pos 0)
finish_part (AfterDivisor divisor) = Mod divisor (pos 0)
finish_part (AfterEqual divisor) = Mod divisor (pos 0)
finish_part AfterIs = IsInt
finish_part AfterLen = LenAtMost (pos 0)
finish_part AfterAtMost = LenAtMost (pos 0)
finish_part AfterStarts = Starts []

tail_part : Part → List Token
tail_part AfterX = Sign Equal ∷ Number (pos 0) ∷ []
tail_part (AfterCmp cmp) = Number (pos 0) ∷ []
tail_part AfterMod = Number (pos 1) ∷ Sign Equal ∷ Number (pos 0) ∷ []
tail_part (AfterDivisor divisor) = Sign Equal ∷ Number (pos 0) ∷ []
tail_part (AfterEqual divisor) = Number (pos 0) ∷ []
tail_part AfterIs = word key.Int ∷ []
tail_part AfterLen = Sign LessOrEqual ∷ Number (pos 0) ∷ []
tail_part AfterAtMost = Number (pos 0) ∷ []
tail_part AfterStarts = Text [] ∷ []

ends_part : (part : Part) → atom_tokens (finish_part part) ≡ part_tokens part ++ tail_part part
unfolding finish_part tail_part
ends_part AfterX = refl
ends_part (AfterCmp cmp) = refl
ends_part AfterMod = refl
ends_part (AfterDivisor divisor) = refl
ends_part (AfterEqual divisor) = refl
ends_part AfterIs = refl
ends_part AfterLen = refl
ends_part AfterAtMost = refl
ends_part AfterStarts = refl

-- a whole guard that begins as the state's tokens
pub finished_guard : GuardState → GuardTree
finished_guard (Want place) = finish_factor place (Only IsInt)
finished_guard (Within place part) = finish_factor place (Only (finish_part part))
finished_guard (Have place term) = finish_term place term

pub guard_tail : GuardState → List Token
guard_tail (Want place) = atom_tokens IsInt ++ tail_factor place
guard_tail (Within place part) = tail_part part ++ tail_factor place
guard_tail (Have place term) = tail_term place

pub guard_ends : (state : GuardState) → guard_tokens (finished_guard state) ≡ guard_before state ++ guard_tail state
unfolding finished_guard guard_tail guard_tokens
guard_ends (Want place) = ends_factor place (Only IsInt)
guard_ends (Within place part) =
    ends_factor place (Only (finish_part part)) ∙ ap (λ ts. before_factor place ++ (ts ++ tail_factor place)) (ends_part part) ∙ simp append_assoc
guard_ends (Have place term) = ends_term place term ∙ sym (append_assoc (before_term place) (term_tokens term) (tail_term place))

-- A whole guard has the tokens that led to it.
whole_before : (around : GuardPlace) (guard : GuardTree) (before : List Token) → before ≡ before_guard around ++ guard_tokens guard
    → IfSome (guard_at_top around guard) (λ whole. guard_tokens whole ≡ before)
unfolding before_guard
whole_before Top guard before is = sym is
whole_before (Bracket place) guard before is = tt

pub whole_guard-before : (state : GuardState) → IfSome (whole_guard state) (λ guard. guard_tokens guard ≡ guard_before state)
whole_guard-before (Want place) = tt
whole_guard-before (Within place part) = tt
whole_guard-before (Have place term) = whole_before (place_around place) (guard_with place term) (before_term place ++ term_tokens term) (have-before place term)

pub whole_guard-have : (guard : GuardTree) → whole_guard (have_guard Top guard) ≡ Some guard
whole_guard-have (Term term) = refl
whole_guard-have (Or guard term) = refl

-- The tokens of a tree lead to it.
pub have_or : (place : GuardPlace) (guard : GuardTree) → guard_step (have_guard place guard) (word key.Or) ≡ Some (Want (Front (AfterOr place guard)))
unfolding key_of
have_or place (Term term) = refl
have_or place (Or guard term) = refl

pub have_close : (place : FactorPlace) (guard : GuardTree) → guard_step (have_guard (Bracket place) guard) (Sign Close) ≡ Some (put place (Brackets guard))
have_close place (Term term) = refl
have_close place (Or guard term) = refl

reads_atom : (place : FactorPlace) (atom : Atom) → run guard_step (Some (Want place)) (atom_tokens atom) ≡ Some (put place (Only atom))
unfolding run key_of
reads_atom place (Compare Eq (Integer value)) = refl
reads_atom place (Compare Eq (Phrase value)) = refl
reads_atom place (Compare Ne (Integer value)) = refl
reads_atom place (Compare Ne (Phrase value)) = refl
reads_atom place (Compare Lt (Integer value)) = refl
reads_atom place (Compare Lt (Phrase value)) = refl
reads_atom place (Compare Le (Integer value)) = refl
reads_atom place (Compare Le (Phrase value)) = refl
reads_atom place (Compare Gt (Integer value)) = refl
reads_atom place (Compare Gt (Phrase value)) = refl
reads_atom place (Compare Ge (Integer value)) = refl
reads_atom place (Compare Ge (Phrase value)) = refl
reads_atom place (Mod divisor remainder) = refl
reads_atom place IsInt = refl
reads_atom place IsText = refl
reads_atom place (LenAtMost most) = refl
reads_atom place (Starts front) = refl

pub run-end : (state : GuardState) → run guard_step (Some state) [] ≡ Some state
unfolding run
run-end state = refl

-- some tokens, and then one more and others
pub run-over : (state middle next : GuardState) (front back : List Token) (token : Token) (end : Option GuardState) → run guard_step (Some state) front ≡ Some middle
    → guard_step middle token ≡ Some next → run guard_step (Some next) back ≡ end → run guard_step (Some state) (front ++ token ∷ back) ≡ end
run-over state middle next front back token end led is rest =
    run-append guard_step (Some state) front (token ∷ back) ∙ ap (λ s. run guard_step s (token ∷ back)) led ∙ run-step guard_step middle next token back end is rest

pub and_step : (place : TermPlace) (term : TermTree) → guard_step (Have place term) (word key.And) ≡ Some (Want (AfterAnd place term))
unfolding key_of
and_step place term = refl

pub not_step : (place : FactorPlace) → guard_step (Want place) (word key.Not) ≡ Some (Want (AfterNot place))
unfolding key_of
not_step place = refl

mutual
  unfolding guard_tokens put

  pub reads_guard : (place : GuardPlace) (guard : GuardTree) → run guard_step (Some (Want (Front (First place)))) (guard_tokens guard) ≡ Some (have_guard place guard)
  reads_guard place (Term term) = reads_term (First place) term
  reads_guard place (Or guard term) =
      run-over (Want (Front (First place))) (have_guard place guard) (Want (Front (AfterOr place guard))) (guard_tokens guard) (term_tokens term) (word key.Or) (Some (Have (AfterOr place guard) term)) (reads_guard place guard) (have_or place guard) (reads_term (AfterOr place guard) term)

  pub reads_term : (place : TermPlace) (term : TermTree) → run guard_step (Some (Want (Front place))) (term_tokens term) ≡ Some (Have place term)
  reads_term place (Factor factor) = reads_factor (Front place) factor
  reads_term place (And term factor) =
      run-over (Want (Front place)) (Have place term) (Want (AfterAnd place term)) (term_tokens term) (factor_tokens factor) (word key.And) (Some (Have place (And term factor))) (reads_term place term) (and_step place term) (reads_factor (AfterAnd place term) factor)

  pub reads_factor : (place : FactorPlace) (factor : FactorTree) → run guard_step (Some (Want place)) (factor_tokens factor) ≡ Some (put place factor)
  reads_factor place (Not factor) =
      run-step guard_step (Want place) (Want (AfterNot place)) (word key.Not) (factor_tokens factor) (Some (put place (Not factor))) (not_step place) (reads_factor (AfterNot place) factor)
  reads_factor place (Brackets guard) =
      run-step guard_step (Want place) (Want (Front (First (Bracket place)))) (Sign Open) (guard_tokens guard ++ Sign Close ∷ []) (Some (put place (Brackets guard))) refl
      (run-over (Want (Front (First (Bracket place)))) (have_guard (Bracket place) guard) (put place (Brackets guard)) (guard_tokens guard) [] (Sign Close) (Some (put place (Brackets guard))) (reads_guard (Bracket place) guard) (have_close place guard) (run-end (put place (Brackets guard))))
  reads_factor place (Only atom) = reads_atom place atom
