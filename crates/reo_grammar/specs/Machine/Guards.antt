-- What has come of a guard, as a place in a tree, and how it goes on.
use Rattle.std.specs.Prelude.{ℕ, ℤ, List, [], ◌∷◌, ◌++◌, Option, Some, None}
use Rattle.std.specs.Option.{option_map}
use Rattle.reo_token.specs.declared.token.Symbol.{Symbol}
use Rattle.reo_token.specs.declared.token.Symbol.TheVariants.{Equal, NotEqual, Less, LessOrEqual, Greater, GreaterOrEqual, Open, Close}
use Rattle.reo_guard.specs.declared.guard.Cmp.{Cmp}
use Rattle.reo_guard.specs.declared.guard.Cmp.TheVariants.{Eq, Ne, Lt, Le, Gt, Ge}
use Rattle.reo_grammar.specs.declared.key.Key.{Key}
use Rattle.reo_grammar.specs.declared.key.Key.TheVariants as key
use Rattle.reo_grammar.specs.Key.{key_of}
use Rattle.reo_grammar.specs.Token.{Token, Word, Number, Text, Sign, Const, Integer, Phrase, word}
use Rattle.reo_grammar.specs.Guards.{Atom, Compare, Mod, IsInt, IsText, LenAtMost, Starts, sign_of, atom_tokens, GuardTree, Term, Or, TermTree, Factor, And, FactorTree, Not, Brackets, Only, guard_tokens, term_tokens}

-- the part of an atom that has come
pub data Part : Type 0 where
  AfterX : Part
  AfterCmp : (cmp : Cmp) → Part
  AfterMod : Part
  AfterDivisor : (divisor : ℤ) → Part
  AfterEqual : (divisor : ℤ) → Part
  AfterIs : Part
  AfterLen : Part
  AfterAtMost : Part
  AfterStarts : Part

abbrev pub part_tokens : Part → List Token
part_tokens AfterX = word key.X ∷ []
part_tokens (AfterCmp cmp) = word key.X ∷ Sign (sign_of cmp) ∷ []
part_tokens AfterMod = word key.X ∷ word key.Mod ∷ []
part_tokens (AfterDivisor divisor) = word key.X ∷ word key.Mod ∷ Number divisor ∷ []
part_tokens (AfterEqual divisor) = word key.X ∷ word key.Mod ∷ Number divisor ∷ Sign Equal ∷ []
part_tokens AfterIs = word key.Is ∷ []
part_tokens AfterLen = word key.Len ∷ []
part_tokens AfterAtMost = word key.Len ∷ Sign LessOrEqual ∷ []
part_tokens AfterStarts = word key.Starts ∷ []

-- an atom that is not whole yet, or that is
pub data Progress : Type 0 where
  More : (part : Part) → Progress
  Whole : (atom : Atom) → Progress

abbrev pub progress_tokens : Progress → List Token
progress_tokens (More part) = part_tokens part
progress_tokens (Whole atom) = atom_tokens atom

abbrev pub cmp_of : Symbol → Option Cmp
cmp_of Equal = Some Eq
cmp_of NotEqual = Some Ne
cmp_of Less = Some Lt
cmp_of LessOrEqual = Some Le
cmp_of Greater = Some Gt
cmp_of GreaterOrEqual = Some Ge
cmp_of symbol = None

-- the constant that a token is
abbrev pub const_of : Token → Option Const
const_of (Word bytes) = None
const_of (Number value) = Some (Integer value)
const_of (Text value) = Some (Phrase value)
const_of (Sign symbol) = None

abbrev pub number_of : Token → Option ℤ
number_of (Word bytes) = None
number_of (Number value) = Some value
number_of (Text value) = None
number_of (Sign symbol) = None

abbrev pub text_of : Token → Option (List ℕ)
text_of (Word bytes) = None
text_of (Number value) = None
text_of (Text value) = Some value
text_of (Sign symbol) = None

-- what a token means as a word
abbrev pub token_key : Token → Key
token_key (Word bytes) = key_of bytes
token_key (Number value) = key.Other
token_key (Text value) = key.Other
token_key (Sign symbol) = key.Other

abbrev pub at_x_word : Key → Option Progress
at_x_word key.Mod = Some (More AfterMod)
at_x_word key = None

-- behind x comes a sign or `mod`
abbrev pub at_x : Token → Option Progress
at_x (Word bytes) = at_x_word (key_of bytes)
at_x (Number value) = None
at_x (Text value) = None
at_x (Sign symbol) = option_map (λ cmp. More (AfterCmp cmp)) (cmp_of symbol)

abbrev pub at_is : Key → Option Progress
at_is key.Int = Some (Whole IsInt)
at_is key.Text = Some (Whole IsText)
at_is key = None

abbrev pub at_equal_sign : ℤ → Symbol → Option Progress
at_equal_sign divisor Equal = Some (More (AfterEqual divisor))
at_equal_sign divisor symbol = None

abbrev pub at_equal : ℤ → Token → Option Progress
at_equal divisor (Sign symbol) = at_equal_sign divisor symbol
at_equal divisor token = None

abbrev pub at_most_sign : Symbol → Option Progress
at_most_sign LessOrEqual = Some (More AfterAtMost)
at_most_sign symbol = None

abbrev pub at_most : Token → Option Progress
at_most (Sign symbol) = at_most_sign symbol
at_most token = None

abbrev pub part_step : Part → Token → Option Progress
part_step AfterX token = at_x token
part_step (AfterCmp cmp) token = option_map (λ constant. Whole (Compare cmp constant)) (const_of token)
part_step AfterMod token = option_map (λ divisor. More (AfterDivisor divisor)) (number_of token)
part_step (AfterDivisor divisor) token = at_equal divisor token
part_step (AfterEqual divisor) token = option_map (λ remainder. Whole (Mod divisor remainder)) (number_of token)
part_step AfterIs token = at_is (token_key token)
part_step AfterLen token = at_most token
part_step AfterAtMost token = option_map (λ most. Whole (LenAtMost most)) (number_of token)
part_step AfterStarts token = option_map (λ front. Whole (Starts front)) (text_of token)

-- Where the next part of a guard goes: all that has come before it.
mutual
  -- a guard goes here
  pub data GuardPlace : Type 0 where
    Top : GuardPlace
    Bracket : (place : FactorPlace) → GuardPlace

  pub data TermPlace : Type 0 where
    First : (place : GuardPlace) → TermPlace
    AfterOr : (place : GuardPlace) (guard : GuardTree) → TermPlace

  pub data FactorPlace : Type 0 where
    Front : (place : TermPlace) → FactorPlace
    AfterAnd : (place : TermPlace) (term : TermTree) → FactorPlace
    AfterNot : (place : FactorPlace) → FactorPlace

pub data GuardState : Type 0 where
  -- a factor has to come
  Want : (place : FactorPlace) → GuardState
  Within : (place : FactorPlace) (part : Part) → GuardState
  -- a term so far
  Have : (place : TermPlace) (term : TermTree) → GuardState

abbrev pub place_around : TermPlace → GuardPlace
place_around (First place) = place
place_around (AfterOr place guard) = place

-- the guard so far, with this term behind it
abbrev pub guard_with : TermPlace → TermTree → GuardTree
guard_with (First place) term = Term term
guard_with (AfterOr place guard) term = Or guard term

unfoldable pub put : FactorPlace → FactorTree → GuardState
put (Front place) factor = Have place (Factor factor)
put (AfterAnd place term) factor = Have place (And term factor)
put (AfterNot place) factor = put place (Not factor)

-- the tokens before a place
unfoldable mutual
  pub before_guard : GuardPlace → List Token
  before_guard Top = []
  before_guard (Bracket place) = before_factor place ++ Sign Open ∷ []

  pub before_term : TermPlace → List Token
  before_term (First place) = before_guard place
  before_term (AfterOr place guard) = before_guard place ++ (guard_tokens guard ++ word key.Or ∷ [])

  pub before_factor : FactorPlace → List Token
  before_factor (Front place) = before_term place
  before_factor (AfterAnd place term) = before_term place ++ (term_tokens term ++ word key.And ∷ [])
  before_factor (AfterNot place) = before_factor place ++ word key.Not ∷ []

-- the tokens that lead to a state
abbrev pub guard_before : GuardState → List Token
guard_before (Want place) = before_factor place
guard_before (Within place part) = before_factor place ++ part_tokens part
guard_before (Have place term) = before_term place ++ term_tokens term

abbrev pub factor_word : FactorPlace → Key → Option GuardState
factor_word place key.Not = Some (Want (AfterNot place))
factor_word place key.X = Some (Within place AfterX)
factor_word place key.Is = Some (Within place AfterIs)
factor_word place key.Len = Some (Within place AfterLen)
factor_word place key.Starts = Some (Within place AfterStarts)
factor_word place key = None

abbrev pub factor_sign : FactorPlace → Symbol → Option GuardState
factor_sign place Open = Some (Want (Front (First (Bracket place))))
factor_sign place symbol = None

abbrev pub at_factor : FactorPlace → Token → Option GuardState
at_factor place (Word bytes) = factor_word place (key_of bytes)
at_factor place (Number value) = None
at_factor place (Text value) = None
at_factor place (Sign symbol) = factor_sign place symbol

abbrev pub with_progress : FactorPlace → Progress → GuardState
with_progress place (More part) = Within place part
with_progress place (Whole atom) = put place (Only atom)

abbrev pub term_word : TermPlace → TermTree → Key → Option GuardState
term_word place term key.Or = Some (Want (Front (AfterOr (place_around place) (guard_with place term))))
term_word place term key.And = Some (Want (AfterAnd place term))
term_word place term key = None

abbrev pub closed : GuardPlace → GuardTree → Option GuardState
closed Top guard = None
closed (Bracket place) guard = Some (put place (Brackets guard))

abbrev pub term_sign : TermPlace → TermTree → Symbol → Option GuardState
term_sign place term Close = closed (place_around place) (guard_with place term)
term_sign place term symbol = None

abbrev pub after_term : TermPlace → TermTree → Token → Option GuardState
after_term place term (Word bytes) = term_word place term (key_of bytes)
after_term place term (Number value) = None
after_term place term (Text value) = None
after_term place term (Sign symbol) = term_sign place term symbol

abbrev pub guard_step : GuardState → Token → Option GuardState
guard_step (Want place) token = at_factor place token
guard_step (Within place part) token = option_map (with_progress place) (part_step part token)
guard_step (Have place term) token = after_term place term token

-- a guard that has come whole
abbrev pub guard_at_top : GuardPlace → GuardTree → Option GuardTree
guard_at_top Top guard = Some guard
guard_at_top (Bracket place) guard = None

abbrev pub whole_guard : GuardState → Option GuardTree
whole_guard (Want place) = None
whole_guard (Within place part) = None
whole_guard (Have place term) = guard_at_top (place_around place) (guard_with place term)

-- the state behind a guard that came in a place
abbrev pub have_guard : GuardPlace → GuardTree → GuardState
have_guard place (Term term) = Have (First place) term
have_guard place (Or guard term) = Have (AfterOr place guard) term

abbrev pub guard_start : GuardState
guard_start = Want (Front (First Top))
