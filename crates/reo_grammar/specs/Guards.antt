-- The grammar of guards, with a constructor for each of its alternatives.
use Rattle.std.specs.Prelude.{ℕ, ℤ, List, [], ◌∷◌, ◌++◌}
use Rattle.reo_token.specs.declared.token.Symbol.{Symbol}
use Rattle.reo_token.specs.declared.token.Symbol.TheVariants.{Equal, NotEqual, Less, LessOrEqual, Greater, GreaterOrEqual, Open, Close}
use Rattle.reo_guard.specs.declared.guard.Cmp.{Cmp}
use Rattle.reo_guard.specs.declared.guard.Cmp.TheVariants.{Eq, Ne, Lt, Le, Gt, Ge}
use Rattle.reo_grammar.specs.declared.key.Key.TheVariants as key
use Rattle.reo_grammar.specs.Token.{Token, Number, Text, Sign, Const, const_token, word}

-- what is asked of the datum x, by a test that is not made of tests
pub data Atom : Type 0 where
  Compare : (cmp : Cmp) (constant : Const) → Atom
  Mod : (divisor remainder : ℤ) → Atom
  IsInt : Atom
  IsText : Atom
  LenAtMost : (most : ℤ) → Atom
  Starts : (front : List ℕ) → Atom

abbrev pub sign_of : Cmp → Symbol
sign_of Eq = Equal
sign_of Ne = NotEqual
sign_of Lt = Less
sign_of Le = LessOrEqual
sign_of Gt = Greater
sign_of Ge = GreaterOrEqual

abbrev pub atom_tokens : Atom → List Token
atom_tokens (Compare cmp constant) = word key.X ∷ Sign (sign_of cmp) ∷ const_token constant ∷ []
atom_tokens (Mod divisor remainder) = word key.X ∷ word key.Mod ∷ Number divisor ∷ Sign Equal ∷ Number remainder ∷ []
atom_tokens IsInt = word key.Is ∷ word key.Int ∷ []
atom_tokens IsText = word key.Is ∷ word key.Text ∷ []
atom_tokens (LenAtMost most) = word key.Len ∷ Sign LessOrEqual ∷ Number most ∷ []
atom_tokens (Starts front) = word key.Starts ∷ Text front ∷ []

-- `or` and `and` group to the left: what stands before them is a tree of the same kind
mutual
  pub data GuardTree : Type 0 where
    Term : (term : TermTree) → GuardTree
    Or : (guard : GuardTree) (term : TermTree) → GuardTree

  pub data TermTree : Type 0 where
    Factor : (factor : FactorTree) → TermTree
    And : (term : TermTree) (factor : FactorTree) → TermTree

  pub data FactorTree : Type 0 where
    Not : (factor : FactorTree) → FactorTree
    Brackets : (guard : GuardTree) → FactorTree
    Only : (atom : Atom) → FactorTree

unfoldable mutual
  pub guard_tokens : GuardTree → List Token
  guard_tokens (Term term) = term_tokens term
  guard_tokens (Or guard term) = guard_tokens guard ++ word key.Or ∷ term_tokens term

  pub term_tokens : TermTree → List Token
  term_tokens (Factor factor) = factor_tokens factor
  term_tokens (And term factor) = term_tokens term ++ word key.And ∷ factor_tokens factor

  pub factor_tokens : FactorTree → List Token
  factor_tokens (Not factor) = word key.Not ∷ factor_tokens factor
  factor_tokens (Brackets guard) = Sign Open ∷ (guard_tokens guard ++ Sign Close ∷ [])
  factor_tokens (Only atom) = atom_tokens atom

-- a guard without its brackets
pub data Guard : Type 0 where
  Test : (atom : Atom) → Guard
  Both : (left right : Guard) → Guard
  Either : (left right : Guard) → Guard
  Fails : (inner : Guard) → Guard

unfoldable mutual
  pub guard_of : GuardTree → Guard
  guard_of (Term term) = term_of term
  guard_of (Or guard term) = Either (guard_of guard) (term_of term)

  pub term_of : TermTree → Guard
  term_of (Factor factor) = factor_of factor
  term_of (And term factor) = Both (term_of term) (factor_of factor)

  pub factor_of : FactorTree → Guard
  factor_of (Not factor) = Fails (factor_of factor)
  factor_of (Brackets guard) = guard_of guard
  factor_of (Only atom) = Test atom
