-- The trees of the grammar with as few brackets as a guard needs.
use Rattle.std.specs.Prelude.{◌≡◌, ℕ, ◌≤◌, true, false, List, [], ◌∷◌, ◌++◌, length}
use Rattle.reo_grammar.specs.Token.{Token, Word, Number, Text, Sign}
use Rattle.reo_grammar.specs.Guards.{atom_tokens, GuardTree, TermTree, FactorTree, Term, Or, Factor, And, Not, Brackets, Only, guard_tokens, term_tokens, factor_tokens, Guard, Test, Both, Either, Fails, guard_of, term_of, factor_of}
use Rattle.reo_grammar.specs.Functions.{Function, function_tokens}
use Rattle.reo_sentence.specs.Limits.{is_wide_guard, is_wide_function}
use Rattle.reo_sentence.specs.Numbered.{numbered_guard, numbered_function}
use Rattle.reo_print.specs.declared.guard.Level.{Level}
use Rattle.reo_print.specs.declared.guard.Level.TheVariants.{AsGuard, AsTerm, AsFactor}
use Rattle.reo_print.specs.Canonical.{guard_text, function_text}
use Rattle.reo_print.specs.Tokens.{breaks, CanBeWritten, IsWritten}

-- the trees of a guard, for each place where it may stand
pub record Trees : Type 0 where
  pub guard : GuardTree
  pub term : TermTree
  pub factor : FactorTree

abbrev pub from_factor : FactorTree → Trees
from_factor factor = record { guard = Term (Factor factor); term = Factor factor; factor = factor }

abbrev pub from_term : TermTree → Trees
from_term term = record { guard = Term term; term = term; factor = Brackets (Term term) }

abbrev pub from_guard : GuardTree → Trees
from_guard guard = record { guard = guard; term = Factor (Brackets guard); factor = Brackets guard }

unfoldable pub trees_of : Guard → Trees
trees_of (Test atom) = from_factor (Only atom)
trees_of (Both left right) = from_term (And (trees_of left).term (trees_of right).factor)
trees_of (Either left right) = from_guard (Or (trees_of left).guard (trees_of right).term)
trees_of (Fails inner) = from_factor (Not (trees_of inner).factor)

-- its tokens, by where it stands
abbrev pub tokens_at : Level → Guard → List Token
tokens_at AsGuard guard = guard_tokens (trees_of guard).guard
tokens_at AsTerm guard = term_tokens (trees_of guard).term
tokens_at AsFactor guard = factor_tokens (trees_of guard).factor

-- a token that can be spelled; a number may be out of its range
abbrev pub IsSpellable : Token → Type 0
IsSpellable (Word bytes) = CanBeWritten (Word bytes)
IsSpellable (Number value) = Unit {0}
IsSpellable (Text value) = CanBeWritten (Text value)
IsSpellable (Sign symbol) = Unit {0}

abbrev pub AreSpellable : List Token → Type 0
AreSpellable [] = Unit {0}
AreSpellable (token ∷ tokens) = IsSpellable token × AreSpellable tokens

-- the tokens of all its atoms can be spelled
unfoldable pub HasSpellableAtoms : Guard → Type 0
HasSpellableAtoms (Test atom) = AreSpellable (atom_tokens atom)
HasSpellableAtoms (Both left right) = HasSpellableAtoms left × HasSpellableAtoms right
HasSpellableAtoms (Either left right) = HasSpellableAtoms left × HasSpellableAtoms right
HasSpellableAtoms (Fails inner) = HasSpellableAtoms inner

-- the list goes on from another
pub record Extends (front whole : List (List ℕ)) : Type 0 where
  pub more : List (List ℕ)
  pub is : whole ≡ front ++ more

-- in front of what breaks, the bytes are these tokens as they are written
pub record Writes (bytes : List ℕ) (tokens : List Token) : Type 0 where
  pub before : (rest : List ℕ) (more : List Token) → breaks rest ≡ true
      → IsWritten rest more → IsWritten (bytes ++ rest) (tokens ++ more)

-- the trees mean the guard
abbrev pub TreesMeanTheGuard : Type 0
TreesMeanTheGuard = (guard : Guard)
    → let trees = trees_of guard in
    (guard_of trees.guard ≡ guard) × (term_of trees.term ≡ guard) × (factor_of trees.factor ≡ guard)

-- no tree that means it has fewer tokens
abbrev pub TreesAreShortest : Type 0
TreesAreShortest = (tree : GuardTree) → length (tokens_at AsGuard (guard_of tree)) ≤ length (guard_tokens tree)

-- what is written of a guard, with its texts by number, are the tokens of its trees
abbrev pub GuardsAreWritten : Type 0
GuardsAreWritten = (guard : Guard) (known texts : List (List ℕ)) (level : Level) → Extends (numbered_guard guard known).0 texts
    → HasSpellableAtoms guard → is_wide_guard guard ≡ false
    → Writes (guard_text texts (numbered_guard guard known).1 level) (tokens_at level guard)

-- and of a function its own tokens
abbrev pub FunctionsAreWritten : Type 0
FunctionsAreWritten = (function : Function) (known texts : List (List ℕ)) → Extends (numbered_function function known).0 texts
    → AreSpellable (function_tokens function)
    → is_wide_function function ≡ false → Writes (function_text texts (numbered_function function known).1) (function_tokens function)
