-- The trees with as few brackets as a guard needs.
use Rattle.std.proofs.Common.{◌≡◌, ◌+◌, ◌≤◌, List, [], ◌∷◌, ◌++◌, length, refl, ap, ◌∙◌, arith, length-append}
use Rattle.reo_token.specs.declared.token.Symbol.TheVariants.{Open, Close}
use Rattle.reo_grammar.specs.declared.key.Key.TheVariants as key
use Rattle.reo_grammar.specs.Token.{Token, Sign, word}
use Rattle.reo_grammar.specs.Guards.{GuardTree, TermTree, FactorTree, Term, Or, Factor, And, Not, Brackets, Only, guard_tokens, term_tokens, factor_tokens, Guard, Test, Both, Either, Fails, guard_of, term_of, factor_of}
use Rattle.reo_print.specs.declared.guard.Level.TheVariants.{AsGuard, AsTerm, AsFactor}
use Rattle.reo_print.specs.Trees.{trees_of, tokens_at, AreSpellable, HasSpellableAtoms, TreesMeanTheGuard, TreesAreShortest}

pub trees_mean : TreesMeanTheGuard
unfolding trees_of guard_of
trees_mean (Test atom) = (refl, refl, refl)
trees_mean (Both left right) =
    let both = ap (λ l. Both l (factor_of (trees_of right).factor)) (trees_mean left).1 ∙ ap (Both left) (trees_mean right).2 in
    (both, both, both)
trees_mean (Either left right) =
    let either = ap (λ l. Either l (term_of (trees_of right).term)) (trees_mean left).0 ∙ ap (Either left) (trees_mean right).1 in
    (either, either, either)
trees_mean (Fails inner) =
    let fails = ap Fails (trees_mean inner).2 in
    (fails, fails, fails)

-- brackets cost two tokens, and no place costs more than the next one
record IsOrdered (guard : Guard) : Type 0 where
  guard_term : length (tokens_at AsGuard guard) ≤ length (tokens_at AsTerm guard)
  term_factor : length (tokens_at AsTerm guard) ≤ length (tokens_at AsFactor guard)
  brackets : length (tokens_at AsFactor guard) ≤ length (tokens_at AsGuard guard) + 2

bracketed : (tokens : List Token) → length (Sign Open ∷ (tokens ++ Sign Close ∷ [])) ≡ length tokens + 2
bracketed tokens = omega (arith, length-append tokens (Sign Close ∷ []))

ordered : (guard : Guard) → IsOrdered guard
unfolding trees_of guard_tokens
ordered (Test atom) = record { guard_term = omega arith; term_factor = omega arith; brackets = omega arith }
ordered (Both left right) =
    let count = bracketed (term_tokens (And (trees_of left).term (trees_of right).factor)) in
    record { guard_term = omega arith; term_factor = omega (arith, count); brackets = omega (arith, count) }
ordered (Either left right) =
    let count = bracketed (guard_tokens (Or (trees_of left).guard (trees_of right).term)) in
    record { guard_term = omega (arith, count); term_factor = omega arith; brackets = omega (arith, count) }
ordered (Fails inner) = record { guard_term = omega arith; term_factor = omega arith; brackets = omega arith }

joined : (front back : List Token) (between : Token) → length (front ++ between ∷ back) ≡ length front + length back + 1
joined front back between = omega (arith, length-append front (between ∷ back))

unfolding_or : (left right : Guard) → length (tokens_at AsGuard (Either left right)) ≡ length (tokens_at AsGuard left) + length (tokens_at AsTerm right) + 1
unfolding trees_of guard_tokens
unfolding_or left right = joined (guard_tokens (trees_of left).guard) (term_tokens (trees_of right).term) (word key.Or)

unfolding_and : (left right : Guard) → length (tokens_at AsTerm (Both left right)) ≡ length (tokens_at AsTerm left) + length (tokens_at AsFactor right) + 1
unfolding trees_of guard_tokens
unfolding_and left right = joined (term_tokens (trees_of left).term) (factor_tokens (trees_of right).factor) (word key.And)

unfolding_not : (inner : Guard) → length (tokens_at AsFactor (Fails inner)) ≡ length (tokens_at AsFactor inner) + 1
unfolding trees_of guard_tokens
unfolding_not inner = omega arith

mutual
  unfolding guard_of guard_tokens trees_of

  pub guard_shortest : TreesAreShortest
  guard_shortest (Term term) = omega (arith, term_shortest term, (ordered (term_of term)).guard_term)
  guard_shortest (Or guard term) =
      omega (arith, guard_shortest guard, term_shortest term, unfolding_or (guard_of guard) (term_of term), joined (guard_tokens guard) (term_tokens term) (word key.Or))

  term_shortest : (tree : TermTree) → length (tokens_at AsTerm (term_of tree)) ≤ length (term_tokens tree)
  term_shortest (Factor factor) = omega (arith, factor_shortest factor, (ordered (factor_of factor)).term_factor)
  term_shortest (And term factor) =
      omega (arith, term_shortest term, factor_shortest factor, unfolding_and (term_of term) (factor_of factor), joined (term_tokens term) (factor_tokens factor) (word key.And))

  factor_shortest : (tree : FactorTree) → length (tokens_at AsFactor (factor_of tree)) ≤ length (factor_tokens tree)
  factor_shortest (Not factor) = omega (arith, factor_shortest factor, unfolding_not (factor_of factor))
  factor_shortest (Brackets guard) = omega (arith, guard_shortest guard, (ordered (guard_of guard)).brackets, bracketed (guard_tokens guard))
  factor_shortest (Only atom) = omega arith

pub spellable_parts : (front back : List Token) → AreSpellable (front ++ back) → AreSpellable front × AreSpellable back
spellable_parts [] back all = (tt, all)
spellable_parts (token ∷ front) back all =
    let parts = spellable_parts front back all.1 in
    ((all.0, parts.0), parts.1)

mutual
  unfolding guard_of guard_tokens HasSpellableAtoms

  pub guard_spellable : (tree : GuardTree) → AreSpellable (guard_tokens tree) → HasSpellableAtoms (guard_of tree)
  guard_spellable (Term term) all = term_spellable term all
  guard_spellable (Or guard term) all =
      let parts = spellable_parts (guard_tokens guard) (word key.Or ∷ term_tokens term) all in
      (guard_spellable guard parts.0, term_spellable term parts.1.1)

  term_spellable : (tree : TermTree) → AreSpellable (term_tokens tree) → HasSpellableAtoms (term_of tree)
  term_spellable (Factor factor) all = factor_spellable factor all
  term_spellable (And term factor) all =
      let parts = spellable_parts (term_tokens term) (word key.And ∷ factor_tokens factor) all in
      (term_spellable term parts.0, factor_spellable factor parts.1.1)

  factor_spellable : (tree : FactorTree) → AreSpellable (factor_tokens tree) → HasSpellableAtoms (factor_of tree)
  factor_spellable (Not factor) all = factor_spellable factor all.1
  factor_spellable (Brackets guard) all = guard_spellable guard (spellable_parts (guard_tokens guard) (Sign Close ∷ []) all.1).0
  factor_spellable (Only atom) all = all
