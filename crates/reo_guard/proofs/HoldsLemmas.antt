-- What it means to meet a guard, one layer of it at a time.
use Rattle.std.proofs.Common.{◌≡◌, ◌↔◌, ◌⊎◌, inl, inr, ⊎_elim, ℕ, List, Bool, true, false, not, IsTrue, refl, sym, subst, ◌∙◌}
use Rattle.std.proofs.lemmas.Bool.{false≢true}
use Rattle.reo_value.specs.declared.value.Value.{Value}
use Rattle.reo_guard.specs.declared.guard.Guard.{Guard, roll-Guard}
use Rattle.reo_guard.specs.declared.guard.Guard.TheVariants.{And, Or, Not, rolls-And, rolls-Or, rolls-Not}
use Rattle.reo_guard.specs.declared.guard.Guard.TheOpen.{Guard-F}
use Rattle.reo_guard.specs.declared.guard.Guard.TheFolds.{map-Guard, rec-roll-Guard}
use Rattle.reo_guard.specs.Holds.{Holds, Meets}
use Rattle.reo_guard.specs.Laws.{AndIsBoth, OrIsEither, NotIsNone}

-- a layer does not look at what the inner guards are, only at which of them are met
same_layer : (texts : List (List ℕ)) (datum : Value) (Inner : Type 0) (shown : Inner → Guard) (MetBy : Guard → Type 0) (layer : Guard-F Inner)
    → ◌≡◌ {A = Type 0} (Meets texts datum (λ inner. MetBy (shown inner)) layer) (Meets texts datum MetBy (map-Guard Inner Guard shown layer))
same_layer texts datum Inner shown MetBy (Guard-F.Compare cmp constant) = refl
same_layer texts datum Inner shown MetBy (Guard-F.Mod divisor remainder) = refl
same_layer texts datum Inner shown MetBy Guard-F.IsInt = refl
same_layer texts datum Inner shown MetBy Guard-F.IsText = refl
same_layer texts datum Inner shown MetBy (Guard-F.LenAtMost most) = refl
same_layer texts datum Inner shown MetBy (Guard-F.Starts front) = refl
same_layer texts datum Inner shown MetBy (Guard-F.And left right) = refl
same_layer texts datum Inner shown MetBy (Guard-F.Or left right) = refl
same_layer texts datum Inner shown MetBy (Guard-F.Not inner) = refl

Holds-roll : (texts : List (List ℕ)) (datum : Value) (layer : Guard-F Guard) → ◌≡◌ {A = Type 0} (Holds texts (roll-Guard layer) datum) (Meets texts datum (λ inner. Holds texts inner datum) layer)
Holds-roll texts datum layer = rec-roll-Guard (Type 0) (λ Inner shown MetBy. Meets texts datum MetBy) (same_layer texts datum) layer

-- a guard holds as its outermost layer says
of_layer : (texts : List (List ℕ)) (datum : Value) (guard : Guard) (layer : Guard-F Guard) → roll-Guard layer ≡ guard → Holds texts guard datum ↔ Meets texts datum (λ inner. Holds texts inner datum) layer
of_layer texts datum guard layer is =
    subst (λ g. Holds texts g datum ↔ Meets texts datum (λ inner. Holds texts inner datum) layer) is
    (subst (λ M. M ↔ Meets texts datum (λ inner. Holds texts inner datum) layer) (sym (Holds-roll texts datum layer)) (λ m. m, λ m. m))

pub and_is_both : AndIsBoth
and_is_both texts left right datum = of_layer texts datum (And left right) (Guard-F.And left right) (rolls-And left right)

pub or_is_either : OrIsEither
or_is_either texts left right datum = of_layer texts datum (Or left right) (Guard-F.Or left right) (rolls-Or left right)

pub not_is_none : NotIsNone
not_is_none texts inner datum = of_layer texts datum (Not inner) (Guard-F.Not inner) (rolls-Not inner)

-- the answer for a guard is that for its outermost layer
pub by_layer : (texts : List (List ℕ)) (datum : Value) (guard : Guard) (layer : Guard-F Guard) (answer : Bool) → guard ≡ roll-Guard layer
    → IsTrue answer ↔ Meets texts datum (λ inner. Holds texts inner datum) layer → IsTrue answer ↔ Holds texts guard datum
by_layer texts datum guard layer answer is by =
    subst (λ g. IsTrue answer ↔ Holds texts g datum) (sym is) (subst (λ M. IsTrue answer ↔ M) (sym (Holds-roll texts datum layer)) by)

-- the answer is for the guard that is shown
pub of_shown : (texts : List (List ℕ)) (datum : Value) (shown inner : Guard) (answer : Bool) → shown ≡ inner → IsTrue answer ↔ Holds texts shown datum → IsTrue answer ↔ Holds texts inner datum
of_shown texts datum shown inner answer is by = subst (λ g. IsTrue answer ↔ Holds texts g datum) is by

-- the second decides, where the first holds
pub both : {A B : Type 0} (first second : Bool) → IsTrue first ↔ A → first ≡ true → IsTrue second ↔ B → IsTrue second ↔ (A × B)
both first second by_first holds by_second = (λ t. (by_first.0 holds, by_second.0 t), λ two. by_second.1 two.1)

-- the first decides, where it fails
pub not_both : {A B : Type 0} (first : Bool) → IsTrue first ↔ A → first ≡ false → IsTrue first ↔ (A × B)
not_both first by_first fails = (λ t. absurd (false≢true (sym fails ∙ t)), λ two. by_first.1 two.0)

-- the first decides, where it holds
pub first_of_two : {A B : Type 0} (first : Bool) → IsTrue first ↔ A → first ≡ true → IsTrue first ↔ (A ⊎ B)
first_of_two first by_first holds = (λ t. inl (by_first.0 t), λ some. holds)

-- the second decides, where the first fails
pub second_of_two : {A B : Type 0} (first second : Bool) → IsTrue first ↔ A → first ≡ false → IsTrue second ↔ B → IsTrue second ↔ (A ⊎ B)
second_of_two first second by_first fails by_second =
    (λ t. inr (by_second.0 t), λ some. ⊎_elim (λ a. absurd (false≢true (sym fails ∙ by_first.1 a))) (λ b. by_second.1 b) some)

pub turned : {A : Type 0} (answer : Bool) → IsTrue answer ↔ A → IsTrue (not answer) ↔ (A → ⊥)
turned true by = (λ t a. false≢true t, λ none. absurd (none (by.0 refl)))
turned false by = (λ t a. false≢true (by.1 a), λ none. refl)
