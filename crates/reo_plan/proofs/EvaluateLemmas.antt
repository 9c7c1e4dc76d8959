-- What the functions below answer is what is calculated.
use Rattle.std.proofs.Common.{◌≡◌, ◌↔◌, ℕ, List, Option, Some, None, refl, sym, ◌∙◌}
use Rattle.std.proofs.lemmas.Option.{none-some}
use Rattle.reo_value.specs.declared.value.Value.{Value}
use Rattle.reo_value.specs.Code.{IsValue}
use Rattle.reo_guard.specs.declared.fun.Fun.{Fun}
use Rattle.reo_guard.specs.Yields.{Yields}
use Rattle.reo_flow.specs.Tests.{yielded}
use Rattle.reo_flow.proofs.TestLemmas.{yielded_yields}

module _ (texts : List (List ℕ)) (fun : Fun) (datum : Value) (answer : Option Value) (exact : (value : Value) → (answer ≡ Some value) ↔ Yields texts fun datum value) where
  pub yielded_some : (v : Value) → answer ≡ Some v → IsValue v → Some v ≡ yielded texts fun datum
  yielded_some v is value = sym ((yielded_yields texts fun datum v).1 ((exact v).0 is, value))

  pub yielded_none : answer ≡ None → None ≡ yielded texts fun datum
  yielded_none is = go (yielded texts fun datum) refl
    where
      go : (o : Option Value) → yielded texts fun datum ≡ o → None ≡ o
      go None e = refl
      go (Some w) e = absurd (none-some w (sym is ∙ (exact w).1 ((yielded_yields texts fun datum w).0 e).0))
