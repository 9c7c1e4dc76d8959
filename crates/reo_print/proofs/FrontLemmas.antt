-- Texts made once for each port.
use Rattle.std.proofs.Common.{◌≡◌, ℕ, zero, suc, List, [], ◌∷◌, ◌++◌, length, slice_get, Option, Some, sym, ap, ◌∙◌, subst}
use Rattle.std.proofs.lemmas.Option.{same_Some}
use Rattle.reo_net.specs.declared.circuit.Port.{Port}
use Rattle.reo_print.specs.Front.{AreOf}

-- an element of a list with one more at its end
last_or : {A : Type 0} (P : ℕ → A → Type 0) (xs : List A) (x : A) → ((k : ℕ) (y : A) → slice_get xs k ≡ Some y → P k y) → P (length xs) x → (k : ℕ) (y : A) → slice_get (xs ++ x ∷ []) k ≡ Some y → P k y
last_or P [] x before last zero y is = subst (P 0) (same_Some x y is) last
last_or P [] x before last (suc k) y is = cc
last_or P (z ∷ xs) x before last zero y is = before 0 y is
last_or P (z ∷ xs) x before last (suc k) y is = last_or (λ n. P (suc n)) xs x (λ n. before (suc n)) last k y is

pub texts_more : (text_of : Option Port → List ℕ) (ports : List Port) (old new : List (List ℕ)) (port : ℕ) (text : List ℕ) → AreOf text_of ports old → length old ≡ port → new ≡ old ++ text ∷ []
    → text ≡ text_of (slice_get ports port) → AreOf text_of ports new
texts_more text_of ports old new port text are long is made =
    subst (AreOf text_of ports) (sym is) (last_or (λ k y. y ≡ text_of (slice_get ports k)) old text are (made ∙ ap (λ n. text_of (slice_get ports n)) (sym long)))
