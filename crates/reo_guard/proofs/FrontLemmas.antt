-- The bytes at the front of a text.
use Rattle.std.proofs.Common.{◌≡◌, ℕ, ◌↔◌, Bool, List, ◌++◌, length, take, drop, nat_eq, IsTrue, sym, ap, ◌∙◌, subst, take-append-drop}
use Rattle.std.specs.List.{starts_with}
use Rattle.std.proofs.Math.Seq.{take-append_seam}
use Rattle.std.proofs.lemmas.Slice.Eq.{bytes_eq-Decides}
use Rattle.reo_value.specs.declared.value.Value.{Value}
use Rattle.reo_value.specs.declared.value.Value.TheVariants.{Sym}
use Rattle.reo_value.specs.Lexicon.{text_at}
use Rattle.reo_guard.specs.Holds.{StartsWith}

-- the test of bytes says whether they begin so
begins : (bytes front : List ℕ) (answer : Bool) → answer ≡ starts_with nat_eq bytes front → IsTrue answer ↔ ((rest : List ℕ) × (bytes ≡ front ++ rest))
begins bytes front answer is =
    let same = bytes_eq-Decides front (take (length front) bytes) in (
      λ yes. (drop (length front) bytes, sym (take-append-drop (length front) bytes) ∙ ap (λ l. l ++ drop (length front) bytes) (sym (same.0 (sym is ∙ yes)))),
      λ split. is ∙ same.1 (sym (ap (take (length front)) split.1 ∙ take-append_seam front split.0)),
    )

pub text_begins : (texts : List (List ℕ)) (datum : Value) (text : ℕ) (bytes front tested : List ℕ) (answer : Bool) → datum ≡ Sym text → bytes ≡ text_at texts text → tested ≡ front
    → answer ≡ starts_with nat_eq bytes tested → IsTrue answer ↔ StartsWith texts front datum
text_begins texts datum text bytes front tested answer is same asked by =
    subst (λ d. IsTrue answer ↔ StartsWith texts front d) (sym is)
    (subst (λ b. IsTrue answer ↔ ((rest : List ℕ) × (b ≡ front ++ rest))) same
    (subst (λ f. IsTrue answer ↔ ((rest : List ℕ) × (bytes ≡ f ++ rest))) asked (begins bytes tested answer by)))
