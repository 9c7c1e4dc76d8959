-- A text between its quotes.
use Rattle.std.proofs.Common.{◌≡◌, ℕ, ◌==◌, nat_lt, Bool, true, false, if◌then◌else◌, List, [], ◌∷◌, ◌++◌, flat_map, Some, codes, refl, ap, ◌∙◌, append_assoc}
use Rattle.reo_print.proofs.TextLemmas.{not_so}
use Rattle.reo_picture.specs.Picture.{quoted_byte, quoted}
use Rattle.reo_picture.specs.Laws.{behind_inner, behind_quoted}

inner_ends : (text rest : List ℕ) → behind_inner false (flat_map quoted_byte text ++ 34 ∷ rest) ≡ Some rest
inner_ends [] rest = refl
inner_ends (byte ∷ text) rest = by (byte == 34) (byte == 92) (byte == 38) (nat_lt byte 32) refl refl (inner_ends text rest)
  where
    by : (quote slash sign low : Bool) → (byte == 34) ≡ quote → (byte == 92) ≡ slash → behind_inner false (flat_map quoted_byte text ++ 34 ∷ rest) ≡ Some rest
        → behind_inner false (((if quote then codes "\\\"" else (if slash then codes "\\\\" else (if sign then codes "&amp;" else (if low then codes " " else byte ∷ [])))) ++ flat_map quoted_byte text) ++ 34 ∷ rest) ≡ Some rest
    by true slash sign low q s again = again
    by false true sign low q s again = again
    by false false true low q s again = again
    by false false false true q s again = again
    by false false false false q s again =
        not_so (λ r. r) (byte == 34) _ _ q ∙ ap (λ taken. behind_inner taken (flat_map quoted_byte text ++ 34 ∷ rest)) s ∙ again

pub quotes_hold : (text rest : List ℕ) → behind_quoted (quoted text ++ rest) ≡ Some rest
quotes_hold text rest = ap (behind_inner false) (append_assoc (flat_map quoted_byte text) (34 ∷ []) rest) ∙ inner_ends text rest
