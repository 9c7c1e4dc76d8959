-- Codes determine their values.
use Rattle.std.proofs.Common.{◌≡◌, ap, arith}
use Rattle.std.specs.Prelude.{pos, negsuc}
use Rattle.std.proofs.lemmas.Int.{ints}
use Rattle.reo_value.specs.declared.value.Value.{Value}
use Rattle.reo_value.specs.declared.value.Value.TheVariants.{Int, Sym}
use Rattle.reo_value.specs.Code.{code_of, CodesDiffer}

pub codes_differ : CodesDiffer
codes_differ (Int (pos m)) (Int (pos n)) is_v is_w same = ap (λ k. Int (pos k)) (omega arith)
codes_differ (Int (pos m)) (Int (negsuc n)) is_v is_w same = absurd (omega arith)
codes_differ (Int (negsuc m)) (Int (pos n)) is_v is_w same = absurd (omega arith)
codes_differ (Int (negsuc m)) (Int (negsuc n)) is_v is_w same = ap (λ k. Int (negsuc k)) (omega (arith, ints, is_v, is_w))
codes_differ (Int (pos m)) (Sym t) is_v is_w same = absurd (omega arith)
codes_differ (Int (negsuc m)) (Sym t) is_v is_w same = absurd (omega arith)
codes_differ (Sym s) (Int (pos n)) is_v is_w same = absurd (omega arith)
codes_differ (Sym s) (Int (negsuc n)) is_v is_w same = absurd (omega arith)
codes_differ (Sym s) (Sym t) is_v is_w same = ap (λ k. Sym k) (omega arith)

pub code_is_not_zero : (v : Value) → 0 ≡ code_of v → ⊥
code_is_not_zero (Int (pos n)) is = omega arith
code_is_not_zero (Int (negsuc n)) is = omega arith
code_is_not_zero (Sym t) is = omega arith
