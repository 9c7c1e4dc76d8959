use Rattle.std.proofs.Common.{length, rules, ap, pos}
use Rattle.reo_value.specs.declared.value.Value.TheVariants.{Int}
use Rattle.reo_guard.proofs.YieldsLemmas.{at_case, at_integer, at_value}
use Rattle.reo_guard.proofs.fun.apply.Goals as goal

pub returns-in-Add-Int : goal.returns-in-Add-Int
returns-in-Add-Int c = record {
  exact = λ value. at_case _ _ _ _ _ value _ c.in-Add-Int.is-0 c.in-Add-Int.is-1 (at_integer _ _ value _ (search rules) (c.in_range.ensures.exact _ c.checked_add.ensures value));
}

pub returns-in-Sub-Int : goal.returns-in-Sub-Int
returns-in-Sub-Int c = record {
  exact = λ value. at_case _ _ _ _ _ value _ c.in-Sub-Int.is-0 c.in-Sub-Int.is-1 (at_integer _ _ value _ (search rules) (c.in_range-in-Sub-Int.ensures.exact _ c.checked_sub.ensures value));
}

pub returns-in-Mul-Int : goal.returns-in-Mul-Int
returns-in-Mul-Int c = record {
  exact = λ value. at_case _ _ _ _ _ value _ c.in-Mul-Int.is-0 c.in-Mul-Int.is-1 (at_integer _ _ value _ (search rules) (c.in_range-in-Mul-Int.ensures.exact _ c.checked_mul.ensures value));
}

pub returns-in-Neg-Int : goal.returns-in-Neg-Int
returns-in-Neg-Int c = record {
  exact = λ value. at_case _ _ _ _ _ value _ c.in-Neg-Int.is-0 c.in-Neg-Int.is-1 (at_integer _ _ value _ (search rules) (c.in_range-in-Neg-Int.ensures.exact _ c.checked_neg.ensures value));
}

pub returns-in-Len-Sym : goal.returns-in-Len-Sym
returns-in-Len-Sym c = record {
  exact = λ value. at_case _ _ _ _ _ value _ c.in-Len-Sym.is-0 c.in-Len-Sym.is-1 (at_value _ value _ _ c.length_of.ensures (ap (λ bytes. Int (pos (length bytes))) c.text_or_empty.ensures.text));
}
