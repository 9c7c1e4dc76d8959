-- Which texts a guard or a function names, from left to right.
use Rattle.std.specs.Prelude.{ℕ, List, [], ◌∷◌, ◌++◌, flat_map}
use Rattle.reo_value.specs.declared.value.Value.{Value}
use Rattle.reo_value.specs.declared.value.Value.TheVariants.{Int, Sym}
use Rattle.reo_guard.specs.declared.guard.Guard.{Guard}
use Rattle.reo_guard.specs.declared.guard.Guard.TheOpen.{Guard-F}
use Rattle.reo_guard.specs.declared.guard.Guard.TheFolds.{fold-Guard}
use Rattle.reo_guard.specs.declared.fun.Fun.{Fun}
use Rattle.reo_guard.specs.declared.fun.Fun.TheVariants.{Add, Sub, Mul, Neg, Len, Map}

-- the text that a value is, if it is one
abbrev pub texts_of_value : Value → List ℕ
texts_of_value (Int i) = []
texts_of_value (Sym t) = t ∷ []

-- the texts of one layer of a guard, where those of the inner guards are known
abbrev pub texts_of_layer : Guard-F (List ℕ) → List ℕ
texts_of_layer (Guard-F.Compare cmp constant) = texts_of_value constant
texts_of_layer (Guard-F.Mod divisor remainder) = []
texts_of_layer Guard-F.IsInt = []
texts_of_layer Guard-F.IsText = []
texts_of_layer (Guard-F.LenAtMost most) = []
texts_of_layer (Guard-F.Starts front) = front ∷ []
texts_of_layer (Guard-F.And left right) = left ++ right
texts_of_layer (Guard-F.Or left right) = left ++ right
texts_of_layer (Guard-F.Not inner) = inner

-- the texts that a guard names
abbrev pub texts_of_guard : Guard → List ℕ
texts_of_guard guard = fold-Guard (List ℕ) texts_of_layer guard

-- the texts that a function names
abbrev pub texts_of_fun : Fun → List ℕ
texts_of_fun (Add k) = []
texts_of_fun (Sub k) = []
texts_of_fun (Mul k) = []
texts_of_fun Neg = []
texts_of_fun Len = []
texts_of_fun (Map pairs) = flat_map (λ pair. texts_of_value pair.0 ++ texts_of_value pair.1) pairs
