-- Guards, functions and codes by calculation: the lemmas say that these are what the definitions say.
use Rattle.std.specs.Prelude.{ℕ, ℤ, pos, negsuc, ◌+◌, ◌-◌, ◌/◌, ◌%◌, ◌^◌, ◌+ℤ◌, ◌-ℤ◌, ◌*ℤ◌, neg_ℤ, nat_eq, nat_lt, List, [], ◌∷◌, length, Bool, true, false, not, ◌&&◌, ◌||◌, if◌then◌else◌, Option, Some, None}
use Rattle.std.specs.List.{starts_with}
use Rattle.std.specs.Ordering.{is_lt, is_le, is_gt, is_ge, int_eq}
use Rattle.std.specs.declared.cmp.Ordering.{Ordering}
use Rattle.std.specs.Int.{int_rem_euclid}
use Rattle.reo_value.specs.declared.value.Value.{Value}
use Rattle.reo_value.specs.declared.value.Value.TheVariants.{Int, Sym}
use Rattle.reo_value.specs.Lexicon.{text_at}
use Rattle.reo_guard.specs.declared.guard.Cmp.{Cmp}
use Rattle.reo_guard.specs.declared.guard.Cmp.TheVariants.{Eq, Ne, Lt, Le, Gt, Ge}
use Rattle.reo_guard.specs.declared.guard.Guard.{Guard}
use Rattle.reo_guard.specs.declared.guard.Guard.TheOpen.{Guard-F}
use Rattle.reo_guard.specs.declared.guard.Guard.TheFolds.{fold-Guard}
use Rattle.reo_guard.specs.declared.fun.Fun.{Fun}
use Rattle.reo_guard.specs.declared.fun.Fun.TheVariants.{Add, Sub, Mul, Neg, Len, Map}
use Rattle.reo_guard.specs.Holds.{order_of}

abbrev pub value_eq : Value → Value → Bool
value_eq (Int i) (Int j) = int_eq i j
value_eq (Int i) (Sym t) = false
value_eq (Sym s) (Int j) = false
value_eq (Sym s) (Sym t) = nat_eq s t

abbrev pub is_one_of : (Ordering → Bool) → Option Ordering → Bool
is_one_of these None = false
is_one_of these (Some order) = these order

abbrev pub compares : List (List ℕ) → Cmp → Value → Value → Bool
compares texts Eq datum constant = value_eq datum constant
compares texts Ne datum constant = not (value_eq datum constant)
compares texts Lt datum constant = is_one_of is_lt (order_of texts datum constant)
compares texts Le datum constant = is_one_of is_le (order_of texts datum constant)
compares texts Gt datum constant = is_one_of is_gt (order_of texts datum constant)
compares texts Ge datum constant = is_one_of is_ge (order_of texts datum constant)

abbrev pub has_remainder : ℕ → ℕ → Value → Bool
has_remainder divisor remainder (Int i) = not (nat_eq divisor 0) && int_eq (int_rem_euclid i (pos divisor)) (pos remainder)
has_remainder divisor remainder (Sym t) = false

abbrev pub is_short : List (List ℕ) → ℕ → Value → Bool
is_short texts most (Int i) = false
is_short texts most (Sym t) = nat_lt (length (text_at texts t)) (most + 1)

abbrev pub begins_with : List (List ℕ) → List ℕ → Value → Bool
begins_with texts front (Int i) = false
begins_with texts front (Sym t) = starts_with nat_eq (text_at texts t) front

abbrev pub is_integer : Value → Bool
is_integer (Int i) = true
is_integer (Sym t) = false

-- whether the datum meets one layer of a guard, where it is known which of the inner guards it meets
abbrev pub meets_layer : List (List ℕ) → Value → Guard-F Bool → Bool
meets_layer texts datum (Guard-F.Compare cmp constant) = compares texts cmp datum constant
meets_layer texts datum (Guard-F.Mod divisor remainder) = has_remainder divisor remainder datum
meets_layer texts datum Guard-F.IsInt = is_integer datum
meets_layer texts datum Guard-F.IsText = not (is_integer datum)
meets_layer texts datum (Guard-F.LenAtMost most) = is_short texts most datum
meets_layer texts datum (Guard-F.Starts front) = begins_with texts (text_at texts front) datum
meets_layer texts datum (Guard-F.And left right) = left && right
meets_layer texts datum (Guard-F.Or left right) = left || right
meets_layer texts datum (Guard-F.Not inner) = not inner

-- whether the datum meets the guard
abbrev pub is_met : List (List ℕ) → Guard → Value → Bool
is_met texts guard datum = fold-Guard Bool (meets_layer texts datum) guard

abbrev pub is_number : ℤ → Bool
is_number (pos n) = nat_lt n (2 ^ 62)
is_number (negsuc n) = nat_lt n (2 ^ 62)

abbrev pub is_value : Value → Bool
is_value (Int i) = is_number i
is_value (Sym t) = nat_lt t (2 ^ 32)

-- the value, where it is one of the program
abbrev pub if_value : Option Value → Option Value
if_value None = None
if_value (Some v) = if is_value v then Some v else None

abbrev pub at_integer : (ℤ → ℤ) → Value → Option Value
at_integer f (Int i) = Some (Int (f i))
at_integer f (Sym t) = None

abbrev pub length_at : List (List ℕ) → Value → Option Value
length_at texts (Int i) = None
length_at texts (Sym t) = Some (Int (pos (length (text_at texts t))))

abbrev pub first_at : List (Value × Value) → Value → Option Value
first_at [] datum = None
first_at (pair ∷ pairs) datum = if value_eq pair.0 datum then Some pair.1 else first_at pairs datum

abbrev pub calculated : List (List ℕ) → Fun → Value → Option Value
calculated texts (Add k) datum = at_integer (λ i. i +ℤ k) datum
calculated texts (Sub k) datum = at_integer (λ i. i -ℤ k) datum
calculated texts (Mul k) datum = at_integer (λ i. i *ℤ k) datum
calculated texts Neg datum = at_integer neg_ℤ datum
calculated texts Len datum = length_at texts datum
calculated texts (Map pairs) datum = first_at pairs datum

-- the value that the function yields at the datum, if it yields one
abbrev pub yielded : List (List ℕ) → Fun → Value → Option Value
yielded texts fun datum = if_value (calculated texts fun datum)

-- the value with this code, if there is one
abbrev pub decoded : ℕ → Option Value
decoded word =
    if nat_eq (word % 2) 1 then if_value (Some (Int (if nat_lt (word / 2) (2 ^ 62) then negsuc (2 ^ 62 - 1 - word / 2) else pos (word / 2 - 2 ^ 62))))
    else (if nat_eq word 0 then None else if_value (Some (Sym (word / 2 - 1))))
