-- Which data meet a guard.
use Rattle.std.specs.Prelude.{◌≡◌, ◌≢◌, ℕ, pos, ◌≤◌, ◌⊎◌, List, ◌++◌, length, Bool, IsTrue, Option, Some, None}
use Rattle.std.specs.Ordering.{is_lt, is_le, is_gt, is_ge, nat_cmp, int_cmp}
use Rattle.std.specs.declared.cmp.Ordering.{Ordering}
use Rattle.std.specs.Cmp.Lexicographic.{slice_cmp}
use Rattle.std.specs.Int.{int_rem_euclid}
use Rattle.reo_value.specs.declared.value.Value.{Value}
use Rattle.reo_value.specs.declared.value.Value.TheVariants.{Int, Sym}
use Rattle.reo_guard.specs.declared.guard.Cmp.{Cmp}
use Rattle.reo_guard.specs.declared.guard.Cmp.TheVariants.{Eq, Ne, Lt, Le, Gt, Ge}
use Rattle.reo_guard.specs.declared.guard.Guard.{Guard}
use Rattle.reo_guard.specs.declared.guard.Guard.TheOpen.{Guard-F}
use Rattle.reo_guard.specs.declared.guard.Guard.TheFolds.{rec-Guard}
use Rattle.reo_value.specs.Lexicon.{text_at}

-- how a value stands to another: integers by size, texts by their bytes, an integer and a text not at all
abbrev pub order_of : List (List ℕ) → Value → Value → Option Ordering
order_of texts (Int i) (Int j) = Some (int_cmp i j)
order_of texts (Int i) (Sym t) = None
order_of texts (Sym s) (Int j) = None
order_of texts (Sym s) (Sym t) = Some (slice_cmp nat_cmp (text_at texts s) (text_at texts t))

-- there is an order, and it is one of these
abbrev pub IsOneOf : (Ordering → Bool) → Option Ordering → Type 0
IsOneOf these None = ⊥
IsOneOf these (Some order) = IsTrue (these order)

-- the datum compares so with the constant; whether two texts are equal goes by their numbers
abbrev pub Compares : List (List ℕ) → Cmp → Value → Value → Type 0
Compares texts Eq datum constant = datum ≡ constant
Compares texts Ne datum constant = datum ≢ constant
Compares texts Lt datum constant = IsOneOf is_lt (order_of texts datum constant)
Compares texts Le datum constant = IsOneOf is_le (order_of texts datum constant)
Compares texts Gt datum constant = IsOneOf is_gt (order_of texts datum constant)
Compares texts Ge datum constant = IsOneOf is_ge (order_of texts datum constant)

-- an integer with this remainder, from 0 on, by a number that is not 0
abbrev pub HasRemainder : ℕ → ℕ → Value → Type 0
HasRemainder divisor remainder (Int i) = (divisor ≢ 0) × (int_rem_euclid i (pos divisor) ≡ pos remainder)
HasRemainder divisor remainder (Sym t) = ⊥

-- a text of at most so many bytes
abbrev pub IsShort : List (List ℕ) → ℕ → Value → Type 0
IsShort texts most (Int i) = ⊥
IsShort texts most (Sym t) = length (text_at texts t) ≤ most

-- a text that begins with these bytes
abbrev pub StartsWith : List (List ℕ) → List ℕ → Value → Type 0
StartsWith texts front (Int i) = ⊥
StartsWith texts front (Sym t) = (rest : List ℕ) × (text_at texts t ≡ front ++ rest)

abbrev pub IsInteger : Value → Type 0
IsInteger (Int i) = Unit {0}
IsInteger (Sym t) = ⊥

abbrev pub IsText : Value → Type 0
IsText (Int i) = ⊥
IsText (Sym t) = Unit {0}

-- the datum meets one layer of a guard; `MetBy` says which of the inner guards it meets
abbrev pub Meets : {Inner : Type 0} → List (List ℕ) → Value → (Inner → Type 0) → Guard-F Inner → Type 0
Meets texts datum MetBy (Guard-F.Compare cmp constant) = Compares texts cmp datum constant
Meets texts datum MetBy (Guard-F.Mod divisor remainder) = HasRemainder divisor remainder datum
Meets texts datum MetBy Guard-F.IsInt = IsInteger datum
Meets texts datum MetBy Guard-F.IsText = IsText datum
Meets texts datum MetBy (Guard-F.LenAtMost most) = IsShort texts most datum
Meets texts datum MetBy (Guard-F.Starts front) = StartsWith texts (text_at texts front) datum
Meets texts datum MetBy (Guard-F.And left right) = MetBy left × MetBy right
Meets texts datum MetBy (Guard-F.Or left right) = MetBy left ⊎ MetBy right
Meets texts datum MetBy (Guard-F.Not inner) = MetBy inner → ⊥

-- the datum meets the guard
abbrev pub Holds : List (List ℕ) → Guard → Value → Type 0
Holds texts guard datum = rec-Guard (Type 0) (λ Inner shown MetBy. Meets texts datum MetBy) guard
