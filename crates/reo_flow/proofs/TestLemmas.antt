-- The calculations of guards, functions and codes are exact.
use Rattle.std.proofs.Common.{◌≡◌, ◌≢◌, ◌↔◌, ℕ, zero, suc, ◌+◌, ◌-◌, ◌/◌, ◌%◌, ◌<◌, ◌⊎◌, inl, inr, ⊎_elim, List, [], ◌∷◌, length, slice_get, Option, Some, None, Bool, true, false, not, ◌||◌, cond, refl, sym, ap, ◌∙◌, subst, arith}
use Rattle.std.specs.Prelude.{ℤ, pos, negsuc, nat_eq, nat_lt}
use Rattle.std.specs.Bool.{Decides}
use Rattle.std.specs.List.{starts_with}
use Rattle.std.specs.Ordering.{is_lt, is_le, is_gt, is_ge, int_eq}
use Rattle.std.specs.declared.cmp.Ordering.{Ordering}
use Rattle.std.specs.Int.{int_rem_euclid}
use Rattle.std.proofs.lemmas.Bool.{false≢true, ne_eqb}
use Rattle.std.proofs.lemmas.Bool.Decides.{Decides-eqb, Decides-int_eq, Decides-not, Decides-and, Decides-like, leb_tells}
use Rattle.std.proofs.lemmas.Int.{ints}
use Rattle.std.proofs.lemmas.Option.{same_Some, none-some}
use Rattle.reo_value.specs.Num.{IsNumber}
use Rattle.reo_value.specs.Code.{code_of, IsValue}
use Rattle.reo_value.specs.Lexicon.{text_at}
use Rattle.reo_value.specs.declared.value.Value.{Value}
use Rattle.reo_value.specs.declared.value.Value.TheVariants.{Int, Sym}
use Rattle.reo_guard.specs.declared.guard.Cmp.{Cmp}
use Rattle.reo_guard.specs.declared.guard.Cmp.TheVariants.{Eq, Ne, Lt, Le, Gt, Ge}
use Rattle.reo_guard.specs.declared.guard.Guard.{Guard, roll-Guard}
use Rattle.reo_guard.specs.declared.guard.Guard.TheOpen.{Guard-F}
use Rattle.reo_guard.specs.declared.guard.Guard.TheFolds.{fold-roll-Guard, map-Guard, ind-Guard}
use Rattle.reo_guard.specs.declared.fun.Fun.{Fun}
use Rattle.reo_guard.specs.declared.fun.Fun.TheVariants.{Add, Sub, Mul, Neg, Len, Map}
use Rattle.reo_guard.specs.Holds.{order_of, IsOneOf, Compares, HasRemainder, IsShort, StartsWith, IsInteger, IsText, Meets, Holds}
use Rattle.reo_guard.specs.Yields.{Yields, YieldsInteger, YieldsLength, YieldsFirst}
use Rattle.reo_guard.proofs.HoldsLemmas.{by_layer}
use Rattle.reo_guard.proofs.FrontLemmas.{text_begins}
use Rattle.reo_flow.specs.Tests.{value_eq, is_one_of, compares, has_remainder, is_short, begins_with, is_integer, meets_layer, is_met, is_number, is_value, if_value, at_integer, length_at, first_at, calculated, yielded, decoded}

value_decides : (v w : Value) → Decides (value_eq v w) (v ≡ w)
value_decides (Int i) (Int j) = Decides-like (int_eq i j) (λ e. ap Int e) (λ e. let same : i ≡ j = cc in same) (Decides-int_eq i j)
value_decides (Int i) (Sym t) = (λ e. absurd (false≢true e), λ e. cc)
value_decides (Sym s) (Int j) = (λ e. absurd (false≢true e), λ e. cc)
value_decides (Sym s) (Sym t) = Decides-like (nat_eq s t) (λ e. ap Sym e) (λ e. let same : s ≡ t = cc in same) (Decides-eqb s t)

one_decides : (these : Ordering → Bool) (o : Option Ordering) → Decides (is_one_of these o) (IsOneOf these o)
one_decides these None = (λ e. absurd (false≢true e), λ e. absurd e)
one_decides these (Some order) = (λ e. e, λ e. e)

compares_decides : (texts : List (List ℕ)) (cmp : Cmp) (datum constant : Value) → Decides (compares texts cmp datum constant) (Compares texts cmp datum constant)
compares_decides texts Eq datum constant = value_decides datum constant
compares_decides texts Ne datum constant = Decides-not (value_eq datum constant) (value_decides datum constant)
compares_decides texts Lt datum constant = one_decides is_lt (order_of texts datum constant)
compares_decides texts Le datum constant = one_decides is_le (order_of texts datum constant)
compares_decides texts Gt datum constant = one_decides is_gt (order_of texts datum constant)
compares_decides texts Ge datum constant = one_decides is_ge (order_of texts datum constant)

remainder_decides : (divisor remainder : ℕ) (datum : Value) → Decides (has_remainder divisor remainder datum) (HasRemainder divisor remainder datum)
remainder_decides divisor remainder (Int i) =
    Decides-and (not (nat_eq divisor 0)) (int_eq (int_rem_euclid i (pos divisor)) (pos remainder)) (Decides-not (nat_eq divisor 0) (Decides-eqb divisor 0)) (Decides-int_eq (int_rem_euclid i (pos divisor)) (pos remainder))
remainder_decides divisor remainder (Sym t) = (λ e. absurd (false≢true e), λ e. absurd e)

lt_decides : (m n : ℕ) → Decides (nat_lt m n) (m < n)
lt_decides m n = ⊎_elim (λ yes'. (λ e. yes'.1, λ less. yes'.0)) (λ not'. (λ e. absurd (false≢true (sym not'.0 ∙ e)), λ less. absurd (omega (arith, not'.1, less)))) (leb_tells (suc m) n)

short_decides : (texts : List (List ℕ)) (most : ℕ) (datum : Value) → Decides (is_short texts most datum) (IsShort texts most datum)
short_decides texts most (Int i) = (λ e. absurd (false≢true e), λ e. absurd e)
short_decides texts most (Sym t) =
    Decides-like (nat_lt (length (text_at texts t)) (most + 1)) (λ less. omega (arith, less)) (λ le. omega (arith, le)) (lt_decides (length (text_at texts t)) (most + 1))

begins_decides : (texts : List (List ℕ)) (front : List ℕ) (datum : Value) → Decides (begins_with texts front datum) (StartsWith texts front datum)
begins_decides texts front (Int i) = (λ e. absurd (false≢true e), λ e. absurd e)
begins_decides texts front (Sym t) = text_begins texts (Sym t) t (text_at texts t) front front (starts_with nat_eq (text_at texts t) front) refl refl refl refl

integer_decides : (datum : Value) → Decides (is_integer datum) (IsInteger datum)
integer_decides (Int i) = (λ e. tt, λ e. refl)
integer_decides (Sym t) = (λ e. absurd (false≢true e), λ e. absurd e)

text_decides : (datum : Value) → Decides (not (is_integer datum)) (IsText datum)
text_decides (Int i) = (λ e. absurd (false≢true e), λ e. absurd e)
text_decides (Sym t) = (λ e. tt, λ e. refl)

either_decides : {P Q : Type 0} (x y : Bool) → Decides x P → Decides y Q → Decides (x || y) (P ⊎ Q)
either_decides true y p q = (λ e. inl (p.0 refl), λ e. refl)
either_decides false y p q = (λ e. inr (q.0 e), λ e. ⊎_elim (λ a. absurd (false≢true (p.1 a))) (λ b. q.1 b) e)

-- the test of a guard is exact
abbrev IsExact : List (List ℕ) → Value → Guard → Type 0
IsExact texts datum guard = Decides (is_met texts guard datum) (Holds texts guard datum)

layer_decides : (texts : List (List ℕ)) (datum : Value) (layer : Guard-F ((guard : Guard) × IsExact texts datum guard))
    → Decides (meets_layer texts datum (map-Guard Guard Bool (λ g. is_met texts g datum) (map-Guard ((guard : Guard) × IsExact texts datum guard) Guard (λ e. e.0) layer)))
    (Meets texts datum (λ inner. Holds texts inner datum) (map-Guard ((guard : Guard) × IsExact texts datum guard) Guard (λ e. e.0) layer))
layer_decides texts datum (Guard-F.Compare cmp constant) = compares_decides texts cmp datum constant
layer_decides texts datum (Guard-F.Mod divisor remainder) = remainder_decides divisor remainder datum
layer_decides texts datum Guard-F.IsInt = integer_decides datum
layer_decides texts datum Guard-F.IsText = text_decides datum
layer_decides texts datum (Guard-F.LenAtMost most) = short_decides texts most datum
layer_decides texts datum (Guard-F.Starts front) = begins_decides texts (text_at texts front) datum
layer_decides texts datum (Guard-F.And left right) = Decides-and (is_met texts left.0 datum) (is_met texts right.0 datum) left.1 right.1
layer_decides texts datum (Guard-F.Or left right) = either_decides (is_met texts left.0 datum) (is_met texts right.0 datum) left.1 right.1
layer_decides texts datum (Guard-F.Not inner) = Decides-not (is_met texts inner.0 datum) inner.1

pub guard_decides : (texts : List (List ℕ)) (datum : Value) (guard : Guard) → Decides (is_met texts guard datum) (Holds texts guard datum)
guard_decides texts datum = ind-Guard (IsExact texts datum) (λ x y is.
    let by = subst (λ z. Decides (meets_layer texts datum (map-Guard Guard Bool (λ g. is_met texts g datum) z)) (Meets texts datum (λ inner. Holds texts inner datum) z)) is (layer_decides texts datum y) in
    by_layer texts datum (roll-Guard x) x (is_met texts (roll-Guard x) datum) refl
    (subst (λ b. Decides b (Meets texts datum (λ inner. Holds texts inner datum) x)) (sym (fold-roll-Guard Bool (meets_layer texts datum) x)) by))

-- values
number_decides : (i : ℤ) → Decides (is_number i) (IsNumber i)
number_decides (pos n) = Decides-like (nat_lt n 4611686018427387904) (λ less. (omega (arith, ints, less), omega (arith, ints, less))) (λ is. omega (arith, ints, is)) (lt_decides n 4611686018427387904)
number_decides (negsuc n) = Decides-like (nat_lt n 4611686018427387904) (λ less. (omega (arith, ints, less), omega (arith, ints, less))) (λ is. omega (arith, ints, is)) (lt_decides n 4611686018427387904)

pub is_value_decides : (v : Value) → Decides (is_value v) (IsValue v)
is_value_decides (Int i) = number_decides i
is_value_decides (Sym t) = lt_decides t 4294967296

pub if_value-gives : (o : Option Value) (v : Value) → if_value o ≡ Some v → (o ≡ Some v) × IsValue v
if_value-gives None v is = absurd (none-some v is)
if_value-gives (Some w) v is = go (is_value w) refl is
  where
    go : (b : Bool) → is_value w ≡ b → cond b (Some w) None ≡ Some v → (Some w ≡ Some v) × IsValue v
    go true e at = (at, subst IsValue (same_Some w v at) ((is_value_decides w).0 e))
    go false e at = absurd (none-some v at)

pub if_value-of : (v : Value) → IsValue v → if_value (Some v) ≡ Some v
if_value-of v is = ap (λ b. cond b (Some v) None) ((is_value_decides v).1 is)

-- functions
integer_at : (f : ℤ → ℤ) (datum v : Value) → IsValue v → (at_integer f datum ≡ Some v) ↔ YieldsInteger f datum v
integer_at f (Int i) v is = (λ e. let same : v ≡ Int (f i) = sym (same_Some (Int (f i)) v e) in (subst IsValue same is, same), λ yields. ap Some (sym yields.1))
integer_at f (Sym t) v is = (λ e. none-some v e, λ yields. absurd yields)

text_length_at : (texts : List (List ℕ)) (datum v : Value) → (length_at texts datum ≡ Some v) ↔ YieldsLength texts datum v
text_length_at texts (Int i) v = (λ e. none-some v e, λ yields. absurd yields)
text_length_at texts (Sym t) v = (λ e. sym (same_Some _ v e), λ yields. ap Some (sym yields))

first_found : (pairs : List (Value × Value)) (datum v : Value) → first_at pairs datum ≡ Some v → YieldsFirst pairs datum v
first_found [] datum v is = absurd (none-some v is)
first_found (pair ∷ pairs) datum v is = go (value_eq pair.0 datum) refl is (first_found pairs datum v)
  where
    go : (b : Bool) → value_eq pair.0 datum ≡ b → cond b (Some pair.1) (first_at pairs datum) ≡ Some v → (first_at pairs datum ≡ Some v → YieldsFirst pairs datum v) → YieldsFirst (pair ∷ pairs) datum v
    go true e at later = record {
      place = 0;
      at = ap Some (λ i. ((value_decides pair.0 datum).0 e i, same_Some pair.1 v at i));
      first = λ earlier other less found. absurd (omega (arith, less));
    }
    go false e at later =
        let rest = later at in
        record { place = suc rest.place; at = rest.at; first = λ earlier other less found. earlier_differs rest earlier other less found }
      where
        earlier_differs : (rest : YieldsFirst pairs datum v) (earlier : ℕ) (other : Value × Value) → earlier < suc rest.place → slice_get (pair ∷ pairs) earlier ≡ Some other → other.0 ≡ datum → ⊥
        earlier_differs rest zero other less found same = false≢true (sym e ∙ (value_decides pair.0 datum).1 (ap (λ (p : Value × Value). p.0) (same_Some pair other found) ∙ same))
        earlier_differs rest (suc earlier) other less found same = rest.first earlier other (omega (arith, less)) found same

first_is : (pairs : List (Value × Value)) (datum v : Value) → YieldsFirst pairs datum v → first_at pairs datum ≡ Some v
first_is [] datum v yields = let at = yields.at in cc
first_is (pair ∷ pairs) datum v yields = go (value_eq pair.0 datum) refl yields.place yields.at yields.first (first_is pairs datum v)
  where
    go : (b : Bool) → value_eq pair.0 datum ≡ b → (place : ℕ) → slice_get (pair ∷ pairs) place ≡ Some (datum, v)
        → ((earlier : ℕ) (other : Value × Value) → earlier < place → slice_get (pair ∷ pairs) earlier ≡ Some other → other.0 ≢ datum)
        → (YieldsFirst pairs datum v → first_at pairs datum ≡ Some v) → cond b (Some pair.1) (first_at pairs datum) ≡ Some v
    go true e zero at first later = ap (λ (p : Value × Value). Some p.1) (same_Some pair (datum, v) at)
    go true e (suc place) at first later = absurd (first 0 pair (omega arith) refl ((value_decides pair.0 datum).0 e))
    go false e zero at first later = absurd (false≢true (sym e ∙ (value_decides pair.0 datum).1 (ap (λ (p : Value × Value). p.0) (same_Some pair (datum, v) at))))
    go false e (suc place) at first later = later (record { place = place; at = at; first = λ earlier other less found. first (suc earlier) other (omega (arith, less)) found })

calculated_yields : (texts : List (List ℕ)) (fun : Fun) (datum v : Value) → IsValue v → (calculated texts fun datum ≡ Some v) ↔ Yields texts fun datum v
calculated_yields texts (Add k) datum v is = integer_at _ datum v is
calculated_yields texts (Sub k) datum v is = integer_at _ datum v is
calculated_yields texts (Mul k) datum v is = integer_at _ datum v is
calculated_yields texts Neg datum v is = integer_at _ datum v is
calculated_yields texts Len datum v is = text_length_at texts datum v
calculated_yields texts (Map pairs) datum v is = (first_found pairs datum v, first_is pairs datum v)

-- what is calculated is what the function yields
pub yielded_yields : (texts : List (List ℕ)) (fun : Fun) (datum v : Value) → (yielded texts fun datum ≡ Some v) ↔ (Yields texts fun datum v × IsValue v)
yielded_yields texts fun datum v = (
  λ e. let at = if_value-gives (calculated texts fun datum) v e in ((calculated_yields texts fun datum v at.1).0 at.0, at.1),
  λ both. ap if_value ((calculated_yields texts fun datum v both.1).1 both.0) ∙ if_value-of v both.1,
)

-- codes
odd_code : (word : ℕ) → word % 2 ≡ 1 → code_of (Int (cond (nat_lt (word / 2) 4611686018427387904) (negsuc (4611686018427387904 - 1 - word / 2)) (pos (word / 2 - 4611686018427387904)))) ≡ word
odd_code word odd =
    ⊎_elim
    (λ less. ap (λ b. code_of (Int (cond b (negsuc (4611686018427387904 - 1 - word / 2)) (pos (word / 2 - 4611686018427387904))))) less.0 ∙ (let e : code_of (Int (negsuc (4611686018427387904 - 1 - word / 2))) ≡ word = omega (arith, odd, less.1) in e))
    (λ more. ap (λ b. code_of (Int (cond b (negsuc (4611686018427387904 - 1 - word / 2)) (pos (word / 2 - 4611686018427387904))))) more.0 ∙ (let e : code_of (Int (pos (word / 2 - 4611686018427387904))) ≡ word = omega (arith, odd, more.1) in e))
    (leb_tells (suc (word / 2)) 4611686018427387904)

pub decoded_code : (word : ℕ) (v : Value) → decoded word ≡ Some v → (code_of v ≡ word) × IsValue v
decoded_code word v is = go (nat_eq (word % 2) 1) refl (nat_eq word 0) refl is
  where
    number : ℤ
    number = cond (nat_lt (word / 2) 4611686018427387904) (negsuc (4611686018427387904 - 1 - word / 2)) (pos (word / 2 - 4611686018427387904))

    go : (odd : Bool) → nat_eq (word % 2) 1 ≡ odd → (none : Bool) → nat_eq word 0 ≡ none → cond odd (if_value (Some (Int number))) (cond none None (if_value (Some (Sym (word / 2 - 1))))) ≡ Some v → (code_of v ≡ word) × IsValue v
    go true is_odd none is_none at =
        let found = if_value-gives (Some (Int number)) v at in
        (ap code_of (sym (same_Some (Int number) v found.0)) ∙ odd_code word ((Decides-eqb (word % 2) 1).0 is_odd), found.1)
    go false not_odd true is_none at = absurd (none-some v at)
    go false not_odd false some at =
        let found = if_value-gives (Some (Sym (word / 2 - 1))) v at in
        let even : word % 2 ≡ 1 → ⊥ = λ e. false≢true (sym not_odd ∙ (Decides-eqb (word % 2) 1).1 e) in
        let more : word ≡ 0 → ⊥ = λ e. false≢true (sym some ∙ (Decides-eqb word 0).1 e) in
        (ap code_of (sym (same_Some (Sym (word / 2 - 1)) v found.0)) ∙ (let e : code_of (Sym (word / 2 - 1)) ≡ word = omega (arith, even, more) in e), found.1)

number_of : (i : ℤ) → IsNumber i → (word : ℕ) → code_of (Int i) ≡ word → cond (nat_lt (word / 2) 4611686018427387904) (negsuc (4611686018427387904 - 1 - word / 2)) (pos (word / 2 - 4611686018427387904)) ≡ i
number_of (pos n) is word e =
    ⊎_elim
    (λ less. absurd (omega (arith, e, less.1)))
    (λ more. ap (λ b. cond b (negsuc (4611686018427387904 - 1 - word / 2)) (pos (word / 2 - 4611686018427387904))) more.0 ∙ ap pos (omega (arith, e)))
    (leb_tells (suc (word / 2)) 4611686018427387904)
number_of (negsuc n) is word e =
    ⊎_elim
    (λ less. ap (λ b. cond b (negsuc (4611686018427387904 - 1 - word / 2)) (pos (word / 2 - 4611686018427387904))) less.0 ∙ ap negsuc (omega (arith, ints, is, e)))
    (λ more. absurd (omega (arith, ints, is, e, more.1)))
    (leb_tells (suc (word / 2)) 4611686018427387904)

odd_word : (i : ℤ) → IsNumber i → (word : ℕ) → code_of (Int i) ≡ word → word % 2 ≡ 1
odd_word (pos n) is word e = omega (arith, e)
odd_word (negsuc n) is word e = omega (arith, e)

-- a code is that of its value
pub decoded_of : (v : Value) → IsValue v → (word : ℕ) → code_of v ≡ word → decoded word ≡ Some v
decoded_of (Int i) is word e =
    ap (λ b. cond b (if_value (Some (Int (cond (nat_lt (word / 2) 4611686018427387904) (negsuc (4611686018427387904 - 1 - word / 2)) (pos (word / 2 - 4611686018427387904)))))) (cond (nat_eq word 0) None (if_value (Some (Sym (word / 2 - 1)))))) ((Decides-eqb (word % 2) 1).1 (odd_word i is word e))
    ∙ ap (λ z. if_value (Some (Int z))) (number_of i is word e) ∙ if_value-of (Int i) is
decoded_of (Sym t) is word e =
    let even : word % 2 ≡ 1 → ⊥ = λ odd. omega (arith, e, odd) in
    let some : word ≡ 0 → ⊥ = λ none. omega (arith, e, none) in
    ap (λ b. cond b (if_value (Some (Int (cond (nat_lt (word / 2) 4611686018427387904) (negsuc (4611686018427387904 - 1 - word / 2)) (pos (word / 2 - 4611686018427387904)))))) (cond (nat_eq word 0) None (if_value (Some (Sym (word / 2 - 1)))))) (ne_eqb (word % 2) 1 even)
    ∙ ap (λ b. cond b None (if_value (Some (Sym (word / 2 - 1))))) (ne_eqb word 0 some)
    ∙ ap (λ n. if_value (Some (Sym n))) (let same : word / 2 - 1 ≡ t = omega (arith, e) in same) ∙ if_value-of (Sym t) is
