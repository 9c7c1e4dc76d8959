-- How the pushes of parts make up that of a whole.
use Rattle.std.proofs.Common.{◌≡◌, ℕ, ◌+◌, ◌<◌, List, ◌++◌, length, take, get_or, Result, Ok, Err, sym, ap, ◌∙◌, arith, append_assoc, length-append, subst}
use Rattle.std.specs.Result.{IsErr}
use Rattle.std.specs.Prelude.{Vec, OnOk}
use Rattle.std.specs.List.{flat_map}
use Rattle.reo_trace.proofs.ListLemmas.{numbered-next, numbered-split, flat_map-numbered, flat_map-next}
use Rattle.reo_trace.specs.Buffer.{HasTaken, LacksRoom, Takes}
use Rattle.reo_trace.specs.Passes.{numbered}

pub HasTaken-trans : {Z : Type 0} (a b c : Vec ℕ Z) (x y : List ℕ) → HasTaken a b x → HasTaken b c y → HasTaken a c (x ++ y)
HasTaken-trans a b c x y p q = record {
  items = q.items ∙ ap (λ l. l ++ y) p.items ∙ append_assoc a.items x y;
  len = omega (arith, p.len, q.len, length-append x y);
  capacity = omega (arith, p.capacity, q.capacity);
}

pub LacksRoom-front : {Z : Type 0} (a b : Vec ℕ Z) (x y : List ℕ) → LacksRoom a b x → LacksRoom a b (x ++ y)
LacksRoom-front a b x y p = record {
  full = omega (arith, p.full, length-append x y);
  len = p.len;
  capacity = p.capacity;
}

pub LacksRoom-trans : {Z : Type 0} (a b c : Vec ℕ Z) (x y : List ℕ) → HasTaken a b x → LacksRoom b c y → LacksRoom a c (x ++ y)
LacksRoom-trans a b c x y p q = record {
  full = omega (arith, p.len, p.capacity, q.full, length-append x y);
  len = omega (arith, p.len, q.len);
  capacity = omega (arith, p.capacity, q.capacity);
}

-- a push after a push
pub Takes-trans : {Z T E : Type 0} (a b c : Vec ℕ Z) (r : Result T E) (x y : List ℕ) → HasTaken a b x → Takes b c r y → Takes a c r (x ++ y)
Takes-trans a b c (Ok done) x y p q = HasTaken-trans a b c x y p q
Takes-trans a b c (Err e) x y p q = LacksRoom-trans a b c x y p q

-- one more of a list's texts
pub HasTaken-next : {A Z : Type 0} (f : A → List ℕ) (a b c : Vec ℕ Z) (xs : List A) (i : ℕ) (x d : A) → i < length xs → get_or xs i d ≡ x
    → HasTaken a b (flat_map f (take i xs)) → HasTaken b c (f x) → HasTaken a c (flat_map f (take (i + 1) xs))
HasTaken-next f a b c xs i x d lt same p q =
    subst (λ l. HasTaken a c l) (sym (flat_map-next f xs i x d lt same)) (HasTaken-trans a b c (flat_map f (take i xs)) (f x) p q)

-- no room for one of a list's texts
pub LacksRoom-at : {A Z : Type 0} (f : A → List ℕ) (a b c : Vec ℕ Z) (xs : List A) (i : ℕ) (x d : A) → i < length xs → get_or xs i d ≡ x
    → HasTaken a b (flat_map f (take i xs)) → LacksRoom b c (f x) → LacksRoom a c (flat_map f xs)
LacksRoom-at f a b c xs i x d lt same p q =
    let split = numbered-split (λ _. f) xs i x d lt same in
    let e : flat_map f xs ≡ flat_map f (take i xs) ++ f x ++ split.0 =
    flat_map-numbered f 0 xs ∙ split.1 ∙ ap (λ l. l ++ f x ++ split.0) (sym (flat_map-numbered f 0 (take i xs))) in
    subst (λ l. LacksRoom a c l) (sym e)
    (LacksRoom-front a c (flat_map f (take i xs) ++ f x) split.0 (LacksRoom-trans a b c (flat_map f (take i xs)) (f x) p q))

pub Takes-err : {Z T E : Type 0} (a b : Vec ℕ Z) (r : Result T E) (x : List ℕ) → IsErr r → LacksRoom a b x → Takes a b r x
Takes-err a b (Ok done) x is_err lacks = absurd (cc)
Takes-err a b (Err e) x is_err lacks = lacks

-- what is told of a push that has room
pub Takes-taken : {Z T E : Type 0} (a b : Vec ℕ Z) (r : Result T E) (x : List ℕ) → Takes a b r x → OnOk r (HasTaken a b x)
Takes-taken a b (Ok done) x p = p
Takes-taken a b (Err e) x p = tt

-- a push after a push, where nothing is told of one that has no room
pub taken-trans : {Z T E : Type 0} (a b c : Vec ℕ Z) (r : Result T E) (x y : List ℕ) → HasTaken a b x → OnOk r (HasTaken b c y) → OnOk r (HasTaken a c (x ++ y))
taken-trans a b c (Ok done) x y p q = HasTaken-trans a b c x y p q
taken-trans a b c (Err e) x y p q = tt

-- one more of a list's numbered texts
pub HasTaken-numbered : {A Z : Type 0} (f : ℕ → A → List ℕ) (a b c : Vec ℕ Z) (xs : List A) (i : ℕ) (x d : A) → i < length xs → get_or xs i d ≡ x
    → HasTaken a b (numbered f 0 (take i xs)) → HasTaken b c (f i x) → HasTaken a c (numbered f 0 (take (i + 1) xs))
HasTaken-numbered f a b c xs i x d lt same p q =
    subst (λ l. HasTaken a c l) (sym (numbered-next f xs i x d lt same)) (HasTaken-trans a b c (numbered f 0 (take i xs)) (f i x) p q)
