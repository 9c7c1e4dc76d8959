-- What a read adds to what was taken before, and what a copy out of the rest leaves.
use Rattle.std.proofs.Common.{◌≡◌, ℕ, ◌+◌, ◌-◌, ◌<◌, ◌≤◌, List, [], ◌++◌, length, take, drop, min, sym, ap, ◌∙◌, arith, length-append, length-drop, length-take, take-append-drop}
use Rattle.std.proofs.lemmas.List.{drop-drop, take_at, take_rest, nil_from_length}
use Rattle.std.proofs.KnownBytes.{Consumes-trans}
use Rattle.std.specs.declared.option.Option.{Option}
use Rattle.std.specs.declared.option.Option.TheVariants.{Some}
use Rattle.std.specs.Io.KnownBytes.{Consumes}
use Rattle.reo_base.specs.Faults.{counted}
use Rattle.reo_base.specs.Streams.{LosesFirst, LosesAtMost, CountsOne, RisesAtMost}

pub LosesFirst-read : (a b c : Option (List ℕ)) (bytes buf : List ℕ) (n count : ℕ) → Consumes a b bytes → Consumes b c (take n buf)
    → n ≡ length (take n buf) → length bytes + n ≡ count → LosesFirst a c count
LosesFirst-read a b c bytes buf n count before now size e =
    (bytes ++ take n buf, Consumes-trans a b c bytes (take n buf) before now, omega (arith, length-append bytes (take n buf)))

pub LosesAtMost-from_first : (a b : Option (List ℕ)) (count most : ℕ) → LosesFirst a b count → count ≤ most → LosesAtMost a b most
LosesAtMost-from_first a b count most first le = (first.0, first.1, omega (arith, first.2))

-- one call more, within a larger count
pub RisesAtMost-one_more : (a b c : Option ℕ) (made most : ℕ) → RisesAtMost a b made → CountsOne b c → made + 1 ≤ most → RisesAtMost a c most
RisesAtMost-one_more a b c made most before now le = λ n is.
    let at : (m : ℕ) × (b ≡ Some m) × (m ≤ n + made) = before n is in
    (counted at.0, now at.0 at.1, omega (arith, at.2, le))

-- `&now[taken..]` is the rest of the items
rest_of : (items now : List ℕ) (taken : ℕ) → now ≡ items → take (length now - taken) (drop taken now) ≡ drop taken items
rest_of items now taken same = take_rest now taken ∙ ap (drop taken) same

-- the rest is the bytes that were copied out of it, and what is left then
pub rest_is_copied : (left items now copied tail : List ℕ) (taken n most : ℕ) → left ≡ drop taken items → now ≡ items
    → copied ≡ take n (take (length now - taken) (drop taken now)) → n ≡ min most (length (take (length now - taken) (drop taken now)))
    → left ≡ take n (copied ++ tail) ++ drop (taken + n) items
rest_is_copied left items now copied tail taken n most is_rest same copy size =
    let copied_is : copied ≡ take n (drop taken items) = copy ∙ ap (take n) (rest_of items now taken same) in
    let n_is : n ≡ min most (length (drop taken items)) = size ∙ ap (λ l. min most (length l)) (rest_of items now taken same) in
    let long : length copied ≡ n = ap length copied_is ∙ omega (arith, length-take n (drop taken items)) in
    is_rest ∙ sym (take-append-drop n (drop taken items))
    ∙ ap (λ l. l ++ drop n (drop taken items)) (sym copied_is ∙ sym (take_at copied tail n long))
    ∙ ap (λ l. take n (copied ++ tail) ++ l) (drop-drop n taken items)

-- a copy of nothing into a buffer with room means that nothing is left
pub none_is_left : (items now copied buf : List ℕ) (taken n most piece : ℕ) → now ≡ items → length copied ≡ length (take n buf)
    → n ≡ min most (length (take (length now - taken) (drop taken now))) → most ≡ min piece (length buf) → 1 ≤ piece
    → n ≡ 0 → 0 < length (copied ++ drop n buf) → drop (taken + n) items ≡ []
none_is_left items now copied buf taken n most piece same long size most_is some none room =
    let n_is : n ≡ min most (length (drop taken items)) = size ∙ ap (λ l. min most (length l)) (rest_of items now taken same) in
    nil_from_length _ (omega (arith, length-append copied (drop n buf), length-take n buf, length-drop n buf, length-drop taken items, length-drop (taken + n) items))
