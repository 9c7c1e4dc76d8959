-- Texts that are written behind one another into a room.
use Rattle.std.proofs.Common.{◌≡◌, ℕ, ◌+◌, ◌-◌, ◌<◌, ◌≤◌, List, ◌++◌, Result, Ok, Err, length, take, drop, get_or, sym, ap, ◌∙◌, arith, append_assoc, length-append, length-drop, take-append-drop, subst}
use Rattle.std.proofs.lemmas.List.{take-append-le, length-take-le, take_all}
use Rattle.std.proofs.lemmas.Grind.{flat_map-append}
use Rattle.std.proofs.Math.Seq.{take-append-add, take-append_seam}
use Rattle.std.specs.Prelude.{IfOk}
use Rattle.std.specs.List.{flat_map, slice_range}
use Rattle.reo_trace.specs.Buffer.{HasWritten}
use Rattle.reo_trace.proofs.ListLemmas.{flat_map-next}

-- a front of a front
take_take : {A : Type 0} (n m : ℕ) (xs : List A) → n ≤ length (take m xs) → take n xs ≡ take n (take m xs)
take_take n m xs le = ap (take n) (sym (take-append-drop m xs)) ∙ take-append-le n (take m xs) (drop m xs) le

pub written-trans : (a b c : List ℕ) (n m k : ℕ) (x y : List ℕ) → HasWritten a n b m x → HasWritten b m c k y → HasWritten a n c k (x ++ y)
written-trans a b c n m k x y p q = record {
  items = q.items ∙ ap (λ l. l ++ y) p.items ∙ append_assoc (take n a) x y;
  len = omega (arith, p.len, q.len, length-append x y);
  within = q.within;
}

-- the first bytes are those of another list
pub written-on : (a b c : List ℕ) (n m : ℕ) (x : List ℕ) → take n b ≡ take n a → HasWritten b n c m x → HasWritten a n c m x
written-on a b c n m x same p = record { items = p.items ∙ ap (λ l. l ++ x) same; len = p.len; within = p.within }

-- the room is given back as the whole of a list
pub written-back : (a room more : List ℕ) (n m len : ℕ) (x : List ℕ) → length room ≡ len → HasWritten a n room m x → HasWritten a n (take len (room ++ more)) m x
written-back a room more n m len x long p =
    subst (λ l. HasWritten a n l m x) (sym (ap (λ k. take k (room ++ more)) (sym long) ∙ take-append_seam room more)) p

-- one more of a list's texts
pub written-next : {A : Type 0} (f : A → List ℕ) (a b c : List ℕ) (n m k : ℕ) (xs : List A) (i : ℕ) (x d : A) → i < length xs → get_or xs i d ≡ x
    → HasWritten a n b m (flat_map f (take i xs)) → HasWritten b m c k (f x) → HasWritten a n c k (flat_map f (take (i + 1) xs))
written-next f a b c n m k xs i x d lt same p q =
    subst (λ l. HasWritten a n c k l) (sym (flat_map-next f xs i x d lt same)) (written-trans a b c n m k (flat_map f (take i xs)) (f x) p q)

-- 32 bytes are written, and some of them used
pub part_written : (old new bytes : List ℕ) (used from count : ℕ) → used ≤ length old → from + 32 ≤ length bytes → count ≤ 32
    → take (used + 32) new ≡ take used old ++ take 32 (drop from bytes) → HasWritten old used new (used + count) (take count (drop from bytes))
part_written old new bytes used from count within inside few is =
    let rest : List ℕ = drop from bytes in
    let part : List ℕ = take 32 rest in
    let front : List ℕ = take used old in
    let long : length part ≡ 32 = length-take-le 32 rest (omega (arith, length-drop from bytes, inside)) in
    let at : length front ≡ used = length-take-le used old within in
    let whole : length (take (used + 32) new) ≡ used + 32 = omega (arith, ap length is, length-append front part, long, at) in
    let shown : length (take count rest) ≡ count = length-take-le count rest (omega (arith, length-drop from bytes, inside, few)) in
    record {
      items = take_take (used + count) (used + 32) new (omega (arith, whole, few)) ∙ ap (take (used + count)) is ∙ ap (λ n. take (n + count) (front ++ part)) (sym at)
          ∙ take-append-add front part count ∙ ap (λ l. front ++ l) (sym (take_take count 32 rest (omega (arith, long, few))));
      len = omega (arith, shown);
      within = omega (arith, whole, few, ap length (take-append-drop (used + 32) new), length-append (take (used + 32) new) (drop (used + 32) new));
    }

-- the texts of the first elements and of the others
flat_map-split : {A : Type 0} (f : A → List ℕ) (n : ℕ) (xs : List A) → flat_map f (take n xs) ++ flat_map f (drop n xs) ≡ flat_map f xs
flat_map-split f n xs = sym (flat_map-append f (take n xs) (drop n xs)) ∙ ap (flat_map f) (take-append-drop n xs)

-- what is written last, where all went well
pub if_written : {E : Type 0} (a b c : List ℕ) (n m : ℕ) (r : Result ℕ E) (x y : List ℕ) → HasWritten a n b m x → IfOk r (λ end. HasWritten b m c end y)
    → IfOk r (λ end. HasWritten a n c end (x ++ y))
if_written a b c n m (Ok end) x y p q = written-trans a b c n m end x y p q
if_written a b c n m (Err e) x y p q = tt

-- a line of which the texts up to one, and those from it on, are written apart
pub line_parts : {A : Type 0} (f : A → List ℕ) (front end : List ℕ) (k most : ℕ) (xs : List A) → k ≤ length (take most xs)
    → front ++ flat_map f (take k (take most xs)) ++ (flat_map f (slice_range xs k (length xs)) ++ end) ≡ front ++ flat_map f xs ++ end
line_parts f front end k most xs le =
    let first : List ℕ = flat_map f (take k xs) in
    let last : List ℕ = flat_map f (drop k xs) in
    let rest : slice_range xs k (length xs) ≡ drop k xs = take_all (length xs - k) (drop k xs) (omega (arith, length-drop k xs)) in
    ap (λ l. front ++ flat_map f l ++ (flat_map f (slice_range xs k (length xs)) ++ end)) (sym (take_take k most xs le))
    ∙ ap (λ l. front ++ first ++ (flat_map f l ++ end)) rest ∙ sym (append_assoc (front ++ first) last end)
    ∙ ap (λ l. l ++ end) (append_assoc front first last ∙ ap (λ l. front ++ l) (flat_map-split f k xs))
