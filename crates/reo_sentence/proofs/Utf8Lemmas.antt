-- The value of a text that is UTF-8 is UTF-8.
use lib.Utf8.{scalar, scalars, encode, encodes}
use Rattle.std.proofs.Common.{◌≡◌, ℕ, zero, suc, ◌+◌, ◌<◌, ◌≤◌, ◌==◌, nat_lt, Bool, true, false, ◌&&◌, if◌then◌else◌, List, [], ◌∷◌, ◌++◌, length, get_or, Some, None, IsUtf8, IsAscii, refl, sym, ap, subst, ◌∙◌, arith, append-nil}
use Rattle.std.proofs.lemmas.Bool.{false≢true, eqb-true, ltb-true, ltb-false}
use Rattle.std.proofs.lemmas.Str.{IsUtf8-append, IsUtf8-from_ascii, IsUtf8-nil, encode_ascii, inside_one, length-encode, len_utf8_bounds}
use Rattle.reo_sentence.specs.Seen.{meant, byte_step, behind_byte, unescaped_from, unescaped}

-- each byte is above ASCII
abbrev AllHigh : List ℕ → Type 0
AllHigh bytes = (k : ℕ) → k < length bytes → 128 ≤ get_or bytes k 0

high_tail : (byte : ℕ) (bytes : List ℕ) → AllHigh (byte ∷ bytes) → AllHigh bytes
high_tail byte bytes high k here = high (suc k) (omega (arith, here))

pub not_byte : (byte low : ℕ) → 128 ≤ byte → low < 128 → (byte == low) ≡ false
not_byte byte low high small = by (byte == low) refl
  where
    by : (same : Bool) → (byte == low) ≡ same → same ≡ false
    by true is = absurd (omega (arith, eqb-true byte low is, high, small))
    by false is = refl

high_step : (escaped : Bool) (byte : ℕ) → 128 ≤ byte → byte_step escaped byte ≡ Some byte
high_step true byte high =
    ap (λ b. Some (if b then 10 else (if byte == 116 then 9 else byte))) (not_byte byte 110 high (omega arith))
    ∙ ap (λ b. Some (if b then 9 else byte)) (not_byte byte 116 high (omega arith))
high_step false byte high = ap (λ b. if b then None else Some byte) (not_byte byte 92 high (omega arith))

copied_plain : (bytes rest : List ℕ) → AllHigh bytes → unescaped_from false (bytes ++ rest) ≡ bytes ++ unescaped_from false rest
unfolding unescaped_from
copied_plain [] rest high = refl
copied_plain (byte ∷ bytes) rest high =
    ap (λ b. behind_byte b (λ next. unescaped_from next (bytes ++ rest))) (high_step false byte (high 0 (omega arith)))
    ∙ ap (λ bs. byte ∷ bs) (copied_plain bytes rest (high_tail byte bytes high))

copied : (escaped : Bool) (bytes rest : List ℕ) → 0 < length bytes → AllHigh bytes → unescaped_from escaped (bytes ++ rest) ≡ bytes ++ unescaped_from false rest
unfolding unescaped_from
copied escaped [] rest some high = absurd (omega (arith, some))
copied escaped (byte ∷ bytes) rest some high =
    ap (λ b. behind_byte b (λ next. unescaped_from next (bytes ++ rest))) (high_step escaped byte (high 0 (omega arith)))
    ∙ ap (λ bs. byte ∷ bs) (copied_plain bytes rest (high_tail byte bytes high))

-- all bytes of a character that is not ASCII are above it
encode_high : (c : ℕ) → 128 ≤ c → AllHigh (encode c)
encode_high c high k here = by (nat_lt (get_or (encode c) k 0) 128) refl
  where
    by : (low : Bool) → nat_lt (get_or (encode c) k 0) 128 ≡ low → 128 ≤ get_or (encode c) k 0
    by true is =
        let small : get_or (encode c) k 0 < 128 = ltb-true (get_or (encode c) k 0) 128 is in
        let same : c ≡ get_or (encode c) k 0 = inside_one c [] (encode c) k (sym (append-nil (encode c))) here small in
        absurd (omega (arith, same, high, small))
    by false is = ltb-false (get_or (encode c) k 0) 128 is

encode_some : (c : ℕ) → 0 < length (encode c)
encode_some c = omega (arith, length-encode c, (len_utf8_bounds c).0)

ascii_one : (byte : ℕ) → byte < 128 → IsAscii (byte ∷ [])
ascii_one byte low zero = low
ascii_one byte low (suc i) = omega arith

pub utf8_one : (byte : ℕ) (bytes : List ℕ) → byte < 128 → IsUtf8 bytes → IsUtf8 (byte ∷ bytes)
utf8_one byte bytes low utf8 = IsUtf8-append (byte ∷ []) bytes (IsUtf8-from_ascii (byte ∷ []) (ascii_one byte low)) utf8

utf8_char : (c : ℕ) (bytes : List ℕ) → scalar c ≡ true → IsUtf8 bytes → IsUtf8 (encode c ++ bytes)
utf8_char c bytes is utf8 = (c ∷ utf8.0, (ap (λ b. b && scalars utf8.0) is ∙ utf8.1.0, ap (λ bs. encode c ++ bs) utf8.1.1))

meant_low : (byte : ℕ) → byte < 128 → meant byte < 128
meant_low byte low = by (byte == 110) (byte == 116)
  where
    by : (n t : Bool) → (if n then 10 else (if t then 9 else byte)) < 128
    by true t = omega arith
    by false true = omega arith
    by false false = low

-- an ASCII byte adds one to the value, or none
low_step : (escaped : Bool) (byte : ℕ) (rest : List ℕ) → byte < 128 → ((next : Bool) → IsUtf8 (unescaped_from next rest))
    → IsUtf8 (behind_byte (byte_step escaped byte) (λ next. unescaped_from next rest))
low_step true byte rest low again = utf8_one (meant byte) (unescaped_from false rest) (meant_low byte low) (again false)
low_step false byte rest low again = by (byte == 92)
  where
    by : (slash : Bool) → IsUtf8 (behind_byte (if slash then None else Some byte) (λ next. unescaped_from next rest))
    by true = again true
    by false = utf8_one byte (unescaped_from false rest) low (again false)

first_char : (escaped : Bool) (c : ℕ) (rest : List ℕ) → scalar c ≡ true → ((next : Bool) → IsUtf8 (unescaped_from next rest)) → IsUtf8 (unescaped_from escaped (encode c ++ rest))
unfolding unescaped_from
first_char escaped c rest is again = by (nat_lt c 128) refl
  where
    by : (low : Bool) → nat_lt c 128 ≡ low → IsUtf8 (unescaped_from escaped (encode c ++ rest))
    by true low =
        let small : c < 128 = ltb-true c 128 low in
        subst (λ bytes. IsUtf8 (unescaped_from escaped (bytes ++ rest))) (sym (encode_ascii c small)) (low_step escaped c rest small again)
    by false high =
        subst IsUtf8 (sym (copied escaped (encode c) rest (encode_some c) (encode_high c (ltb-false c 128 high)))) (utf8_char c (unescaped_from false rest) is (again false))

chars_utf8 : (cs : List ℕ) (escaped : Bool) → scalars cs ≡ true → IsUtf8 (unescaped_from escaped (encodes cs))
unfolding unescaped_from
chars_utf8 [] escaped is = IsUtf8-nil
chars_utf8 (c ∷ cs) escaped is = by (scalar c) refl is (λ next some. chars_utf8 cs next some)
  where
    by : (first : Bool) → scalar c ≡ first → (first && scalars cs) ≡ true → ((next : Bool) → scalars cs ≡ true → IsUtf8 (unescaped_from next (encodes cs)))
        → IsUtf8 (unescaped_from escaped (encode c ++ encodes cs))
    by true first some again = first_char escaped c (encodes cs) first (λ next. again next some)
    by false first some again = absurd (false≢true some)

pub unescaped_utf8 : (text : List ℕ) → IsUtf8 text → IsUtf8 (unescaped text)
unescaped_utf8 text utf8 = subst (λ bytes. IsUtf8 (unescaped bytes)) utf8.1.1 (chars_utf8 utf8.0 false utf8.1.0)
