-- The text of the next number, where only the last digit is another one.
use Rattle.std.proofs.Common.{◌≡◌, ℕ, ◌+◌, ◌/◌, ◌%◌, ◌^◌, ◌<◌, ◌≤◌, List, [], ◌∷◌, ◌++◌, length, drop, replicate, get_or, set, ⊎_elim, sym, ap, ◌∙◌, arith, append_assoc, length-append, length-drop, decimal}
use Rattle.std.proofs.lemmas.Bool.{cases_lt}
use Rattle.std.proofs.lemmas.Fmt.{decimal_digit, decimal_step}
use Rattle.std.proofs.lemmas.List.{drop-set-add, get_or-drop}
use Rattle.std.proofs.Math.Seq.{get_or-append_seam, set-append_seam}

-- the digits before the last one, with which the next number goes on where the last digit is no nine
record LastDigit (n : ℕ) : Type 0 where
  front : List ℕ
  own : decimal n ≡ front ++ (48 + n % 10) ∷ []
  next : n % 10 < 9 → decimal (n + 1) ≡ front ++ (48 + n % 10 + 1) ∷ []

last_digit : (n : ℕ) → n + 1 < 2 ^ 64 → LastDigit n
last_digit n fits = ⊎_elim
    (λ l. record {
      front = [];
      own = decimal_digit n l ∙ ap (λ d. d ∷ []) (omega (arith, l));
      next = λ below. decimal_digit (n + 1) (omega (arith, l, below)) ∙ ap (λ d. d ∷ []) (omega (arith, l));
    })
    (λ l. record {
      front = decimal (n / 10);
      own = decimal_step n l (omega (arith, fits));
      next = λ below.
          let tens : (n + 1) / 10 ≡ n / 10 = omega (arith, below) in
          let ones : 48 + (n + 1) % 10 ≡ 48 + n % 10 + 1 = omega (arith, below) in
          decimal_step (n + 1) (omega (arith, l)) fits ∙ ap (λ t. decimal t ++ (48 + (n + 1) % 10) ∷ []) tens ∙ ap (λ d. decimal (n / 10) ++ d ∷ []) ones;
    })
    (cases_lt n 10)

-- a word and a number that end at byte 32
module _ (word bytes : List ℕ) (start n : ℕ) (within : start ≤ 32) (long : length bytes ≡ 64) (fits : n + 1 < 2 ^ 64) (is : drop start bytes ≡ (word ++ decimal n) ++ replicate 32 0) where
  abbrev digit : LastDigit n
  digit = last_digit n fits

  abbrev before : List ℕ
  before = word ++ digit.front

  parted : drop start bytes ≡ before ++ (48 + n % 10) ∷ replicate 32 0
  parted =
      is ∙ ap (λ l. (word ++ l) ++ replicate 32 0) digit.own ∙ ap (λ l. l ++ replicate 32 0) (sym (append_assoc word digit.front ((48 + n % 10) ∷ [])))
      ∙ append_assoc before ((48 + n % 10) ∷ []) (replicate 32 0)

  at : start + length before ≡ 31
  at = omega (arith, within, long, length-drop start bytes, ap length parted, length-append before ((48 + n % 10) ∷ replicate 32 0))

  -- the last digit stands at byte 31
  last_is : get_or bytes 31 0 ≡ 48 + n % 10
  last_is =
      ap (λ k. get_or bytes k 0) (sym at) ∙ sym (get_or-drop start bytes (length before) 0) ∙ ap (λ l. get_or l (length before) 0) parted
      ∙ get_or-append_seam before (48 + n % 10) (replicate 32 0) 0

  pub next_digit : get_or bytes 31 0 < 57 → drop start (set bytes 31 (get_or bytes 31 0 + 1)) ≡ (word ++ decimal (n + 1)) ++ replicate 32 0
  next_digit below =
      let digit_below : n % 10 < 9 = omega (arith, below, last_is) in
      let more : ℕ = 48 + n % 10 + 1 in
      ap (λ d. drop start (set bytes 31 (d + 1))) last_is ∙ ap (λ k. drop start (set bytes k more)) (sym at) ∙ drop-set-add start bytes (length before) more
      ∙ ap (λ l. set l (length before) more) parted ∙ set-append_seam before (48 + n % 10) (replicate 32 0) more
      ∙ sym (append_assoc before (more ∷ []) (replicate 32 0)) ∙ ap (λ l. l ++ replicate 32 0) (append_assoc word digit.front (more ∷ []))
      ∙ ap (λ l. (word ++ l) ++ replicate 32 0) (sym (digit.next digit_below))
