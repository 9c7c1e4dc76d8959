-- A line in its plainest spelling, at the front of a text.
use Prim.Native.Nat.{zero}
use Rattle.std.proofs.Common.{◌≡◌, ℕ, suc, ◌+◌, ◌-◌, ◌*◌, ◌<◌, ◌≤◌, ◌==◌, nat_le, nat_lt, Bool, true, false, cond, if◌then◌else◌, ◌&&◌, ◌||◌, List, [], ◌∷◌, ◌++◌, length, map, take, drop, get_or, slice_get, Option, Some, None, IsUtf8, to_z, w64, ℤ, refl, sym, ap, subst, ◌∙◌, arith, length-take, length-drop, get_or-drop, take-add, leb-true, eqb-true, ltb-true, lt-ltb}
use Rattle.std.specs.List.{list_all}
use Rattle.std.proofs.lemmas.Bool.{false≢true, and_from}
use Rattle.std.proofs.lemmas.Int.{to_z_pos}
use Rattle.std.proofs.lemmas.List.{take_more, take-append-drop, drop_more, drop-take}
use Rattle.std.proofs.lemmas.List.Folds.{list_all-append}
use Rattle.std.proofs.lemmas.Str.{IsUtf8-drop, IsCharBoundary-after_ascii}
use Rattle.reo_token.specs.declared.token.Lexeme.TheVariants.{Word}
use Rattle.reo_token.specs.Bytes.{is_letter, is_digit, is_word_byte}
use Rattle.reo_token.specs.Cut.{run}
use Rattle.reo_sentence.specs.declared.said.Name.{Name}
use Rattle.reo_sentence.specs.Seen.{decimal_after, decimal_value}
use Rattle.reo_value.specs.declared.value.Value.TheVariants.{Int}
use Rattle.reo_document.specs.Lines.{parts_of, ends_in_cr, without_end, lines_of}
use Rattle.reo_document.specs.Plain.{BeginsWithName, StandsName, EndsLine, EndsNatural, IsPlainNumber, IsPlain}
use Rattle.reo_document.proofs.ListLemmas.{list_any-slice_get}
use Rattle.reo_document.proofs.LineLemmas.{lacks, parts_of-cut}
use Rattle.reo_document.proofs.PlainLemmas.{both, other, if_true, close_at, digit_low, digit_high, plain_number, says_get, names_get, says_put, names_put}

-- The first line of a text ends where an LF stands and no control byte does before it.
lacks_low : (at : ℕ) (bytes : List ℕ) → at ≤ 31 → list_all (nat_lt 31) bytes ≡ true → lacks at bytes ≡ false
lacks_low at [] low printed = refl
lacks_low at (byte ∷ bytes) low printed =
    let h = both (nat_lt 31 byte) (list_all (nat_lt 31) bytes) printed in
    ap (λ p. p || lacks at bytes) (other byte at (omega (arith, low, ltb-true 31 byte h.0))) ∙ lacks_low at bytes low h.1

without_same : (line : List ℕ) → list_all (nat_lt 31) line ≡ true → without_end line ≡ line
without_same line printed = by (slice_get line (length line - 1)) refl
  where
    by : (last : Option ℕ) → slice_get line (length line - 1) ≡ last → (if ends_in_cr last then take (length line - 1) line else line) ≡ line
    by None is = refl
    by (Some byte) is = by_byte (byte == 13) refl
      where
        by_byte : (cr : Bool) → (byte == 13) ≡ cr → (if cr then take (length line - 1) line else line) ≡ line
        by_byte false is_not = refl
        by_byte true is_cr = absurd (false≢true (sym (lacks_low 13 line (omega arith) printed) ∙ list_any-slice_get (λ b. b == 13) line (length line - 1) byte is is_cr))

module _ (bytes : List ℕ) (len : ℕ) (ends : EndsLine bytes len) where
  pub lines_at : lines_of bytes ≡ take len bytes ∷ lines_of (drop (len + 1) bytes)
  lines_at =
      let split : bytes ≡ take len bytes ++ 10 ∷ drop (len + 1) bytes =
      sym (take-append-drop len bytes) ∙ ap (λ rest. take len bytes ++ rest) (drop_more bytes len 0 ends.within)
      ∙ ap (λ byte. take len bytes ++ byte ∷ drop (len + 1) bytes) ends.feed in
      ap (λ ps. map without_end ps) (ap parts_of split ∙ parts_of-cut (take len bytes) (drop (len + 1) bytes) (lacks_low 10 (take len bytes) (omega arith) ends.printed))
      ∙ ap (λ line. line ∷ map without_end (parts_of (drop (len + 1) bytes))) (without_same (take len bytes) ends.printed)

  pub utf8_at : IsUtf8 bytes → IsUtf8 (drop (len + 1) bytes)
  utf8_at utf8 = IsUtf8-drop bytes (len + 1) utf8 (IsCharBoundary-after_ascii bytes len utf8 ends.within (omega (arith, ends.feed)))

-- More bytes before a line.
ends_more : (byte : ℕ) (bytes : List ℕ) (len : ℕ) → nat_lt 31 byte ≡ true → EndsLine bytes len → EndsLine (byte ∷ bytes) (suc len)
ends_more byte bytes len printed ends = record {
  within = omega (arith, ends.within);
  feed = ends.feed;
  printed = and_from (nat_lt 31 byte) (list_all (nat_lt 31) (take len bytes)) printed ends.printed;
}

ends_word : (a b d : ℕ) (rest : List ℕ) (len : ℕ) → nat_lt 31 a ≡ true → nat_lt 31 b ≡ true → nat_lt 31 d ≡ true → EndsLine rest len → EndsLine (a ∷ b ∷ d ∷ 32 ∷ rest) (suc (suc (suc (suc len))))
ends_word a b d rest len is_a is_b is_d ends =
    ends_more a (b ∷ d ∷ 32 ∷ rest) (suc (suc (suc len))) is_a
    (ends_more b (d ∷ 32 ∷ rest) (suc (suc len)) is_b (ends_more d (32 ∷ rest) (suc len) is_d (ends_more 32 rest len refl ends)))

-- A name at the front.
letter_low : (byte : ℕ) → is_letter byte ≡ true → 65 ≤ byte
letter_low byte is = by (nat_le 65 byte) (nat_le 97 byte) (byte == 95) refl refl refl is
  where
    by : (a b d : Bool) → nat_le 65 byte ≡ a → nat_le 97 byte ≡ b → (byte == 95) ≡ d → ((a && nat_le byte 90) || (b && nat_le byte 122) || d) ≡ true → 65 ≤ byte
    by true b d is_a is_b is_d some = leb-true 65 byte is_a
    by false true d is_a is_b is_d some = omega (arith, leb-true 97 byte is_b)
    by false false true is_a is_b is_d some = omega (arith, eqb-true byte 95 is_d)
    by false false false is_a is_b is_d some = absurd (false≢true some)

word_printed : (byte : ℕ) → is_word_byte byte ≡ true → nat_lt 31 byte ≡ true
word_printed byte is = by (is_letter byte) refl is
  where
    by : (letter : Bool) → is_letter byte ≡ letter → (letter || is_digit byte) ≡ true → nat_lt 31 byte ≡ true
    by true is_it word = lt-ltb 31 byte (omega (arith, letter_low byte is_it))
    by false is_it word = lt-ltb 31 byte (omega (arith, digit_low byte word))

run_printed : (bytes : List ℕ) (len : ℕ) → len ≤ run bytes → list_all (nat_lt 31) (take len bytes) ≡ true
run_printed [] zero less = refl
run_printed [] (suc len) less = refl
run_printed (byte ∷ bytes) zero less = refl
run_printed (byte ∷ bytes) (suc len) less = by (is_word_byte byte) refl less (run_printed bytes len)
  where
    by : (word : Bool) → is_word_byte byte ≡ word → suc len ≤ cond word (1 + run bytes) 0 → (len ≤ run bytes → list_all (nat_lt 31) (take len bytes) ≡ true)
        → (nat_lt 31 byte && list_all (nat_lt 31) (take len bytes)) ≡ true
    by true is some again = and_from (nat_lt 31 byte) (list_all (nat_lt 31) (take len bytes)) (word_printed byte is) (again (omega (arith, some)))
    by false is some again = absurd (omega (arith, some))

run_take : (bytes : List ℕ) (len : ℕ) → run bytes ≤ len → run (take len bytes) ≡ run bytes
run_take [] zero less = refl
run_take [] (suc len) less = refl
run_take (byte ∷ bytes) zero less = omega (arith, less)
run_take (byte ∷ bytes) (suc len) less = by (is_word_byte byte) less (run_take bytes len)
  where
    by : (word : Bool) → cond word (1 + run bytes) 0 ≤ suc len → (run bytes ≤ len → run (take len bytes) ≡ run bytes) → cond word (1 + run (take len bytes)) 0 ≡ cond word (1 + run bytes) 0
    by true few again = ap (λ n. 1 + n) (again (omega (arith, few)))
    by false few again = refl

some_run : (byte : ℕ) (bytes : List ℕ) → is_letter byte ≡ true → 1 ≤ run (byte ∷ bytes)
some_run byte bytes letter =
    let is : run (byte ∷ bytes) ≡ 1 + run bytes = ap (λ p. cond (p || is_digit byte) (1 + run bytes) 0) letter in
    omega (arith, is)

name_front : (bytes : List ℕ) (len more : ℕ) → StandsName bytes len → len ≤ more → BeginsWithName (take more bytes) len
name_front [] len more is less = absurd (false≢true is.starts)
name_front (byte ∷ bytes) len zero is less = absurd (omega (arith, less, is.all, some_run byte bytes is.starts))
name_front (byte ∷ bytes) len (suc more) is less = record {
  begins = record {
    close = close_at byte (take more bytes) (omega (arith, letter_low byte is.starts));
    more = other byte 35 (omega (arith, letter_low byte is.starts));
    token = if_true (is_letter byte) _ _ is.starts ∙ ap (λ n. Some (Word, n)) (run_take (byte ∷ bytes) (suc more) (omega (arith, is.all, less)) ∙ sym is.all);
  };
  within = omega (arith, length-take (suc more) (byte ∷ bytes), is.within, less);
  short = is.short;
}

front : (bytes rest : List ℕ) (a b d more len : ℕ) → bytes ≡ a ∷ b ∷ d ∷ 32 ∷ rest → len ≡ suc (suc (suc (suc more))) → take len bytes ≡ a ∷ b ∷ d ∷ 32 ∷ take more rest
front bytes rest a b d more len is size = ap (take len) is ∙ ap (λ n. take n (a ∷ b ∷ d ∷ 32 ∷ rest)) size

-- A get.
pub is_plain_get : (bytes rest behind : List ℕ) (name : Name) (len size : ℕ) → bytes ≡ 103 ∷ 101 ∷ 116 ∷ 32 ∷ rest → StandsName rest len → drop len rest ≡ 10 ∷ behind
    → name.start ≡ 4 → name.end ≡ 4 + len → size ≡ 4 + len → IsPlain bytes (record { node = name; value = None; len = size })
is_plain_get bytes rest behind name len size is stands after start end total = record {
  says = says_get (take size bytes) (take len rest) name len line begins (omega (arith, length-take len rest)) start end;
  named = names_get (take size bytes) (take len rest) name len line begins (omega (arith, length-take len rest)) start end;
  ends = subst (EndsLine bytes) (sym four) (subst (λ bs. EndsLine bs (suc (suc (suc (suc len))))) (sym is) (ends_word 103 101 116 rest len refl refl refl ends));
}
  where
    four : size ≡ suc (suc (suc (suc len)))
    four = omega (arith, total)

    line : take size bytes ≡ 103 ∷ 101 ∷ 116 ∷ 32 ∷ take len rest
    line = front bytes rest 103 101 116 len size is four

    begins : BeginsWithName (take len rest) len
    begins = name_front rest len len stands (omega arith)

    ends : EndsLine rest len
    ends = record {
      within =
          let some : length rest - len ≡ suc (length behind) = sym (length-drop len rest) ∙ ap length after in
          omega (arith, some);
      feed = here;
      printed = run_printed rest len (omega (arith, stands.all));
    }
      where
        here : get_or rest len 0 ≡ 10
        here =
            let place : len + 0 ≡ len = omega arith in
            ap (λ n. get_or rest n 0) (sym place) ∙ sym (get_or-drop len rest 0 0) ∙ ap (λ l. get_or l 0 0) after

-- The digits before the end of a line.
digits_printed : (digits : List ℕ) → list_all is_digit digits ≡ true → list_all (nat_lt 31) digits ≡ true
digits_printed [] all = refl
digits_printed (byte ∷ digits) all =
    let h = both (is_digit byte) (list_all is_digit digits) all in
    and_from (nat_lt 31 byte) (list_all (nat_lt 31) digits) (lt-ltb 31 byte (omega (arith, digit_low byte h.0))) (digits_printed digits h.1)

decimal_last : (before : ℕ) (digits : List ℕ) (byte : ℕ) → decimal_after before (digits ++ byte ∷ []) ≡ 10 * decimal_after before digits + (byte - 48)
decimal_last before [] byte = refl
decimal_last before (first ∷ digits) byte = decimal_last (10 * before + (first - 48)) digits byte

-- The digits read so far.
pub record ReadSo (digits : List ℕ) (at value : ℕ) : Type 0 where
  pub so_far : decimal_value (take at digits) ≡ value
  pub all : list_all is_digit (take at digits) ≡ true
  pub small : value < 1000000000000000000

pub read_none : (digits : List ℕ) → ReadSo digits 0 0
read_none digits = record { so_far = refl; all = refl; small = omega arith }

pub read_one : (digits : List ℕ) (at value step : ℕ) → ReadSo digits at value → at < length digits → is_digit (get_or digits at 0) ≡ true → step ≡ get_or digits at 0 - 48
    → value < 100000000000000000 → ReadSo digits (at + 1) (10 * value + step)
read_one digits at value step reads here is_it is low = record {
  so_far =
      ap decimal_value (take_more digits at 0 here) ∙ decimal_last 0 (take at digits) (get_or digits at 0)
      ∙ ap (λ n. 10 * n + (get_or digits at 0 - 48)) reads.so_far ∙ ap (λ n. 10 * value + n) (sym is);
  all =
      ap (list_all is_digit) (take_more digits at 0 here) ∙ list_all-append is_digit (take at digits) (get_or digits at 0 ∷ [])
      ∙ and_from (list_all is_digit (take at digits)) (list_all is_digit (get_or digits at 0 ∷ [])) reads.all (and_from (is_digit (get_or digits at 0)) true is_it refl);
  small = omega (arith, is, low, digit_high (get_or digits at 0) is_it);
}

-- A put.
pub is_plain_put : (bytes rest digits : List ℕ) (name : Name) (len value count size : ℕ) (number : ℤ) → bytes ≡ 112 ∷ 117 ∷ 116 ∷ 32 ∷ rest → StandsName rest len → drop len rest ≡ 32 ∷ digits
    → EndsNatural digits value count → number ≡ to_z w64 value → name.start ≡ 4 → name.end ≡ 4 + len → size ≡ 4 + len + 1 + count
    → IsPlain bytes (record { node = name; value = Some (Int number); len = size })
is_plain_put bytes rest digits name len value count size number is stands after natural is_number start end total = record {
  says = says_put (take size bytes) (take (len + suc count) rest) name len number line begins behind start end;
  named = names_put (take size bytes) (take (len + suc count) rest) name len number line begins behind start end;
  ends = subst (EndsLine bytes) (sym four) (subst (λ bs. EndsLine bs (suc (suc (suc (suc (len + suc count)))))) (sym is) (ends_word 112 117 116 rest (len + suc count) refl refl refl ends));
}
  where
    four : size ≡ suc (suc (suc (suc (len + suc count))))
    four = omega (arith, total)

    line : take size bytes ≡ 112 ∷ 117 ∷ 116 ∷ 32 ∷ take (len + suc count) rest
    line = front bytes rest 112 117 116 (len + suc count) size is four

    begins : BeginsWithName (take (len + suc count) rest) len
    begins = name_front rest len (len + suc count) stands (omega arith)

    plain : IsPlainNumber (take count digits) number
    plain =
        subst (IsPlainNumber (take count digits)) (sym (is_number ∙ to_z_pos w64 value (omega (arith, natural.small))))
        (plain_number (take count digits) value natural.starts natural.all natural.is (omega (arith, natural.small)))

    behind : (ds : List ℕ) × ((drop len (take (len + suc count) rest) ≡ 32 ∷ ds) × IsPlainNumber ds number)
    behind = (take count digits, (drop-take len (suc count) rest ∙ ap (take (suc count)) after, plain))

    ends : EndsLine rest (len + suc count)
    ends = record {
      within =
          let some : length rest - len ≡ suc (length digits) = sym (length-drop len rest) ∙ ap length after in
          omega (arith, some, natural.within);
      feed = sym (get_or-drop len rest (suc count) 0) ∙ ap (λ l. get_or l (suc count) 0) after ∙ natural.feed;
      printed =
          ap (list_all (nat_lt 31)) (take-add len (suc count) rest ∙ ap (λ l. take len rest ++ take (suc count) l) after) ∙ list_all-append (nat_lt 31) (take len rest) (32 ∷ take count digits)
          ∙ and_from (list_all (nat_lt 31) (take len rest)) (list_all (nat_lt 31) (32 ∷ take count digits)) (run_printed rest len (omega (arith, stands.all)))
          (and_from (nat_lt 31 32) (list_all (nat_lt 31) (take count digits)) refl (digits_printed (take count digits) natural.all));
    }
