-- A text of lines, and its lines.
use Rattle.std.proofs.Common.{◌≡◌, ℕ, zero, suc, ◌+◌, ◌-◌, ◌<◌, ◌≤◌, ◌==◌, nat_le, true, false, List, [], ◌∷◌, ◌++◌, length, map, take, drop, Option, Some, None, slice_get, flat_map, codes, IsUtf8, refl, sym, ap, subst, ◌∙◌, arith, append_assoc, length-drop, if◌then◌else◌}
use Rattle.std.specs.List.{list_all, position}
use Rattle.std.proofs.lemmas.Bool.{and_parts, or_from, leb-true}
use Rattle.std.proofs.lemmas.Option.{none-some, same_Some}
use Rattle.std.proofs.lemmas.List.Quantifiers.{position-Some}
use Rattle.std.proofs.lemmas.Str.{IsUtf8-append, IsUtf8-nil}
use Rattle.reo_document.specs.Lines.{parts_of, ends_in_cr, without_end, lines_of}
use Rattle.reo_document.proofs.LineLemmas.{lacks, lacks-before, lacks-None, parts-at, parts_of-cut, parts_of-last}
use Rattle.reo_document.proofs.RoomLemmas.{utf8_line, utf8_before, utf8_behind}
use Rattle.reo_sentence.proofs.Utf8Lemmas.{utf8_one}
use Rattle.reo_print.proofs.NumberLemmas.{not_same}
use Rattle.reo_print.proofs.PlainLemmas.{IsPlain}

abbrev pub in_lines : List (List ℕ) → List ℕ
in_lines lines = flat_map (λ line. line ++ codes "\n") lines

abbrev pub ArePlain : List (List ℕ) → Type 0
ArePlain [] = Unit {0}
ArePlain (line ∷ lines) = IsPlain line × ArePlain lines

pub plain_more : (lines : List (List ℕ)) (last : List ℕ) → ArePlain lines → IsPlain last → ArePlain (lines ++ last ∷ [])
plain_more [] last all is = (is, tt)
plain_more (line ∷ lines) last all is = (all.0, plain_more lines last all.1 is)

pub plain_utf8 : (lines : List (List ℕ)) → ArePlain lines → IsUtf8 (in_lines lines)
plain_utf8 [] all = IsUtf8-nil
plain_utf8 (line ∷ lines) all =
    IsUtf8-append (line ++ codes "\n") (in_lines lines) (IsUtf8-append line (codes "\n") all.0.utf8 (utf8_one 10 [] (omega arith) IsUtf8-nil)) (plain_utf8 lines all.1)

lacks_feed : (line : List ℕ) → list_all (nat_le 32) line ≡ true → lacks 10 line ≡ false
lacks_feed [] all = refl
lacks_feed (byte ∷ line) all =
    let parts = and_parts (nat_le 32 byte) (list_all (nat_le 32) line) all in
    let high : 32 ≤ byte = leb-true 32 byte parts.0 in
    or_from (byte == 10) (lacks 10 line) (not_same byte 10 (λ is. omega (arith, high, is))) (lacks_feed line parts.1)

each_high : (line : List ℕ) (i byte : ℕ) → list_all (nat_le 32) line ≡ true → slice_get line i ≡ Some byte → 32 ≤ byte
each_high [] i byte all is = absurd (none-some byte is)
each_high (first ∷ line) zero byte all is =
    let same : first ≡ byte = same_Some first byte is in
    omega (arith, same, leb-true 32 first (and_parts (nat_le 32 first) (list_all (nat_le 32) line) all).0)
each_high (first ∷ line) (suc i) byte all is = each_high line i byte (and_parts (nat_le 32 first) (list_all (nat_le 32) line) all).1 is

no_end : (line : List ℕ) → list_all (nat_le 32) line ≡ true → without_end line ≡ line
no_end line all = by (slice_get line (length line - 1)) refl
  where
    by : (last : Option ℕ) → slice_get line (length line - 1) ≡ last → (if ends_in_cr last then take (length line - 1) line else line) ≡ line
    by None is = refl
    by (Some byte) is =
        let high : 32 ≤ byte = each_high line (length line - 1) byte all is in
        ap (λ b. if b then take (length line - 1) line else line) (not_same byte 13 (λ same. omega (arith, high, same)))

pub lines_of-in_lines : (lines : List (List ℕ)) → ArePlain lines → lines_of (in_lines lines) ≡ lines ++ [] ∷ []
unfolding parts_of
lines_of-in_lines [] all = refl
lines_of-in_lines (line ∷ lines) all =
    ap lines_of (append_assoc line (codes "\n") (in_lines lines))
    ∙ ap (λ ps. map without_end ps) (parts_of-cut line (in_lines lines) (lacks_feed line all.0.high))
    ∙ ap (λ l. l ∷ lines_of (in_lines lines)) (no_end line all.0.high)
    ∙ ap (λ ls. line ∷ ls) (lines_of-in_lines lines all.1)

abbrev pub AreUtf8 : List (List ℕ) → Type 0
AreUtf8 [] = Unit {0}
AreUtf8 (line ∷ lines) = IsUtf8 line × AreUtf8 lines

last_utf8 : (bytes : List ℕ) → IsUtf8 bytes → position (λ byte. byte == 10) bytes ≡ None → AreUtf8 (lines_of bytes)
last_utf8 bytes utf8 none = subst (λ ps. AreUtf8 (map without_end ps)) (sym (parts_of-last bytes (lacks-None 10 bytes none))) (utf8_line bytes utf8, tt)

first_utf8 : (bytes : List ℕ) (at : ℕ) → IsUtf8 bytes → position (λ byte. byte == 10) bytes ≡ Some at → AreUtf8 (lines_of (drop (at + 1) bytes)) → AreUtf8 (lines_of bytes)
first_utf8 bytes at utf8 found rest =
    subst (λ ps. AreUtf8 (map without_end ps))
    (sym (ap parts_of (parts-at 10 bytes at found) ∙ parts_of-cut (take at bytes) (drop (at + 1) bytes) (lacks-before 10 bytes at found)))
    (utf8_line (take at bytes) (utf8_before bytes at utf8 found), rest)

fewer_behind : (bytes : List ℕ) (at : ℕ) → position (λ byte. byte == 10) bytes ≡ Some at → length (drop (at + 1) bytes) < length bytes
fewer_behind bytes at found =
    let within : at < length bytes = (position-Some (λ byte. byte == 10) bytes at 0 found).0 in
    omega (arith, within, length-drop (at + 1) bytes)

lines_utf8 : (n : ℕ) (bytes : List ℕ) → length bytes ≤ n → IsUtf8 bytes → AreUtf8 (lines_of bytes)
lines_utf8 zero bytes few utf8 = by (position (λ byte. byte == 10) bytes) refl
  where
    by : (place : Option ℕ) → position (λ byte. byte == 10) bytes ≡ place → AreUtf8 (lines_of bytes)
    by None none = last_utf8 bytes utf8 none
    by (Some at) found = absurd (omega (arith, few, fewer_behind bytes at found))
lines_utf8 (suc n) bytes few utf8 = by (position (λ byte. byte == 10) bytes) refl (λ rest fewer is. lines_utf8 n rest fewer is)
  where
    by : (place : Option ℕ) → position (λ byte. byte == 10) bytes ≡ place → ((rest : List ℕ) → length rest ≤ n → IsUtf8 rest → AreUtf8 (lines_of rest)) → AreUtf8 (lines_of bytes)
    by None none again = last_utf8 bytes utf8 none
    by (Some at) found again =
        first_utf8 bytes at utf8 found (again (drop (at + 1) bytes) (omega (arith, few, fewer_behind bytes at found)) (utf8_behind bytes at utf8 found))

pub all_lines_utf8 : (bytes : List ℕ) → IsUtf8 bytes → AreUtf8 (lines_of bytes)
all_lines_utf8 bytes utf8 = lines_utf8 (length bytes) bytes (omega arith) utf8
