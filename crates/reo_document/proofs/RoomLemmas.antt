-- Room for what the bytes that are left can add.
use Prim.Native.Nat.{zero}
use Rattle.std.proofs.Common.{◌≡◌, ◌≢◌, ℕ, suc, ◌+◌, ◌-◌, ◌<◌, ◌≤◌, ◌==◌, Bool, true, false, if◌then◌else◌, List, [], ◌∷◌, ◌++◌, length, take, drop, All, get_or, slice_get, Option, Some, None, IsUtf8, refl, sym, ap, subst, arith, length-append}
use Rattle.std.proofs.lemmas.Bool.{eqb-true}
use Rattle.std.proofs.lemmas.Option.{slice_get_within, get_or_from_slice_get}
use Rattle.std.proofs.lemmas.List.Elements.{All-head, All-tail}
use Rattle.std.proofs.lemmas.List.Quantifiers.{position-Some}
use Rattle.std.proofs.lemmas.Str.{IsUtf8-take, IsUtf8-drop, IsCharBoundary-before_ascii, IsCharBoundary-after_ascii}
use Rattle.std.specs.List.{position}
use Rattle.reo_token.specs.declared.token.Lexeme.{Lexeme}
use Rattle.reo_token.specs.declared.token.Token.{Token}
use Rattle.reo_token.specs.declared.token.End.TheVariants.{Over}
use Rattle.reo_token.specs.Cut.{blanks, is_over, token_at, first_token, cut, IsWithin}
use Rattle.reo_value.proofs.LexiconLemmas.{length-added}
use Rattle.reo_value.specs.Lexicon.{added}
use Rattle.reo_sentence.specs.Said.{Said, PortSaid, ChannelSaid, ComponentSaid, PutSaid, GetSaid}
use Rattle.reo_sentence.specs.Numbered.{number_in}
use Rattle.reo_document.specs.declared.line.Line.TheVariants as line
use Rattle.reo_document.specs.Document.{DocumentData}
use Rattle.reo_document.specs.Lines.{ends_in_cr, without_end}
use Rattle.reo_document.specs.Placed.{with_said}
use Rattle.reo_document.specs.Spells.{empty}
use Rattle.reo_document.specs.Builder.{HasRoom}

pub room_less : (d : DocumentData) (more bytes : ℕ) → bytes ≤ more → HasRoom d more → HasRoom d bytes
room_less d more bytes less room = record {
  lines = omega (arith, less, room.lines);
  nodes = omega (arith, less, room.nodes);
  texts = omega (arith, less, room.texts);
  people = omega (arith, less, room.people);
}

pub room_first : (d : DocumentData) (bytes : ℕ) → d ≡ empty → bytes ≤ 8388608 → HasRoom d bytes
room_first d bytes is few =
    let lines : length d.lines ≡ 0 = ap (λ e. length e.lines) is in
    let nodes : length d.nodes ≡ 0 = ap (λ e. length e.nodes) is in
    let texts : length d.texts ≡ 0 = ap (λ e. length e.texts) is in
    let people : length d.people ≡ 0 = ap (λ e. length e.people) is in
    record {
      lines = omega (arith, lines, few);
      nodes = omega (arith, nodes, few);
      texts = omega (arith, texts, few);
      people = omega (arith, people, few);
    }

-- what a line adds
record Adds (d next : DocumentData) : Type 0 where
  lines : length next.lines ≤ length d.lines + 1
  nodes : length next.nodes ≤ length d.nodes + 2
  texts : length next.texts ≡ length d.texts
  people : length next.people ≤ length d.people + 1

one_more : {A : Type 0} (xs : List A) (x : A) → length (xs ++ x ∷ []) ≤ length xs + 1
one_more xs x = omega (arith, length-append xs (x ∷ []))

adds : (d : DocumentData) (it : Said) → Adds d (with_said d it)
adds d (PortSaid way node) = record {
  lines = one_more d.lines (line.Port way (number_in (added d.nodes node) node));
  nodes = omega (arith, (length-added d.nodes node).1);
  texts = refl;
  people = omega arith;
}
adds d (ChannelSaid kind a b) = record {
  lines = one_more d.lines (line.Channel (record { kind = kind; a = number_in (added (added d.nodes a) b) a; b = number_in (added (added d.nodes a) b) b }));
  nodes = omega (arith, (length-added d.nodes a).1, (length-added (added d.nodes a) b).1);
  texts = refl;
  people = omega arith;
}
adds d (ComponentSaid name) = record {
  lines = omega arith;
  nodes = omega arith;
  texts = refl;
  people = (length-added d.people name).1;
}
adds d (PutSaid node value) = record { lines = omega arith; nodes = omega arith; texts = refl; people = omega arith }
adds d (GetSaid node) = record { lines = omega arith; nodes = omega arith; texts = refl; people = omega arith }

pub room_said : (d next : DocumentData) (texts : List (List ℕ)) (it : Said) (count bytes : ℕ) → next ≡ with_said (record d { texts = texts }) it → length texts ≤ length d.texts + count → count ≤ bytes
    → (more : ℕ) → HasRoom d (bytes + 1 + more) → HasRoom next more
room_said d next texts it count bytes is grown short more room =
    subst (λ n. HasRoom n more) (sym is)
    (let added_so = adds (record d { texts = texts }) it in
    record {
      lines = omega (arith, added_so.lines, room.lines);
      nodes = omega (arith, added_so.nodes, room.nodes);
      texts = omega (arith, added_so.texts, grown, short, room.texts);
      people = omega (arith, added_so.people, room.people);
    })

-- a line has no more tokens than bytes
few_from : (n at len : ℕ) (bytes : List ℕ) → All (IsWithin len) (cut n at bytes).0 → at ≤ len → length (cut n at bytes).0 + at ≤ len
unfolding cut
few_from zero at len bytes within here = omega (arith, here)
few_from (suc n) at len bytes within here =
    by (is_over (drop (blanks bytes) bytes)) (token_at (drop (blanks bytes) bytes)) within (λ next rest all low. few_from n next len rest all low)
  where
    by : (over : Bool) (token : Option (Lexeme × ℕ))
        → All (IsWithin len) (if over then ([], Over) else first_token token (at + blanks bytes) (λ size. cut n (at + blanks bytes + size) (drop size (drop (blanks bytes) bytes)))).0
        → ((next : ℕ) (rest : List ℕ) → All (IsWithin len) (cut n next rest).0 → next ≤ len → length (cut n next rest).0 + next ≤ len)
        → length (if over then ([], Over) else first_token token (at + blanks bytes) (λ size. cut n (at + blanks bytes + size) (drop size (drop (blanks bytes) bytes)))).0 + at ≤ len
    by true token all again = omega (arith, here)
    by false None all again = omega (arith, here)
    by false (Some t) all again =
        let first = All-head (IsWithin len) (record { lexeme = t.0; start = at + blanks bytes; end = at + blanks bytes + t.1 }) (cut n (at + blanks bytes + t.1) (drop t.1 (drop (blanks bytes) bytes))).0 all in
        let few = again (at + blanks bytes + t.1) (drop t.1 (drop (blanks bytes) bytes)) (All-tail (IsWithin len) (record { lexeme = t.0; start = at + blanks bytes; end = at + blanks bytes + t.1 }) (cut n (at + blanks bytes + t.1) (drop t.1 (drop (blanks bytes) bytes))).0 all) first.end in
        omega (arith, first.some, few)

pub few_tokens : (line : List ℕ) (tokens : List Token) → (tokens, Over) ≡ cut 512 0 line → All (IsWithin (length line)) tokens → length tokens ≤ length line
few_tokens line tokens is within =
    let same : tokens ≡ (cut 512 0 line).0 = ap (λ r. r.0) is in
    let few = few_from 512 0 (length line) line (subst (All (IsWithin (length line))) same within) (omega arith) in
    omega (arith, few, ap length same)

pub some_bytes : (line : List ℕ) (tokens : List Token) → length tokens ≤ length line → tokens ≢ [] → 1 ≤ length line
some_bytes line [] few some = absurd (some refl)
some_bytes line (token ∷ tokens) few some = omega (arith, few)

-- a line of a text that is UTF-8 is
pub utf8_line : (line : List ℕ) → IsUtf8 line → IsUtf8 (without_end line)
utf8_line line utf8 = by (slice_get line (length line - 1)) refl
  where
    by : (last : Option ℕ) → slice_get line (length line - 1) ≡ last → IsUtf8 (if ends_in_cr last then take (length line - 1) line else line)
    by None is = utf8
    by (Some byte) is = by_byte (byte == 13) refl
      where
        by_byte : (cr : Bool) → (byte == 13) ≡ cr → IsUtf8 (if cr then take (length line - 1) line else line)
        by_byte false other = utf8
        by_byte true same =
            let within : length line - 1 < length line = slice_get_within line (length line - 1) byte is in
            let low : get_or line (length line - 1) 0 < 128 = omega (arith, get_or_from_slice_get line (length line - 1) byte 0 is, eqb-true byte 13 same) in
            IsUtf8-take line (length line - 1) utf8 (IsCharBoundary-before_ascii line (length line - 1) within low)

module _ (bytes : List ℕ) (at : ℕ) (utf8 : IsUtf8 bytes) (found : position (λ byte. byte == 10) bytes ≡ Some at) where
  here : (at < length bytes) × (get_or bytes at 0 < 128)
  here =
      let first = position-Some (λ byte. byte == 10) bytes at 0 found in
      (first.0, omega (arith, eqb-true (get_or bytes at 0) 10 first.1))

  pub utf8_before : IsUtf8 (take at bytes)
  utf8_before = IsUtf8-take bytes at utf8 (IsCharBoundary-before_ascii bytes at here.0 here.1)

  pub utf8_behind : IsUtf8 (drop (at + 1) bytes)
  utf8_behind = IsUtf8-drop bytes (at + 1) utf8 (IsCharBoundary-after_ascii bytes at utf8 here.0 here.1)
