-- Laws of the tokens of a line.
use Prim.Native.Nat.{zero}
use Rattle.std.proofs.Common.{◌≡◌, ℕ, suc, ◌+◌, ◌-◌, ◌<◌, ◌≤◌, ◌≢◌, Bool, true, false, List, [], ◌∷◌, ◌++◌, length, All, drop, get_or, Option, Some, None, refl, sym, ap, subst, ◌∙◌, arith, add-one, drop-cons, drop_of_length-le, append_assoc, append-nil, length-append, length-drop, if◌then◌else◌}
use Rattle.std.specs.Option.{option_map}
use Rattle.std.proofs.lemmas.List.Elements.{All-nil, All-push}
use Rattle.std.proofs.lemmas.List.Sums.{prefix_len-le-length}
use Rattle.reo_token.specs.declared.line.Step.TheVariants.{Closes, Bad, On}
use Rattle.reo_token.specs.declared.token.Token.{Token}
use Rattle.reo_token.specs.declared.token.Lexeme.{Lexeme}
use Rattle.reo_token.specs.declared.token.Lexeme.TheVariants.{Text}
use Rattle.reo_token.specs.declared.token.End.{End}
use Rattle.reo_token.specs.declared.token.End.TheVariants as ends
use Rattle.reo_token.specs.Bytes.{is_blank}
use Rattle.reo_token.specs.Cut.{text_step, text_by, text_len, is_over, blanks, token_at, first_token, cut, IsWithin}

-- a text goes on as its next byte says
pub text_len-at : (bytes : List ℕ) (at : ℕ) (escaped : Bool) → at < length bytes
    → text_len escaped (drop at bytes) ≡ text_by (text_step escaped (get_or bytes at 0)) (λ next. text_len next (drop (at + 1) bytes))
unfolding text_len
text_len-at bytes at escaped here = rw (add-one, drop-cons bytes at 0) refl

-- the text that is read so far, as the loop knows it
pub record Reads (bytes : List ℕ) (at : ℕ) (escaped : Bool) : Type 0 where
  pub so_far : text_len false bytes ≡ option_map (λ n. at + n) (text_len escaped (drop at bytes))

pub closes : (bytes : List ℕ) (at : ℕ) (escaped : Bool) → Reads bytes at escaped → at < length bytes → Closes ≡ text_step escaped (get_or bytes at 0) → Some at ≡ text_len false bytes
closes bytes at escaped reads here is =
    sym (reads.so_far ∙ ap (option_map (λ n. at + n)) (text_len-at bytes at escaped here ∙ ap (λ step. text_by step (λ next. text_len next (drop (at + 1) bytes))) (sym is)) ∙ ap Some (omega arith))

pub is_bad : (bytes : List ℕ) (at : ℕ) (escaped : Bool) → Reads bytes at escaped → at < length bytes → Bad ≡ text_step escaped (get_or bytes at 0) → None ≡ text_len false bytes
is_bad bytes at escaped reads here is =
    sym (reads.so_far ∙ ap (option_map (λ n. at + n)) (text_len-at bytes at escaped here ∙ ap (λ step. text_by step (λ next. text_len next (drop (at + 1) bytes))) (sym is)))

pub goes_on : (bytes : List ℕ) (at : ℕ) (escaped next : Bool) → Reads bytes at escaped → at < length bytes → On next ≡ text_step escaped (get_or bytes at 0) → Reads bytes (at + 1) next
goes_on bytes at escaped next reads here is = record {
  so_far =
      reads.so_far ∙ ap (option_map (λ n. at + n)) (text_len-at bytes at escaped here ∙ ap (λ step. text_by step (λ next. text_len next (drop (at + 1) bytes))) (sym is))
      ∙ one_more at (text_len next (drop (at + 1) bytes));
}
  where
    one_more : (at : ℕ) (rest : Option ℕ) → option_map (λ n. at + n) (option_map suc rest) ≡ option_map (λ n. (at + 1) + n) rest
    one_more at None = refl
    one_more at (Some n) = ap Some (omega arith)

pub never_closes : (bytes : List ℕ) (at : ℕ) (escaped : Bool) → Reads bytes at escaped → length bytes ≤ at → None ≡ text_len false bytes
unfolding text_len
never_closes bytes at escaped reads over = sym (reads.so_far ∙ ap (option_map (λ n. at + n)) (ap (text_len escaped) (drop_of_length-le bytes over)))

-- Where the next token begins.
abbrev pub here : List ℕ → List ℕ
here bytes = drop (blanks bytes) bytes

pub cut-over : (n at : ℕ) (bytes : List ℕ) → is_over (here bytes) ≡ true → cut n at bytes ≡ ([], ends.Over)
unfolding cut
cut-over zero at bytes over = ap (λ b. ([], if b then ends.Over else ends.Large)) over
cut-over (suc n) at bytes over =
    ap (λ b. if b then ([], ends.Over) else first_token (token_at (here bytes)) (at + blanks bytes) (λ len. cut n (at + blanks bytes + len) (drop len (here bytes)))) over

pub cut-large : (at : ℕ) (bytes : List ℕ) → is_over (here bytes) ≡ false → cut 0 at bytes ≡ ([], ends.Large)
unfolding cut
cut-large at bytes more = ap (λ b. ([], if b then ends.Over else ends.Large)) more

pub cut-next : (n at : ℕ) (bytes : List ℕ) (token : Option (Lexeme × ℕ)) → is_over (here bytes) ≡ false → token_at (here bytes) ≡ token
    → cut (suc n) at bytes ≡ first_token token (at + blanks bytes) (λ len. cut n (at + blanks bytes + len) (drop len (here bytes)))
unfolding cut
cut-next n at bytes token more is =
    ap (λ b. if b then ([], ends.Over) else first_token (token_at (here bytes)) (at + blanks bytes) (λ len. cut n (at + blanks bytes + len) (drop len (here bytes)))) more
    ∙ ap (λ t. first_token t (at + blanks bytes) (λ len. cut n (at + blanks bytes + len) (drop len (here bytes)))) is

abbrev pub in_front : List Token → List Token × End → List Token × End
in_front tokens more = (tokens ++ more.0, more.1)

-- with these tokens in front, the cut of the rest is the cut of the line
pub record Cuts (line rest : List ℕ) (tokens : List Token) : Type 0 where
  pub left : ℕ
  pub room : left + length tokens ≡ 512
  pub at : ℕ
  pub place : at + length rest ≡ length line
  pub so_far : cut 512 0 line ≡ in_front tokens (cut left at rest)
  pub within : All (IsWithin (length line)) tokens

pub Cuts-start : (line : List ℕ) → Cuts line line []
Cuts-start line = record { left = 512; room = refl; at = 0; place = omega arith; so_far = refl; within = All-nil (IsWithin (length line)) }

Cuts-over : (line rest : List ℕ) (tokens : List Token) → Cuts line rest tokens → is_over (here rest) ≡ true → (tokens, ends.Over) ≡ cut 512 0 line
Cuts-over line rest tokens cuts over =
    sym (cuts.so_far ∙ ap (in_front tokens) (cut-over cuts.left cuts.at rest over) ∙ ap (λ ts. (ts, ends.Over)) (append-nil tokens))

Cuts-large : (line rest : List ℕ) (tokens : List Token) → Cuts line rest tokens → is_over (here rest) ≡ false → length tokens ≡ 512 → (tokens, ends.Large) ≡ cut 512 0 line
Cuts-large line rest tokens cuts more full =
    let none : cuts.left ≡ 0 = omega (arith, cuts.room) in
    sym (cuts.so_far ∙ ap (λ left. in_front tokens (cut left cuts.at rest)) none ∙ ap (in_front tokens) (cut-large cuts.at rest more) ∙ ap (λ ts. (ts, ends.Large)) (append-nil tokens))

-- the cut from here on, where there is room for a token
Cuts-next : (line rest : List ℕ) (tokens : List Token) (cuts : Cuts line rest tokens) (token : Option (Lexeme × ℕ)) → is_over (here rest) ≡ false → length tokens ≢ 512
    → token_at (here rest) ≡ token
    → cut 512 0 line ≡ in_front tokens (first_token token (cuts.at + blanks rest) (λ len. cut (cuts.left - 1) (cuts.at + blanks rest + len) (drop len (here rest))))
Cuts-next line rest tokens cuts token more room is =
    let some : cuts.left ≡ suc (cuts.left - 1) = omega (arith, cuts.room, room) in
    cuts.so_far ∙ ap (λ left. in_front tokens (cut left cuts.at rest)) some ∙ ap (in_front tokens) (cut-next (cuts.left - 1) cuts.at rest token more is)

-- where the next token begins, by what is left
start : (line rest : List ℕ) (tokens : List Token) (cuts : Cuts line rest tokens) → cuts.at + blanks rest ≡ length line - length (here rest)
start line rest tokens cuts = omega (arith, cuts.place, length-drop (blanks rest) rest, prefix_len-le-length is_blank rest)

Cuts-bad : (line rest : List ℕ) (tokens : List Token) → Cuts line rest tokens → is_over (here rest) ≡ false → length tokens ≢ 512 → token_at (here rest) ≡ None
    → (tokens, ends.Bad (length line - length (here rest))) ≡ cut 512 0 line
Cuts-bad line rest tokens cuts more room none =
    sym (Cuts-next line rest tokens cuts None more room none ∙ ap (λ ts. (ts, ends.Bad (cuts.at + blanks rest))) (append-nil tokens)
    ∙ ap (λ at. (tokens, ends.Bad at)) (start line rest tokens cuts))

abbrev pub token_from : List ℕ → List ℕ → Lexeme → ℕ → Token
token_from line rest lexeme len =
    record { lexeme = lexeme; start = length line - length (here rest); end = length line - length (here rest) + len }

-- a token of this kind has so many bytes at the front of these
pub record IsToken (lexeme : Lexeme) (len : ℕ) (bytes : List ℕ) : Type 0 where
  pub fits : len ≤ length bytes
  pub some : 0 < len
  pub quotes : lexeme ≡ Text → 2 ≤ len

Cuts-token : (line rest : List ℕ) (tokens : List Token) (lexeme : Lexeme) (len : ℕ) → Cuts line rest tokens → is_over (here rest) ≡ false → length tokens ≢ 512
    → token_at (here rest) ≡ Some (lexeme, len) → IsToken lexeme len (here rest) → Cuts line (drop len (here rest)) (tokens ++ token_from line rest lexeme len ∷ [])
Cuts-token line rest tokens lexeme len cuts more room is is_token = record {
  left = cuts.left - 1;
  room = omega (arith, cuts.room, room, length-append tokens (token_from line rest lexeme len ∷ []));
  at = cuts.at + blanks rest + len;
  place = omega (arith, is_token.fits, cuts.place, length-drop len (here rest), length-drop (blanks rest) rest, prefix_len-le-length is_blank rest);
  so_far =
      Cuts-next line rest tokens cuts (Some (lexeme, len)) more room is
      ∙ ap (λ at. in_front tokens (first_token (Some (lexeme, len)) at (λ n. cut (cuts.left - 1) (cuts.at + blanks rest + n) (drop n (here rest))))) (start line rest tokens cuts)
      ∙ ap (λ ts. (ts, (cut (cuts.left - 1) (cuts.at + blanks rest + len) (drop len (here rest))).1)) (sym (append_assoc tokens (token_from line rest lexeme len ∷ []) (cut (cuts.left - 1) (cuts.at + blanks rest + len) (drop len (here rest))).0));
  within =
      All-push (IsWithin (length line)) tokens (token_from line rest lexeme len) cuts.within
      (record {
        some = omega (arith, is_token.some);
        end = omega (arith, is_token.fits, cuts.place, length-drop (blanks rest) rest, prefix_len-le-length is_blank rest);
        quotes = λ text. omega (arith, is_token.quotes text);
      });
}

-- The same where the blanks were skipped.
pub record Skipped (rest next : List ℕ) : Type 0 where
  pub is : next ≡ here rest

pub skipped : (rest next : List ℕ) (count : ℕ) → next ≡ drop count rest → count ≡ blanks rest → Skipped rest next
skipped rest next count is counted = record { is = is ∙ ap (λ n. drop n rest) counted }

pub ends_over : (line rest next : List ℕ) (tokens : List Token) → Cuts line rest tokens → Skipped rest next → is_over next ≡ true → (tokens, ends.Over) ≡ cut 512 0 line
ends_over line rest next tokens cuts skips over = Cuts-over line rest tokens cuts (sym (ap is_over skips.is) ∙ over)

pub ends_large : (line rest next : List ℕ) (tokens : List Token) → Cuts line rest tokens → Skipped rest next → is_over next ≡ false → length tokens ≡ 512
    → (tokens, ends.Large) ≡ cut 512 0 line
ends_large line rest next tokens cuts skips more full = Cuts-large line rest tokens cuts (sym (ap is_over skips.is) ∙ more) full

pub ends_bad : (line rest next : List ℕ) (tokens : List Token) → Cuts line rest tokens → Skipped rest next → is_over next ≡ false → length tokens ≢ 512 → token_at next ≡ None
    → (tokens, ends.Bad (length line - length next)) ≡ cut 512 0 line
ends_bad line rest next tokens cuts skips more room none =
    subst (λ n. (tokens, ends.Bad (length line - length n)) ≡ cut 512 0 line) (sym skips.is)
    (Cuts-bad line rest tokens cuts (sym (ap is_over skips.is) ∙ more) room (sym (ap token_at skips.is) ∙ none))

pub goes_on_with : (line rest next after : List ℕ) (tokens : List Token) (lexeme : Lexeme) (len : ℕ) → Cuts line rest tokens → Skipped rest next → is_over next ≡ false → length tokens ≢ 512
    → token_at next ≡ Some (lexeme, len) → IsToken lexeme len next → after ≡ drop len next
    → Cuts line after (tokens ++ record { lexeme = lexeme; start = length line - length next; end = length line - length next + len } ∷ [])
goes_on_with line rest next after tokens lexeme len cuts skips more room is is_token behind =
    subst (λ a. Cuts line a (tokens ++ record { lexeme = lexeme; start = length line - length next; end = length line - length next + len } ∷ [])) (sym behind)
    (subst (λ n. Cuts line (drop len n) (tokens ++ record { lexeme = lexeme; start = length line - length n; end = length line - length n + len } ∷ [])) (sym skips.is)
    (Cuts-token line rest tokens lexeme len cuts (sym (ap is_over skips.is) ∙ more) room (sym (ap token_at skips.is) ∙ is) (subst (IsToken lexeme len) skips.is is_token)))
