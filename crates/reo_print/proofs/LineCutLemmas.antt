-- Tokens as they are written are cut again as these tokens.
use Rattle.std.proofs.Common.{◌≡◌, ℕ, zero, suc, ◌+◌, ◌-◌, ◌≤◌, List, [], ◌∷◌, ◌++◌, length, map, take, drop, Some, refl, sym, ap, subst, ◌∙◌, arith, if◌then◌else◌}
use Rattle.std.proofs.lemmas.List.{drop-drop, drop_at}
use Rattle.reo_token.specs.declared.token.Symbol.TheVariants.{Open}
use Rattle.reo_token.specs.declared.token.Token.{Token as CutToken}
use Rattle.reo_token.specs.declared.token.Lexeme.{Lexeme}
use Rattle.reo_token.specs.declared.token.Lexeme.TheVariants as lexeme
use Rattle.reo_token.specs.declared.token.End.{End}
use Rattle.reo_token.specs.declared.token.End.TheVariants.{Over, Large}
use Rattle.reo_token.specs.Cut.{blanks, is_over, token_at, first_token, cut}
use Rattle.reo_token.proofs.CutLemmas.{cut-over, cut-next}
use Rattle.reo_grammar.specs.Token.{Token, Word, Number, Text, Sign}
use Rattle.reo_sentence.specs.Seen.{unescaped, number_value, seen}
use Rattle.reo_print.specs.Tokens.{written, IsWritten, over, blank, opens, token, LinesAreCutAgain}
use Rattle.reo_print.proofs.TokenLemmas.{Begins, token_begins, no_blanks, not_over, IsRead, token_read}

-- a token is seen by its own bytes
pub seen_at : (kind : Lexeme) (line : List ℕ) (at len : ℕ)
    → seen line (record { lexeme = kind; start = at; end = at + len }) ≡ seen (drop at line) (record { lexeme = kind; start = 0; end = len })
seen_at lexeme.Word line at len =
    let count : at + len - at ≡ len - 0 = omega arith in
    ap (λ n. Word (take n (drop at line))) count
seen_at lexeme.Number line at len =
    let count : at + len - at ≡ len - 0 = omega arith in
    ap (λ n. Number (number_value (take n (drop at line)))) count
seen_at lexeme.Text line at len =
    let count : at + len - 1 - (at + 1) ≡ len - 1 - 1 = omega arith in
    ap (λ n. Text (unescaped (take n (drop (at + 1) line)))) count
    ∙ ap (λ bs. Text (unescaped (take (len - 1 - 1) bs))) (sym (drop-drop 1 at line))
seen_at (lexeme.Sign symbol) line at len = refl

here_blank : (bytes : List ℕ) → drop (blanks (32 ∷ bytes)) (32 ∷ bytes) ≡ drop (blanks bytes) bytes
here_blank bytes =
    let one : 1 + blanks bytes ≡ suc (blanks bytes) = omega arith in
    ap (λ k. drop k (32 ∷ bytes)) one

abbrev cut_here : ℕ → List ℕ → ℕ → List CutToken × End
cut_here n here place = if is_over here then ([], Over) else first_token (token_at here) place (λ len. cut n (place + len) (drop len here))

-- a blank changes only the place
cut_blank : (n at : ℕ) (bytes : List ℕ) → cut n at (32 ∷ bytes) ≡ cut n (at + 1) bytes
unfolding cut
cut_blank zero at bytes = ap (λ here. ([], if is_over here then Over else Large)) (here_blank bytes)
cut_blank (suc n) at bytes =
    let place : at + (1 + blanks bytes) ≡ at + 1 + blanks bytes = omega arith in
    ap (λ here. cut_here n here (at + (1 + blanks bytes))) (here_blank bytes) ∙ ap (cut_here n (drop (blanks bytes) bytes)) place

abbrev with_first : CutToken → List CutToken × End → List CutToken × End
with_first first more = (first ∷ more.0, more.1)

-- a token is cut off, and the cut goes on behind it
cut_first : (n at : ℕ) (front rest : List ℕ) (kind : Lexeme) → Begins front → token_at (front ++ rest) ≡ Some (kind, length front)
    → cut (suc n) at (front ++ rest) ≡ with_first (record { lexeme = kind; start = at; end = at + length front }) (cut n (at + length front) rest)
cut_first n at front rest kind begins is =
    let none : blanks (front ++ rest) ≡ 0 = no_blanks front rest begins in
    let there : at + 0 ≡ at = omega arith in
    cut-next n at (front ++ rest) (Some (kind, length front)) (ap (λ k. is_over (drop k (front ++ rest))) none ∙ not_over front rest begins)
    (ap (λ k. token_at (drop k (front ++ rest))) none ∙ is)
    ∙ ap (λ k. first_token (Some (kind, length front)) (at + k) (λ len. cut n (at + k + len) (drop len (drop k (front ++ rest))))) none
    ∙ ap (λ p. first_token (Some (kind, length front)) p (λ len. cut n (p + len) (drop len (front ++ rest)))) there
    ∙ ap (λ bs. with_first (record { lexeme = kind; start = at; end = at + length front }) (cut n (at + length front) bs)) (drop_at front rest (length front) refl)

abbrev Again : List ℕ → List CutToken × End → List Token → Type 0
Again line result tokens = (result.1 ≡ Over) × (map (seen line) result.0 ≡ tokens)

with_seen : (line : List ℕ) (place : CutToken) (first : Token) (more : List CutToken × End) (tokens : List Token) → seen line place ≡ first → Again line more tokens
    → Again line (with_first place more) (first ∷ tokens)
with_seen line place first more tokens is again = (again.0, ap (λ t. t ∷ map (seen line) more.0) is ∙ ap (λ ts. first ∷ ts) again.1)

one_more : (first : Token) (rest : List ℕ) (tokens : List Token) (line : List ℕ) (n at : ℕ) → Begins (written first) → IsRead first rest → written first ++ rest ≡ drop at line
    → length (first ∷ tokens) ≤ n → ((m to : ℕ) → rest ≡ drop to line → length tokens ≤ m → Again line (cut m to rest) tokens)
    → Again line (cut n at (written first ++ rest)) (first ∷ tokens)
one_more first rest tokens line zero at begins reads is room again = absurd (omega (arith, room))
one_more first rest tokens line (suc n) at begins reads is room again =
    let len : ℕ = length (written first) in
    let behind : rest ≡ drop (at + len) line = sym (drop_at (written first) rest len refl) ∙ ap (drop len) is ∙ drop-drop len at line in
    let same : seen line (record { lexeme = reads.lexeme; start = at; end = at + len }) ≡ first =
    seen_at reads.lexeme line at len ∙ ap (λ bs. seen bs (record { lexeme = reads.lexeme; start = 0; end = len })) (sym is) ∙ reads.meant in
    subst (λ r. Again line r (first ∷ tokens)) (sym (cut_first n at (written first) rest reads.lexeme begins reads.cut))
    (with_seen line (record { lexeme = reads.lexeme; start = at; end = at + len }) first (cut n (at + len) rest) tokens same (again n (at + len) behind (omega (arith, room))))

cut_written : (bytes : List ℕ) (tokens : List Token) → IsWritten bytes tokens → (line : List ℕ) (n at : ℕ) → bytes ≡ drop at line → length tokens ≤ n
    → Again line (cut n at bytes) tokens
cut_written _ _ over line n at is room = subst (λ r. Again line r []) (sym (cut-over n at [] refl)) (refl, refl)
cut_written _ _ (blank bytes tokens more) line n at is room =
    subst (λ r. Again line r tokens) (sym (cut_blank n at bytes)) (cut_written bytes tokens more line n (at + 1) (ap (drop 1) is ∙ drop-drop 1 at line) room)
cut_written _ _ (opens bytes tokens more) line n at is room =
    one_more (Sign Open) bytes tokens line n at (token_begins (Sign Open) tt) (record { lexeme = lexeme.Sign Open; cut = refl; meant = refl }) is room
    (λ m to there few. cut_written bytes tokens more line m to there few)
cut_written _ _ (token first bytes tokens can breaks more) line n at is room =
    one_more first bytes tokens line n at (token_begins first can) (token_read first bytes can breaks) is room (λ m to there few. cut_written bytes tokens more line m to there few)

pub line_cut : LinesAreCutAgain
line_cut line tokens is few = cut_written line tokens is line 512 0 refl few
