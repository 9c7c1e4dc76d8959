-- A name, as it is written and as it is read again.
use Rattle.std.proofs.Common.{◌≡◌, ℕ, ◌+◌, ◌-◌, Bool, true, false, cond, not, ◌&&◌, ◌||◌, if◌then◌else◌, List, [], ◌∷◌, ◌++◌, length, take, Some, refl, ap, ◌∙◌, arith}
use Rattle.std.specs.List.{list_all}
use Rattle.std.proofs.lemmas.Bool.{and_parts, false≢true}
use Rattle.reo_token.specs.declared.token.Lexeme.TheVariants as lexeme
use Rattle.reo_token.specs.Bytes.{is_letter, is_digit, is_word_byte}
use Rattle.reo_token.specs.Cut.{run, token_at}
use Rattle.reo_grammar.specs.Token.{Word}
use Rattle.reo_sentence.specs.Seen.{seen}
use Rattle.reo_print.specs.Laws.{can_be_a_name, ends_a_word}

pub it_is : {S R : Type 0} (f : S → R) (test : Bool) (x y : S) → test ≡ true → f (if test then x else y) ≡ f x
it_is f true x y is = refl
it_is f false x y is = absurd (false≢true is)

no_run : (rest : List ℕ) → ends_a_word rest ≡ true → run rest ≡ 0
no_run [] ends = refl
no_run (byte ∷ rest) ends = by (is_word_byte byte) ends
  where
    by : (word : Bool) → not word ≡ true → cond word (1 + run rest) 0 ≡ 0
    by true is = absurd (false≢true is)
    by false is = refl

pub run_again : (bytes rest : List ℕ) → list_all is_word_byte bytes ≡ true → ends_a_word rest ≡ true → run (bytes ++ rest) ≡ length bytes
run_again [] rest all ends = no_run rest ends
run_again (byte ∷ bytes) rest all ends =
    let parts = and_parts (is_word_byte byte) (list_all is_word_byte bytes) all in
    let again : run (bytes ++ rest) ≡ length bytes = run_again bytes rest parts.1 ends in
    let count : 1 + run (bytes ++ rest) ≡ length (byte ∷ bytes) = omega (arith, again) in
    ap (λ word. cond word (1 + run (bytes ++ rest)) 0) parts.0 ∙ count

pub name_cut : (name rest : List ℕ) → can_be_a_name name ≡ true → ends_a_word rest ≡ true → token_at (name ++ rest) ≡ Some (lexeme.Word, length name)
name_cut [] rest can ends = absurd (false≢true can)
name_cut (byte ∷ bytes) rest can ends =
    let parts = and_parts (is_letter byte) (list_all is_word_byte bytes) can in
    let all : list_all is_word_byte (byte ∷ bytes) ≡ true = ap (λ l. (l || is_digit byte) && list_all is_word_byte bytes) parts.0 ∙ parts.1 in
    it_is (λ t. t) (is_letter byte) _ _ parts.0 ∙ ap (λ n. Some (lexeme.Word, n)) (run_again (byte ∷ bytes) rest all ends)

pub front : (xs ys : List ℕ) → take (length xs) (xs ++ ys) ≡ xs
front [] ys = refl
front (x ∷ xs) ys = ap (λ zs. x ∷ zs) (front xs ys)

pub name_meant : (name rest : List ℕ) → seen (name ++ rest) (record { lexeme = lexeme.Word; start = 0; end = length name }) ≡ Word name
name_meant name rest =
    let count : length name - 0 ≡ length name = omega arith in
    ap (λ n. Word (take n (name ++ rest))) count ∙ ap Word (front name rest)
