-- A token, as it is written and as it is read again.
use Rattle.std.proofs.Common.{◌≡◌, inl, inr, ℕ, ℤ, pos, negsuc, nat_abs, suc, ◌+◌, ◌^◌, ◌<◌, ◌==◌, true, false, cond, ◌||◌, List, [], ◌∷◌, ◌++◌, length, Some, flat_map, codes, decimal, refl, sym, ap, subst, ◌∙◌}
use Rattle.std.specs.Fmt.{signed_decimal}
use Rattle.std.specs.List.{list_all}
use Rattle.std.proofs.lemmas.Bool.{and_parts, or_cases, or_from, eqb-true, false≢true}
use Rattle.reo_token.specs.declared.token.Symbol.{Symbol}
use Rattle.reo_token.specs.declared.token.Symbol.TheVariants.{Arrow, LessOrEqual, GreaterOrEqual, NotEqual, Less, Greater, Equal, Plus, Minus, Star, Open, Close, OpenBrace, CloseBrace, Comma}
use Rattle.reo_token.specs.declared.token.Lexeme.{Lexeme}
use Rattle.reo_token.specs.declared.token.Lexeme.TheVariants as lexeme
use Rattle.reo_token.specs.Bytes.{is_letter, is_digit, is_word_byte, is_blank}
use Rattle.reo_token.specs.Cut.{blanks, is_over, token_at}
use Rattle.reo_grammar.specs.Token.{Token, Word, Number, Text, Sign}
use Rattle.reo_sentence.specs.Seen.{seen}
use Rattle.reo_trace.specs.ReportText.{escaped}
use Rattle.reo_print.specs.Laws.{can_be_a_name, ends_a_word}
use Rattle.reo_print.specs.Tokens.{symbol_text, written, breaks, breaks_behind, CanBeWritten, SymbolsAreCutAgain}
use Rattle.reo_print.proofs.NameLemmas.{name_cut, name_meant}
use Rattle.reo_print.proofs.NumberLemmas.{number_cut, number_meant, not_same, digits_of, first_digit, digit_word}
use Rattle.reo_print.proofs.TextLemmas.{cut_again, meant_again}

-- what holds of each way in which a token can be over holds of all that breaks
pub by_break : (P : List ℕ → Type 0) → P [] → ((rest : List ℕ) → P (32 ∷ rest)) → ((rest : List ℕ) → P (41 ∷ rest)) → ((rest : List ℕ) → P (44 ∷ rest))
    → (rest : List ℕ) → breaks rest ≡ true → P rest
by_break P none blank close comma [] is = none
by_break P none blank close comma (byte ∷ rest) is =
    elim (or_cases (byte == 32) ((byte == 41) || (byte == 44)) is) [
      | inl same ↦ subst (λ b. P (b ∷ rest)) (sym (eqb-true byte 32 same)) (blank rest)
      | inr other ↦ elim (or_cases (byte == 41) (byte == 44) other) [
        | inl same ↦ subst (λ b. P (b ∷ rest)) (sym (eqb-true byte 41 same)) (close rest)
        | inr same ↦ subst (λ b. P (b ∷ rest)) (sym (eqb-true byte 44 same)) (comma rest)
      ]
    ]

pub word_ends : (rest : List ℕ) → breaks rest ≡ true → ends_a_word rest ≡ true
word_ends = by_break (λ rest. ends_a_word rest ≡ true) refl (λ rest. refl) (λ rest. refl) (λ rest. refl)

abbrev IsCutAs : Symbol → List ℕ → Type 0
IsCutAs symbol rest = token_at (symbol_text symbol ++ rest) ≡ Some (lexeme.Sign symbol, length (symbol_text symbol))

pub symbol_cut : SymbolsAreCutAgain
symbol_cut Arrow rest is = by_break (IsCutAs Arrow) refl (λ r. refl) (λ r. refl) (λ r. refl) rest is
symbol_cut LessOrEqual rest is = by_break (IsCutAs LessOrEqual) refl (λ r. refl) (λ r. refl) (λ r. refl) rest is
symbol_cut GreaterOrEqual rest is = by_break (IsCutAs GreaterOrEqual) refl (λ r. refl) (λ r. refl) (λ r. refl) rest is
symbol_cut NotEqual rest is = by_break (IsCutAs NotEqual) refl (λ r. refl) (λ r. refl) (λ r. refl) rest is
symbol_cut Less rest is = by_break (IsCutAs Less) refl (λ r. refl) (λ r. refl) (λ r. refl) rest is
symbol_cut Greater rest is = by_break (IsCutAs Greater) refl (λ r. refl) (λ r. refl) (λ r. refl) rest is
symbol_cut Equal rest is = by_break (IsCutAs Equal) refl (λ r. refl) (λ r. refl) (λ r. refl) rest is
symbol_cut Plus rest is = by_break (IsCutAs Plus) refl (λ r. refl) (λ r. refl) (λ r. refl) rest is
symbol_cut Minus rest is = by_break (IsCutAs Minus) refl (λ r. refl) (λ r. refl) (λ r. refl) rest is
symbol_cut Star rest is = by_break (IsCutAs Star) refl (λ r. refl) (λ r. refl) (λ r. refl) rest is
symbol_cut Open rest is = refl
symbol_cut Close rest is = by_break (IsCutAs Close) refl (λ r. refl) (λ r. refl) (λ r. refl) rest is
symbol_cut OpenBrace rest is = by_break (IsCutAs OpenBrace) refl (λ r. refl) (λ r. refl) (λ r. refl) rest is
symbol_cut CloseBrace rest is = by_break (IsCutAs CloseBrace) refl (λ r. refl) (λ r. refl) (λ r. refl) rest is
symbol_cut Comma rest is = by_break (IsCutAs Comma) refl (λ r. refl) (λ r. refl) (λ r. refl) rest is

-- bytes that begin with neither a blank nor a comment
pub record Begins (bytes : List ℕ) : Type 0 where
  pub first : ℕ
  pub more : List ℕ
  pub is : bytes ≡ first ∷ more
  pub not_blank : is_blank first ≡ false
  pub not_hash : (first == 35) ≡ false

-- a word byte is none of the bytes that are not
not_this : (byte other : ℕ) → is_word_byte byte ≡ true → is_word_byte other ≡ false → (byte == other) ≡ false
not_this byte other is none = not_same byte other (λ same. false≢true (sym none ∙ ap is_word_byte (sym same) ∙ is))

word_begins : (first : ℕ) (more bytes : List ℕ) → bytes ≡ first ∷ more → is_word_byte first ≡ true → Begins bytes
word_begins first more bytes is word = record {
  first = first;
  more = more;
  is = is;
  not_blank = or_from (first == 32) (first == 9) (not_this first 32 word refl) (not_this first 9 word refl);
  not_hash = not_this first 35 word refl;
}

pub letter_word : (byte : ℕ) → is_letter byte ≡ true → is_word_byte byte ≡ true
letter_word byte is = ap (λ l. l || is_digit byte) is

name_begins : (name : List ℕ) → can_be_a_name name ≡ true → Begins name
name_begins [] can = absurd (false≢true can)
name_begins (byte ∷ bytes) can = word_begins byte bytes (byte ∷ bytes) refl (letter_word byte (and_parts (is_letter byte) (list_all is_word_byte bytes) can).0)

number_begins : (z : ℤ) → nat_abs z < 2 ^ 64 → Begins (signed_decimal z)
number_begins (pos n) small =
    let are = digits_of n small in
    word_begins are.first are.more (decimal n) are.is (digit_word are.first (first_digit n (decimal n) [] are refl))
number_begins (negsuc n) small = record { first = 45; more = decimal (suc n); is = refl; not_blank = refl; not_hash = refl }

symbol_begins : (symbol : Symbol) → Begins (symbol_text symbol)
symbol_begins Arrow = record { first = 45; more = 62 ∷ []; is = refl; not_blank = refl; not_hash = refl }
symbol_begins LessOrEqual = record { first = 60; more = 61 ∷ []; is = refl; not_blank = refl; not_hash = refl }
symbol_begins GreaterOrEqual = record { first = 62; more = 61 ∷ []; is = refl; not_blank = refl; not_hash = refl }
symbol_begins NotEqual = record { first = 33; more = 61 ∷ []; is = refl; not_blank = refl; not_hash = refl }
symbol_begins Less = record { first = 60; more = []; is = refl; not_blank = refl; not_hash = refl }
symbol_begins Greater = record { first = 62; more = []; is = refl; not_blank = refl; not_hash = refl }
symbol_begins Equal = record { first = 61; more = []; is = refl; not_blank = refl; not_hash = refl }
symbol_begins Plus = record { first = 43; more = []; is = refl; not_blank = refl; not_hash = refl }
symbol_begins Minus = record { first = 45; more = []; is = refl; not_blank = refl; not_hash = refl }
symbol_begins Star = record { first = 42; more = []; is = refl; not_blank = refl; not_hash = refl }
symbol_begins Open = record { first = 40; more = []; is = refl; not_blank = refl; not_hash = refl }
symbol_begins Close = record { first = 41; more = []; is = refl; not_blank = refl; not_hash = refl }
symbol_begins OpenBrace = record { first = 123; more = []; is = refl; not_blank = refl; not_hash = refl }
symbol_begins CloseBrace = record { first = 125; more = []; is = refl; not_blank = refl; not_hash = refl }
symbol_begins Comma = record { first = 44; more = []; is = refl; not_blank = refl; not_hash = refl }

pub token_begins : (first : Token) → CanBeWritten first → Begins (written first)
token_begins (Word bytes) can = name_begins bytes can
token_begins (Number value) can = number_begins value can
token_begins (Text value) can = record { first = 34; more = flat_map escaped value ++ codes "\""; is = refl; not_blank = refl; not_hash = refl }
token_begins (Sign symbol) can = symbol_begins symbol

-- no blank stands before such bytes, and the line goes on
pub no_blanks : (bytes rest : List ℕ) → Begins bytes → blanks (bytes ++ rest) ≡ 0
no_blanks bytes rest begins =
    ap (λ bs. blanks (bs ++ rest)) begins.is ∙ ap (λ b. cond b (1 + blanks (begins.more ++ rest)) 0) begins.not_blank

pub not_over : (bytes rest : List ℕ) → Begins bytes → is_over (bytes ++ rest) ≡ false
not_over bytes rest begins = ap (λ bs. is_over (bs ++ rest)) begins.is ∙ begins.not_hash

-- the token is cut off from these bytes and means itself again
pub record IsRead (first : Token) (rest : List ℕ) : Type 0 where
  pub lexeme : Lexeme
  pub cut : token_at (written first ++ rest) ≡ Some (lexeme, length (written first))
  pub meant : seen (written first ++ rest) (record { lexeme = lexeme; start = 0; end = length (written first) }) ≡ first

pub token_read : (first : Token) (rest : List ℕ) → CanBeWritten first → breaks rest ≡ true → IsRead first rest
token_read (Word bytes) rest can is = record { lexeme = lexeme.Word; cut = name_cut bytes rest can (word_ends rest is); meant = name_meant bytes rest }
token_read (Number value) rest can is = record { lexeme = lexeme.Number; cut = number_cut value rest can (word_ends rest is); meant = number_meant value rest can }
token_read (Text value) rest can is = record { lexeme = lexeme.Text; cut = cut_again (value ∷ []) 0 rest can.0; meant = meant_again (value ∷ []) 0 rest }
token_read (Sign symbol) rest can is = record { lexeme = lexeme.Sign symbol; cut = symbol_cut symbol rest (by symbol); meant = refl }
  where
    by : (s : Symbol) → breaks_behind s rest ≡ true
    by Open = refl
    by s = is
