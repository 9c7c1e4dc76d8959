-- What is written of texts, names and numbers is read again.
use Rattle.std.specs.Prelude.{◌≡◌, ℕ, ℤ, nat_abs, ◌<◌, ◌^◌, ◌==◌, nat_le, Bool, true, false, not, ◌&&◌, ◌||◌, List, [], ◌∷◌, ◌++◌, length, Some}
use Rattle.std.specs.List.{list_all}
use Rattle.reo_value.specs.Lexicon.{text_at}
use Rattle.reo_value.specs.declared.value.Value.TheVariants.{Int, Sym}
use Rattle.reo_token.specs.declared.token.Lexeme.TheVariants as lexeme
use Rattle.reo_token.specs.Bytes.{is_letter, is_word_byte}
use Rattle.reo_token.specs.Cut.{token_at}
use Rattle.reo_grammar.specs.Token.{Word, Number, Text}
use Rattle.reo_sentence.specs.Seen.{seen}
use Rattle.reo_trace.specs.ReportText.{value_text}

-- LF, tab, or from 32 on: a byte that a text of a document can have
abbrev pub can_be_spelled : ℕ → Bool
can_be_spelled byte = (byte == 10) || (byte == 9) || nat_le 32 byte

-- whatever follows, it is cut off as one token
abbrev pub TextsAreCutAgain : Type 0
TextsAreCutAgain = (texts : List (List ℕ)) (number : ℕ) (rest : List ℕ) → list_all can_be_spelled (text_at texts number) ≡ true
    → token_at (value_text texts (Sym number) ++ rest) ≡ Some (lexeme.Text, length (value_text texts (Sym number)))

-- and this token stands for the text
abbrev pub TextsAreMeantAgain : Type 0
TextsAreMeantAgain = (texts : List (List ℕ)) (number : ℕ) (rest : List ℕ)
    → seen (value_text texts (Sym number) ++ rest) (record { lexeme = lexeme.Text; start = 0; end = length (value_text texts (Sym number)) }) ≡ Text (text_at texts number)

-- a letter or `_`, and then word bytes
abbrev pub can_be_a_name : List ℕ → Bool
can_be_a_name [] = false
can_be_a_name (byte ∷ bytes) = is_letter byte && list_all is_word_byte bytes

-- no word byte comes next
abbrev pub ends_a_word : List ℕ → Bool
ends_a_word [] = true
ends_a_word (byte ∷ bytes) = not (is_word_byte byte)

-- a name is cut off as one word
abbrev pub NamesAreCutAgain : Type 0
NamesAreCutAgain = (name rest : List ℕ) → can_be_a_name name ≡ true → ends_a_word rest ≡ true → token_at (name ++ rest) ≡ Some (lexeme.Word, length name)

-- and this word is the name
abbrev pub NamesAreMeantAgain : Type 0
NamesAreMeantAgain = (name rest : List ℕ) → seen (name ++ rest) (record { lexeme = lexeme.Word; start = 0; end = length name }) ≡ Word name

-- a number of at most 64 bits, behind a minus sign or not, is cut off as one token
abbrev pub NumbersAreCutAgain : Type 0
NumbersAreCutAgain = (texts : List (List ℕ)) (number : ℤ) (rest : List ℕ) → nat_abs number < 2 ^ 64 → ends_a_word rest ≡ true
    → token_at (value_text texts (Int number) ++ rest) ≡ Some (lexeme.Number, length (value_text texts (Int number)))

-- and this token stands for the number
abbrev pub NumbersAreMeantAgain : Type 0
NumbersAreMeantAgain = (texts : List (List ℕ)) (number : ℤ) (rest : List ℕ) → nat_abs number < 2 ^ 64
    → seen (value_text texts (Int number) ++ rest) (record { lexeme = lexeme.Number; start = 0; end = length (value_text texts (Int number)) }) ≡ Number number
