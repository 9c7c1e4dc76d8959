-- Constants by number: texts are numbered as they first come, from left to right.
use Rattle.std.specs.Prelude.{◌≡◌, ℕ, true, false, List, [], ◌∷◌, Option, Some, None, unwrap_or}
use Rattle.reo_value.specs.Lexicon.{place_of, added}
use Rattle.reo_value.specs.declared.value.Value.{Value}
use Rattle.reo_value.specs.declared.value.Value.TheVariants.{Int, Sym}
use Rattle.reo_guard.specs.declared.guard.Guard as numbered
use Rattle.reo_guard.specs.declared.guard.Guard.TheVariants as guard
use Rattle.reo_guard.specs.declared.fun.Fun.{Fun}
use Rattle.reo_guard.specs.declared.fun.Fun.TheVariants as fun
use Rattle.reo_grammar.specs.Token.{Const, Integer, Phrase}
use Rattle.reo_grammar.specs.Guards.{Atom, Compare, Mod, IsInt, IsText, LenAtMost, Starts, Guard, Test, Both, Either, Fails}
use Rattle.reo_sentence.specs.Limits.{is_long_text, small_remainder, small_length}
use Rattle.reo_grammar.specs.Functions.{Function, Add, Sub, Mul, Neg, Len, Map}

-- the number of a text
abbrev pub number_in : List (List ℕ) → List ℕ → ℕ
number_in texts text = unwrap_or (place_of texts text) 0

-- The texts that are known, with those that are new; and what they stand for.
abbrev pub Numbering : Type 0 → Type 0
Numbering V = List (List ℕ) → List (List ℕ) × V

abbrev pub numbered_text : List ℕ → Numbering ℕ
numbered_text text texts = (added texts text, number_in (added texts text) text)

-- the number of a text of a fair length, or nothing for a longer one, which is not added
abbrev pub AddsText : List ℕ → List (List ℕ) → List (List ℕ) → Option ℕ → Type 0
AddsText text known texts None = (is_long_text text ≡ true) × (texts ≡ known)
AddsText text known texts (Some number) = (is_long_text text ≡ false) × (numbered_text text known ≡ (texts, number))

abbrev pub numbered_const : Const → Numbering Value
numbered_const (Integer z) texts = (texts, Int z)
numbered_const (Phrase text) texts = (added texts text, Sym (number_in (added texts text) text))

-- the first is numbered, and then the second
abbrev pub in_turn : {A B C : Type 0} → Numbering A → Numbering B → (A → B → C) → Numbering C
in_turn first second with texts = ((second (first texts).0).0, with (first texts).1 (second (first texts).0).1)

abbrev pub then_as : {A B : Type 0} → Numbering A → (A → B) → Numbering B
then_as first with texts = ((first texts).0, with (first texts).1)

-- numbers out of range stand for 0
abbrev pub mod_guard : Option (ℕ × ℕ) → numbered.Guard
mod_guard None = guard.Mod 0 0
mod_guard (Some parts) = guard.Mod parts.0 parts.1

abbrev pub numbered_atom : Atom → Numbering numbered.Guard
numbered_atom (Compare cmp constant) = then_as (numbered_const constant) (guard.Compare cmp)
numbered_atom (Mod divisor remainder) = λ texts. (texts, mod_guard (small_remainder divisor remainder))
numbered_atom IsInt = λ texts. (texts, guard.IsInt)
numbered_atom IsText = λ texts. (texts, guard.IsText)
numbered_atom (LenAtMost most) = λ texts. (texts, guard.LenAtMost (unwrap_or (small_length most) 0))
numbered_atom (Starts front) = then_as (numbered_text front) guard.Starts

unfoldable pub numbered_guard : Guard → Numbering numbered.Guard
numbered_guard (Test atom) = numbered_atom atom
numbered_guard (Both left right) = in_turn (numbered_guard left) (numbered_guard right) guard.And
numbered_guard (Either left right) = in_turn (numbered_guard left) (numbered_guard right) guard.Or
numbered_guard (Fails inner) = then_as (numbered_guard inner) guard.Not

abbrev pub numbered_pair : Const × Const → Numbering (Value × Value)
numbered_pair pair = in_turn (numbered_const pair.0) (numbered_const pair.1) (λ first second. (first, second))

unfoldable pub numbered_pairs : List (Const × Const) → Numbering (List (Value × Value))
numbered_pairs [] = λ texts. (texts, [])
numbered_pairs (pair ∷ pairs) = in_turn (numbered_pair pair) (numbered_pairs pairs) (λ first more. first ∷ more)

abbrev pub numbered_function : Function → Numbering Fun
numbered_function (Add more) = λ texts. (texts, fun.Add more)
numbered_function (Sub less) = λ texts. (texts, fun.Sub less)
numbered_function (Mul factor) = λ texts. (texts, fun.Mul factor)
numbered_function Neg = λ texts. (texts, fun.Neg)
numbered_function Len = λ texts. (texts, fun.Len)
numbered_function (Map pairs) = then_as (numbered_pairs pairs) fun.Map
