use Rattle.std.specs.Prelude.{◌≡◌, ℕ, suc, ◌≤◌, ◌^◌, List, [], ◌∷◌, ◌++◌, length, Option, Some, None, All, slice_get, slice_index_or, is_some, if◌then◌else◌}
use Rattle.std.specs.Option.{option_map}
use Rattle.std.specs.Str.{bytes_eq}

-- the text with this number, or no bytes where there is none
abbrev pub text_at : List (List ℕ) → ℕ → List ℕ
text_at texts number = slice_index_or texts number []

-- the place of a text among the texts
abbrev pub place_of : List (List ℕ) → List ℕ → Option ℕ
place_of [] text = None
place_of (t ∷ texts) text = if bytes_eq text t then Some 0 else option_map suc (place_of texts text)

-- the texts with this text added at the end, where it is not there yet
abbrev pub added : List (List ℕ) → List ℕ → List (List ℕ)
added texts text = if is_some (place_of texts text) then texts else texts ++ text ∷ []

-- no text stands at two places
abbrev pub NoRepeats : List (List ℕ) → Type 0
NoRepeats texts = (i j : ℕ) (text : List ℕ) → slice_get texts i ≡ Some text → slice_get texts j ≡ Some text → i ≡ j

-- what is true of the texts of each lexicon
pub record IsLexicon (texts : List (List ℕ)) : Type 0 where
  pub distinct : NoRepeats texts
  pub short : All (λ text. length text ≤ 255) texts
  pub few : length texts ≤ 2 ^ 24
