-- Where the tokens of a line go wrong.
use Rattle.std.specs.Prelude.{◌≡◌, List, [], ◌∷◌, ◌++◌}
use Rattle.reo_grammar.specs.Token.{Token}
use Rattle.reo_grammar.specs.Lines.{Place, Sentence, IsLine}

-- some tokens behind these make a line that is allowed here
pub record CanGoOn (place : Place) (tokens : List Token) : Type 0 where
  pub more : List Token
  pub sentence : Sentence
  pub says : IsLine place (tokens ++ more) sentence

-- The tokens before the rest can go on, and with the first of the rest they cannot; where there is no rest, they are no line.
pub record IsFirstWrong (place : Place) (tokens rest : List Token) : Type 0 where
  pub front : List Token
  pub split : tokens ≡ front ++ rest
  pub before : CanGoOn place front
  pub wrong : (token : Token) (more : List Token) → rest ≡ token ∷ more → CanGoOn place (front ++ token ∷ []) → ⊥
  pub unfinished : rest ≡ [] → (sentence : Sentence) → IsLine place tokens sentence → ⊥
