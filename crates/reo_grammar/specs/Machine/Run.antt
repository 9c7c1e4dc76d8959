-- The run of a machine over some tokens.
use Rattle.std.specs.Prelude.{◌≡◌, List, [], ◌∷◌, ◌++◌, Option, Some, None}
use Rattle.std.specs.Option.{option_and_then}
use Rattle.reo_grammar.specs.Token.{Token}

-- the state behind the tokens, where each has a step
unfoldable pub run : {S : Type 0} → (S → Token → Option S) → Option S → List Token → Option S
run step state [] = state
run step state (token ∷ tokens) = run step (option_and_then (λ s. step s token) state) tokens

-- the state has no step with what comes next, and where nothing comes, nothing is whole in it
abbrev pub IsStuck : {S T : Type 0} → (S → Token → Option S) → (S → Option T) → S → List Token → Type 0
IsStuck step whole state [] = whole state ≡ None
IsStuck step whole state (token ∷ rest) = step state token ≡ None

-- the tokens lead from one state to another up to this rest, and there it is stuck
pub record GetsStuck {S T : Type 0} (step : S → Token → Option S) (whole : S → Option T) (start : S) (tokens rest : List Token) : Type 0 where
  pub front : List Token
  pub split : tokens ≡ front ++ rest
  pub state : S
  pub led : run step (Some start) front ≡ Some state
  pub stuck : IsStuck step whole state rest
