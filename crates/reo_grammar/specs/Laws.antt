-- What is true of the tokens of all lines.
use Rattle.std.specs.Prelude.{◌≡◌, ◌⊎◌, List}
use Rattle.reo_grammar.specs.Token.{Token}
use Rattle.reo_grammar.specs.Lines.{Place, Sentence, IsLine}
use Rattle.reo_grammar.specs.Wrong.{IsFirstWrong}

-- no tokens say two things
abbrev pub SayOne : Type 0
SayOne = (place : Place) (tokens : List Token) (one other : Sentence) → IsLine place tokens one → IsLine place tokens other → one ≡ other

-- all tokens say something, or go wrong somewhere
abbrev pub SayOrGoWrong : Type 0
SayOrGoWrong = (place : Place) (tokens : List Token) → ((sentence : Sentence) × IsLine place tokens sentence) ⊎ ((rest : List Token) × IsFirstWrong place tokens rest)

-- and none both
abbrev pub SayOrGoWrongAlone : Type 0
SayOrGoWrongAlone = (place : Place) (tokens rest : List Token) (sentence : Sentence) → IsLine place tokens sentence → IsFirstWrong place tokens rest → ⊥

-- none go wrong first at two places
abbrev pub GoWrongOnce : Type 0
GoWrongOnce = (place : Place) (tokens one other : List Token) → IsFirstWrong place tokens one → IsFirstWrong place tokens other → one ≡ other
