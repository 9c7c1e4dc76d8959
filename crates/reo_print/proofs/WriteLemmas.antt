-- How what is written is put together.
use Rattle.std.proofs.Common.{◌≡◌, ℕ, List, [], ◌∷◌, ◌++◌, codes, refl, sym, subst, append_assoc, append-nil}
use Rattle.reo_token.specs.declared.token.Symbol.TheVariants.{Open, Close, Comma}
use Rattle.reo_grammar.specs.Token.{Token, Sign}
use Rattle.reo_print.specs.Tokens.{written, CanBeWritten, IsWritten, blank, opens, token}
use Rattle.reo_print.specs.Trees.{Writes}

pub writes_as : (xs ys : List ℕ) (ts bs : List Token) → xs ≡ ys → ts ≡ bs → Writes xs ts → Writes ys bs
writes_as xs ys ts bs same tokens is = subst (λ zs. Writes zs bs) same (subst (Writes xs) tokens is)

pub writes_token : (first : Token) → CanBeWritten first → Writes (written first) (first ∷ [])
writes_token first can = record { before = λ rest more ends is. token first rest more can ends is }

-- a blank between
pub writes_then : (xs ys : List ℕ) (ts us : List Token) → Writes xs ts → Writes ys us → Writes (xs ++ (32 ∷ ys)) (ts ++ us)
writes_then xs ys ts us front back = record {
  before = λ rest more ends is.
      subst (λ bytes. IsWritten bytes ((ts ++ us) ++ more)) (sym (append_assoc xs (32 ∷ ys) rest))
      (subst (IsWritten (xs ++ (32 ∷ (ys ++ rest)))) (sym (append_assoc ts us more))
      (front.before (32 ∷ (ys ++ rest)) (us ++ more) refl (blank (ys ++ rest) (us ++ more) (back.before rest more ends is))));
}

pub writes_blank : (xs ys : List ℕ) (ts us : List Token) → Writes xs ts → Writes ys us → Writes ((xs ++ codes " ") ++ ys) (ts ++ us)
writes_blank xs ys ts us front back = writes_as (xs ++ (32 ∷ ys)) ((xs ++ codes " ") ++ ys) (ts ++ us) (ts ++ us) (sym (append_assoc xs (codes " ") ys)) refl (writes_then xs ys ts us front back)

-- a token and a blank in front
pub writes_behind : (first : Token) (ys : List ℕ) (us : List Token) → CanBeWritten first → Writes ys us → Writes ((written first ++ codes " ") ++ ys) (first ∷ us)
writes_behind first ys us can back = writes_blank (written first) ys (first ∷ []) us (writes_token first can) back

-- a token between two blanks
pub writes_between : (first : Token) (xs ys : List ℕ) (ts us : List Token) → CanBeWritten first → Writes xs ts → Writes ys us
    → Writes ((xs ++ (32 ∷ (written first ++ codes " "))) ++ ys) (ts ++ first ∷ us)
writes_between first xs ys ts us can front back =
    writes_as (xs ++ (32 ∷ ((written first ++ codes " ") ++ ys))) ((xs ++ (32 ∷ (written first ++ codes " "))) ++ ys) (ts ++ first ∷ us) (ts ++ first ∷ us)
    (sym (append_assoc xs (32 ∷ (written first ++ codes " ")) ys)) refl
    (writes_then xs ((written first ++ codes " ") ++ ys) ts (first ∷ us) front (writes_behind first ys us can back))

-- brackets around
pub writes_brackets : (xs : List ℕ) (ts : List Token) → Writes xs ts → Writes ((codes "(" ++ xs) ++ codes ")") (Sign Open ∷ (ts ++ Sign Close ∷ []))
writes_brackets xs ts inner = record {
  before = λ rest more ends is.
      opens ((xs ++ codes ")") ++ rest) ((ts ++ Sign Close ∷ []) ++ more)
      (subst (λ bytes. IsWritten bytes ((ts ++ Sign Close ∷ []) ++ more)) (sym (append_assoc xs (codes ")") rest))
      (subst (IsWritten (xs ++ (41 ∷ rest))) (sym (append_assoc ts (Sign Close ∷ []) more))
      (inner.before (41 ∷ rest) (Sign Close ∷ more) refl (token (Sign Close) rest more tt ends is))));
}

-- a comma and a blank between
pub writes_comma : (xs ys : List ℕ) (ts us : List Token) → Writes xs ts → Writes ys us → Writes (xs ++ (codes ", " ++ ys)) (ts ++ Sign Comma ∷ us)
writes_comma xs ys ts us front back = record {
  before = λ rest more ends is.
      subst (λ bytes. IsWritten bytes ((ts ++ Sign Comma ∷ us) ++ more)) (sym (append_assoc xs (codes ", " ++ ys) rest))
      (subst (IsWritten (xs ++ (44 ∷ 32 ∷ (ys ++ rest)))) (sym (append_assoc ts (Sign Comma ∷ us) more))
      (front.before (44 ∷ 32 ∷ (ys ++ rest)) (Sign Comma ∷ (us ++ more)) refl (token (Sign Comma) (32 ∷ (ys ++ rest)) (us ++ more) tt refl (blank (ys ++ rest) (us ++ more) (back.before rest more ends is)))));
}

pub writes_nothing_more : (xs : List ℕ) (ts : List Token) → Writes xs ts → Writes (xs ++ []) ts
writes_nothing_more xs ts is = writes_as xs (xs ++ []) ts ts (sym (append-nil xs)) refl is
