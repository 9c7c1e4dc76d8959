-- How the first LF parts a text.
use Rattle.std.proofs.Common.{◌≡◌, ℕ, ◌+◌, ◌<◌, ◌==◌, Bool, true, false, cond, nat_lt, List, [], ◌∷◌, ◌++◌, length, take, drop, get_or, Some, None, refl, sym, ap, ◌∙◌, arith, length-take, if◌then◌else◌}
use Rattle.std.specs.List.{list_any, position, position_or_len}
use Rattle.std.proofs.lemmas.Bool.{eqb-true, ltb-false, or_parts}
use Rattle.std.proofs.lemmas.Option.{none-some}
use Rattle.std.proofs.lemmas.List.{get_or-take, take-append-drop, drop_more}
use Rattle.std.proofs.lemmas.List.Folds.{list_any_none}
use Rattle.std.proofs.lemmas.List.Quantifiers.{position-Some}
use Rattle.std.proofs.lemmas.List.Sums.{fails_before_first}
use Rattle.reo_document.specs.Lines.{parts_of, onto_first}

-- the byte is not among these
abbrev pub lacks : ℕ → List ℕ → Bool
lacks at bytes = list_any (λ byte. byte == at) bytes

module _ (at : ℕ) (bytes : List ℕ) where
  pub lacks-before : (place : ℕ) → position (λ byte. byte == at) bytes ≡ Some place → lacks at (take place bytes) ≡ false
  lacks-before place found =
      list_any_none (λ byte. byte == at) (take place bytes)
      (λ k d within.
      let here = position-Some (λ byte. byte == at) bytes place d found in
      let below : k < place = omega (arith, length-take place bytes) in
      rw (get_or-take place bytes k d below) (here.2 k below))

  pub lacks-None : position (λ byte. byte == at) bytes ≡ None → lacks at bytes ≡ false
  lacks-None none =
      list_any_none (λ byte. byte == at) bytes
      (λ k d within. fails_before_first (λ byte. byte == at) bytes k d (by k within (nat_lt (position_or_len (λ byte. byte == at) bytes) (length bytes)) refl none))
    where
      by : (k : ℕ) → k < length bytes → (before : Bool) → nat_lt (position_or_len (λ byte. byte == at) bytes) (length bytes) ≡ before
          → cond before (Some (position_or_len (λ byte. byte == at) bytes)) None ≡ None → k < position_or_len (λ byte. byte == at) bytes
      by k within true is found = absurd (none-some _ (sym found))
      by k within false is found = omega (arith, ltb-false (position_or_len (λ byte. byte == at) bytes) (length bytes) is)

  pub parts-at : (place : ℕ) → position (λ byte. byte == at) bytes ≡ Some place → bytes ≡ take place bytes ++ at ∷ drop (place + 1) bytes
  parts-at place found =
      let here = position-Some (λ byte. byte == at) bytes place 0 found in
      let is : get_or bytes place 0 ≡ at = eqb-true (get_or bytes place 0) at here.1 in
      sym (take-append-drop place bytes) ∙ ap (λ rest. take place bytes ++ rest) (drop_more bytes place 0 here.0)
      ∙ ap (λ byte. take place bytes ++ byte ∷ drop (place + 1) bytes) is

pub parts_of-cut : (front rest : List ℕ) → lacks 10 front ≡ false → parts_of (front ++ 10 ∷ rest) ≡ front ∷ parts_of rest
unfolding parts_of
parts_of-cut [] rest none = refl
parts_of-cut (byte ∷ front) rest none =
    let parts = or_parts (byte == 10) (lacks 10 front) none in
    ap (λ b. if b then [] ∷ parts_of (front ++ 10 ∷ rest) else onto_first byte (parts_of (front ++ 10 ∷ rest))) parts.0 ∙ ap (onto_first byte) (parts_of-cut front rest parts.1)

pub parts_of-last : (bytes : List ℕ) → lacks 10 bytes ≡ false → parts_of bytes ≡ bytes ∷ []
unfolding parts_of
parts_of-last [] none = refl
parts_of-last (byte ∷ bytes) none =
    let parts = or_parts (byte == 10) (lacks 10 bytes) none in
    ap (λ b. if b then [] ∷ parts_of bytes else onto_first byte (parts_of bytes)) parts.0 ∙ ap (onto_first byte) (parts_of-last bytes parts.1)
