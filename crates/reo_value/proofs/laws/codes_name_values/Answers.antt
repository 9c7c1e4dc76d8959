use Rattle.std.proofs.Common.{◌≡◌, ℕ, ◌-◌, ◌/◌, ◌%◌, ◌<◌, ◌≢◌, inl, inr, arith}
use Rattle.std.specs.Prelude.{pos, negsuc}
use Rattle.std.proofs.lemmas.Bool.Decides.{eqb_tells, leb_tells}
use Rattle.std.proofs.lemmas.Int.{ints}
use Rattle.reo_value.specs.Code.{IsNoCode, IsValue, code_of}
use Rattle.reo_value.specs.declared.value.Value.{Value}
use Rattle.reo_value.specs.declared.value.Value.TheVariants.{Int, Sym}
use Rattle.reo_value.proofs.laws.codes_name_values.Goals as goal

-- an odd word is an integer's code
odd : (word : ℕ) → word < 18446744073709551616 → word % 2 ≢ 0 → (v : Value) × (IsValue v × (code_of v ≡ word))
odd word fits not_even =
    let half : ℕ = word / 2 in
    elim (leb_tells 4611686018427387904 half) [
      | inl low ↦ (Int (pos (half - 4611686018427387904)), ((omega (arith, ints), omega (arith, ints)), omega arith))
      | inr low ↦ (Int (negsuc (4611686018427387903 - half)), ((omega (arith, ints), omega (arith, ints)), omega arith))
    ]

-- an even word that is no smaller than 2 and no greater than 2 ^ 33 is a text's
even : (word : ℕ) → ¬ IsNoCode word → word % 2 ≡ 0 → (v : Value) × (IsValue v × (code_of v ≡ word))
even word is_code is_even =
    let some : word ≡ 0 → ⊥ = λ zero. is_code (inl zero) in
    let small : 8589934592 < word → ⊥ = λ large. is_code (inr (is_even, large)) in
    (Sym (word / 2 - 1), (omega arith, omega arith))

pub returns-clause-all : goal.returns-clause-all
returns-clause-all c = λ word fits is_code.
    elim (eqb_tells (word % 2) 0) [ inl is ↦ even word is_code is.1 | inr is ↦ odd word fits is.1 ]
