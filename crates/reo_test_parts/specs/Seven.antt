-- A decider for tests: region 0 takes 7 from cell 0 and gives it at get port 0.
use Rattle.std.specs.Prelude.{◌≡◌, ℕ, Bool, true, false, cond, ◌&&◌, map, nat_eq, pos, List, [], ◌∷◌, Option, Some, None, refl}
use Rattle.std.proofs.Common.{sym, ap, subst, ◌∙◌}
use Rattle.std.proofs.lemmas.Bool.{and_from, and_parts, eqb-true, eq-eqb, false≢true}
use Rattle.reo_value.specs.declared.value.Value.{Value}
use Rattle.reo_value.specs.declared.value.Value.TheVariants.{Int}
use Rattle.reo_fabric.specs.declared.entry.Entry.{Entry}
use Rattle.reo_value.specs.declared.op.Way.TheVariants.{Get}
use Rattle.reo_fabric.specs.declared.fabric.Fabric.{Fabric}
use Rattle.reo_fabric.specs.declared.reading.Reading.{Reading}
use Rattle.reo_fabric.specs.Entry.{at_place}
use Rattle.reo_fabric.specs.Decider.{ChoosesFrom, port_words}

abbrev pub the_entry : Entry
the_entry = record { region = 0; choice = 0; takes = (0, Int (pos 7)) ∷ []; fills = []; puts = []; gets = (0, Int (pos 7)) ∷ [] }

-- the word of 7
abbrev pub is_seven : Option ℕ → Bool
is_seven None = false
is_seven (Some word) = nat_eq word 9223372036854775823

-- the two words of each port
abbrev pub word_pairs : List (ℕ × ℕ × ℕ) → List (ℕ × (ℕ × ℕ))
word_pairs ports = map (λ p. (p.0, (p.1, p.2))) ports

-- the port is offered
abbrev pub is_offered : Option (ℕ × ℕ) → Bool
is_offered None = false
is_offered (Some words) = nat_eq words.0 1

-- cell 0 has 7 in it, and port 0 is offered
abbrev pub is_ready : Reading → Bool
is_ready reading = is_seven (at_place reading.cells 0) && is_offered (port_words reading 0)

pub record SevenAllows (region : ℕ) (reading : Reading) (entry : Entry) : Type 0 where
  pub region_is : nat_eq region 0 ≡ true
  pub ready : is_ready reading ≡ true
  pub entry_is : entry ≡ the_entry

abbrev pub seven_choice : ℕ → Reading → Option ℕ
seven_choice region reading = cond (nat_eq region 0 && is_ready reading) (Some 0) None

seven_chooses_by : (region : ℕ) (reading : Reading) (test : Bool) → (nat_eq region 0 && is_ready reading) ≡ test → ChoosesFrom (SevenAllows region reading) (cond test (Some 0) None)
seven_chooses_by region reading false is = λ entry allowed. absurd (false≢true (sym is ∙ and_from _ _ allowed.region_is allowed.ready))
seven_chooses_by region reading true is =
    let both = and_parts (nat_eq region 0) (is_ready reading) is in (
      the_entry,
      record {
        allowed = record { region_is = both.0; ready = both.1; entry_is = refl };
        chosen = refl;
        alone = λ other allowed choice. allowed.entry_is;
      },
    )

pub seven_chooses : (region : ℕ) (reading : Reading) → ChoosesFrom (SevenAllows region reading) (seven_choice region reading)
seven_chooses region reading = seven_chooses_by region reading (nat_eq region 0 && is_ready reading) refl

-- one cell, full of 7, and a get port, at one region
abbrev pub one_cell : Fabric
one_cell = record {
  regions = 1;
  parties = 0;
  cells = record { filler = 0; taker = 0; first = Some (Int (pos 7)) } ∷ [];
  ports = record { way = Get; region = 0; owner = None } ∷ [];
}
