-- The decider for tests fits the fabric of one cell.
use Rattle.std.proofs.Common.{◌≡◌, ℕ, zero, suc, ◌<◌, Bool, true, false, cond, ◌&&◌, List, [], ◌∷◌, length, get_or, nat_eq, Option, Some, None, pos, refl, sym, ap, ◌∙◌, subst, arith}
use Rattle.std.proofs.lemmas.Int.{ints}
use Rattle.std.proofs.lemmas.Bool.{eqb-true, and_parts, false≢true}
use Rattle.reo_value.specs.Code.{code_of}
use Rattle.reo_value.specs.declared.value.Value.TheVariants.{Int}
use Rattle.reo_value.specs.declared.op.Way.TheVariants.{Get}
use Rattle.reo_fabric.specs.declared.fabric.Fabric.{Fabric}
use Rattle.reo_fabric.specs.declared.reading.Reading.{Reading}
use Rattle.reo_fabric.specs.declared.entry.Entry.{Entry}
use Rattle.reo_fabric.specs.Entry.{at_place}
use Rattle.reo_fabric.specs.Reading.{IsReadingIn}
use Rattle.reo_fabric.specs.Decider.{Fits, IsFitting, Takes, Gets, port_words}
use Rattle.reo_test_parts.specs.Seven.{the_entry, is_seven, is_offered, is_ready, SevenAllows, seven_choice, one_cell}

one_at : {A : Type 0} (P : A → Type 0) (x : A) → P x → (k : ℕ) (d : A) → k < length (x ∷ []) → P (get_or (x ∷ []) k d)
one_at P x here zero d within = here
one_at P x here (suc k) d within = absurd (omega arith)

word_is : (o : Option ℕ) → is_seven o ≡ true → o ≡ Some (code_of (Int (pos 7)))
word_is None is = absurd (false≢true is)
word_is (Some word) is = ap Some (eqb-true word 9223372036854775823 is)

offered_is : (o : Option (ℕ × ℕ)) → is_offered o ≡ true → (word : ℕ) × (o ≡ Some (1, word))
offered_is None is = absurd (false≢true is)
offered_is (Some words) is = (words.1, ap (λ n. Some (n, words.1)) (eqb-true words.0 1 is))

fits : (region : ℕ) (reading : Reading) → IsReadingIn one_cell region reading → nat_eq region 0 ≡ true → is_ready reading ≡ true → IsFitting one_cell reading the_entry
fits region reading is_in zero_region ready =
    let both = and_parts (is_seven (at_place reading.cells 0)) (is_offered (port_words reading 0)) ready in
    let offered = offered_is (port_words reading 0) both.1 in
    let at : 0 ≡ reading.region = sym (is_in.region_is ∙ eqb-true region 0 zero_region) in
    record {
      region = at;
      some = λ takes _ _ _. cc;
      takes = one_at (Takes one_cell reading) (0, Int (pos 7)) (record {
        own = record { spec = record { filler = 0; taker = 0; first = Some (Int (pos 7)) }; found = refl; taker = at };
        value = (omega (arith, ints), omega (arith, ints));
        reads = word_is (at_place reading.cells 0) both.0;
      });
      fills = λ k d within. absurd (omega arith);
      puts = λ k d within. absurd (omega arith);
      gets = one_at (Gets one_cell reading) (0, Int (pos 7)) (record {
        own = record { spec = record { way = Get; region = 0; owner = None }; found = refl; at = at; goes = refl };
        value = (omega (arith, ints), omega (arith, ints));
        word = offered.0;
        reads = offered.1;
      });
      takes_rise = (omega arith, tt);
      fills_rise = tt;
      puts_rise = tt;
      gets_rise = (omega arith, tt);
    }

pub seven_fits : Fits one_cell SevenAllows
seven_fits region reading entry within is_in allowed = subst (IsFitting one_cell reading) (sym allowed.entry_is) (fits region reading is_in allowed.region_is allowed.ready)

-- where there is a choice, it is this entry's
chosen_by : (region : ℕ) (reading : Reading) (c : ℕ) (test : Bool) → (nat_eq region 0 && is_ready reading) ≡ test → cond test (Some 0) None ≡ Some c → SevenAllows region reading the_entry
chosen_by region reading c false is chosen = cc
chosen_by region reading c true is chosen =
    let both = and_parts (nat_eq region 0) (is_ready reading) is in
    record { region_is = both.0; ready = both.1; entry_is = refl }

pub chosen_is : (region : ℕ) (reading : Reading) (c : ℕ) → seven_choice region reading ≡ Some c → SevenAllows region reading the_entry
chosen_is region reading c chosen = chosen_by region reading c (nat_eq region 0 && is_ready reading) refl chosen
