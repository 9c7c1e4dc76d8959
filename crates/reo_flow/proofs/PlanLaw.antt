-- What is calculated is what the definitions say.
use Rattle.std.proofs.Common.{◌≡◌, ℕ, zero, suc, ◌+◌, ◌<◌, List, [], ◌∷◌, length, slice_get, get_or, position, not, Option, Some, None, Bool, true, false, cond, refl, sym, ap, ◌∙◌, subst, arith}
use Rattle.std.specs.Option.{option_and_then}
use Rattle.std.specs.List.{position_or_len}
use Rattle.reo_net.specs.Steps.{datum}
use Rattle.std.proofs.lemmas.Bool.{false≢true, lt-ltb}
use Rattle.std.proofs.lemmas.Option.{same_Some, none-some, slice_get-get_or, get_or_from_slice_get}
use Rattle.std.proofs.lemmas.List.Quantifiers.{position-Some}
use Rattle.reo_net.specs.declared.circuit.RawCircuit.{RawCircuit}
use Rattle.reo_fabric.specs.declared.entry.Entry.{Entry}
use Rattle.reo_fabric.specs.declared.reading.Reading.{Reading}
use Rattle.reo_fabric.specs.Decider.{ChoosesFrom}
use Rattle.reo_flow.specs.Places.{entry_of}
use Rattle.reo_flow.specs.Allows.{Table, Allows, IsFirstChoice}
use Rattle.reo_flow.specs.Flow.{sources_of, data_in, is_allowed, table_at, planned_firing, planned_entry, IsPlanned, planned_choice}
use Rattle.reo_flow.specs.Laws.{PlannedAreAllowed, PlannedIsFirst}
use Rattle.reo_flow.proofs.StepLaw.{firing_of_table, tabled_firing}
use Rattle.reo_flow.proofs.FlowLemmas.{and_then_gives}
use Rattle.reo_flow.proofs.SoundLaw.{entry_is_read, step, is_step}
use Rattle.reo_flow.proofs.CompleteLaw.{firing_allowed, data_is}

-- where an element passes, one is found
passing_found : {A : Type 0} (p : A → Bool) (xs : List A) (k : ℕ) (x : A) → slice_get xs k ≡ Some x → p x ≡ true → position_or_len p xs < length xs
passing_found p [] k x found passes = cc
passing_found {A} p (y ∷ ys) k x found passes = go (p y) refl k found (passing_found p ys)
  where
    go : (b : Bool) → p y ≡ b → (k : ℕ) → slice_get (y ∷ ys) k ≡ Some x → ((k : ℕ) (x : A) → slice_get ys k ≡ Some x → p x ≡ true → position_or_len p ys < length ys)
        → cond (not (p y)) (1 + position_or_len p ys) 0 < length (y ∷ ys)
    go true e k at later = subst (λ b. cond (not b) (1 + position_or_len p ys) 0 < length (y ∷ ys)) (sym e) (omega arith)
    go false e zero at later = absurd (false≢true (sym e ∙ ap p (same_Some y x at) ∙ passes))
    go false e (suc k) at later = subst (λ b. cond (not b) (1 + position_or_len p ys) 0 < length (y ∷ ys)) (sym e) (omega (arith, later k x at passes))

pub none_passes : {A : Type 0} (p : A → Bool) (xs : List A) → position p xs ≡ None → (k : ℕ) (x : A) → slice_get xs k ≡ Some x → p x ≡ true → ⊥
none_passes p xs none k x found passes =
    none-some (position_or_len p xs) (sym none ∙ ap (λ b. cond b (Some (position_or_len p xs)) None) (lt-ltb (position_or_len p xs) (length xs) (passing_found p xs k x found passes)))

table_found : (tables : List Table) (region choice : ℕ) (names : List ℕ) → slice_get (table_at tables region) choice ≡ Some names → (table : Table) × (slice_get tables region ≡ Some table)
table_found [] region choice names found = cc
table_found (table ∷ tables) zero choice names found = (table, refl)
table_found (table ∷ tables) (suc region) choice names found = table_found tables region choice names found

module _ (c : RawCircuit) (texts : List (List ℕ)) (tables : List Table) (region : ℕ) (reading : Reading) where
  -- a planned entry is of a firing of the table that is allowed by calculation
  pub planned_gives : (choice : ℕ) (entry : Entry) → planned_entry c texts tables region reading choice ≡ Some entry
      → (names : List ℕ) × (slice_get (table_at tables region) choice ≡ Some names) × (is_allowed c texts reading names ≡ true) × (entry ≡ entry_of c region choice (data_in c texts (sources_of reading) names))
  planned_gives choice entry is =
      let found = and_then_gives c texts (sources_of reading) (planned_firing c texts region choice reading) (slice_get (table_at tables region) choice) entry is in
      let made = go found.0 (is_allowed c texts reading found.0) refl found.2 in
      (found.0, found.1, made.0, made.1)
    where
      go : (names : List ℕ) (b : Bool) → is_allowed c texts reading names ≡ b → cond b (Some (entry_of c region choice (data_in c texts (sources_of reading) names))) None ≡ Some entry
          → (is_allowed c texts reading names ≡ true) × (entry ≡ entry_of c region choice (data_in c texts (sources_of reading) names))
      go names true e at = (e, sym (same_Some (entry_of c region choice (data_in c texts (sources_of reading) names)) entry at))
      go names false e at = absurd (none-some entry at)

  pub planned_of : (choice : ℕ) (names : List ℕ) → slice_get (table_at tables region) choice ≡ Some names → is_allowed c texts reading names ≡ true
      → planned_entry c texts tables region reading choice ≡ Some (entry_of c region choice (data_in c texts (sources_of reading) names))
  planned_of choice names found allowed =
      ap (option_and_then (planned_firing c texts region choice reading)) found
      ∙ ap (λ b. cond b (Some (entry_of c region choice (data_in c texts (sources_of reading) names))) None) allowed

  -- the first choice is the first of the planned entries
  pub chooses_planned : ChoosesFrom (IsPlanned c texts tables region reading) (planned_choice c texts tables region reading)
  chooses_planned = go (planned_choice c texts tables region reading) refl
    where
      go : (o : Option ℕ) → planned_choice c texts tables region reading ≡ o → ChoosesFrom (IsPlanned c texts tables region reading) o
      go None e = λ entry planned. let made = planned_gives entry.choice entry planned in none_passes (is_allowed c texts reading) (table_at tables region) e entry.choice made.0 made.1 made.2
      go (Some choice) e =
          let at = position-Some (is_allowed c texts reading) (table_at tables region) choice [] e in
          let names = get_or (table_at tables region) choice [] in
          let entry = entry_of c region choice (data_in c texts (sources_of reading) names) in
          let planned = planned_of choice names (slice_get-get_or (table_at tables region) choice [] at.0) at.1 in (
            entry,
            record {
              allowed = planned;
              chosen = refl;
              alone = λ other other_planned same.
                  same_Some other entry (sym other_planned ∙ ap (planned_entry c texts tables region reading) same ∙ planned);
            },
          )

  pub table_is : (table : Table) → slice_get tables region ≡ Some table → table_at tables region ≡ table
  table_is table found = get_or_from_slice_get tables region table [] found

pub planned_are_allowed : PlannedAreAllowed
planned_are_allowed c texts tables checked are region reading entry = (sound, complete)
  where
    sound : IsPlanned c texts tables region reading entry → Allows c texts tables region reading entry
    sound planned =
        let made = planned_gives c texts tables region reading entry.choice entry planned in
        let table = table_found tables region entry.choice made.0 made.1 in
        let found = ap (λ t. slice_get t entry.choice) (sym (table_is c texts tables region reading table.0 table.1)) ∙ made.1 in
        let tabled = firing_of_table c tables are region entry.choice table.0 made.0 table.1 found in
        subst (Allows c texts tables region reading) (sym made.3) (record {
          of_region = refl;
          table = table.0;
          tabled = table.1;
          names = made.0;
          firing = found;
          read = entry_is_read c texts reading made.0 tabled.root tabled.firing made.2 region entry.choice;
          step = step c texts reading made.0 tabled.root tabled.firing made.2;
          is_step = is_step c texts reading made.0 tabled.root tabled.firing made.2 region entry.choice;
        })

    complete : Allows c texts tables region reading entry → IsPlanned c texts tables region reading entry
    complete allowed =
        let tabled = tabled_firing c texts tables are region reading entry allowed in
        let is_allowed_by = firing_allowed c checked texts allowed.names tabled.root tabled.firing reading entry allowed.read allowed.step allowed.is_step in
        let data_same = data_is c checked texts allowed.names tabled.root tabled.firing reading entry allowed.read allowed.step allowed.is_step in
        planned_of c texts tables region reading entry.choice allowed.names (ap (λ t. slice_get t entry.choice) (table_is c texts tables region reading allowed.table allowed.tabled) ∙ allowed.firing) is_allowed_by
        ∙ ap (λ d. Some (entry_of c region entry.choice d)) data_same ∙ ap (λ r. Some (entry_of c r entry.choice (datum allowed.step))) (sym allowed.of_region) ∙ ap Some (sym allowed.is_step.stands)

pub planned_is_first : PlannedIsFirst
planned_is_first c texts tables checked are region reading = go (planned_choice c texts tables region reading) refl (chooses_planned c texts tables region reading)
  where
    go : (o : Option ℕ) → planned_choice c texts tables region reading ≡ o → ChoosesFrom (IsPlanned c texts tables region reading) o → IsFirstChoice (Allows c texts tables region reading) o
    go None e chosen = λ entry allowed. chosen entry ((planned_are_allowed c texts tables checked are region reading entry).1 allowed)
    go (Some choice) e chosen = (
      (chosen.0, (planned_are_allowed c texts tables checked are region reading chosen.0).0 chosen.1.allowed, chosen.1.chosen),
      λ other allowed before.
          let made = planned_gives c texts tables region reading other.choice other ((planned_are_allowed c texts tables checked are region reading other).1 allowed) in
          let first = position-Some (is_allowed c texts reading) (table_at tables region) choice [] e in
          false≢true (sym (first.2 other.choice before) ∙ ap (is_allowed c texts reading) (get_or_from_slice_get (table_at tables region) other.choice made.0 [] made.1) ∙ made.2),
    )
