-- The reading that shows what an entry was made from allows the entry, so its data are those of the entry's step.
use Rattle.std.proofs.Common.{◌≡◌, ℕ, zero, suc, ◌+◌, ◌<◌, ◌≤◌, ⊎_elim, List, [], ◌∷◌, ◌++◌, length, map, slice_get, get_or, Option, Some, None, Bool, true, false, cond, nat_eq, IfSome, refl, sym, ap, ◌∙◌, subst, arith}
use Rattle.std.specs.List.{cons_option}
use Rattle.std.specs.List.Sorted.{IsStrictlyIncreasing}
use Rattle.std.specs.Option.{option_map, option_and_then}
use Rattle.std.proofs.lemmas.Bool.{eq-eqb}
use Rattle.std.proofs.lemmas.Bool.Decides.{eqb_tells}
use Rattle.std.proofs.lemmas.Option.{same_Some, none-some, slice_get-get_or}
use Rattle.reo_value.specs.declared.value.Value.{Value}
use Rattle.reo_value.specs.Code.{code_of, IsValue}
use Rattle.reo_net.specs.declared.circuit.RawCircuit.{RawCircuit}
use Rattle.reo_net.specs.Names.{end_a, end_b}
use Rattle.reo_net.specs.Steps.{datum}
use Rattle.reo_net.specs.Checks.{IsChecked}
use Rattle.reo_fabric.specs.declared.entry.Entry.{Entry}
use Rattle.reo_fabric.specs.declared.reading.Reading.{Reading}
use Rattle.reo_fabric.specs.Entry.{at_place, RisesFrom}
use Rattle.reo_fabric.specs.Decider.{port_words}
use Rattle.reo_fabric.proofs.PlaceLemmas.{at_first, at_later, at_place_holds}
use Rattle.reo_fabric.proofs.CodeLemmas.{code_is_not_zero}
use Rattle.reo_flow.specs.Places.{value_at_port, buffers}
use Rattle.reo_flow.specs.Allows.{Table, AreTables, IsRead, Allows}
use Rattle.reo_flow.specs.Tests.{decoded}
use Rattle.reo_flow.specs.Flow.{sources_of, offered_value}
use Rattle.reo_flow.proofs.TestLemmas.{decoded_of}
use Rattle.reo_flow.proofs.PlacesLemmas.{rises_with}
use Rattle.reo_flow.proofs.StepLaw.{tabled_firing}
use Rattle.reo_flow.proofs.OnceLaw.{rises_strictly}
use Rattle.reo_flow.proofs.CompleteLaw.{data_is}
use Rattle.reo_plan.specs.declared.row.Row.{Row}
use Rattle.reo_plan.specs.inside.Slots.{slot_value}
use Rattle.reo_plan.specs.inside.Rows.{values_at, named_data, IsRow}
use Rattle.reo_plan.specs.inside.Back.{words_with, words_without, offers_with, offers_without, reading_back}

abbrev put_word : Value → ℕ × ℕ
put_word v = (1, code_of v)

abbrev get_word : Value → ℕ × ℕ
get_word v = (1, 0)

abbrev put_words : ℕ × Value → ℕ × (ℕ × ℕ)
put_words p = (p.0, put_word p.1)

abbrev get_words : ℕ × Value → ℕ × (ℕ × ℕ)
get_words p = (p.0, get_word p.1)

abbrev port_word : ℕ × ℕ × ℕ → ℕ × (ℕ × ℕ)
port_word p = (p.0, (p.1, p.2))

-- what is at a place of a list, of one that goes on, and of one whose elements are mapped
place_on : {A : Type 0} (xs ys : List (ℕ × A)) (place : ℕ) (a : A) → at_place xs place ≡ Some a → at_place (xs ++ ys) place ≡ Some a
place_on [] ys place a at = absurd (none-some a at)
place_on (x ∷ xs) ys place a at =
    ⊎_elim
    (λ is. at_first x (xs ++ ys) place is.0 ∙ sym (at_first x xs place is.0) ∙ at)
    (λ not'. at_later x (xs ++ ys) place not'.0 ∙ place_on xs ys place a (sym (at_later x xs place not'.0) ∙ at))
    (eqb_tells place x.0)

place_past : {A : Type 0} (xs ys : List (ℕ × A)) (place : ℕ) → at_place xs place ≡ None → at_place (xs ++ ys) place ≡ at_place ys place
place_past [] ys place at = refl
place_past (x ∷ xs) ys place at =
    ⊎_elim
    (λ is. absurd (none-some x.1 (sym at ∙ at_first x xs place is.0)))
    (λ not'. at_later x (xs ++ ys) place not'.0 ∙ place_past xs ys place (sym (at_later x xs place not'.0) ∙ at))
    (eqb_tells place x.0)

place_mapped : {A : Type 0} (f : Value → A) (xs : List (ℕ × Value)) (place : ℕ) → at_place (map (λ p. (p.0, f p.1)) xs) place ≡ option_map f (at_place xs place)
place_mapped f [] place = refl
place_mapped {A} f (x ∷ xs) place = go (nat_eq place x.0) (place_mapped f xs place)
  where
    go : (b : Bool) → at_place (map (λ (p : ℕ × Value). (p.0, f p.1)) xs) place ≡ option_map f (at_place xs place)
        → cond b (Some (f x.1)) (at_place (map (λ (p : ℕ × Value). (p.0, f p.1)) xs) place) ≡ option_map f (cond b (Some x.1) (at_place xs place))
    go true later = refl
    go false later = later

-- what stands in a rising list is at its place
pub own_place : {A : Type 0} (low : ℕ) (xs : List (ℕ × A)) → RisesFrom low xs → (k : ℕ) (p : ℕ × A) → slice_get xs k ≡ Some p → (low ≤ p.0) × (at_place xs p.0 ≡ Some p.1)
own_place low [] rise k p found = cc
own_place low (x ∷ xs) rise zero p found =
    let same = same_Some x p found in
    (omega (arith, rise.0, ap (λ q. q.0) same), at_first x xs p.0 (eq-eqb p.0 x.0 (ap (λ q. q.0) (sym same))) ∙ ap (λ q. Some q.1) same)
own_place low (x ∷ xs) rise (suc k) p found =
    let later = own_place (x.0 + 1) xs rise.1 k p found in (
      omega (arith, rise.0, later.0),
      ⊎_elim (λ is. absurd (omega (arith, is.1, later.0))) (λ not'. at_later x xs p.0 not'.0 ∙ later.1) (eqb_tells p.0 x.0),
    )

-- the names of pairs with what a function has at them
named_pairs : (f : ℕ → Option Value) (pairs : List (ℕ × Value)) → ((k : ℕ) (p : ℕ × Value) → slice_get pairs k ≡ Some p → f p.0 ≡ Some p.1) → named_data f (map (λ p. p.0) pairs) ≡ pairs
named_pairs f [] each = refl
named_pairs f (p ∷ pairs) each =
    ap (λ o. cons_option (option_map (λ v. (p.0, v)) o) (named_data f (map (λ (q : ℕ × Value). q.0) pairs))) (each 0 p refl) ∙ ap (λ l. p ∷ l) (named_pairs f pairs (λ k q found. each (suc k) q found))

-- the words of ports
pub ports_back : (entry : Entry) (port : ℕ) → port_words (reading_back entry) port ≡ at_place {A = ℕ × ℕ} (map put_words entry.puts ++ map get_words entry.gets) port
ports_back entry port = ap (λ l. at_place {A = ℕ × ℕ} l port) (both entry.puts entry.gets)
  where
    gone : (gets : List (ℕ × Value)) → map port_word (offers_without gets) ≡ map get_words gets
    gone [] = refl
    gone (p ∷ gets) = ap (λ l. get_words p ∷ l) (gone gets)

    both : (puts gets : List (ℕ × Value)) → map port_word (offers_with puts ++ offers_without gets) ≡ map put_words puts ++ map get_words gets
    both [] gets = gone gets
    both (p ∷ puts) gets = ap (λ l. put_words p ∷ l) (both puts gets)

-- what the reading shows of cells and ports is what the entry takes and puts
no_word : (o : Option Value) → option_and_then decoded (option_map (λ v. 0) o) ≡ None
no_word None = refl
no_word (Some v) = refl

no_offer : (o : Option Value) → option_and_then offered_value (option_map get_word o) ≡ None
no_offer None = refl
no_offer (Some v) = refl

pub cell_back : (entry : Entry) (cell : ℕ) (o : Option Value) → o ≡ at_place entry.takes cell → IfSome o IsValue → o ≡ (sources_of (reading_back entry)).cell cell
cell_back entry cell None at is =
    sym (ap (option_and_then decoded) (place_past (words_with entry.takes) (words_without entry.fills) cell (place_mapped code_of entry.takes cell ∙ ap (option_map code_of) (sym at)) ∙ place_mapped (λ v. 0) entry.fills cell)
    ∙ no_word (at_place entry.fills cell))
cell_back entry cell (Some v) at is =
    sym (ap (option_and_then decoded) (place_on (words_with entry.takes) (words_without entry.fills) cell (code_of v) (place_mapped code_of entry.takes cell ∙ ap (option_map code_of) (sym at)))
    ∙ decoded_of v is (code_of v) refl)

pub port_back : (entry : Entry) (port : ℕ) (o : Option Value) → o ≡ at_place entry.puts port → IfSome o IsValue → o ≡ (sources_of (reading_back entry)).port port
port_back entry port None at is =
    sym (ap (option_and_then offered_value) (ports_back entry port ∙ place_past (map put_words entry.puts) (map get_words entry.gets) port (place_mapped put_word entry.puts port ∙ ap (option_map put_word) (sym at)) ∙ place_mapped get_word entry.gets port)
    ∙ no_offer (at_place entry.gets port))
port_back entry port (Some v) at is =
    sym (ap (option_and_then offered_value) (ports_back entry port ∙ place_on (map put_words entry.puts) (map get_words entry.gets) port (1, code_of v) (place_mapped put_word entry.puts port ∙ ap (option_map put_word) (sym at)))
    ∙ decoded_of v is (code_of v) refl)

module _ (c : RawCircuit) (checked : IsChecked c) (texts : List (List ℕ)) (tables : List Table) (are : AreTables c tables) (region : ℕ) (reading : Reading) (entry : Entry) (allowed : Allows c texts tables region reading entry) where
  takes_rise : RisesFrom 0 entry.takes
  takes_rise = subst (λ (e : Entry). RisesFrom 0 e.takes) (sym allowed.is_step.stands) (rises_with (λ cell k. datum allowed.step (end_b c k)) 0 (buffers c))

  fills_rise : RisesFrom 0 entry.fills
  fills_rise = subst (λ (e : Entry). RisesFrom 0 e.fills) (sym allowed.is_step.stands) (rises_with (λ cell k. datum allowed.step (end_a c k)) 0 (buffers c))

  puts_rise : RisesFrom 0 entry.puts
  puts_rise = subst (λ (e : Entry). RisesFrom 0 e.puts) (sym allowed.is_step.stands) (rises_with (value_at_port true (datum allowed.step)) 0 c.ports)

  gets_rise : RisesFrom 0 entry.gets
  gets_rise = subst (λ (e : Entry). RisesFrom 0 e.gets) (sym allowed.is_step.stands) (rises_with (value_at_port false (datum allowed.step)) 0 c.ports)

  at_of : {A : Type 0} (xs : List (ℕ × A)) (k : ℕ) (d : ℕ × A) → k < length xs → slice_get xs k ≡ Some (get_or xs k d)
  at_of xs k d within = slice_get-get_or xs k d within

  not_taken : (p : ℕ × Value) → at_place reading.cells p.0 ≡ Some 0 → (o : Option Value) → at_place entry.takes p.0 ≡ o → o ≡ None
  not_taken p empty None is = refl
  not_taken p empty (Some v) is =
      absurd (code_is_not_zero v (same_Some 0 (code_of v) (sym empty ∙ at_place_holds (λ q. at_place reading.cells q.0 ≡ Some (code_of q.1)) entry.takes p.0 v allowed.read.takes is)))

  read_back : IsRead (reading_back entry) entry
  read_back = record {
    takes = λ k d within.
        let p = get_or entry.takes k d in
        place_on (words_with entry.takes) (words_without entry.fills) p.0 (code_of p.1) (place_mapped code_of entry.takes p.0 ∙ ap (option_map code_of) (own_place 0 entry.takes takes_rise k p (at_of entry.takes k d within)).1);
    fills = λ k d within.
        let p = get_or entry.fills k d in
        place_past (words_with entry.takes) (words_without entry.fills) p.0 (place_mapped code_of entry.takes p.0 ∙ ap (option_map code_of) (not_taken p (allowed.read.fills k d within) (at_place entry.takes p.0) refl))
        ∙ place_mapped (λ v. 0) entry.fills p.0 ∙ ap (option_map (λ v. 0)) (own_place 0 entry.fills fills_rise k p (at_of entry.fills k d within)).1;
    puts = λ k d within.
        let p = get_or entry.puts k d in
        ports_back entry p.0 ∙ place_on (map put_words entry.puts) (map get_words entry.gets) p.0 (1, code_of p.1)
        (place_mapped put_word entry.puts p.0 ∙ ap (option_map put_word) (own_place 0 entry.puts puts_rise k p (at_of entry.puts k d within)).1);
    gets = λ k d within. got (get_or entry.gets k d) (own_place 0 entry.gets gets_rise k (get_or entry.gets k d) (at_of entry.gets k d within)).1 (at_place entry.puts (get_or entry.gets k d).0) refl;
  }
    where
      got : (p : ℕ × Value) → at_place entry.gets p.0 ≡ Some p.1 → (o : Option Value) → at_place entry.puts p.0 ≡ o → (word : ℕ) × (port_words (reading_back entry) p.0 ≡ Some (1, word))
      got p at (Some v) is = (
        code_of v,
        ports_back entry p.0 ∙ place_on (map put_words entry.puts) (map get_words entry.gets) p.0 (1, code_of v)
            (place_mapped put_word entry.puts p.0 ∙ ap (option_map put_word) is),
      )
      got p at None is = (
        0,
        ports_back entry p.0 ∙ place_past (map put_words entry.puts) (map get_words entry.gets) p.0
            (place_mapped put_word entry.puts p.0 ∙ ap (option_map put_word) is)
            ∙ place_mapped get_word entry.gets p.0 ∙ ap (option_map get_word) at,
      )

  -- the pairs of the row's names are the step's
  pub step_pairs : (row : Row) → IsRow c allowed.names row → values_at (slot_value c texts (sources_of (reading_back entry)) row.slots) row.named ≡ allowed.step.pairs
  step_pairs row is =
      let tabled = tabled_firing c texts tables are region reading entry allowed in
      let same = data_is c checked texts allowed.names tabled.root tabled.firing (reading_back entry) entry read_back allowed.step allowed.is_step in
      let rising = subst (λ ns. IsStrictlyIncreasing ns) (sym allowed.is_step.named) tabled.firing.rising in
      is.named texts (sources_of (reading_back entry)) ∙ ap (λ f. named_data f allowed.names) same ∙ ap (named_data (datum allowed.step)) (sym allowed.is_step.named)
      ∙ named_pairs (datum allowed.step) allowed.step.pairs (λ k p found. (own_place 0 allowed.step.pairs (rises_strictly 0 allowed.step.pairs rising (λ q rest at. omega arith)) k p found).1)
