-- What rows ask by number is what they ask in slots of their own.
use Rattle.std.proofs.Common.{◌≡◌, ℕ, zero, suc, ◌+◌, ◌^◌, List, [], ◌∷◌, ◌++◌, length, slice_get, get_or, position, Option, Some, None, is_some, Bool, true, false, not, cond, nat_lt, ◌&&◌, ◌<◌, Result, Ok, Err, OnOk, refl, sym, ap, ◌∙◌, subst, arith}
use Rattle.std.specs.List.{list_all}
use Rattle.std.specs.Option.{option_map_or}
use Rattle.std.specs.Int.{bit_at}
use Rattle.std.specs.Int.RustNames.{bit_and}
use Rattle.std.proofs.lemmas.Nat.{and_comm, pow_apart}
use Rattle.reo_plan.proofs.MarkLemmas.{not_shared}
use Rattle.std.proofs.lemmas.Bool.{false≢true, lt-ltb, le-ltb}
use Rattle.std.proofs.lemmas.Option.{same_Some, slice_get-get_or}
use Rattle.std.proofs.lemmas.List.Sums.{position_or_len_is}
use Rattle.reo_net.specs.declared.circuit.RawCircuit.{RawCircuit}
use Rattle.reo_fabric.specs.declared.reading.Reading.{Reading}
use Rattle.reo_flow.specs.declared.fact.Fact.{Fact}
use Rattle.reo_flow.specs.declared.fact.Fact.TheVariants.{Known, Met, Failed}
use Rattle.reo_flow.specs.declared.giver.Giver.{Giver}
use Rattle.reo_flow.specs.Flow.{Sources, sources_of, flow, met_at}
use Rattle.reo_plan.specs.declared.row.Row.{Row}
use Rattle.reo_plan.specs.declared.asks.Asks.{Asks}
use Rattle.reo_plan.specs.declared.asks.Shared.{Shared}
use Rattle.reo_plan.specs.declared.marks.Marks.{Marks}
use Rattle.reo_plan.specs.inside.Slots.{slot_at, slot_value, AreOrdered, Extends, HasFlow}
use Rattle.reo_plan.specs.inside.Marks.{AreMarks, Misses}
use Rattle.reo_growth.specs.Lists.{has}
use Rattle.reo_plan.specs.inside.Columns.{column_bit, numbers_at}
use Rattle.reo_plan.specs.inside.Needs.{some_offer}
use Rattle.reo_plan.specs.inside.Plans.{fits}
use Rattle.reo_plan.specs.inside.Asks.{so_in, number_so, IsSameFact, IsNumbered, HasAsks, IsAsks, AreAsks, IsShared, AreShared}
use Rattle.reo_plan.proofs.ColumnLemmas.{passing_has}
use Rattle.reo_plan.proofs.FactLemmas.{all-append}
use Rattle.reo_plan.proofs.SlotLemmas.{kept_value, get-extended, extends_same, extends_on}

-- what is so where all went well
pub on_ok : {A E : Type 0} (r : Result A E) (P Q : Type 0) → OnOk r P → (P → Q) → OnOk r Q
on_ok (Ok a) P Q p h = h p
on_ok (Err e) P Q p h = tt

-- what flows to a slot of a row's own is in the shared slot
module _ (c : RawCircuit) (own slots : List Giver) (ordered : AreOrdered slots) (slot other : ℕ) (has : HasFlow c (slot_at own) (slot + 1) slot slots other) where
  same_value : (more : List Giver) → Extends slots more → (texts : List (List ℕ)) (sources : Sources) → slot_value c texts sources more other ≡ slot_value c texts sources own slot
  same_value more e texts sources =
      let next : slot + 1 ≡ suc slot = omega arith in
      kept_value c texts sources slots ordered more e other has.within ∙ has.value texts sources ∙ ap (λ n. flow c texts sources (slot_at own) n slot) next

  pub same_known : IsSameFact c own (Known slot) slots (Known other)
  same_known more e texts reading = ap is_some (same_value more e texts (sources_of reading))

  pub same_met : (k : ℕ) → IsSameFact c own (Met k slot) slots (Met k other)
  same_met k more e texts reading = ap (λ o. option_map_or (met_at c texts k) o false) (same_value more e texts (sources_of reading))

  pub same_failed : (k : ℕ) → IsSameFact c own (Failed k slot) slots (Failed k other)
  same_failed k more e texts reading = ap (λ o. option_map_or (λ v. not (met_at c texts k v)) o false) (same_value more e texts (sources_of reading))

-- the number of such a fact
pub is_numbered : (c : RawCircuit) (own : List Giver) (fact : Fact) (slots : List Giver) (facts : List Fact) (other : Fact) (n : ℕ) → IsSameFact c own fact slots other → slice_get facts n ≡ Some other → IsNumbered c own fact slots facts n
is_numbered c own fact slots facts other n same found more others es ef texts reading =
    ap (λ o. option_map_or (so_in c texts reading more) o false) (get-extended facts others n other ef found) ∙ same more es texts reading

turned : (a b r : Bool) → ((a && (b && true)) && r) ≡ ((a && r) && (b && true))
turned true true true = refl
turned true true false = refl
turned true false true = refl
turned true false false = refl
turned false b r = refl

joined : (a r b : Bool) → (a && (r && (b && true))) ≡ ((a && r) && (b && true))
joined true r b = refl
joined false r b = refl

module _ (c : RawCircuit) (own : List Giver) (fact : Fact) (old new : List Giver) (facts many : List Fact) (e : Extends old new) (f : Extends facts many) (done : List Fact) (numbers : List ℕ) (rest : List Fact) (has : HasAsks c old facts own done numbers rest) where
  -- a number more
  pub ask_number : (n : ℕ) → IsNumbered c own fact new many n → HasAsks c new many own (done ++ fact ∷ []) (numbers ++ n ∷ []) rest
  ask_number n is more others es ef texts reading =
      ap (λ b. b && list_all (so_in c texts reading own) rest) (all-append (number_so c texts reading more others) numbers (n ∷ []))
      ∙ turned (list_all (number_so c texts reading more others) numbers) (number_so c texts reading more others n) (list_all (so_in c texts reading own) rest)
      ∙ ap (λ b. b && (number_so c texts reading more others n && true)) (has more others (extends_on old new more e es) (extends_on facts many others f ef) texts reading)
      ∙ ap (λ b. list_all (so_in c texts reading own) done && (b && true)) (is more others es ef texts reading)
      ∙ sym (all-append (so_in c texts reading own) done (fact ∷ []))

  -- a fact more in a slot of the row's own
  pub ask_rest : HasAsks c new many own (done ++ fact ∷ []) numbers (rest ++ fact ∷ [])
  ask_rest more others es ef texts reading =
      ap (λ b. list_all (number_so c texts reading more others) numbers && b) (all-append (so_in c texts reading own) rest (fact ∷ []))
      ∙ joined (list_all (number_so c texts reading more others) numbers) (list_all (so_in c texts reading own) rest) (so_in c texts reading own fact)
      ∙ ap (λ b. b && (so_in c texts reading own fact && true)) (has more others (extends_on old new more e es) (extends_on facts many others f ef) texts reading)
      ∙ sym (all-append (so_in c texts reading own) done (fact ∷ []))

-- asks stay those of the rows as slots and facts are added
pub kept_asks : (c : RawCircuit) (old new : List Giver) (facts many : List Fact) → Extends old new → Extends facts many → (rows : List Row) (all : List Asks) → AreAsks c old facts rows all → AreAsks c new many rows all
kept_asks c old new facts many e f [] [] are = tt
kept_asks c old new facts many e f (row ∷ rows) (asks ∷ all) are = (
  record {
    has = λ more others es ef. are.0.has more others (extends_on old new more e es) (extends_on facts many others f ef);
    mask = are.0.mask;
    marked = are.0.marked;
    small = are.0.small;
    needs = are.0.needs;
  },
  kept_asks c old new facts many e f rows all are.1,
)
kept_asks c old new facts many e f [] (asks ∷ all) are = absurd are
kept_asks c old new facts many e f (row ∷ rows) [] are = absurd are

pub asks-push : (c : RawCircuit) (slots : List Giver) (facts : List Fact) (rows : List Row) (all : List Asks) (row : Row) (asks : Asks) → AreAsks c slots facts rows all → IsAsks c slots facts row asks → AreAsks c slots facts (rows ++ row ∷ []) (all ++ asks ∷ [])
asks-push c slots facts [] [] row asks are is = (is, tt)
asks-push c slots facts (r ∷ rows) (a ∷ all) row asks are is = (are.0, asks-push c slots facts rows all row asks are.1 is)
asks-push c slots facts [] (a ∷ all) row asks are is = absurd are
asks-push c slots facts (r ∷ rows) [] row asks are is = absurd are

pub shared-push : (c : RawCircuit) (plans : List (List Row)) (all : List Shared) (rows : List Row) (shared : Shared) → AreShared c plans all → IsShared c rows shared → AreShared c (plans ++ rows ∷ []) (all ++ shared ∷ [])
shared-push c [] [] rows shared are is = (is, tt)
shared-push c (r ∷ plans) (s ∷ all) rows shared are is = (are.0, shared-push c plans all rows shared are.1 is)
shared-push c [] (s ∷ all) rows shared are is = absurd are
shared-push c (r ∷ plans) [] rows shared are is = absurd are

-- the asks of a row
pub asks_at : (c : RawCircuit) (slots : List Giver) (facts : List Fact) (rows : List Row) (all : List Asks) → AreAsks c slots facts rows all → (i : ℕ) (row : Row) → slice_get rows i ≡ Some row → (asks : Asks) × (slice_get all i ≡ Some asks) × IsAsks c slots facts row asks
asks_at c slots facts [] [] are i row found = cc
asks_at c slots facts (r ∷ rows) (a ∷ all) are zero row found = (a, refl, subst (λ x. IsAsks c slots facts x a) (same_Some r row found) are.0)
asks_at c slots facts (r ∷ rows) (a ∷ all) are (suc i) row found = asks_at c slots facts rows all are.1 i row found
asks_at c slots facts [] (a ∷ all) are i row found = absurd are
asks_at c slots facts (r ∷ rows) [] are i row found = absurd are

pub shared_at : (c : RawCircuit) (plans : List (List Row)) (all : List Shared) → AreShared c plans all → (region : ℕ) (rows : List Row) → slice_get plans region ≡ Some rows → (shared : Shared) × (slice_get all region ≡ Some shared) × IsShared c rows shared
shared_at c [] [] are region rows found = cc
shared_at c (r ∷ plans) (s ∷ all) are zero rows found = (s, refl, subst (λ x. IsShared c x s) (same_Some r rows found) are.0)
shared_at c (r ∷ plans) (s ∷ all) are (suc region) rows found = shared_at c plans all are.1 region rows found
shared_at c [] (s ∷ all) are region rows found = absurd are
shared_at c (r ∷ plans) [] are region rows found = absurd are

pub and-left : (a b : Bool) → (a && b) ≡ true → a ≡ true
and-left true b e = refl
and-left false b e = e

with_false : (b : Bool) → false ≡ (b && false)
with_false true = refl
with_false false = refl

-- a row's asks are so just where the row fits
module _ (c : RawCircuit) (texts : List (List ℕ)) (reading : Reading) (slots : List Giver) (facts : List Fact) (row : Row) (asks : Asks) (is : IsAsks c slots facts row asks) where
  pub asked_fits : (list_all (number_so c texts reading slots facts) asks.numbers && list_all (so_in c texts reading row.slots) asks.rest) ≡ fits c texts reading row
  asked_fits = is.has slots facts (extends_same slots) (extends_same facts) texts reading

  -- a row of which a fact of its own is not so does not fit
  pub own_fails : false ≡ list_all (so_in c texts reading row.slots) asks.rest → false ≡ fits c texts reading row
  own_fails fails =
      let numbers = list_all (number_so c texts reading slots facts) asks.numbers in
      with_false numbers ∙ ap (λ b. numbers && b) fails ∙ asked_fits

  -- a row fits where all that it asks is so
  pub all_fit : list_all (number_so c texts reading slots facts) asks.numbers ≡ true → list_all (so_in c texts reading row.slots) asks.rest ≡ true → true ≡ fits c texts reading row
  all_fit of_numbers of_rest = sym (ap (λ b. b && list_all (so_in c texts reading row.slots) asks.rest) of_numbers ∙ of_rest) ∙ asked_fits

  -- a row that asks a number which fails does not fit
  pub number_fails : (number : ℕ) → bit_at asks.mask number ≡ 1 → number_so c texts reading slots facts number ≡ false → false ≡ fits c texts reading row
  number_fails number marked fails = go (fits c texts reading row) refl
    where
      go : (b : Bool) → fits c texts reading row ≡ b → false ≡ fits c texts reading row
      go true e =
          let all = and-left (list_all (number_so c texts reading slots facts) asks.numbers) (list_all (so_in c texts reading row.slots) asks.rest) (asked_fits ∙ e) in
          let apart = is.mask (number_so c texts reading slots facts) (2 ^ number) (λ j passes. pow_apart number j (λ same. false≢true (sym fails ∙ ap (number_so c texts reading slots facts) same ∙ passes))) all in
          absurd (omega (arith, marked, not_shared asks.mask number (and_comm asks.mask (2 ^ number) ∙ apart)))
      go false e = sym e

  -- a row that needs an offer which is missing does not fit
  pub unoffered_fails : (missing : ℕ) → Misses (some_offer reading.ports) missing → (bit_and missing asks.needs ≡ 0 → ⊥) → false ≡ fits c texts reading row
  unoffered_fails missing misses shares = go (fits c texts reading row) refl
    where
      go : (b : Bool) → fits c texts reading row ≡ b → false ≡ fits c texts reading row
      go true e = absurd (shares (is.needs texts reading missing misses e))
      go false e = sym e

  -- a row that has a failed fact does not fit
  pub masked_fails : (marks : Marks) → AreMarks (number_so c texts reading slots facts) marks → (bit_and marks.failed asks.mask ≡ 0 → ⊥) → false ≡ fits c texts reading row
  masked_fails marks are shares = go (list_all (number_so c texts reading slots facts) asks.numbers) refl
    where
      go : (b : Bool) → list_all (number_so c texts reading slots facts) asks.numbers ≡ b → false ≡ fits c texts reading row
      go true e = absurd (shares (is.mask (number_so c texts reading slots facts) marks.failed are.failed e))
      go false e = ap (λ b. b && list_all (so_in c texts reading row.slots) asks.rest) (sym e) ∙ asked_fits

-- whether the row with this number is there and fits
abbrev pub fits_at : RawCircuit → List (List ℕ) → Reading → List Row → ℕ → Bool
fits_at c texts reading rows row = option_map_or (fits c texts reading) (slice_get rows row) false

module _ (c : RawCircuit) (rows : List Row) (shared : Shared) (is : IsShared c rows shared) (texts : List (List ℕ)) (reading : Reading) where
  -- no row that fits is in the column of a fact that fails
  pub column_of_failed : (number row : ℕ) → row < 4096 → fits_at c texts reading rows row ≡ true → number_so c texts reading shared.slots shared.facts number ≡ false → column_bit shared.columns number row ≡ 0
  column_of_failed number row small fit fails = is.columns number row small (ap not (go (slice_get rows row) refl fit))
    where
      go : (o : Option Row) → slice_get rows row ≡ o → option_map_or (fits c texts reading) o false ≡ true → has (numbers_at shared.asks row) number ≡ false
      go None found fit = absurd (false≢true fit)
      go (Some own) found fit =
          let at = asks_at c shared.slots shared.facts rows shared.asks is.asks row own found in
          let all = and-left (list_all (number_so c texts reading shared.slots shared.facts) at.0.numbers) (list_all (so_in c texts reading own.slots) at.0.rest)
          (asked_fits c texts reading shared.slots shared.facts own at.0 at.2 ∙ fit) in
          ap (λ o. has (option_map_or (λ (asks : Asks). asks.numbers) o []) number) at.1 ∙ passing_has (number_so c texts reading shared.slots shared.facts) at.0.numbers number all fails

-- a row that is there fits just where it fits by its number
pub fits_there : (c : RawCircuit) (texts : List (List ℕ)) (reading : Reading) (rows : List Row) (k : ℕ) (d : Row) → k < length rows → fits c texts reading (get_or rows k d) ≡ fits_at c texts reading rows k
fits_there c texts reading rows k d within = sym (ap (λ o. option_map_or (fits c texts reading) o false) (slice_get-get_or rows k d within))

-- the first that passes
pub position_some : {A : Type 0} (p : A → Bool) (xs : List A) (i : ℕ) (d : A) → i < length xs → ((k : ℕ) → k < i → p (get_or xs k d) ≡ false) → p (get_or xs i d) ≡ true → Some i ≡ position p xs
position_some p xs i d within before passes =
    let is = position_or_len_is p xs i d (omega (arith, within)) before (λ _. passes) in
    sym (ap (λ n. cond (nat_lt n (length xs)) (Some n) None) is ∙ ap (λ b. cond b (Some i) None) (lt-ltb i (length xs) within))

pub position_none : {A : Type 0} (p : A → Bool) (xs : List A) → ((k : ℕ) (d : A) → k < length xs → p (get_or xs k d) ≡ false) → None ≡ position p xs
position_none p [] each = refl
position_none p (x ∷ xs) each =
    let all = x ∷ xs in
    let is = position_or_len_is p all (length all) x (omega arith) (λ k less. each k x less) (λ more. absurd (omega (arith, more))) in
    sym (ap (λ n. cond (nat_lt n (length all)) (Some n) None) is ∙ ap (λ b. cond b (Some (length all)) None) (le-ltb (length all) (length all) (omega arith)))
