-- What firings ask, by the numbers of the facts that they share: each fact has its datum in a slot that they share too.
use Rattle.std.specs.Prelude.{◌≡◌, ℕ, ◌<◌, All, List, [], ◌∷◌, slice_get, Bool, true, false, ◌&&◌}
use Rattle.std.specs.List.{list_all}
use Rattle.std.specs.Int.RustNames.{bit_and}
use Rattle.std.specs.Option.{option_map_or}
use Rattle.reo_net.specs.declared.circuit.RawCircuit.{RawCircuit}
use Rattle.reo_fabric.specs.declared.reading.Reading.{Reading}
use Rattle.reo_flow.specs.declared.fact.Fact.{Fact}
use Rattle.reo_flow.specs.declared.fact.Fact.TheVariants.{Offered, Empty, Known, Met, Failed}
use Rattle.reo_flow.specs.declared.giver.Giver.{Giver}
use Rattle.reo_flow.specs.declared.giver.Giver.TheVariants.{Unfed, Cell, Port, Same, Image}
use Rattle.reo_flow.specs.Flow.{sources_of, is_so}
use Rattle.reo_plan.specs.declared.row.Row.{Row}
use Rattle.reo_plan.specs.declared.asks.Asks.{Asks}
use Rattle.reo_plan.specs.declared.asks.Shared.{Shared}
use Rattle.reo_plan.specs.inside.Slots.{slot_at, slot_value, Extends}
use Rattle.reo_plan.specs.inside.Marks.{Misses, IsMask, IsMarked}
use Rattle.reo_plan.specs.inside.Columns.{AreColumns}
use Rattle.reo_plan.specs.inside.Needs.{some_offer}

-- no function gives this
abbrev pub is_direct : Giver → Bool
is_direct Unfed = true
is_direct (Cell cell) = true
is_direct (Port port) = true
is_direct (Same slot) = false
is_direct (Image k slot) = false

-- the fact asks no guard and no function
abbrev pub is_presence : List Giver → Fact → Bool
is_presence slots (Offered port) = true
is_presence slots (Empty cell) = true
is_presence slots (Known slot) = is_direct (slot_at slots slot)
is_presence slots (Met k slot) = false
is_presence slots (Failed k slot) = false

-- whether the fact is so, with its datum in one of these slots
abbrev pub so_in : RawCircuit → List (List ℕ) → Reading → List Giver → Fact → Bool
so_in c texts reading slots = is_so c texts reading (slot_value c texts (sources_of reading) slots)

-- where the second of these facts is so, the first is
abbrev pub IsTold : List Giver → List Fact → Type 0
IsTold slots [] = ⊥
IsTold slots (fact ∷ []) = ⊥
IsTold slots (fact ∷ next ∷ facts) = (c : RawCircuit) (texts : List (List ℕ)) (reading : Reading) → so_in c texts reading slots next ≡ true → so_in c texts reading slots fact ≡ true

-- whether the fact with this number is so
abbrev pub number_so : RawCircuit → List (List ℕ) → Reading → List Giver → List Fact → ℕ → Bool
number_so c texts reading slots facts number = option_map_or (so_in c texts reading slots) (slice_get facts number) false

-- the one fact says in the slots, and in all slots that go on from them, what the other says in a row's own slots
abbrev pub IsSameFact : RawCircuit → List Giver → Fact → List Giver → Fact → Type 0
IsSameFact c own fact slots other = (more : List Giver) → Extends slots more → (texts : List (List ℕ)) (reading : Reading) → so_in c texts reading more other ≡ so_in c texts reading own fact

-- so does the fact with this number
abbrev pub IsNumbered : RawCircuit → List Giver → Fact → List Giver → List Fact → ℕ → Type 0
IsNumbered c own fact slots facts number =
    (more : List Giver) (others : List Fact) → Extends slots more → Extends facts others → (texts : List (List ℕ)) (reading : Reading) → number_so c texts reading more others number ≡ so_in c texts reading own fact

-- whether all that is asked is so
abbrev pub asked : RawCircuit → List (List ℕ) → Reading → List Giver → List Fact → List Giver → List ℕ → List Fact → Bool
asked c texts reading slots facts own numbers rest = list_all (number_so c texts reading slots facts) numbers && list_all (so_in c texts reading own) rest

-- that is so just where these facts are
abbrev pub HasAsks : RawCircuit → List Giver → List Fact → List Giver → List Fact → List ℕ → List Fact → Type 0
HasAsks c slots facts own done numbers rest =
    (more : List Giver) (others : List Fact) → Extends slots more → Extends facts others → (texts : List (List ℕ)) (reading : Reading) → asked c texts reading more others own numbers rest ≡ list_all (so_in c texts reading own) done

-- where all of these facts are so, the bits of what they need share none with a word that misses what is offered
abbrev pub IsNeeds : RawCircuit → List Giver → List Fact → ℕ → Type 0
IsNeeds c slots facts needs =
    (texts : List (List ℕ)) (reading : Reading) (word : ℕ) → Misses (some_offer reading.ports) word → list_all (so_in c texts reading slots) facts ≡ true → bit_and word needs ≡ 0

-- these are the asks of the row
pub record IsAsks (c : RawCircuit) (slots : List Giver) (facts : List Fact) (row : Row) (asks : Asks) : Type 0 where
  pub has : HasAsks c slots facts row.slots row.facts asks.numbers asks.rest
  pub mask : IsMask asks.numbers asks.mask
  pub marked : IsMarked asks.numbers asks.mask
  pub small : All (λ number. number < 64) asks.numbers
  pub needs : IsNeeds c row.slots row.facts asks.needs

abbrev pub AreAsks : RawCircuit → List Giver → List Fact → List Row → List Asks → Type 0
AreAsks c slots facts [] [] = Unit {0}
AreAsks c slots facts (row ∷ rows) (asks ∷ all) = IsAsks c slots facts row asks × AreAsks c slots facts rows all
AreAsks c slots facts [] (asks ∷ all) = ⊥
AreAsks c slots facts (row ∷ rows) [] = ⊥

-- these are the asks of the rows, and the columns of bits are of rows that ask
pub record IsShared (c : RawCircuit) (rows : List Row) (shared : Shared) : Type 0 where
  pub asks : AreAsks c shared.slots shared.facts rows shared.asks
  pub columns : AreColumns shared.asks shared.columns

abbrev pub AreShared : RawCircuit → List (List Row) → List Shared → Type 0
AreShared c [] [] = Unit {0}
AreShared c (rows ∷ plans) (shared ∷ all) = IsShared c rows shared × AreShared c plans all
AreShared c [] (shared ∷ all) = ⊥
AreShared c (rows ∷ plans) [] = ⊥
