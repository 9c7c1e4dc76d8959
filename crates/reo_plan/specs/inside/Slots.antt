-- Slots: the data of a region's firings, each known by its place in a list. A slot's own data come from earlier slots.
use Rattle.std.specs.Prelude.{◌≡◌, ℕ, suc, ◌<◌, List, ◌++◌, length, slice_get, slice_index_or, Option, Some}
use Rattle.reo_value.specs.declared.value.Value.{Value}
use Rattle.reo_net.specs.declared.circuit.RawCircuit.{RawCircuit}
use Rattle.reo_flow.specs.declared.giver.Giver.{Giver}
use Rattle.reo_flow.specs.declared.giver.Giver.TheVariants.{Unfed, Cell, Port, Same, Image}
use Rattle.reo_flow.specs.Flow.{Sources, flow}

abbrev pub slot_at : List Giver → ℕ → Giver
slot_at slots i = slice_index_or slots i Unfed

-- what is in a slot
abbrev pub slot_value : RawCircuit → List (List ℕ) → Sources → List Giver → ℕ → Option Value
slot_value c texts sources slots i = flow c texts sources (slot_at slots) (suc i) i

-- the giver looks at slots before this one alone
abbrev pub LooksBelow : ℕ → Giver → Type 0
LooksBelow i Unfed = Unit {0}
LooksBelow i (Cell cell) = Unit {0}
LooksBelow i (Port port) = Unit {0}
LooksBelow i (Same j) = j < i
LooksBelow i (Image k j) = j < i

abbrev pub AreOrdered : List Giver → Type 0
AreOrdered slots = (i : ℕ) (slot : Giver) → slice_get slots i ≡ Some slot → LooksBelow i slot

-- the first list, and more behind it
abbrev pub Extends : {A : Type 0} → List A → List A → Type 0
Extends {A} old new = (more : List A) × (new ≡ old ++ more)

-- the slots are ordered, and go on from others
pub record AreMore (old new : List Giver) : Type 0 where
  pub ordered : AreOrdered new
  pub extends : Extends old new

-- the slot has what flows to the name through so many givers, whatever the texts and sources
pub record HasFlow (c : RawCircuit) (givers : ℕ → Giver) (fuel name : ℕ) (slots : List Giver) (slot : ℕ) : Type 0 where
  pub within : slot < length slots
  pub value : (texts : List (List ℕ)) (sources : Sources) → slot_value c texts sources slots slot ≡ flow c texts sources givers fuel name
