-- What a decider chooses from, and when it fits a fabric.
use Rattle.std.specs.Prelude.{◌≡◌, ℕ, ◌<◌, [], map, All, Option, Some, None}
use Rattle.reo_value.specs.declared.value.Value.{Value}
use Rattle.reo_value.specs.declared.op.Way.TheVariants.{Put, Get}
use Rattle.reo_value.specs.Code.{code_of, IsValue}
use Rattle.reo_fabric.specs.declared.entry.Entry.{Entry}
use Rattle.reo_fabric.specs.declared.fabric.Fabric.{Fabric}
use Rattle.reo_fabric.specs.declared.reading.Reading.{Reading}
use Rattle.reo_fabric.specs.Entry.{at_place, RisesFrom}
use Rattle.reo_fabric.specs.Fabric.{IsTaker, IsFiller, IsPort}
use Rattle.reo_fabric.specs.Reading.{IsReadingIn}

-- the only allowed entry with this choice
pub record IsOnly (Allowed : Entry → Type 0) (choice : ℕ) (entry : Entry) : Type 0 where
  pub allowed : Allowed entry
  pub chosen : entry.choice ≡ choice
  pub alone : (other : Entry) → Allowed other → other.choice ≡ choice → other ≡ entry

-- no choice where no entry is allowed, else one with which exactly one entry is
abbrev pub ChoosesFrom : (Entry → Type 0) → Option ℕ → Type 0
ChoosesFrom Allowed None = (entry : Entry) → Allowed entry → ⊥
ChoosesFrom Allowed (Some choice) = (entry : Entry) × IsOnly Allowed choice entry

-- the words that a reading has of a port: its state word and its data word
abbrev pub port_words : Reading → ℕ → Option (ℕ × ℕ)
port_words reading port = at_place (map (λ p. (p.0, (p.1, p.2))) reading.ports) port

-- the region takes from this cell the value whose code it reads
pub record Takes (fabric : Fabric) (reading : Reading) (place : ℕ × Value) : Type 0 where
  pub own : IsTaker fabric reading.region place.0
  pub value : IsValue place.1
  pub reads : at_place reading.cells place.0 ≡ Some (code_of place.1)

-- the region fills this cell, which it reads as empty
pub record Fills (fabric : Fabric) (reading : Reading) (place : ℕ × Value) : Type 0 where
  pub own : IsFiller fabric reading.region place.0
  pub value : IsValue place.1
  pub reads : at_place reading.cells place.0 ≡ Some 0

-- the value whose code is offered at this put port
pub record Puts (fabric : Fabric) (reading : Reading) (place : ℕ × Value) : Type 0 where
  pub own : IsPort fabric Put reading.region place.0
  pub value : IsValue place.1
  pub reads : port_words reading place.0 ≡ Some (1, code_of place.1)

-- a value for this get port, which is offered
pub record Gets (fabric : Fabric) (reading : Reading) (place : ℕ × Value) : Type 0 where
  pub own : IsPort fabric Get reading.region place.0
  pub value : IsValue place.1
  pub word : ℕ
  pub reads : port_words reading place.0 ≡ Some (1, word)

-- An entry that does something, at places of its region that the reading shows to be ready for it. So it never takes from
-- and fills one cell.
pub record IsFitting (fabric : Fabric) (reading : Reading) (entry : Entry) : Type 0 where
  pub region : entry.region ≡ reading.region
  pub some : entry.takes ≡ [] → entry.fills ≡ [] → entry.puts ≡ [] → entry.gets ≡ [] → ⊥
  pub takes : All (Takes fabric reading) entry.takes
  pub fills : All (Fills fabric reading) entry.fills
  pub puts : All (Puts fabric reading) entry.puts
  pub gets : All (Gets fabric reading) entry.gets
  pub takes_rise : RisesFrom 0 entry.takes
  pub fills_rise : RisesFrom 0 entry.fills
  pub puts_rise : RisesFrom 0 entry.puts
  pub gets_rise : RisesFrom 0 entry.gets

-- each entry that is allowed for a reading in this fabric is fitting
abbrev pub Fits : Fabric → (ℕ → Reading → Entry → Type 0) → Type 0
Fits fabric Allows =
    (region : ℕ) (reading : Reading) (entry : Entry) → region < fabric.regions → IsReadingIn fabric region reading → Allows region reading entry → IsFitting fabric reading entry

-- the entry that a decider with these meanings chooses
pub record IsChosen (Allows : ℕ → Reading → Entry → Type 0) (first_choice : ℕ → Reading → Option ℕ) (region : ℕ) (reading : Reading) (entry : Entry) : Type 0 where
  pub allowed : Allows region reading entry
  pub first : first_choice region reading ≡ Some entry.choice
