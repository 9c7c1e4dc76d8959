-- Laws of the definitions, each the contract of a function that does nothing.
use Rattle.std.specs.Prelude.{◌≡◌, ◌↔◌, ℕ, ◌<◌, List, length, Bool, true}
use Rattle.reo_net.specs.declared.circuit.RawCircuit.{RawCircuit}
use Rattle.reo_net.specs.declared.circuit.Step.{Step}
use Rattle.reo_net.specs.Steps.{State, datum, fires_in, ProductStep}
use Rattle.reo_net.specs.Checks.{IsCircuit}
use Rattle.reo_net.specs.Regions.{Automaton, IsSynchronous, HasName, SameRegion, Moves, IsConnectedFiring}
use Rattle.reo_growth.specs.declared.web.Web.{Web}
use Rattle.reo_growth.specs.Web.{IsConnected}
use Rattle.reo_growth.specs.Growth.{growth_count}
use Rattle.reo_product.specs.RegionWeb.{name_at, IsRegionWeb}
use Rattle.reo_product.specs.Growth.{HasGrowth}
use Rattle.reo_product.specs.Table.{HasFirings}

-- a set of places is a set of names
pub record Matches (names : List ℕ) (places fires : ℕ → Bool) : Type 0 where
  pub at : (place : ℕ) → place < length names → places place ≡ fires (name_at names place)
  pub within : (place : ℕ) → places place ≡ true → place < length names
  pub every : (name : ℕ) → fires name ≡ true → (place : ℕ) × (place < length names) × (name_at names place ≡ name)

-- what is connected in the web of a region, is a connected firing of the region
abbrev pub WebsAreRegions : Type 0
WebsAreRegions =
    (c : RawCircuit) (root : Automaton) (names : List ℕ) (w : Web) → IsRegionWeb c root names w → (places fires : ℕ → Bool) → Matches names places fires → IsConnected w places ↔ IsConnectedFiring c root fires

-- each region of a circuit has a web
abbrev pub RegionsHaveWebs : Type 0
RegionsHaveWebs = (c : RawCircuit) → IsCircuit c → (root : Automaton) → IsSynchronous c root → (names : List ℕ) × (w : Web) × IsRegionWeb c root names w

-- and a growth
abbrev pub RegionsHaveGrowth : Type 0
RegionsHaveGrowth = (c : RawCircuit) → IsCircuit c → (root : Automaton) → IsSynchronous c root → (count : ℕ) × HasGrowth c root count

-- which is one number
abbrev pub GrowthIsOne : Type 0
GrowthIsOne = (c : RawCircuit) (root : Automaton) (one other : ℕ) → HasGrowth c root one → HasGrowth c root other → one ≡ other

-- and it is the number of vertices of any web of the region
abbrev pub WebsHaveGrowth : Type 0
WebsHaveGrowth = (c : RawCircuit) (root : Automaton) (names : List ℕ) (w : Web) → IsRegionWeb c root names w → HasGrowth c root (growth_count w)

-- and the connected firings of a region are so many, for one number
abbrev pub FiringsAreSoMany : Type 0
FiringsAreSoMany = (c : RawCircuit) (root : Automaton) (one other : ℕ) → HasFirings c root one → HasFirings c root other → one ≡ other

-- The part of a set in which an automaton moves: a connected firing, with all that its automata fire in the set.
pub record IsPart (c : RawCircuit) (root : Automaton) (fires : ℕ → Bool) (x : Automaton) (part : ℕ → Bool) : Type 0 where
  pub connected : IsConnectedFiring c root part
  pub inside : (name : ℕ) → part name ≡ true → fires name ≡ true
  pub own : (name : ℕ) → HasName c x name → fires name ≡ true → part name ≡ true
  pub closed : (y : Automaton) (at name : ℕ) → SameRegion c root y → HasName c y at → part at ≡ true → HasName c y name → fires name ≡ true → part name ≡ true

-- in a product step, each automaton of a region that moves, moves in a part of the step
abbrev pub StepsSplit : Type 0
StepsSplit =
    (c : RawCircuit) → IsCircuit c → (root : Automaton) (texts : List (List ℕ)) (old : State) (step : Step) (new : State) → ProductStep c texts old step new
    → (x : Automaton) → Moves c root (fires_in (datum step)) x → (part : ℕ → Bool) × IsPart c root (fires_in (datum step)) x part

-- and two parts that share a name are one
abbrev pub PartsShareNothing : Type 0
PartsShareNothing =
    (c : RawCircuit) (root x y : Automaton) (fires one other : ℕ → Bool) → IsPart c root fires x one → IsPart c root fires y other
    → (shared : ℕ) → one shared ≡ true → other shared ≡ true → (name : ℕ) → one name ≡ other name

-- parts that share a name are of one region
abbrev pub RegionsShareNothing : Type 0
RegionsShareNothing =
    (c : RawCircuit) (root other x y : Automaton) (fires part part_of_other : ℕ → Bool) → IsPart c root fires x part → IsPart c other fires y part_of_other
    → (shared : ℕ) → part shared ≡ true → part_of_other shared ≡ true → SameRegion c root other
