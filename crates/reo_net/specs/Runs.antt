-- Runs of the product from its initial state, and what is enabled in a state.
use Rattle.std.specs.Prelude.{◌≡◌, ℕ, List, [], ◌∷◌, slice_get, Contains, Some, flat_map}
use Rattle.reo_value.specs.declared.value.Value.{Value}
use Rattle.reo_value.specs.declared.op.Op.{Op}
use Rattle.reo_value.specs.declared.op.Op.TheVariants.{Put, Get}
use Rattle.reo_value.specs.Op.{way_of}
use Rattle.reo_net.specs.declared.circuit.Port.{Port}
use Rattle.reo_net.specs.declared.circuit.RawCircuit.{RawCircuit}
use Rattle.reo_net.specs.declared.circuit.Step.{Step}
use Rattle.reo_net.specs.Kind.{first_content}
use Rattle.reo_net.specs.Steps.{State, Data, ProductStep, datum}

-- each FIFO1 has its first datum, or none
abbrev pub initial_state : RawCircuit → State
initial_state c = flat_map (λ channel. first_content channel.kind) c.channels

-- the steps lead from the one state to the other, each of them a step of the product
abbrev pub Run : RawCircuit → List (List ℕ) → State → List Step → State → Type 0
Run c texts from [] final = final ≡ from
Run c texts from (step ∷ steps) final = (next : State) × ProductStep c texts from step next × Run c texts next steps final

-- an exchange of this value at port p answers the operation: that of a put is its own, a get takes any
abbrev pub Answers : Op → ℕ → Value → Type 0
Answers (Put q own) p value = (q ≡ p) × (own ≡ value)
Answers (Get q) p value = q ≡ p

-- one of the operations is of the port's way, and an exchange of this value at port p answers it
pub record IsOffered (offers : List Op) (p : ℕ) (port : Port) (value : Value) : Type 0 where
  pub operation : Op
  pub offered : Contains offers operation
  pub way : way_of operation ≡ port.way
  pub answers : Answers operation p value

-- each port that fires has an offer, which the datum there answers
abbrev pub UsesOffers : RawCircuit → List Op → Data → Type 0
UsesOffers c offers d =
    (p : ℕ) (port : Port) (value : Value) → slice_get c.ports p ≡ Some port → d p ≡ Some value → IsOffered offers p port value

-- a step of the product is possible here, by ports that all have offers, with the data that are offered at put ports
pub record IsEnabled (c : RawCircuit) (texts : List (List ℕ)) (state : State) (offers : List Op) : Type 0 where
  pub step : Step
  pub new : State
  pub possible : ProductStep c texts state step new
  pub offered : UsesOffers c offers (datum step)
