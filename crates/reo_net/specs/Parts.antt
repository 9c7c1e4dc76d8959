-- Tests on the parts of a step: what the plain programs ask one after the other.
use Rattle.std.specs.Prelude.{◌≡◌, ℕ, Option, IsTrue}
use Rattle.reo_value.specs.declared.value.Value.{Value}
use Rattle.reo_net.specs.declared.circuit.RawCircuit.{RawCircuit}
use Rattle.reo_net.specs.Names.{IsIncoming, IsOutgoing}
use Rattle.reo_net.specs.Steps.{Data, fires_in}

-- no other incoming name of the node than the input fires
abbrev pub IsAlone : RawCircuit → ℕ → Data → ℕ → Type 0
IsAlone c node d input = (name : ℕ) → IsIncoming c node name → IsTrue (fires_in d name) → name ≡ input

-- there is this datum at each outgoing name of the node
abbrev pub AllGet : RawCircuit → ℕ → Data → Option Value → Type 0
AllGet c node d wanted = (name : ℕ) → IsOutgoing c node name → d name ≡ wanted

-- an incoming name of the node that fires
pub record IsInput (c : RawCircuit) (node : ℕ) (d : Data) (name : ℕ) : Type 0 where
  pub incoming : IsIncoming c node name
  pub fires : IsTrue (fires_in d name)
