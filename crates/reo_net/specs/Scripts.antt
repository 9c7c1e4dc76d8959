-- When scripts fit a circuit.
use Rattle.std.specs.Prelude.{◌≡◌, ℕ, List, slice_get, Some}
use Rattle.reo_value.specs.declared.op.Op.{Op}
use Rattle.reo_value.specs.Op.{port_of, way_of}
use Rattle.reo_net.specs.declared.circuit.RawCircuit.{RawCircuit}

-- the operation stands in the script of component k
pub record IsOperationOf (scripts : List (List Op)) (k : ℕ) (o : Op) : Type 0 where
  pub script : List Op
  pub found : slice_get scripts k ≡ Some script
  pub place : ℕ
  pub at : slice_get script place ≡ Some o

-- the scripts fit the circuit
pub record ScriptsFit (c : RawCircuit) (scripts : List (List Op)) : Type 0 where
  -- each operation is at a port of the circuit, of its way
  pub ported : (k : ℕ) (o : Op) → IsOperationOf scripts k o → (node : ℕ) × (slice_get c.ports (port_of o) ≡ Some (record { node = node; way = way_of o }))
  -- one component alone uses a port
  pub unshared : (j k : ℕ) (o q : Op) → IsOperationOf scripts j o → IsOperationOf scripts k q → port_of o ≡ port_of q → j ≡ k
