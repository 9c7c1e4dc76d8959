-- The step of an entry.
use Rattle.std.specs.Prelude.{◌≡◌, ℕ, ◌<◌, ◌⊎◌, List, map, slice_get, All, Some, None, false}
use Rattle.reo_value.specs.Code.{IsValue}
use Rattle.reo_net.specs.declared.circuit.Channel.{Channel}
use Rattle.reo_net.specs.declared.circuit.RawCircuit.{RawCircuit}
use Rattle.reo_net.specs.declared.circuit.Step.{Step}
use Rattle.reo_net.specs.Kind.{is_fifo, Passes}
use Rattle.reo_net.specs.Names.{end_a, end_b}
use Rattle.reo_net.specs.Steps.{Data, datum, NodeAllows}
use Rattle.reo_fabric.specs.declared.entry.Entry.{Entry}
use Rattle.reo_flow.specs.Places.{entry_of}

-- no end of channel k fires
pub record IsPast (c : RawCircuit) (k : ℕ) (d : Data) : Type 0 where
  pub no_a : d (end_a c k) ≡ None
  pub no_b : d (end_b c k) ≡ None

-- The data at the names of each node, and at those of each channel that is no FIFO1, are those of one of its transitions, or
-- there are none.
pub record MeetLinks (c : RawCircuit) (texts : List (List ℕ)) (d : Data) : Type 0 where
  pub channels : (k : ℕ) (channel : Channel) → slice_get c.channels k ≡ Some channel → is_fifo channel.kind ≡ false
      → IsPast c k d ⊎ Passes texts channel.kind (d (end_a c k)) (d (end_b c k))
  pub nodes : (node : ℕ) → node < c.nodes → NodeAllows c node d

-- The step fires these names, the entry has its data at the places of cells and ports, and the data meet what channels and
-- nodes ask.
pub record IsStepOf (c : RawCircuit) (texts : List (List ℕ)) (names : List ℕ) (entry : Entry) (step : Step) : Type 0 where
  pub named : map (λ p. p.0) step.pairs ≡ names
  pub values : All (λ p. IsValue p.1) step.pairs
  pub stands : entry ≡ entry_of c entry.region entry.choice (datum step)
  pub meets : MeetLinks c texts (datum step)
