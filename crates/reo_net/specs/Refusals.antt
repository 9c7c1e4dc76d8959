-- Why a circuit is refused.
use Rattle.std.specs.Prelude.{◌≡◌, length, Some, None}
use Rattle.reo_net.specs.declared.circuit.RawCircuit.{RawCircuit}
use Rattle.reo_net.specs.declared.net.CheckRefusal.{CheckRefusal}
use Rattle.reo_net.specs.declared.net.CheckRefusal.TheVariants.{TooManyChannels, TooManyPorts, PortTwice, MixedPort, SyncLoop, NoMemory}
use Rattle.reo_graph.specs.Paths.{IsLeast}
use Rattle.reo_net.specs.Checks.{HasManyChannels, HasManyPorts, HasTwoPorts, IsMixed}
use Rattle.reo_net.specs.Loops.{IsOnLoop}

-- The refusal is that of the first test that the circuit fails. `NoMemory` says nothing of the circuit.
abbrev pub Refuses : RawCircuit → CheckRefusal → Type 0
Refuses c (TooManyChannels count) = HasManyChannels c × (count ≡ length c.channels)
Refuses c (TooManyPorts count) = ¬ HasManyChannels c × HasManyPorts c × (count ≡ length c.ports)
Refuses c (PortTwice node) = ¬ HasManyChannels c × ¬ HasManyPorts c × IsLeast (HasTwoPorts c) (Some node)
Refuses c (MixedPort node) = ¬ HasManyChannels c × ¬ HasManyPorts c × IsLeast (HasTwoPorts c) None × IsLeast (IsMixed c) (Some node)
Refuses c (SyncLoop node) =
    ¬ HasManyChannels c × ¬ HasManyPorts c × IsLeast (HasTwoPorts c) None × IsLeast (IsMixed c) None × IsLeast (IsOnLoop c) (Some node)
Refuses c NoMemory = Unit {0}
