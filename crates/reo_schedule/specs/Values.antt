-- Values of the program: integers in range and numbers of texts.
use Rattle.std.specs.Prelude.{ℕ, List, length, All, IfSome, ◌≤◌}
use Rattle.reo_value.specs.declared.op.Op.{Op}
use Rattle.reo_value.specs.Code.{IsValue}
use Rattle.reo_guard.specs.declared.fun.Fun.{Fun}
use Rattle.reo_guard.specs.declared.fun.Fun.TheVariants.{Add, Sub, Mul, Neg, Len, Map}
use Rattle.reo_net.specs.declared.kind.Kind.{Kind}
use Rattle.reo_net.specs.declared.kind.Kind.TheVariants.{Sync, Lossy, Drain, Fifo, Filter, Transform}
use Rattle.reo_net.specs.declared.circuit.RawCircuit.{RawCircuit}
use Rattle.reo_schedule.specs.Offers.{offered_by}

-- what a function maps data to
abbrev pub HasMappedValues : Fun → Type 0
HasMappedValues (Add k) = Unit {0}
HasMappedValues (Sub k) = Unit {0}
HasMappedValues (Mul k) = Unit {0}
HasMappedValues Neg = Unit {0}
HasMappedValues Len = Unit {0}
HasMappedValues (Map pairs) = All (λ pair. IsValue pair.1) pairs

-- what comes out of a channel of this kind without having gone in
abbrev pub HasValues : Kind → Type 0
HasValues Sync = Unit {0}
HasValues Lossy = Unit {0}
HasValues Drain = Unit {0}
HasValues (Fifo first) = IfSome first IsValue
HasValues (Filter guard) = Unit {0}
HasValues (Transform fun) = HasMappedValues fun

-- all data that a circuit brings in are values, and its texts are short
pub record BringsValues (c : RawCircuit) (texts : List (List ℕ)) : Type 0 where
  pub channels : All (λ channel. HasValues channel.kind) c.channels
  pub short : All (λ text. length text ≤ 255) texts

-- what the operations put are values
abbrev pub PutValues : List Op → Type 0
PutValues ops = All (λ op. IfSome (offered_by op) IsValue) ops
