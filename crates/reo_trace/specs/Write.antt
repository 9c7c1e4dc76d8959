-- What is told of a text that was not written whole.
use Rattle.std.specs.Prelude.{ℕ, Result, Ok, Err}
use Rattle.reo_trace.specs.declared.write.WriteRefusal.{WriteRefusal}
use Rattle.reo_trace.specs.declared.write.WriteRefusal.TheVariants.{Fault, NoMemory}

-- a fact of the bytes written at a fault
abbrev pub IfFault : {T : Type 0} → Result T WriteRefusal → (ℕ → Type 0) → Type 0
IfFault (Ok done) P = Unit {0}
IfFault (Err (Fault written)) P = P written
IfFault (Err NoMemory) P = Unit {0}
