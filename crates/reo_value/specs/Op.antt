-- What an operation says.
use Rattle.std.specs.Prelude.{ℕ}
use Rattle.reo_value.specs.declared.op.Op.{Op}
use Rattle.reo_value.specs.declared.op.Op.TheVariants as op
use Rattle.reo_value.specs.declared.op.Way.{Way}
use Rattle.reo_value.specs.declared.op.Way.TheVariants.{Put, Get}

-- the port of an operation
abbrev pub port_of : Op → ℕ
port_of (op.Put port value) = port
port_of (op.Get port) = port

-- which way an operation goes
abbrev pub way_of : Op → Way
way_of (op.Put port value) = Put
way_of (op.Get port) = Get
