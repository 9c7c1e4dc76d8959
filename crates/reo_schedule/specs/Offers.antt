-- What operations offer at ports.
use Rattle.std.specs.Prelude.{◌≡◌, ℕ, List, [], ◌∷◌, map, nat_eq, if◌then◌else◌, Contains, Option, Some, None}
use Rattle.std.specs.List.{range_with_len}
use Rattle.reo_value.specs.declared.value.Value.{Value}
use Rattle.reo_value.specs.declared.op.Op.{Op}
use Rattle.reo_value.specs.declared.op.Op.TheVariants.{Put, Get}
use Rattle.reo_value.specs.Op.{port_of}
use Rattle.reo_fabric.specs.Reading.{Offers, offer_at}

-- a put offers its datum at its port, a get none
abbrev pub offered_by : Op → Option Value
offered_by (Put port value) = Some value
offered_by (Get port) = None

-- what the first of the operations at this port offers there
abbrev pub offer_in : List Op → ℕ → Option (Option Value)
offer_in [] port = None
offer_in (op ∷ ops) port = if nat_eq (port_of op) port then Some (offered_by op) else offer_in ops port

-- what they offer at the first ports, so many
abbrev pub offers_in : List Op → ℕ → Offers
offers_in ops ports = map (offer_in ops) (range_with_len 0 ports)

-- each of the operations is offered
abbrev pub AreOffered : List Op → Offers → Type 0
AreOffered ops offers = (op : Op) → Contains ops op → offer_at offers (port_of op) ≡ Some (offered_by op)
