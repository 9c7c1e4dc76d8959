-- Where data come from: by slots, or by names.
use Rattle.std.specs.Prelude.{◌≡◌, ℕ, map}
use Rattle.reo_flow.specs.declared.giver.Giver.{Giver}
use Rattle.reo_flow.specs.Flow.{giver_of}
use Rattle.reo_plan.specs.declared.slots.Givers.{Givers}
use Rattle.reo_plan.specs.declared.slots.Givers.TheVariants.{Slots, Names}
use Rattle.reo_plan.specs.inside.Slots.{slot_at}
use Rattle.reo_plan.specs.inside.Cells.{cell_numbers, incoming_of}

abbrev pub giver_in : Givers → ℕ → Giver
giver_in (Slots slots) = slot_at slots.now
giver_in (Names net cells names incoming known places) = giver_of net.now names.now

-- the lists beside a circuit and names are those of the circuit and the names
abbrev pub AreTold : Givers → Type 0
AreTold (Slots slots) = Unit {0}
AreTold (Names net cells names incoming known places) = (cells.now ≡ cell_numbers net.now) × (incoming.now ≡ incoming_of net.now names.now) × (known.now ≡ map (giver_of net.now names.now) names.now)
