-- Words that mirror the code: ports with their regions and owners, one after the other.
use Rattle.std.specs.Prelude.{ℕ, List, map, length, slice_get, slice_index_or, Option, None}
use Rattle.std.specs.List.{range_with_len}
use Rattle.std.specs.Option.{option_map_or}
use Rattle.reo_value.specs.declared.op.Way.TheVariants.{Put}
use Rattle.reo_net.specs.declared.circuit.Port.{Port}
use Rattle.reo_fabric.specs.declared.fabric.PortSpec.{PortSpec}

abbrev pub port_spec : List Port → List ℕ → List (Option ℕ) → ℕ → PortSpec
port_spec ports regions owners p = record {
  way = option_map_or (λ port. port.way) (slice_get ports p) Put;
  region = slice_index_or regions p 0;
  owner = slice_index_or owners p None;
}

abbrev pub port_specs : List Port → List ℕ → List (Option ℕ) → List PortSpec
port_specs ports regions owners = map (port_spec ports regions owners) (range_with_len 0 (length ports))
