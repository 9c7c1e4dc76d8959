use Rattle.std.proofs.Common.{ap, sym, ◌∙◌, ◌++◌, ◌∷◌, [], List, None}
use Rattle.std.proofs.lemmas.List.{map_more}
use Rattle.reo_value.specs.declared.op.Way.TheVariants.{Put}
use Rattle.reo_fabric.specs.declared.port_state.PortState.{PortState}
use Rattle.reo_fabric.specs.declared.port_state.PortState.TheVariants.{Idle}
use Rattle.reo_fabric.specs.declared.fabric.PortSpec.{PortSpec}
use Rattle.reo_fabric.proofs.engine.idle_ports.Goals as goal

pub loop-port-preserved : goal.loop-port-preserved
loop-port-preserved c =
    let d : PortSpec = record { way = Put; region = 0; owner = None } in
    c.in_ok-extend_from_slice.ensures.items ∙ (ap (λ (states : List PortState). states ++ Idle ∷ []) c.loop-port.invariant ∙ sym (map_more (λ (port : PortSpec). Idle) c.args.ports.now c.loop-port._port-index d c.loop-port-test.true))
