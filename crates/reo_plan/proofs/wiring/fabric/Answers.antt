use Rattle.std.proofs.Common.{map, ap, ◌∙◌}
use Rattle.reo_plan.specs.Fabric.{cell_spec}
use Rattle.reo_plan.specs.inside.Ports.{port_specs}
use Rattle.reo_plan.proofs.FabricLaw.{lawful, fabric_is}
use Rattle.reo_plan.proofs.wiring.fabric.Goals as goal

pub returns-clause-lawful : goal.returns-clause-lawful
returns-clause-lawful c =
    let ports = c.in_ok-port_specs.ensures ∙ ap (λ ports. port_specs ports c.as_slice-2.result.now c.args.owners.now) c.ports-ports.ensures.ports
    ∙ ap (λ regions. port_specs c.args.net.now.ports regions c.args.owners.now) c.as_slice-2.ensures in
    let cells = c.in_ok-cell_specs.ensures ∙ ap (λ cells. map (cell_spec c.args.net.now) cells) c.as_slice.ensures in
    lawful c.args.net.now c.ports-ports.ensures.checked c.args.cut.now c.requires.cut c.args.owners.now c.args.parties c.requires.owners c.requires.parties c.requires.few
    _ (λ i. record { regions = c.args.cut.now.regions; parties = c.args.parties; cells = cells i; ports = ports i })

pub returns-clause-fabric : goal.returns-clause-fabric
returns-clause-fabric c =
    let ports = c.in_ok-port_specs.ensures ∙ ap (λ ports. port_specs ports c.as_slice-2.result.now c.args.owners.now) c.ports-ports.ensures.ports
    ∙ ap (λ regions. port_specs c.args.net.now.ports regions c.args.owners.now) c.as_slice-2.ensures in
    let cells = c.in_ok-cell_specs.ensures ∙ ap (λ cells. map (cell_spec c.args.net.now) cells) c.as_slice.ensures in
    fabric_is c.args.net.now c.ports-ports.ensures.checked c.args.cut.now c.requires.cut c.args.owners.now c.args.parties c.requires.owners c.requires.parties c.requires.few
    _ (λ i. record { regions = c.args.cut.now.regions; parties = c.args.parties; cells = cells i; ports = ports i })
