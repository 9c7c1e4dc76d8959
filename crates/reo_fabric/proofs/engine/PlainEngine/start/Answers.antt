use Rattle.std.proofs.Common.{refl, ap, ◌∙◌, map}
use Rattle.reo_fabric.specs.declared.fabric.CellSpec.{CellSpec}
use Rattle.reo_fabric.specs.declared.fabric.PortSpec.{PortSpec}
use Rattle.reo_fabric.specs.declared.port_state.PortState.TheVariants.{Idle}
use Rattle.reo_fabric.proofs.EngineLemmas.{same_state}
use Rattle.reo_fabric.proofs.engine.PlainEngine.start.Goals as goal

pub returns : goal.returns
returns g c =
    same_state c.args.fabric c.args.decider 0 _ _ _ _ _ _
    (c.in_ok-cells.ensures.first ∙ ap (map (λ (cell : CellSpec). cell.first)) c.as_slice.ensures)
    (c.in_ok-ports.ensures ∙ ap (map (λ (port : PortSpec). Idle)) c.as_slice-2.ensures) refl
