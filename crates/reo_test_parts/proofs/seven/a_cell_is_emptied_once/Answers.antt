use Rattle.std.proofs.Common.{◌≡◌, IfOk, sym, subst}
use Rattle.reo_fabric.specs.declared.fabric.Fabric.{Fabric}
use Rattle.reo_fabric.specs.Decider.{Fits}
use Rattle.reo_test_parts.specs.Seven.{SevenAllows, one_cell}
use Rattle.reo_test_parts.proofs.SevenLemmas.{seven_fits}
use Rattle.reo_test_parts.proofs.seven.a_cell_is_emptied_once.Goals as goal

pub start-requires-clause-fits : goal.start-requires-clause-fits
start-requires-clause-fits g c =
    let is : c.expect-fabric.result ≡ one_cell = subst (λ r. IfOk r (λ (fabric : Fabric). fabric ≡ one_cell)) c.expect-fabric.ensures c.one_cell_fabric.ensures in
    subst (λ (fabric : Fabric). Fits fabric SevenAllows) (sym is) seven_fits
