use Rattle.std.proofs.Common.{◌∷◌, [], ◌++◌, map, sym, ap, ◌∙◌}
use Rattle.std.specs.List.{range_with_len}
use Rattle.reo_cut.proofs.CountLemmas.{map_range_more}
use Rattle.reo_plan.specs.inside.Ports.{port_spec}
use Rattle.reo_plan.proofs.wiring.port_specs.Goals as goal

pub loop-port-preserved : goal.loop-port-preserved
loop-port-preserved c =
    let f = port_spec c.args.ports.now c.args.regions.now c.args.owners.now in
    let n = c.loop-port.port in
    c.in_ok-push.ensures.items ∙ (ap (λ l. l ++ c.port_spec.result ∷ []) c.loop-port.invariant ∙ (ap (λ r. map f (range_with_len 0 n) ++ r ∷ []) c.port_spec.ensures ∙ sym (map_range_more f n)))
