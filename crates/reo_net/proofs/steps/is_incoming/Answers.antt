use Rattle.std.proofs.Common.{◌≡◌, ◌↔◌, true, Option, Some, IsTrue, subst}
use Rattle.reo_net.specs.declared.stand.Stand.{Stand}
use Rattle.reo_net.proofs.StandLemmas.{incoming_stands}
use Rattle.reo_net.proofs.steps.is_incoming.Goals as goal

pub returns : goal.returns
returns c =
    let net = c.args.net.now in
    let at = incoming_stands net c.args.node c.args.name in
    let is = subst (λ (found : Option Stand). IsTrue c.stands_so.result ↔ (found ≡ Some (record { node = c.args.node; incoming = true }))) c.stand_of.ensures c.stands_so.ensures in
    (λ t. at.0 (is.0 t), λ i. is.1 (at.1 i))
