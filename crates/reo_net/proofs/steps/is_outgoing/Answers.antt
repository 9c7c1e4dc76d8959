use Rattle.std.proofs.Common.{◌≡◌, ◌↔◌, false, Option, Some, IsTrue, subst}
use Rattle.reo_net.specs.declared.stand.Stand.{Stand}
use Rattle.reo_net.proofs.StandLemmas.{outgoing_stands}
use Rattle.reo_net.proofs.steps.is_outgoing.Goals as goal

pub returns : goal.returns
returns c =
    let net = c.args.net.now in
    let at = outgoing_stands net c.args.node c.args.name in
    let is = subst (λ (found : Option Stand). IsTrue c.stands_so.result ↔ (found ≡ Some (record { node = c.args.node; incoming = false }))) c.stand_of.ensures c.stands_so.ensures in
    (λ t. at.0 (is.0 t), λ i. is.1 (at.1 i))
