use Rattle.std.proofs.Common.{◌≡◌, ◌+◌, ◌-◌, ◌<◌, length, refl, arith}
use Rattle.reo_document.specs.Builder.{operation_at}
use Rattle.reo_document.proofs.ReadLemmas.{OnOk-same}
use Rattle.reo_document.proofs.BuilderLemmas.{less_room}
use Rattle.reo_document.proofs.OwnerLemmas.{owners_claimed, port_of-operation_at}
use Rattle.reo_document.proofs.builder.Builder.add_operation.Goals as goal

pub returns-clause-scripts : goal.returns-clause-scripts
returns-clause-scripts c =
    let scripts = c.args.self.now.scripts.items in
    let some : 0 < length c.args.self.now.scripts.items = grind arith in
    let is : c.len-last.result - 1 + 1 ≡ length c.args.self.now.scripts.items = omega (arith, c.len-last.ensures, c.args.self.now.scripts.ok, some) in
    let place : c.len-last.result - 1 ≡ length c.args.self.now.scripts.items - 1 = omega (arith, is) in
    OnOk-same c.claim.result c.claim.result refl
    (λ claims. record {
      first = owners_claimed scripts c.push_last.new.scripts.items c.args.self.now.owners.items c.claim.new.owners.items (operation_at c.number_at-port.result c.args.value) c.number_at-port.result (c.len-last.result - 1)
          (port_of-operation_at c.number_at-port.result c.args.value) is place c.in_ok-push_last.ensures claims c.requires.scripts.first;
      left = less_room scripts c.push_last.new.scripts.items (operation_at c.number_at-port.result c.args.value) c.args.self.now.room _ (c.len-last.result - 1) is place c.in_ok-push_last.ensures c.saturating_sub-self.ensures c.requires.scripts.left;
    })
    c.claim.ensures
