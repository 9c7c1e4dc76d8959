use Rattle.std.proofs.Common.{◌≡◌, refl, ap, ◌∙◌, arith}
use Rattle.reo_fabric.specs.declared.fabric.Fabric.{Fabric}
use Rattle.reo_table.specs.Shared.{RootState}
use Rattle.reo_test_parts.specs.Ring.{ring}
use Rattle.reo_test_parts.proofs.RingLemmas.{fresh_can_pass}
use Rattle.reo_test_parts.proofs.words.open_ring.Goals as goal

pub returns : goal.returns
returns c =
    let made = c.in_ok-words.ensures in
    let setting : c.in_ok-words.words.setting ≡ record { fabric = ring; limit = c.args.limit } = made.setting ∙ ap (λ (f : Fabric). record { fabric = f; limit = c.args.limit }) c.in_ok-fabric.ensures in
    record {
      zero_can = fresh_can_pass c.in_ok-words.words c.region_seat-zero.result c.in_ok-words.root c.args.limit 0 1 0 setting c.region_seat-zero.ensures.seat made.same (record { spec = _; found = refl; taker = refl })
          (record { spec = _; found = refl; filler = refl }) (λ is. omega arith);
      one_can = fresh_can_pass c.in_ok-words.words c.region_seat-one.result c.region_seat-zero.new.self c.args.limit 1 0 1 setting c.region_seat-one.ensures.seat (ap (λ (r : RootState). r.id) c.region_seat-zero.ensures.root ∙ made.same)
          (record { spec = _; found = refl; taker = refl }) (record { spec = _; found = refl; filler = refl }) (λ is. omega arith);
    }
