use Rattle.std.proofs.Common.{◌≡◌, ◌+◌, ◌*◌, ◌<◌, length, take, get_or, set, Some, length-set, ap, sym, ◌∙◌, subst, arith}
use Rattle.std.proofs.lemmas.Option.{slice_get-get_or}
use Rattle.reo_plan.specs.inside.Slots.{HasFlow}
use Rattle.reo_plan.specs.inside.Givers.{giver_in}
use Rattle.reo_plan.specs.inside.Rows.{HasSlots}
use Rattle.reo_plan.proofs.PlaceSlotLemmas.{take_more}
use Rattle.reo_plan.proofs.TableLemmas.{more_slots}
use Rattle.reo_plan.proofs.places.fill_slots.Goals as goal

pub loop-name-preserved : goal.loop-name-preserved
loop-name-preserved c =
    let net = c.args.net.now in
    let names = c.args.names.now in
    let n = c.loop-name.name-index in
    let within : n < length names = omega arith in
    let name = get_or names n 0 in
    let table = c.loop-name.table.items in
    let slot = c.in_ok-slot.slot in
    let below : name < length table = subst (λ k. name < k) (sym c.loop-name.invariant.sized) (c.requires.names n 0 within) in
    let fuel : 2 * c.nodes.result + 2 ≡ 2 * net.nodes + 2 = ap (λ k. 2 * k + 2) c.nodes.ensures.nodes in
    let flows = subst (λ k. HasFlow net (giver_in c.args.givers.now) k name c.slot_of.new.slots slot) fuel (c.in_ok-slot.ensures.flow net) in
    record {
      sized = let e : length (set table name (Some slot)) ≡ length table = simp length-set in e ∙ c.loop-name.invariant.sized;
      slots = subst (λ done. HasSlots net names done c.slot_of.new.slots (set table name (Some slot))) (sym (take_more names n name (slice_get-get_or names n 0 within)))
          (more_slots net names (take n names) c.loop-name.slots c.slot_of.new.slots table (giver_in c.args.givers.now) name slot c.requires.givers below c.loop-name.invariant.slots c.in_ok-slot.ensures.more flows);
    }
