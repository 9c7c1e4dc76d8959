use Rattle.std.proofs.Common.{[], ◌++◌, take, get_or, ap, sym, ◌∙◌, arith}
use Rattle.std.specs.List.{cons_option}
use Rattle.std.proofs.lemmas.Option.{slice_get-get_or}
use Rattle.reo_plan.specs.inside.Placed.{port_at, slot_at_place, placed_slots}
use Rattle.reo_plan.specs.inside.Rows.{slot_in}
use Rattle.reo_plan.proofs.NamePlaceLemmas.{mapped_more}
use Rattle.reo_plan.proofs.places.port_slots.Goals as goal

pub loop-name-preserved : goal.loop-name-preserved
loop-name-preserved c =
    let place = port_at c.args.net.now c.args.puts in
    let table = c.args.table.now in
    let names = c.args.names.now in
    let n = c.loop-name.name-index in
    let name = get_or names n 0 in
    c.in_ok-add_place.ensures ∙ ap (λ l. l ++ cons_option (slot_at_place c.port_at-port.result c.slot_in.result) []) c.loop-name.invariant
    ∙ ap (λ p. placed_slots place table (take n names) ++ cons_option (slot_at_place p c.slot_in.result) []) c.port_at-port.ensures
    ∙ ap (λ s. placed_slots place table (take n names) ++ cons_option (slot_at_place (place name) s) []) c.slot_in.ensures
    ∙ sym (mapped_more (λ m. slot_at_place (place m) (slot_in table m)) names n name (slice_get-get_or names n 0 (omega arith)))
