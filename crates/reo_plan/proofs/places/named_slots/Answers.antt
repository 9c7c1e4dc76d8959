use Rattle.std.proofs.Common.{[], ◌++◌, take, get_or, Some, ap, sym, ◌∙◌, arith}
use Rattle.std.specs.List.{cons_option}
use Rattle.std.specs.Option.{option_map}
use Rattle.std.proofs.lemmas.Option.{slice_get-get_or}
use Rattle.reo_plan.specs.inside.Placed.{slot_at_place}
use Rattle.reo_plan.specs.inside.Rows.{slot_in, named_slots}
use Rattle.reo_plan.proofs.NamePlaceLemmas.{mapped_more}
use Rattle.reo_plan.proofs.places.named_slots.Goals as goal

pub loop-name-preserved : goal.loop-name-preserved
loop-name-preserved c =
    let table = c.args.table.now in
    let names = c.args.names.now in
    let n = c.loop-name.name-index in
    let name = get_or names n 0 in
    c.in_ok-add_place.ensures ∙ ap (λ l. l ++ cons_option (slot_at_place (Some name) c.slot_in.result) []) c.loop-name.invariant
    ∙ ap (λ s. named_slots table (take n names) ++ cons_option (slot_at_place (Some name) s) []) c.slot_in.ensures
    ∙ sym (mapped_more (λ m. option_map (λ slot. (m, slot)) (slot_in table m)) names n name (slice_get-get_or names n 0 (omega arith)))
