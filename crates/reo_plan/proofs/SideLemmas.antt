-- What is written on a side, place by place.
use Rattle.std.proofs.Common.{◌≡◌, ℕ, ◌+◌, ◌≤◌, List, [], ◌∷◌, ◌++◌, length, take, drop, slice_get, Option, Some, None, append_assoc, length-append, take-append-drop, refl, sym, ap, ◌∙◌, subst, arith}
use Rattle.std.specs.List.{cons_option}
use Rattle.std.specs.Option.{option_map}
use Rattle.std.proofs.lemmas.List.{append-nil}
use Rattle.std.proofs.lemmas.List.Elements.{filter_map-append}
use Rattle.reo_value.specs.declared.value.Value.{Value}
use Rattle.reo_fabric.specs.Room.{RoomState}
use Rattle.reo_plan.specs.declared.write.Side.{Side}
use Rattle.reo_plan.specs.declared.write.Side.TheVariants.{Take, Fill, Put, Get}
use Rattle.reo_plan.specs.inside.Rows.{values_at}
use Rattle.reo_plan.specs.inside.Sides.{added, used, most, one_place}
use Rattle.reo_plan.proofs.PlaceSlotLemmas.{take_more}

pub added_none : (room : RoomState) (side : Side) → room ≡ added room side []
added_none room Take = λ i. record room { entry = record room.entry { takes = sym (append-nil room.entry.takes) i } }
added_none room Fill = λ i. record room { entry = record room.entry { fills = sym (append-nil room.entry.fills) i } }
added_none room Put = λ i. record room { entry = record room.entry { puts = sym (append-nil room.entry.puts) i } }
added_none room Get = λ i. record room { entry = record room.entry { gets = sym (append-nil room.entry.gets) i } }

pub added_on : (room : RoomState) (side : Side) (xs ys : List (ℕ × Value)) → added (added room side xs) side ys ≡ added room side (xs ++ ys)
added_on room Take xs ys = λ i. record room { entry = record room.entry { takes = append_assoc room.entry.takes xs ys i } }
added_on room Fill xs ys = λ i. record room { entry = record room.entry { fills = append_assoc room.entry.fills xs ys i } }
added_on room Put xs ys = λ i. record room { entry = record room.entry { puts = append_assoc room.entry.puts xs ys i } }
added_on room Get xs ys = λ i. record room { entry = record room.entry { gets = append_assoc room.entry.gets xs ys i } }

used_added : (room : RoomState) (side : Side) (xs : List (ℕ × Value)) → used (added room side xs) side ≡ used room side + length xs
used_added room Take xs = length-append room.entry.takes xs
used_added room Fill xs = length-append room.entry.fills xs
used_added room Put xs = length-append room.entry.puts xs
used_added room Get xs = length-append room.entry.gets xs

most_added : (room : RoomState) (side : Side) (xs : List (ℕ × Value)) → most (added room side xs) side ≡ most room side
most_added room Take xs = refl
most_added room Fill xs = refl
most_added room Put xs = refl
most_added room Get xs = refl

one_more : (place : ℕ) (o : Option Value) → cons_option (option_map (λ v. (place, v)) o) [] ≡ one_place place o
one_more place None = refl
one_more place (Some v) = refl

module _ (value : ℕ → Option Value) (places : List (ℕ × ℕ)) (i : ℕ) (p : ℕ × ℕ) (found : slice_get places i ≡ Some p) where
  pub values_more : values_at value (take (i + 1) places) ≡ values_at value (take i places) ++ one_place p.0 (value p.1)
  values_more =
      ap (values_at value) (take_more places i p found) ∙ filter_map-append (λ q. option_map (λ v. (q.0, v)) (value q.1)) (take i places) (p ∷ [])
      ∙ ap (λ l. values_at value (take i places) ++ l) (one_more p.0 (value p.1))

  few_values : length (values_at value (take (i + 1) places)) ≤ length (values_at value places)
  few_values =
      let split = ap (values_at value) (sym (take-append-drop (i + 1) places)) ∙ filter_map-append (λ q. option_map (λ v. (q.0, v)) (value q.1)) (take (i + 1) places) (drop (i + 1) places) in
      omega (arith, ap length split, length-append (values_at value (take (i + 1) places)) (values_at value (drop (i + 1) places)))

  -- there is room for one place more
  pub room_for_one : (first room : RoomState) (side : Side) → room ≡ added first side (values_at value (take i places)) → used first side + length (values_at value places) ≤ most first side
      → used room side + length (one_place p.0 (value p.1)) ≤ most room side
  room_for_one first room side is all =
      subst (λ r. used r side + length (one_place p.0 (value p.1)) ≤ most r side) (sym is)
      (omega (arith, all, few_values, ap length values_more, length-append (values_at value (take i places)) (one_place p.0 (value p.1)), used_added first side (values_at value (take i places)), most_added first side (values_at value (take i places))))

  pub written_one : (first room next : RoomState) (side : Side) → room ≡ added first side (values_at value (take i places)) → next ≡ added room side (one_place p.0 (value p.1)) → next ≡ added first side (values_at value (take (i + 1) places))
  written_one first room next side is then_is =
      then_is ∙ ap (λ r. added r side (one_place p.0 (value p.1))) is ∙ added_on first side (values_at value (take i places)) (one_place p.0 (value p.1)) ∙ ap (added first side) (sym values_more)
