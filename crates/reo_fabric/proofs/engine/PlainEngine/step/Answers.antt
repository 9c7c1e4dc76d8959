use Rattle.std.proofs.Common.{◌≡◌, ◌<◌, Some, None, IsNone, true, false, ◌+◌, ◌++◌, set, take, drop, length, refl, sym, ap, ◌∙◌, subst}
use Rattle.std.proofs.lemmas.Bool.{false≢true}
use Rattle.std.proofs.lemmas.List.{take_at}
use Rattle.reo_fabric.specs.declared.entry.Entry.{Entry}
use Rattle.reo_fabric.specs.declared.reading.Reading.{Reading}
use Rattle.reo_fabric.specs.Entry.{State, carried_out}
use Rattle.reo_fabric.specs.Reading.{reading_of}
use Rattle.reo_fabric.specs.inside.Whole.{last_entry}
use Rattle.reo_fabric.specs.Engine.{EngineState, engine_reading, offers_of, answered, Fires}
use Rattle.reo_fabric.specs.Room.{RoomState}
use Rattle.reo_fabric.proofs.EngineLemmas.{read_back, read_anew, within_readings, within_rooms, quiet_engine, fired_engine, allowed_has_room, room_region, allowed_within, allowed_agrees, last_is, same_state}
use Rattle.reo_fabric.proofs.engine.PlainEngine.step.Goals as goal

pub invariant_of-self : goal.invariant_of-self
invariant_of-self g c =
    let v = c.self.inside in
    let region = c.args.region in
    let Allows = g.D.Decider.allows v.decider in
    let first = g.D.Decider.first_choice v.decider in
    let within : region < v.fabric.regions = subst (λ (s : EngineState g.row.D.Denot). region < s.fabric.regions) (sym c.self.view_is) c.requires.region in
    let new_is = read_anew v.fabric Allows v.cells.items v.ports.items v.readings.items v.rooms.items v.last region c.self.invariant within c.index_mut.result.now c.read_region.new.reading c.deref.result.now c.deref-2.result.now c.index_mut.ensures.value c.read_region.ensures c.deref.ensures.value c.deref-2.ensures.value in
    quiet_engine v.fabric Allows v.cells.items v.ports.items v.readings.items v.rooms.items v.last region c.self.invariant within c.read_region.new.reading new_is

pub returns-in_err-choice-clause-none : goal.returns-in_err-choice-clause-none
returns-in_err-choice-clause-none g c =
    let v = c.self.inside in
    let region = c.args.region in
    let Allows = g.D.Decider.allows v.decider in
    let first = g.D.Decider.first_choice v.decider in
    let within : region < v.fabric.regions = subst (λ (s : EngineState g.row.D.Denot). region < s.fabric.regions) (sym c.self.view_is) c.requires.region in
    let new_is = read_anew v.fabric Allows v.cells.items v.ports.items v.readings.items v.rooms.items v.last region c.self.invariant within c.index_mut.result.now c.read_region.new.reading c.deref.result.now c.deref-2.result.now c.index_mut.ensures.value c.read_region.ensures c.deref.ensures.value c.deref-2.ensures.value in
    let seen = read_back v.readings.items region c.read_region.new.reading c.index.result.now (within_readings v.fabric Allows v.cells.items v.ports.items v.readings.items v.rooms.items v.last region c.self.invariant within) c.index.ensures ∙ new_is in
    let none : IsNone c.from_residual.result = subst IsNone (sym c.from_residual.ensures) refl in
    subst
    (λ (s : EngineState g.row.D.Denot). (IsNone c.from_residual.result → g.D.Decider.first_choice s.decider region (engine_reading s region) ≡ None) × (g.D.Decider.first_choice s.decider region (engine_reading s region) ≡ None → IsNone c.from_residual.result))
    c.self.view_is (λ _. sym (c.in_err-choice.ensures ∙ ap (first region) seen), λ _. none)

pub entry_into-requires-clause-chosen : goal.entry_into-requires-clause-chosen
entry_into-requires-clause-chosen g c =
    let v = c.self.inside in
    let region = c.args.region in
    let Allows = g.D.Decider.allows v.decider in
    let first = g.D.Decider.first_choice v.decider in
    let within : region < v.fabric.regions = subst (λ (s : EngineState g.row.D.Denot). region < s.fabric.regions) (sym c.self.view_is) c.requires.region in
    let new_is = read_anew v.fabric Allows v.cells.items v.ports.items v.readings.items v.rooms.items v.last region c.self.invariant within c.index_mut.result.now c.read_region.new.reading c.deref.result.now c.deref-2.result.now c.index_mut.ensures.value c.read_region.ensures c.deref.ensures.value c.deref-2.ensures.value in
    let seen = read_back v.readings.items region c.read_region.new.reading c.index.result.now (within_readings v.fabric Allows v.cells.items v.ports.items v.readings.items v.rooms.items v.last region c.self.invariant within) c.index.ensures ∙ new_is in
    let seen_again = read_back v.readings.items region c.read_region.new.reading c.index-2.result.now (within_readings v.fabric Allows v.cells.items v.ports.items v.readings.items v.rooms.items v.last region c.self.invariant within) c.index-2.ensures ∙ new_is in
    subst (λ (r : Reading). first r.region r ≡ Some c.in_ok-choice.choice.0) (sym seen_again) (sym (c.in_ok-choice.ensures ∙ ap (first region) seen))

pub entry_into-requires-clause-region : goal.entry_into-requires-clause-region
entry_into-requires-clause-region g c =
    let v = c.self.inside in
    let region = c.args.region in
    let Allows = g.D.Decider.allows v.decider in
    let first = g.D.Decider.first_choice v.decider in
    let within : region < v.fabric.regions = subst (λ (s : EngineState g.row.D.Denot). region < s.fabric.regions) (sym c.self.view_is) c.requires.region in
    let new_is = read_anew v.fabric Allows v.cells.items v.ports.items v.readings.items v.rooms.items v.last region c.self.invariant within c.index_mut.result.now c.read_region.new.reading c.deref.result.now c.deref-2.result.now c.index_mut.ensures.value c.read_region.ensures c.deref.ensures.value c.deref-2.ensures.value in
    let seen_again = read_back v.readings.items region c.read_region.new.reading c.index-2.result.now (within_readings v.fabric Allows v.cells.items v.ports.items v.readings.items v.rooms.items v.last region c.self.invariant within) c.index-2.ensures ∙ new_is in
    room_region v.fabric Allows v.cells.items v.ports.items v.readings.items v.rooms.items v.last region c.self.invariant within c.index_mut-2.result.now c.index_mut-2.ensures.value ∙ sym (ap (λ (r : Reading). r.region) seen_again)

pub entry_into-requires-clause-room : goal.entry_into-requires-clause-room
entry_into-requires-clause-room g c =
    let v = c.self.inside in
    let region = c.args.region in
    let Allows = g.D.Decider.allows v.decider in
    let first = g.D.Decider.first_choice v.decider in
    let within : region < v.fabric.regions = subst (λ (s : EngineState g.row.D.Denot). region < s.fabric.regions) (sym c.self.view_is) c.requires.region in
    let new_is = read_anew v.fabric Allows v.cells.items v.ports.items v.readings.items v.rooms.items v.last region c.self.invariant within c.index_mut.result.now c.read_region.new.reading c.deref.result.now c.deref-2.result.now c.index_mut.ensures.value c.read_region.ensures c.deref.ensures.value c.deref-2.ensures.value in
    let seen_again = read_back v.readings.items region c.read_region.new.reading c.index-2.result.now (within_readings v.fabric Allows v.cells.items v.ports.items v.readings.items v.rooms.items v.last region c.self.invariant within) c.index-2.ensures ∙ new_is in
    λ entry allowed. allowed_has_room v.fabric Allows v.cells.items v.ports.items v.readings.items v.rooms.items v.last region c.self.invariant within c.index_mut-2.result.now c.index_mut-2.ensures.value entry (subst (λ (r : Reading). Allows r.region r entry) seen_again allowed)

pub carry_out-requires : goal.carry_out-requires
carry_out-requires g c =
    let v = c.self.inside in
    let region = c.args.region in
    let Allows = g.D.Decider.allows v.decider in
    let first = g.D.Decider.first_choice v.decider in
    let within : region < v.fabric.regions = subst (λ (s : EngineState g.row.D.Denot). region < s.fabric.regions) (sym c.self.view_is) c.requires.region in
    let new_is = read_anew v.fabric Allows v.cells.items v.ports.items v.readings.items v.rooms.items v.last region c.self.invariant within c.index_mut.result.now c.read_region.new.reading c.deref.result.now c.deref-2.result.now c.index_mut.ensures.value c.read_region.ensures c.deref.ensures.value c.deref-2.ensures.value in
    let seen_again = read_back v.readings.items region c.read_region.new.reading c.index-2.result.now (within_readings v.fabric Allows v.cells.items v.ports.items v.readings.items v.rooms.items v.last region c.self.invariant within) c.index-2.ensures ∙ new_is in
    let room = c.entry_into.new.room in
    let entry_is : c.entry.result ≡ room.entry = c.entry.ensures ∙ ap (λ (r : RoomState). r.entry) (read_back v.rooms.items region room c.index-3.result.now (within_rooms v.fabric Allows v.cells.items v.ports.items v.readings.items v.rooms.items v.last region c.self.invariant within) c.index-3.ensures) in
    let allowed = subst (λ (r : Reading). Allows r.region r room.entry) seen_again c.entry_into.ensures.allowed in
    record { within = allowed_within v.fabric Allows v.cells.items v.ports.items v.readings.items v.rooms.items v.last region c.self.invariant within c.entry.result _ _ (subst (λ (e : Entry). Allows region (reading_of v.fabric region v.cells.items (offers_of v.ports.items)) e) (sym entry_is) allowed) (ap length c.deref_mut.ensures.value) (ap length c.deref_mut-2.ensures.value) }

pub invariant_of-self-2 : goal.invariant_of-self-2
invariant_of-self-2 g c =
    let v = c.self.inside in
    let region = c.args.region in
    let Allows = g.D.Decider.allows v.decider in
    let first = g.D.Decider.first_choice v.decider in
    let within : region < v.fabric.regions = subst (λ (s : EngineState g.row.D.Denot). region < s.fabric.regions) (sym c.self.view_is) c.requires.region in
    let new_is = read_anew v.fabric Allows v.cells.items v.ports.items v.readings.items v.rooms.items v.last region c.self.invariant within c.index_mut.result.now c.read_region.new.reading c.deref.result.now c.deref-2.result.now c.index_mut.ensures.value c.read_region.ensures c.deref.ensures.value c.deref-2.ensures.value in
    let seen_again = read_back v.readings.items region c.read_region.new.reading c.index-2.result.now (within_readings v.fabric Allows v.cells.items v.ports.items v.readings.items v.rooms.items v.last region c.self.invariant within) c.index-2.ensures ∙ new_is in
    let room = c.entry_into.new.room in
    let entry_is : c.entry.result ≡ room.entry = c.entry.ensures ∙ ap (λ (r : RoomState). r.entry) (read_back v.rooms.items region room c.index-3.result.now (within_rooms v.fabric Allows v.cells.items v.ports.items v.readings.items v.rooms.items v.last region c.self.invariant within) c.index-3.ensures) in
    let allowed = subst (λ (r : Reading). Allows r.region r room.entry) seen_again c.entry_into.ensures.allowed in
    let carried : c.carry_out.new.cells ≡ carried_out v.cells.items room.entry = c.carry_out.ensures.cells ∙ (ap (λ (s : State). carried_out s c.entry.result) c.deref_mut.ensures.value ∙ ap (carried_out v.cells.items) entry_is) in
    let answers : c.carry_out.new.ports ≡ answered v.ports.items v.count room.entry = c.carry_out.ensures.ports ∙ (ap (λ s. answered s v.count c.entry.result) c.deref_mut-2.ensures.value ∙ ap (answered v.ports.items v.count) entry_is) in
    let cells_are = take_at c.carry_out.new.cells (drop (length c.carry_out.new.cells) v.cells.items) v.cells.len (c.carry_out.auto.cells ∙ c.deref_mut.ensures.len) ∙ carried in
    let ports_are = take_at c.carry_out.new.ports (drop (length c.carry_out.new.ports) v.ports.items) v.ports.len (c.carry_out.auto.ports ∙ c.deref_mut-2.ensures.len) ∙ answers in
    fired_engine v.fabric Allows v.cells.items v.ports.items v.readings.items v.rooms.items v.last region c.self.invariant within c.read_region.new.reading c.index_mut-2.result.now room _ _ v.count new_is c.index_mut-2.ensures.value c.entry_into.ensures.rewritten allowed cells_are ports_are

pub returns-clause-none : goal.returns-clause-none
returns-clause-none g c =
    let v = c.self.inside in
    let region = c.args.region in
    let Allows = g.D.Decider.allows v.decider in
    let first = g.D.Decider.first_choice v.decider in
    let within : region < v.fabric.regions = subst (λ (s : EngineState g.row.D.Denot). region < s.fabric.regions) (sym c.self.view_is) c.requires.region in
    let new_is = read_anew v.fabric Allows v.cells.items v.ports.items v.readings.items v.rooms.items v.last region c.self.invariant within c.index_mut.result.now c.read_region.new.reading c.deref.result.now c.deref-2.result.now c.index_mut.ensures.value c.read_region.ensures c.deref.ensures.value c.deref-2.ensures.value in
    let seen = read_back v.readings.items region c.read_region.new.reading c.index.result.now (within_readings v.fabric Allows v.cells.items v.ports.items v.readings.items v.rooms.items v.last region c.self.invariant within) c.index.ensures ∙ new_is in
    subst
    (λ (s : EngineState g.row.D.Denot). (true ≡ false → g.D.Decider.first_choice s.decider region (engine_reading s region) ≡ None) × (g.D.Decider.first_choice s.decider region (engine_reading s region) ≡ None → true ≡ false))
    c.self.view_is (λ t. absurd (false≢true (sym t)), λ none. let some = c.in_ok-choice.ensures ∙ ap (first region) seen in let both = some ∙ none in cc)

pub returns-clause-fires : goal.returns-clause-fires
returns-clause-fires g c =
    let v = c.self.inside in
    let region = c.args.region in
    let Allows = g.D.Decider.allows v.decider in
    let first = g.D.Decider.first_choice v.decider in
    let within : region < v.fabric.regions = subst (λ (s : EngineState g.row.D.Denot). region < s.fabric.regions) (sym c.self.view_is) c.requires.region in
    let new_is = read_anew v.fabric Allows v.cells.items v.ports.items v.readings.items v.rooms.items v.last region c.self.invariant within c.index_mut.result.now c.read_region.new.reading c.deref.result.now c.deref-2.result.now c.index_mut.ensures.value c.read_region.ensures c.deref.ensures.value c.deref-2.ensures.value in
    let seen = read_back v.readings.items region c.read_region.new.reading c.index.result.now (within_readings v.fabric Allows v.cells.items v.ports.items v.readings.items v.rooms.items v.last region c.self.invariant within) c.index.ensures ∙ new_is in
    let seen_again = read_back v.readings.items region c.read_region.new.reading c.index-2.result.now (within_readings v.fabric Allows v.cells.items v.ports.items v.readings.items v.rooms.items v.last region c.self.invariant within) c.index-2.ensures ∙ new_is in
    let room = c.entry_into.new.room in
    let entry_is : c.entry.result ≡ room.entry = c.entry.ensures ∙ ap (λ (r : RoomState). r.entry) (read_back v.rooms.items region room c.index-3.result.now (within_rooms v.fabric Allows v.cells.items v.ports.items v.readings.items v.rooms.items v.last region c.self.invariant within) c.index-3.ensures) in
    let allowed = subst (λ (r : Reading). Allows r.region r room.entry) seen_again c.entry_into.ensures.allowed in
    let carried : c.carry_out.new.cells ≡ carried_out v.cells.items room.entry = c.carry_out.ensures.cells ∙ (ap (λ (s : State). carried_out s c.entry.result) c.deref_mut.ensures.value ∙ ap (carried_out v.cells.items) entry_is) in
    let answers : c.carry_out.new.ports ≡ answered v.ports.items v.count room.entry = c.carry_out.ensures.ports ∙ (ap (λ s. answered s v.count c.entry.result) c.deref_mut-2.ensures.value ∙ ap (answered v.ports.items v.count) entry_is) in
    let cells_are = take_at c.carry_out.new.cells (drop (length c.carry_out.new.cells) v.cells.items) v.cells.len (c.carry_out.auto.cells ∙ c.deref_mut.ensures.len) ∙ carried in
    let ports_are = take_at c.carry_out.new.ports (drop (length c.carry_out.new.ports) v.ports.items) v.ports.len (c.carry_out.auto.ports ∙ c.deref_mut-2.ensures.len) ∙ answers in
    let some = c.in_ok-choice.ensures ∙ ap (first region) seen in
    let new : EngineState g.row.D.Denot = record {
      fabric = v.fabric;
      decider = v.decider;
      cells = take v.cells.len (c.carry_out.new.cells ++ drop (length c.carry_out.new.cells) v.cells.items);
      ports = take v.ports.len (c.carry_out.new.ports ++ drop (length c.carry_out.new.ports) v.ports.items);
      count = v.count + 1;
      last = last_entry (set v.rooms.items region room) (Some region);
    } in
    subst
    (λ (s : EngineState g.row.D.Denot). Fires (g.D.Decider.allows s.decider) (g.D.Decider.first_choice s.decider) region s new v.count)
    c.self.view_is (record {
      entry = room.entry;
      chosen = record { allowed = allowed; first = sym some ∙ ap Some (sym c.entry_into.ensures.chosen) };
      agrees = allowed_agrees v.fabric Allows v.cells.items v.ports.items v.readings.items v.rooms.items v.last region c.self.invariant within room.entry allowed;
      counted = refl;
      after = same_state v.fabric v.decider (v.count + 1) _ _ _ _ _ _ cells_are ports_are (last_is v.rooms.items region room (within_rooms v.fabric Allows v.cells.items v.ports.items v.readings.items v.rooms.items v.last region c.self.invariant within));
    })
