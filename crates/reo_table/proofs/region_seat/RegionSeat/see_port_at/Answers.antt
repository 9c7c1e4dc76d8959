use Rattle.std.proofs.Common.{◌≡◌, ◌<◌, ◌+◌, ℕ, length, Some, None, sym, ap, ◌∙◌, subst, arith}
use Rattle.atomic_table.specs.Table.{Allows}
use Rattle.reo_coupling.specs.Moment.{state_place}
use Rattle.reo_coupling.specs.PortParts.{OwesNothing, IsPortOf}
use Rattle.reo_coupling.proofs.PortFrames.{port_within}
use Rattle.reo_table.specs.Plays.{setting_of, region_of, PortSeen}
use Rattle.reo_table.proofs.Kept.{Rule, allows_see_port}
use Rattle.reo_table.specs.Shared.{SeatState, WordsState}
use Rattle.reo_table.proofs.region_seat.RegionSeat.see_port_at.Goals as goal

pub load-word-requires : goal.load-word-requires
load-word-requires g c =
    let same : c.self.inside.seat.table_id ≡ c.words.inside.table.shared.table_id = ap (λ (z : SeatState). z.id) c.self.view_is ∙ (c.requires.own ∙ sym (ap (λ (z : WordsState). z.id) c.words.view_is)) in
    let quiet : OwesNothing (region_of c.self.inside.seat.me.0) = subst (λ (z : SeatState). OwesNothing z.view) (sym c.self.view_is) c.requires.quiet in
    let own : IsPortOf (setting_of c.words.inside.table.shared.key).fabric (region_of c.self.inside.seat.me.0).cells.region c.args.port =
    subst (λ (z : WordsState). IsPortOf z.setting.fabric (region_of c.self.inside.seat.me.0).cells.region c.args.port) (sym c.words.view_is)
    (subst (λ (z : SeatState). IsPortOf c.args.words.now.setting.fabric z.view.cells.region c.args.port) (sym c.self.view_is) c.requires.port) in
    let place : c.state_index-place.result ≡ state_place (setting_of c.words.inside.table.shared.key).fabric c.args.port =
    c.state_index-place.ensures ∙ ap (λ (z : WordsState). state_place z.setting.fabric c.args.port) (sym c.words.view_is) in (
      same,
      omega (arith, c.words.invariant.words, place, port_within (setting_of c.words.inside.table.shared.key).fabric (region_of c.self.inside.seat.me.0).cells.region c.args.port own),
      subst (λ (i : ℕ). Allows (Rule (setting_of c.words.inside.table.shared.key)) c.words.inside.table.shared.table_id.slots c.self.inside.seat.id c.self.inside.seat.me i (λ n. n) (PortSeen g.P.Place.place i c.self.inside.seat.me)) (sym place)
          (subst (λ (k : ℕ). Allows (Rule (setting_of c.words.inside.table.shared.key)) c.words.inside.table.shared.table_id.slots c.self.inside.seat.id c.self.inside.seat.me (state_place (setting_of c.words.inside.table.shared.key).fabric c.args.port) (λ n. n) (PortSeen k (state_place (setting_of c.words.inside.table.shared.key).fabric c.args.port) c.self.inside.seat.me)) (sym c.requires.place)
          (allows_see_port (setting_of c.words.inside.table.shared.key) c.words.inside.table.shared.table_id.slots c.self.inside.seat.id c.self.inside.seat.me c.self.invariant.view c.self.invariant.no_slot c.args.port own quiet)),
    )
