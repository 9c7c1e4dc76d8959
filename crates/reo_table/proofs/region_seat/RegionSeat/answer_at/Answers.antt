use Rattle.std.proofs.Common.{◌≡◌, ◌<◌, ◌+◌, ℕ, length, Some, None, sym, ap, ◌∙◌, subst, arith}
use Rattle.atomic_table.specs.Table.{Allows}
use Rattle.reo_fabric.specs.Entry.{at_place}
use Rattle.reo_coupling.specs.Moment.{state_place}
use Rattle.reo_table.specs.Plays.{setting_of, region_of, PortAnswered}
use Rattle.reo_table.proofs.Kept.{Rule, allows_answer}
use Rattle.reo_table.specs.Shared.{SeatState, WordsState}
use Rattle.reo_table.proofs.region_seat.RegionSeat.answer_at.Goals as goal

pub store-requires : goal.store-requires
store-requires g c =
    let same : c.self.inside.seat.table_id ≡ c.words.inside.table.shared.table_id = ap (λ (z : SeatState). z.id) c.self.view_is ∙ (c.requires.own ∙ sym (ap (λ (z : WordsState). z.id) c.words.view_is)) in
    let due : at_place (region_of c.self.inside.seat.me.0).ports.answers_due c.args.port ≡ Some c.self.inside.last = subst (λ (z : SeatState). at_place z.view.ports.answers_due c.args.port ≡ Some z.view.ports.last) (sym c.self.view_is) c.requires.due ∙ ap Some (sym c.self.invariant.last_is) in
    let stored : at_place (region_of c.self.inside.seat.me.0).ports.gots_due c.args.port ≡ None = subst (λ (z : SeatState). at_place z.view.ports.gots_due c.args.port ≡ None) (sym c.self.view_is) c.requires.stored in
    let within : c.args.port < length (setting_of c.words.inside.table.shared.key).fabric.ports = subst (λ (z : WordsState). c.args.port < length z.setting.fabric.ports) (sym c.words.view_is) c.requires.port in
    let place : c.state_index-place.result ≡ state_place (setting_of c.words.inside.table.shared.key).fabric c.args.port =
    c.state_index-place.ensures ∙ ap (λ (z : WordsState). state_place z.setting.fabric c.args.port) (sym c.words.view_is) in (
      same,
      omega (arith, c.words.invariant.words, place, within),
      subst (λ (i : ℕ). Allows (Rule (setting_of c.words.inside.table.shared.key)) c.words.inside.table.shared.table_id.slots c.self.inside.seat.id c.self.inside.seat.me i (λ n. 3 + c.self.inside.last) (λ n. PortAnswered g.P.Place.place c.self.inside.seat.me (3 + c.self.inside.last))) (sym place)
          (subst (λ (k : ℕ). Allows (Rule (setting_of c.words.inside.table.shared.key)) c.words.inside.table.shared.table_id.slots c.self.inside.seat.id c.self.inside.seat.me (state_place (setting_of c.words.inside.table.shared.key).fabric c.args.port) (λ n. 3 + c.self.inside.last) (λ n. PortAnswered k c.self.inside.seat.me (3 + c.self.inside.last))) (sym c.requires.place)
          (allows_answer (setting_of c.words.inside.table.shared.key) c.words.inside.table.shared.table_id.slots c.self.inside.seat.id c.self.inside.seat.me c.self.invariant.view c.self.invariant.no_slot c.args.port c.self.inside.last due stored)),
    )
