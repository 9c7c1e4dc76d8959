use Rattle.std.proofs.Common.{◌≡◌, ◌<◌, ◌+◌, ℕ, length, Some, None, sym, ap, ◌∙◌, subst, arith}
use Rattle.atomic_table.specs.Table.{Allows}
use Rattle.reo_value.specs.Code.{code_of}
use Rattle.reo_fabric.specs.Entry.{at_place}
use Rattle.reo_coupling.specs.Moment.{data_place}
use Rattle.reo_table.specs.Plays.{setting_of, region_of, GotStored}
use Rattle.reo_table.proofs.Kept.{Rule, allows_set_got}
use Rattle.reo_table.specs.Shared.{SeatState, WordsState}
use Rattle.reo_table.proofs.region_seat.RegionSeat.set_got_at.Goals as goal

pub store-requires : goal.store-requires
store-requires g c =
    let same : c.self.inside.seat.table_id ≡ c.words.inside.table.shared.table_id = ap (λ (z : SeatState). z.id) c.self.view_is ∙ (c.requires.own ∙ sym (ap (λ (z : WordsState). z.id) c.words.view_is)) in
    let due : at_place (region_of c.self.inside.seat.me.0).ports.gots_due c.args.port ≡ Some c.args.value = subst (λ (z : SeatState). at_place z.view.ports.gots_due c.args.port ≡ Some c.args.value) (sym c.self.view_is) c.requires.due in
    let within : c.args.port < length (setting_of c.words.inside.table.shared.key).fabric.ports = subst (λ (z : WordsState). c.args.port < length z.setting.fabric.ports) (sym c.words.view_is) c.requires.port in
    let place : c.data_index-place.result ≡ data_place (setting_of c.words.inside.table.shared.key).fabric c.args.port =
    c.data_index-place.ensures ∙ ap (λ (z : WordsState). data_place z.setting.fabric c.args.port) (sym c.words.view_is) in (
      same,
      omega (arith, c.words.invariant.words, place, within),
      subst (λ (i : ℕ). Allows (Rule (setting_of c.words.inside.table.shared.key)) c.words.inside.table.shared.table_id.slots c.self.inside.seat.id c.self.inside.seat.me i (λ n. c.word_of-word.result) (λ n. GotStored g.P.Place.place c.self.inside.seat.me (c.word_of-word.result))) (sym place)
          (subst (λ (k : ℕ). Allows (Rule (setting_of c.words.inside.table.shared.key)) c.words.inside.table.shared.table_id.slots c.self.inside.seat.id c.self.inside.seat.me (data_place (setting_of c.words.inside.table.shared.key).fabric c.args.port) (λ n. c.word_of-word.result) (λ n. GotStored k c.self.inside.seat.me (c.word_of-word.result))) (sym c.requires.place)
          (subst (λ (w : ℕ). Allows (Rule (setting_of c.words.inside.table.shared.key)) c.words.inside.table.shared.table_id.slots c.self.inside.seat.id c.self.inside.seat.me (data_place (setting_of c.words.inside.table.shared.key).fabric c.args.port) (λ n. w) (λ n. GotStored c.args.port c.self.inside.seat.me w)) (sym c.word_of-word.ensures.code)
          (allows_set_got (setting_of c.words.inside.table.shared.key) c.words.inside.table.shared.table_id.slots c.self.inside.seat.id c.self.inside.seat.me c.self.invariant.view c.self.invariant.no_slot c.args.port c.args.value due))),
    )
