use Rattle.std.proofs.Common.{◌≡◌, ◌<◌, ℕ, length, sym, ap, ◌∙◌, subst, arith}
use Rattle.atomic_table.specs.Table.{Allows}
use Rattle.reo_coupling.specs.Moment.{cell_place}
use Rattle.reo_coupling.specs.Steps.{IsDue}
use Rattle.reo_table.specs.Shared.{SeatState, WordsState}
use Rattle.reo_table.specs.Plays.{setting_of, region_of, Stored}
use Rattle.reo_table.proofs.Kept.{Rule, allows_set_cell}
use Rattle.reo_table.proofs.region_seat.RegionSeat.set_cell_at.Goals as goal

pub store-requires : goal.store-requires
store-requires g c =
    let same : c.self.inside.seat.table_id ≡ c.words.inside.table.shared.table_id = ap (λ (z : SeatState). z.id) c.self.view_is ∙ (c.requires.own ∙ sym (ap (λ (z : WordsState). z.id) c.words.view_is)) in
    let due : IsDue (region_of c.self.inside.seat.me.0).cells c.args.cell c.args.word = subst (λ (z : SeatState). IsDue z.view.cells c.args.cell c.args.word) (sym c.self.view_is) c.requires.due in
    let own : c.args.cell < length (setting_of c.words.inside.table.shared.key).fabric.cells = subst (λ (z : WordsState). c.args.cell < length z.setting.fabric.cells) (sym c.words.view_is) c.requires.cell in
    let place : c.cell_index-place.result ≡ cell_place (setting_of c.words.inside.table.shared.key).fabric c.args.cell =
    c.cell_index-place.ensures ∙ ap (λ (z : WordsState). cell_place z.setting.fabric c.args.cell) (sym c.words.view_is) in (
      same,
      omega (arith, c.words.invariant.words, place, own),
      subst (λ (i : ℕ). Allows (Rule (setting_of c.words.inside.table.shared.key)) c.words.inside.table.shared.table_id.slots c.self.inside.seat.id c.self.inside.seat.me i (λ n. c.args.word) (λ n. Stored g.P.Place.place c.self.inside.seat.me c.args.word)) (sym place)
          (subst (λ (k : ℕ). Allows (Rule (setting_of c.words.inside.table.shared.key)) c.words.inside.table.shared.table_id.slots c.self.inside.seat.id c.self.inside.seat.me (cell_place (setting_of c.words.inside.table.shared.key).fabric c.args.cell) (λ n. c.args.word) (λ n. Stored k c.self.inside.seat.me c.args.word)) (sym c.requires.place)
          (allows_set_cell (setting_of c.words.inside.table.shared.key) c.words.inside.table.shared.table_id.slots c.self.inside.seat.id c.self.inside.seat.me c.self.invariant.view c.self.invariant.no_slot c.args.cell c.args.word due)),
    )
