use Rattle.std.proofs.Common.{◌≡◌, ℕ, sym, ap, ◌∙◌, subst, arith}
use Rattle.atomic_table.specs.Table.{Allows}
use Rattle.reo_coupling.specs.Moment.{Setting, cell_place}
use Rattle.reo_coupling.specs.PortParts.{OwesNothing}
use Rattle.reo_coupling.specs.Steps.{IsOwnCell}
use Rattle.reo_table.specs.Shared.{SeatState, WordsState}
use Rattle.reo_table.specs.Plays.{setting_of, region_of, Seen}
use Rattle.reo_table.proofs.Kept.{Rule, allows_see_cell, own_within}
use Rattle.reo_table.proofs.region_seat.RegionSeat.see_cell_at.Goals as goal

pub load-word-requires : goal.load-word-requires
load-word-requires g c =
    let same : c.self.inside.seat.table_id ≡ c.words.inside.table.shared.table_id = ap (λ (z : SeatState). z.id) c.self.view_is ∙ (c.requires.own ∙ sym (ap (λ (z : WordsState). z.id) c.words.view_is)) in
    let quiet : OwesNothing (region_of c.self.inside.seat.me.0) = subst (λ (z : SeatState). OwesNothing z.view) (sym c.self.view_is) c.requires.quiet in
    let told : setting_of c.words.inside.table.shared.key ≡ g.T.Told.setting = ap (λ (z : WordsState). z.setting) c.words.view_is ∙ sym c.requires.setting in
    let own : IsOwnCell (setting_of c.words.inside.table.shared.key).fabric (region_of c.self.inside.seat.me.0).cells.region c.args.cell =
    subst (λ (z : WordsState). IsOwnCell z.setting.fabric (region_of c.self.inside.seat.me.0).cells.region c.args.cell) (sym c.words.view_is)
    (subst (λ (z : SeatState). IsOwnCell c.args.words.now.setting.fabric z.view.cells.region c.args.cell) (sym c.self.view_is) c.requires.cell) in
    let place : c.cell_index-place.result ≡ cell_place (setting_of c.words.inside.table.shared.key).fabric c.args.cell =
    c.cell_index-place.ensures ∙ ap (λ (z : WordsState). cell_place z.setting.fabric c.args.cell) (sym c.words.view_is) in (
      same,
      omega (arith, c.words.invariant.words, place, own_within (setting_of c.words.inside.table.shared.key).fabric (region_of c.self.inside.seat.me.0).cells.region c.args.cell own),
      subst (λ (i : ℕ). Allows (Rule (setting_of c.words.inside.table.shared.key)) c.words.inside.table.shared.table_id.slots c.self.inside.seat.id c.self.inside.seat.me i (λ n. n) (Seen g.T.Told.setting g.P.Place.place i c.self.inside.seat.me)) (sym place)
          (subst (λ (k : ℕ). Allows (Rule (setting_of c.words.inside.table.shared.key)) c.words.inside.table.shared.table_id.slots c.self.inside.seat.id c.self.inside.seat.me (cell_place (setting_of c.words.inside.table.shared.key).fabric c.args.cell) (λ n. n) (Seen g.T.Told.setting k (cell_place (setting_of c.words.inside.table.shared.key).fabric c.args.cell) c.self.inside.seat.me)) (sym c.requires.place)
          (subst (λ (t : Setting). Allows (Rule (setting_of c.words.inside.table.shared.key)) c.words.inside.table.shared.table_id.slots c.self.inside.seat.id c.self.inside.seat.me (cell_place (setting_of c.words.inside.table.shared.key).fabric c.args.cell) (λ n. n) (Seen t c.args.cell (cell_place (setting_of c.words.inside.table.shared.key).fabric c.args.cell) c.self.inside.seat.me)) told
          (allows_see_cell (setting_of c.words.inside.table.shared.key) c.words.inside.table.shared.table_id.slots c.self.inside.seat.id c.self.inside.seat.me c.self.invariant.view c.self.invariant.no_slot c.args.cell own quiet))),
    )
