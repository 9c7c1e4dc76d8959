use Rattle.std.proofs.Common.{◌≡◌, sym, ap, ◌∙◌, subst, arith}
use Rattle.atomic_table.specs.Table.{Allows}
use Rattle.reo_coupling.specs.Moment.{Setting}
use Rattle.reo_coupling.specs.PortParts.{OwesNothing}
use Rattle.reo_table.specs.Shared.{SeatState, WordsState}
use Rattle.reo_table.specs.Plays.{setting_of, region_of, Clocked}
use Rattle.reo_table.proofs.Kept.{Rule, allows_clock}
use Rattle.reo_table.proofs.region_seat.RegionSeat.clock_told.Goals as goal

pub load-found-requires : goal.load-found-requires
load-found-requires g c =
    let same : c.self.inside.seat.table_id ≡ c.words.inside.table.shared.table_id = ap (λ (z : SeatState). z.id) c.self.view_is ∙ (c.requires.own ∙ sym (ap (λ (z : WordsState). z.id) c.words.view_is)) in
    let quiet : OwesNothing (region_of c.self.inside.seat.me.0) = subst (λ (z : SeatState). OwesNothing z.view) (sym c.self.view_is) c.requires.quiet in
    let told : setting_of c.words.inside.table.shared.key ≡ g.T.Told.setting = ap (λ (z : WordsState). z.setting) c.words.view_is ∙ sym c.requires.setting in (
      same,
      omega (arith, c.words.invariant.words),
      subst (λ (t : Setting). Allows (Rule (setting_of c.words.inside.table.shared.key)) c.words.inside.table.shared.table_id.slots c.self.inside.seat.id c.self.inside.seat.me 0 (λ n. n) (Clocked t c.self.inside.seat.me)) told
          (allows_clock (setting_of c.words.inside.table.shared.key) c.words.inside.table.shared.table_id.slots c.self.inside.seat.id c.self.inside.seat.me c.self.invariant.view c.self.invariant.no_slot quiet),
    )
