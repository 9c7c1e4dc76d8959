use Rattle.std.proofs.Common.{◌≡◌, ◌+◌, ◌%◌, ◌<◌, ℕ, sym, ap, ◌∙◌, subst}
use Rattle.atomic_table.specs.Seated.{TableId}
use Rattle.atomic_table.specs.Table.{Allows}
use Rattle.reo_coupling.specs.PortParts.{OwesNothing}
use Rattle.reo_table.specs.Shared.{SeatState, WordsState}
use Rattle.reo_table.specs.Plays.{setting_of, region_of, Begun}
use Rattle.reo_table.proofs.Kept.{Rule, allows_begin, round_rises}
use Rattle.reo_table.proofs.region_seat.RegionSeat.begin.Goals as goal

pub fetch_add-found-requires : goal.fetch_add-found-requires
fetch_add-found-requires c =
    let seat = c.self.inside.seat in
    let same : c.self.inside.seat.table_id ≡ c.words.inside.table.shared.table_id = ap (λ (z : SeatState). z.id) c.self.view_is ∙ (c.requires.own ∙ sym (ap (λ (z : WordsState). z.id) c.words.view_is)) in
    let quiet : OwesNothing (region_of c.self.inside.seat.me.0) = subst (λ (z : SeatState). OwesNothing z.view) (sym c.self.view_is) c.requires.quiet in
    let rises = subst (λ n. (n + c.rise_of-more.result) % 18446744073709551616 ≡ Rattle.reo_coupling.specs.Views.round_after n) c.self.invariant.round_is (round_rises c.self.inside.round c.rise_of-more.result c.rise_of-more.ensures.fits c.rise_of-more.ensures.rise) in (
      same,
      subst (λ (t : TableId). 1 + c.self.inside.region < t.words) same c.self.invariant.within,
      subst (λ (r : ℕ). Allows (Rule (setting_of c.words.inside.table.shared.key)) c.words.inside.table.shared.table_id.slots c.self.inside.seat.id c.self.inside.seat.me (1 + r) (λ n. (n + c.rise_of-more.result) % 18446744073709551616) (Begun c.self.inside.seat.me))
          (sym c.self.invariant.region_is)
          (allows_begin (setting_of c.words.inside.table.shared.key) c.words.inside.table.shared.table_id.slots c.self.inside.seat.id c.self.inside.seat.me c.self.invariant.view c.self.invariant.no_slot c.rise_of-more.result rises quiet),
    )
