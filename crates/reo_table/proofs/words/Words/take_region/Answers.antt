use Rattle.std.proofs.Common.{◌≡◌, sym, ap, ◌∙◌, subst, arith}
use Rattle.atomic_table.specs.Table.{Joins}
use Rattle.reo_coupling.specs.declared.view.View.TheVariants.{Region, Spent}
use Rattle.reo_table.specs.Shared.{WordsState, SeatState}
use Rattle.reo_table.specs.Plays.{setting_of, region_of, joined}
use Rattle.reo_table.proofs.Kept.{Rule}
use Rattle.reo_table.proofs.Ending.{allows_region_join}
use Rattle.reo_table.proofs.words.Words.take_region.Goals as goal

pub join_seat-requires : goal.join_seat-requires
join_seat-requires c =
    let id : c.self.inside.table.shared.table_id ≡ c.args.self.now.id = ap (λ (z : WordsState). z.id) c.self.view_is in (
      c.requires.own ∙ sym id,
      ap (λ (z : SeatState). z.id) c.region.view_is ∙ (c.requires.same ∙ sym id),
      c.region.invariant.no_slot,
      omega (arith, c.self.invariant.words),
      subst (λ w. Joins (Rule (setting_of c.self.inside.table.shared.key)) c.args.seat.now.id c.args.seat.now.me.0 c.region.inside.seat.id w (joined c.args.seat.now.me.0 w) Spent) (sym c.region.invariant.view)
          (allows_region_join (setting_of c.self.inside.table.shared.key) c.args.seat.now.id c.region.inside.seat.id c.args.seat.now.me.0 (region_of c.region.inside.seat.me.0) c.requires.root),
    )
