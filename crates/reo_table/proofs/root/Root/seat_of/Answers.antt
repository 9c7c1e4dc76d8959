use Rattle.std.proofs.Common.{◌≡◌, ◌<◌, ℕ, sym, ap, ◌∙◌, subst, arith}
use Rattle.atomic_table.specs.Table.{Splits}
use Rattle.reo_coupling.specs.declared.view.Mark.TheVariants.{Fresh}
use Rattle.reo_coupling.specs.declared.view.View.TheVariants.{Root, Region}
use Rattle.reo_coupling.specs.Seats.{mark_at, after_split, fresh_region}
use Rattle.reo_table.specs.Shared.{RootState, WordsState}
use Rattle.reo_table.specs.Plays.{setting_of, root_of}
use Rattle.reo_table.proofs.Kept.{Rule, allows_split}
use Rattle.reo_table.proofs.root.Root.seat_of.Goals as goal

pub split_seat-seat-requires : goal.split_seat-seat-requires
split_seat-seat-requires g c =
    let same : c.self.inside.seat.table_id ≡ c.words.inside.table.shared.table_id = ap (λ (z : RootState). z.id) c.self.view_is ∙ (c.requires.own ∙ sym (ap (λ (z : WordsState). z.id) c.words.view_is)) in
    let within : c.args.region < (setting_of c.words.inside.table.shared.key).fabric.regions = subst (λ (z : WordsState). c.args.region < z.setting.fabric.regions) (sym c.words.view_is) c.requires.region in
    let fresh : mark_at (root_of c.self.inside.seat.me.0) c.args.region ≡ Fresh = subst (λ (z : RootState). mark_at z.view c.args.region ≡ Fresh) (sym c.self.view_is) c.requires.fresh in (
      same,
      omega (arith, c.words.invariant.words),
      subst (λ (k : ℕ). Splits (Rule (setting_of c.words.inside.table.shared.key)) c.self.inside.seat.id c.self.inside.seat.me.0 (Root (after_split (root_of c.self.inside.seat.me.0) k)) (Region (fresh_region (root_of c.self.inside.seat.me.0).limit k))) (sym c.requires.place)
          (allows_split (setting_of c.words.inside.table.shared.key) c.self.inside.seat.id c.args.region c.self.inside.seat.me c.self.invariant.view within fresh),
    )
