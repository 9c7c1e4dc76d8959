use Rattle.std.proofs.Common.{◌≡◌, ◌<◌, ℕ, sym, ap, ◌∙◌, subst, arith}
use Rattle.atomic_table.specs.Table.{Splits}
use Rattle.reo_coupling.specs.declared.view.Mark.TheVariants.{Fresh}
use Rattle.reo_coupling.specs.declared.view.View.TheVariants.{Root, Party}
use Rattle.reo_coupling.specs.Seats.{party_mark_at, after_party_split}
use Rattle.reo_coupling.specs.PortViews.{fresh_party}
use Rattle.reo_table.specs.Shared.{RootState, WordsState}
use Rattle.reo_table.specs.Plays.{setting_of, root_of}
use Rattle.reo_table.proofs.Kept.{Rule}
use Rattle.reo_table.proofs.KeptParty.{allows_party_split}
use Rattle.reo_table.proofs.root.Root.party_seat_of.Goals as goal

pub split_seat-seat-requires : goal.split_seat-seat-requires
split_seat-seat-requires g c =
    let same : c.self.inside.seat.table_id ≡ c.words.inside.table.shared.table_id = ap (λ (z : RootState). z.id) c.self.view_is ∙ (c.requires.own ∙ sym (ap (λ (z : WordsState). z.id) c.words.view_is)) in
    let within : c.args.party < (setting_of c.words.inside.table.shared.key).fabric.parties = subst (λ (z : WordsState). c.args.party < z.setting.fabric.parties) (sym c.words.view_is) c.requires.party in
    let fresh : party_mark_at (root_of c.self.inside.seat.me.0) c.args.party ≡ Fresh = subst (λ (z : RootState). party_mark_at z.view c.args.party ≡ Fresh) (sym c.self.view_is) c.requires.fresh in (
      same,
      omega (arith, c.words.invariant.words),
      subst (λ (k : ℕ). Splits (Rule (setting_of c.words.inside.table.shared.key)) c.self.inside.seat.id c.self.inside.seat.me.0 (Root (after_party_split (root_of c.self.inside.seat.me.0) k)) (Party (fresh_party k))) (sym c.requires.place)
          (allows_party_split (setting_of c.words.inside.table.shared.key) c.self.inside.seat.id c.args.party c.self.inside.seat.me c.self.invariant.view within fresh),
    )
