use Rattle.std.proofs.Common.{◌≡◌, ◌+◌, ◌%◌, sym, ap, ◌∙◌, subst, arith}
use Rattle.atomic_table.specs.Table.{Allows}
use Rattle.reo_fabric.specs.declared.entry.Entry.{Entry}
use Rattle.reo_coupling.specs.Moment.{Setting}
use Rattle.reo_coupling.specs.Steps.{MayCommit}
use Rattle.reo_table.specs.Shared.{SeatState, WordsState}
use Rattle.reo_table.specs.Plays.{setting_of, region_of, Committed}
use Rattle.reo_table.proofs.Kept.{Rule, allows_commit}
use Rattle.reo_table.proofs.region_seat.RegionSeat.commit_said.Goals as goal

pub fetch_add-number-requires : goal.fetch_add-number-requires
fetch_add-number-requires g c =
    let same : c.self.inside.seat.table_id ≡ c.words.inside.table.shared.table_id = ap (λ (z : SeatState). z.id) c.self.view_is ∙ (c.requires.own ∙ sym (ap (λ (z : WordsState). z.id) c.words.view_is)) in
    let told : setting_of c.words.inside.table.shared.key ≡ g.T.Told.setting = ap (λ (z : WordsState). z.setting) c.words.view_is ∙ sym c.requires.setting in
    let may : MayCommit (setting_of c.words.inside.table.shared.key).fabric (region_of c.self.inside.seat.me.0) c.args.entry.now =
    subst (λ (z : WordsState). MayCommit z.setting.fabric (region_of c.self.inside.seat.me.0) c.args.entry.now) (sym c.words.view_is)
    (subst (λ (z : SeatState). MayCommit c.args.words.now.setting.fabric z.view c.args.entry.now) (sym c.self.view_is) c.requires.may) in (
      same,
      omega (arith, c.words.invariant.words),
      subst (λ (e : Entry). Allows (Rule (setting_of c.words.inside.table.shared.key)) c.words.inside.table.shared.table_id.slots c.self.inside.seat.id c.self.inside.seat.me 0 (λ n. (n + 1) % 18446744073709551616) (Committed g.T.Told.setting e c.self.inside.seat.me)) (sym c.requires.said)
          (subst (λ (t : Setting). Allows (Rule (setting_of c.words.inside.table.shared.key)) c.words.inside.table.shared.table_id.slots c.self.inside.seat.id c.self.inside.seat.me 0 (λ n. (n + 1) % 18446744073709551616) (Committed t c.args.entry.now c.self.inside.seat.me)) told
          (allows_commit (setting_of c.words.inside.table.shared.key) c.words.inside.table.shared.table_id.slots c.self.inside.seat.id c.self.inside.seat.me c.self.invariant.view c.self.invariant.no_slot c.args.entry.now may)),
    )
