use Rattle.std.proofs.Common.{◌≡◌, ◌<◌, ◌+◌, ℕ, length, Some, None, sym, ap, ◌∙◌, subst, arith}
use Rattle.atomic_table.specs.Table.{Allows}
use Rattle.std.proofs.lemmas.Option.{slice_get_within}
use Rattle.reo_value.specs.declared.op.Way.TheVariants.{Put}
use Rattle.reo_fabric.specs.Entry.{at_place}
use Rattle.reo_fabric.specs.Fabric.{IsPort}
use Rattle.reo_coupling.specs.Moment.{data_place}
use Rattle.reo_coupling.specs.PortParts.{OwesNothing}
use Rattle.reo_table.specs.Plays.{setting_of, region_of, OfferSeen}
use Rattle.reo_table.proofs.Kept.{Rule, allows_see_offer}
use Rattle.reo_table.specs.Shared.{SeatState, WordsState}
use Rattle.reo_table.proofs.region_seat.RegionSeat.see_offer_at.Goals as goal

pub load-word-requires : goal.load-word-requires
load-word-requires g c =
    let same : c.self.inside.seat.table_id ≡ c.words.inside.table.shared.table_id = ap (λ (z : SeatState). z.id) c.self.view_is ∙ (c.requires.own ∙ sym (ap (λ (z : WordsState). z.id) c.words.view_is)) in
    let quiet : OwesNothing (region_of c.self.inside.seat.me.0) = subst (λ (z : SeatState). OwesNothing z.view) (sym c.self.view_is) c.requires.quiet in
    let noted : at_place (region_of c.self.inside.seat.me.0).ports.states c.args.port ≡ Some 1 = subst (λ (z : SeatState). at_place z.view.ports.states c.args.port ≡ Some 1) (sym c.self.view_is) c.requires.noted in
    let own : IsPort (setting_of c.words.inside.table.shared.key).fabric Put (region_of c.self.inside.seat.me.0).cells.region c.args.port =
    subst (λ (z : WordsState). IsPort z.setting.fabric Put (region_of c.self.inside.seat.me.0).cells.region c.args.port) (sym c.words.view_is)
    (subst (λ (z : SeatState). IsPort c.args.words.now.setting.fabric Put z.view.cells.region c.args.port) (sym c.self.view_is) c.requires.port) in
    let place : c.data_index-place.result ≡ data_place (setting_of c.words.inside.table.shared.key).fabric c.args.port =
    c.data_index-place.ensures ∙ ap (λ (z : WordsState). data_place z.setting.fabric c.args.port) (sym c.words.view_is) in (
      same,
      omega (arith, c.words.invariant.words, place, slice_get_within (setting_of c.words.inside.table.shared.key).fabric.ports c.args.port own.spec own.found),
      subst (λ (i : ℕ). Allows (Rule (setting_of c.words.inside.table.shared.key)) c.words.inside.table.shared.table_id.slots c.self.inside.seat.id c.self.inside.seat.me i (λ n. n) (OfferSeen g.P.Place.place i c.self.inside.seat.me)) (sym place)
          (subst (λ (k : ℕ). Allows (Rule (setting_of c.words.inside.table.shared.key)) c.words.inside.table.shared.table_id.slots c.self.inside.seat.id c.self.inside.seat.me (data_place (setting_of c.words.inside.table.shared.key).fabric c.args.port) (λ n. n) (OfferSeen k (data_place (setting_of c.words.inside.table.shared.key).fabric c.args.port) c.self.inside.seat.me)) (sym c.requires.place)
          (allows_see_offer (setting_of c.words.inside.table.shared.key) c.words.inside.table.shared.table_id.slots c.self.inside.seat.id c.self.inside.seat.me c.self.invariant.view c.self.invariant.no_slot c.args.port own noted quiet)),
    )
