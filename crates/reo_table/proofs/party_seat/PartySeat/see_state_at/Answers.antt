use Rattle.std.proofs.Common.{◌≡◌, ℕ, Some, None, sym, ap, ◌∙◌, subst, arith}
use Rattle.std.proofs.lemmas.Option.{slice_get_within}
use Rattle.atomic_table.specs.Table.{Allows}
use Rattle.reo_value.specs.declared.value.Value.{Value}
use Rattle.reo_value.specs.Code.{code_of}
use Rattle.reo_coupling.specs.Moment.{Setting, state_place, data_place}
use Rattle.reo_coupling.specs.PortViews.{port_of}
use Rattle.reo_coupling.specs.PartySteps.{IsOwnedPut, IsReady}
use Rattle.reo_coupling.specs.PortParts.{IsOwned}
use Rattle.reo_table.specs.Shared.{PartyState, WordsState}
use Rattle.reo_table.specs.Plays.{setting_of, party_of, PutSet, OfferMade, StateSeen, GotSeen, Cleared}
use Rattle.reo_table.proofs.Told.{some_of}
use Rattle.reo_table.proofs.Kept.{Rule}
use Rattle.reo_table.proofs.KeptParty.{allows_set_put, allows_offer, allows_see_state, allows_see_got, allows_clear}
use Rattle.reo_table.proofs.party_seat.PartySeat.see_state_at.Goals as goal

pub load-word-requires : goal.load-word-requires
load-word-requires g c =
    let same : c.self.inside.seat.table_id ≡ c.words.inside.table.shared.table_id = ap (λ (z : PartyState). z.id) c.self.view_is ∙ (c.requires.own ∙ sym (ap (λ (z : WordsState). z.id) c.words.view_is)) in
    let own : IsOwned (setting_of c.words.inside.table.shared.key).fabric (party_of c.self.inside.seat.me.0).party c.args.port =
    subst (λ (z : WordsState). IsOwned z.setting.fabric (party_of c.self.inside.seat.me.0).party c.args.port) (sym c.words.view_is)
    (subst (λ (z : PartyState). IsOwned c.args.words.now.setting.fabric z.view.party c.args.port) (sym c.self.view_is) c.requires.port) in
    let place : c.state_index-place.result ≡ state_place (setting_of c.words.inside.table.shared.key).fabric c.args.port =
    c.state_index-place.ensures ∙ ap (λ (z : WordsState). state_place z.setting.fabric c.args.port) (sym c.words.view_is) in (
      same,
      omega (arith, c.words.invariant.words, place, slice_get_within (setting_of c.words.inside.table.shared.key).fabric.ports c.args.port own.spec own.found),
      subst (λ (i : ℕ). Allows (Rule (setting_of c.words.inside.table.shared.key)) c.words.inside.table.shared.table_id.slots c.self.inside.seat.id c.self.inside.seat.me i (λ n. n) (StateSeen g.P.Place.place i c.self.inside.seat.me)) (sym place)
          (subst (λ (k : ℕ). Allows (Rule (setting_of c.words.inside.table.shared.key)) c.words.inside.table.shared.table_id.slots c.self.inside.seat.id c.self.inside.seat.me (state_place (setting_of c.words.inside.table.shared.key).fabric c.args.port) (λ n. n) (StateSeen k (state_place (setting_of c.words.inside.table.shared.key).fabric c.args.port) c.self.inside.seat.me)) (sym c.requires.place)
          (allows_see_state (setting_of c.words.inside.table.shared.key) c.words.inside.table.shared.table_id.slots c.self.inside.seat.id c.self.inside.seat.me c.self.invariant.view c.self.invariant.no_slot c.args.port own)),
    )
