use Rattle.std.proofs.Common.{◌≡◌, ℕ, Some, None, sym, ap, ◌∙◌, subst, arith}
use Rattle.std.proofs.lemmas.Option.{slice_get_within}
use Rattle.atomic_table.specs.Table.{Allows}
use Rattle.reo_value.specs.declared.value.Value.{Value}
use Rattle.reo_value.specs.Code.{code_of}
use Rattle.reo_coupling.specs.Moment.{Setting, state_place, data_place}
use Rattle.reo_coupling.specs.PortViews.{port_of}
use Rattle.reo_coupling.specs.PartySteps.{IsOwnedPut, IsReady}
use Rattle.reo_coupling.specs.PortParts.{IsOwned}
use Rattle.reo_table.specs.Shared.{PartyState, WordsState}
use Rattle.reo_table.specs.Plays.{setting_of, party_of, PutSet, OfferMade, StateSeen, GotSeen, Cleared}
use Rattle.reo_table.proofs.Told.{some_of}
use Rattle.reo_table.proofs.Kept.{Rule}
use Rattle.reo_table.proofs.KeptParty.{allows_set_put, allows_offer, allows_see_state, allows_see_got, allows_clear}
use Rattle.reo_table.proofs.party_seat.PartySeat.see_got_at.Goals as goal

pub load-word-requires : goal.load-word-requires
load-word-requires g c =
    let same : c.self.inside.seat.table_id ≡ c.words.inside.table.shared.table_id = ap (λ (z : PartyState). z.id) c.self.view_is ∙ (c.requires.own ∙ sym (ap (λ (z : WordsState). z.id) c.words.view_is)) in
    let own : IsOwned (setting_of c.words.inside.table.shared.key).fabric (party_of c.self.inside.seat.me.0).party c.args.port =
    subst (λ (z : WordsState). IsOwned z.setting.fabric (party_of c.self.inside.seat.me.0).party c.args.port) (sym c.words.view_is)
    (subst (λ (z : PartyState). IsOwned c.args.words.now.setting.fabric z.view.party c.args.port) (sym c.self.view_is) c.requires.port) in
    let seen = some_of (port_of (party_of c.self.inside.seat.me.0) c.args.port).seen (subst (λ (z : PartyState). (port_of z.view c.args.port).seen ≡ None → ⊥) (sym c.self.view_is) c.requires.seen) in
    let told : (setting_of c.words.inside.table.shared.key) ≡ g.T.Told.setting = ap (λ (z : WordsState). z.setting) c.words.view_is ∙ sym c.requires.setting in
    let place : c.data_index-place.result ≡ data_place (setting_of c.words.inside.table.shared.key).fabric c.args.port =
    c.data_index-place.ensures ∙ ap (λ (z : WordsState). data_place z.setting.fabric c.args.port) (sym c.words.view_is) in (
      same,
      omega (arith, c.words.invariant.words, place, slice_get_within (setting_of c.words.inside.table.shared.key).fabric.ports c.args.port own.spec own.found),
      subst (λ (i : ℕ). Allows (Rule (setting_of c.words.inside.table.shared.key)) c.words.inside.table.shared.table_id.slots c.self.inside.seat.id c.self.inside.seat.me i (λ n. n) (GotSeen g.T.Told.setting g.P.Place.place i c.self.inside.seat.me)) (sym place)
          (subst (λ (k : ℕ). Allows (Rule (setting_of c.words.inside.table.shared.key)) c.words.inside.table.shared.table_id.slots c.self.inside.seat.id c.self.inside.seat.me (data_place (setting_of c.words.inside.table.shared.key).fabric c.args.port) (λ n. n) (GotSeen g.T.Told.setting k (data_place (setting_of c.words.inside.table.shared.key).fabric c.args.port) c.self.inside.seat.me)) (sym c.requires.place)
          (subst (λ (t : Setting). Allows (Rule (setting_of c.words.inside.table.shared.key)) c.words.inside.table.shared.table_id.slots c.self.inside.seat.id c.self.inside.seat.me (data_place (setting_of c.words.inside.table.shared.key).fabric c.args.port) (λ n. n) (GotSeen t c.args.port (data_place (setting_of c.words.inside.table.shared.key).fabric c.args.port) c.self.inside.seat.me)) told
          (allows_see_got (setting_of c.words.inside.table.shared.key) c.words.inside.table.shared.table_id.slots c.self.inside.seat.id c.self.inside.seat.me c.self.invariant.view c.self.invariant.no_slot c.args.port seen.0 own seen.1))),
    )
