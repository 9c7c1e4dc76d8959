use Rattle.std.proofs.Common.{◌≡◌, ℕ, get_or, Option, Some, None, refl, sym, ap, ◌∙◌, subst, arith}
use Rattle.reo_value.specs.declared.op.Op.{Op}
use Rattle.reo_value.specs.declared.op.Way.TheVariants.{Put, Get}
use Rattle.reo_coupling.specs.declared.view.Offer.{Offer}
use Rattle.reo_coupling.specs.PartySteps.{IsReady}
use Rattle.reo_table.specs.Shared.{PartyState}
use Rattle.reo_port.specs.Party.{PartyValue, IsPartyOf}
use Rattle.reo_port.proofs.Posting.{ready_get, noted_get}
use Rattle.reo_port.proofs.party.Party.get.Goals as goal

pub offer-requires-clause-port : goal.offer-requires-clause-port
offer-requires-clause-port c =
    ready_get c.args.words.now c.args.self.now (record { id = c.self.inside.seat.id; view = c.self.inside.seat.view; ways = c.self.inside.ways.items }) c.args.port c.self.view_is (record { own = c.requires.own; ways = c.requires.ways }) (sym c.refusal.ensures ∙ c.in_default.is)

pub invariant_of-self : goal.invariant_of-self
invariant_of-self c =
    subst (λ (l : Rattle.std.specs.Prelude.List (Option Op)). Rattle.reo_port.specs.Party.AreNoted c.self.inside.ways.items c.offer.new.self.view l) (sym c.note.ensures)
    (noted_get c.args.self.now (record { id = c.self.inside.seat.id; view = c.self.inside.seat.view; ways = c.self.inside.ways.items }) c.self.inside.calls.items c.offer.new.self.view c.get_call.result c.args.port c.self.view_is c.self.invariant
    (sym c.refusal.ensures ∙ c.in_default.is) (ap (λ (s : PartyState). s.view) c.offer.ensures) c.get_call.ensures)
