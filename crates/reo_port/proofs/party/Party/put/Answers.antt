use Rattle.std.proofs.Common.{◌≡◌, List, Option, Some, None, sym, ap, ◌∙◌, subst}
use Rattle.reo_value.specs.declared.op.Op.{Op}
use Rattle.reo_table.specs.Shared.{PartyState}
use Rattle.reo_port.specs.Party.{PartyValue, IsPartyOf, AreNoted}
use Rattle.reo_port.proofs.Posting.{owned_put, ready_put, noted_put}
use Rattle.reo_port.proofs.party.Party.put.Goals as goal

pub set_put-requires-clause-port : goal.set_put-requires-clause-port
set_put-requires-clause-port c =
    owned_put c.args.words.now c.args.self.now (record { id = c.self.inside.seat.id; view = c.self.inside.seat.view; ways = c.self.inside.ways.items }) c.args.port c.self.view_is (record { own = c.requires.own; ways = c.requires.ways }) (sym c.refusal.ensures ∙ c.in_default.is)

pub offer-requires-clause-port : goal.offer-requires-clause-port
offer-requires-clause-port c =
    ready_put c.args.words.now c.args.self.now (record { id = c.self.inside.seat.id; view = c.self.inside.seat.view; ways = c.self.inside.ways.items }) c.args.port c.self.view_is (record { own = c.requires.own; ways = c.requires.ways }) c.args.value
    c.set_put.new.self.view (ap (λ (s : PartyState). s.view) c.set_put.ensures) (sym c.refusal.ensures ∙ c.in_default.is)

pub invariant_of-self : goal.invariant_of-self
invariant_of-self c =
    subst (λ (l : List (Option Op)). AreNoted c.self.inside.ways.items c.offer.new.self.view l) (sym c.note.ensures)
    (noted_put c.args.self.now (record { id = c.self.inside.seat.id; view = c.self.inside.seat.view; ways = c.self.inside.ways.items }) c.self.inside.calls.items c.offer.new.self.view c.put_call-call.result c.args.port c.self.view_is c.self.invariant
    c.args.value c.set_put.new.self.view (ap (λ (s : PartyState). s.view) c.set_put.ensures) (sym c.refusal.ensures ∙ c.in_default.is) (ap (λ (s : PartyState). s.view) c.offer.ensures) c.put_call-call.ensures)
