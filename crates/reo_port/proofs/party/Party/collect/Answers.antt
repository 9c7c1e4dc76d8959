use Rattle.std.proofs.Common.{◌≡◌, ℕ, List, Option, None, sym, ap, ◌∙◌, subst}
use Rattle.reo_value.specs.declared.op.Op.{Op}
use Rattle.reo_coupling.specs.PortParts.{IsOwned}
use Rattle.reo_table.specs.Shared.{PartyState}
use Rattle.reo_port.specs.Party.{call_at, AreNoted}
use Rattle.reo_port.proofs.Collecting.{stands_there, owned_there, answer_told, left, noted_none}
use Rattle.reo_port.proofs.party.Party.collect.Goals as goal

pub see_state-state-requires-clause-port : goal.see_state-state-requires-clause-port
see_state-state-requires-clause-port c =
    (owned_there c.args.words.now c.args.self.now (record { id = c.self.inside.seat.id; view = c.self.inside.seat.view; ways = c.self.inside.ways.items }) c.args.port c.self.view_is (record { own = c.requires.own; ways = c.requires.ways }) (stands_there c.call.result (call_at c.args.self.now c.args.port) c.call.ensures c.if-is_none.ensures))

pub see_got-word-requires-clause-port : goal.see_got-word-requires-clause-port
see_got-word-requires-clause-port c =
    subst (λ (p : ℕ). IsOwned c.args.words.now.setting.fabric p c.args.port) (sym (ap (λ (s : PartyState). s.view.party) c.see_state-state.ensures.view))
    (owned_there c.args.words.now c.args.self.now (record { id = c.self.inside.seat.id; view = c.self.inside.seat.view; ways = c.self.inside.ways.items }) c.args.port c.self.view_is (record { own = c.requires.own; ways = c.requires.ways }) (stands_there c.call.result (call_at c.args.self.now c.args.port) c.call.ensures c.if-is_none.ensures))

pub clear-requires-clause-port : goal.clear-requires-clause-port
clear-requires-clause-port c =
    subst (λ (p : ℕ). IsOwned c.args.words.now.setting.fabric p c.args.port) (sym (ap (λ (s : PartyState). s.view.party) c.see_got-word.ensures.view ∙ ap (λ (s : PartyState). s.view.party) c.see_state-state.ensures.view))
    (owned_there c.args.words.now c.args.self.now (record { id = c.self.inside.seat.id; view = c.self.inside.seat.view; ways = c.self.inside.ways.items }) c.args.port c.self.view_is (record { own = c.requires.own; ways = c.requires.ways }) (stands_there c.call.result (call_at c.args.self.now c.args.port) c.call.ensures c.if-is_none.ensures))

pub invariant_of-self-2 : goal.invariant_of-self-2
invariant_of-self-2 c =
    subst (λ (l : List (Option Op)). AreNoted c.self.inside.ways.items c.clear.new.self.view l) (sym c.note.ensures)
    (noted_none c.args.words.now c.args.self.now c.self.inside.seat c.see_state-state.new.self c.see_got-word.new.self c.clear.new.self c.self.inside.ways.items c.args.port c.see_state-state.result c.see_got-word.result c.self.view_is c.see_state-state.ensures.view c.if-state-lt3.false c.see_got-word.ensures c.clear.ensures c.value_with.result c.value_with.ensures.real c.value_with.ensures.code c.self.inside.calls.items c.self.invariant (stands_there c.call.result (call_at c.args.self.now c.args.port) c.call.ensures c.if-is_none.ensures))

pub returns : goal.returns
returns c = (
  (stands_there c.call.result (call_at c.args.self.now c.args.port) c.call.ensures c.if-is_none.ensures),
  (left c.args.words.now c.args.self.now c.self.inside.seat c.see_state-state.new.self c.see_got-word.new.self c.clear.new.self c.self.inside.ways.items c.args.port c.see_state-state.result c.see_got-word.result c.self.view_is c.see_state-state.ensures.view c.if-state-lt3.false c.see_got-word.ensures c.clear.ensures c.value_with.result c.value_with.ensures.real c.value_with.ensures.code, answer_told c.args.words.now c.args.self.now c.self.inside.seat c.see_state-state.new.self c.see_got-word.new.self c.clear.new.self c.self.inside.ways.items c.args.port c.see_state-state.result c.see_got-word.result c.self.view_is c.see_state-state.ensures.view c.if-state-lt3.false c.see_got-word.ensures c.clear.ensures c.value_with.result c.value_with.ensures.real c.value_with.ensures.code),
)
