use Rattle.std.proofs.Common.{◌≡◌, suc, ◌-◌, [], IfOk, subst, sym, ◌∙◌, arith}
use Rattle.reo_net.specs.declared.circuit.RawCircuit.{RawCircuit}
use Rattle.reo_plan.specs.inside.Slots.{HasFlow}
use Rattle.reo_plan.specs.inside.Givers.{giver_in}
use Rattle.reo_plan.proofs.SlotLemmas.{ok_with, has_none, has_unfed, has_cell, has_port, has_same, has_image}
use Rattle.reo_plan.proofs.slots.+slot_of.Goals as goal

no_circuit : RawCircuit
no_circuit = record { nodes = 0; texts = 0; channels = []; ports = [] }

pub returns-then-fuel-eq0-clause-flow : goal.returns-then-fuel-eq0-clause-flow
returns-then-fuel-eq0-clause-flow t c =
    let none : 0 ≡ c.args.fuel = omega arith in
    subst (λ n. IfOk c.slot_with.result (λ slot. (c' : RawCircuit) → HasFlow c' (giver_in c.args.givers.now) n c.args.name c.slot_with.new.slots slot)) none
    (ok_with c.slot_with.result _ _ _ c.slot_with.ensures.more c.slot_with.ensures.slot (λ slot more found. has_none (giver_in c.args.givers.now) c.args.fuel c.args.name c.slot_with.new.slots slot more.ordered found))

pub slot_with-requires-in-Image-clause-below : goal.slot_with-requires-in-Image-clause-below
slot_with-requires-in-Image-clause-below t c = (c.in_ok-datum-in-Image.ensures.flow no_circuit).within

pub returns-in-Unfed-clause-flow : goal.returns-in-Unfed-clause-flow
returns-in-Unfed-clause-flow t c =
    let next : suc (c.args.fuel - 1) ≡ c.args.fuel = omega arith in
    subst (λ n. IfOk c.slot_with-in-Unfed.result (λ slot. (c' : RawCircuit) → HasFlow c' (giver_in c.args.givers.now) n c.args.name c.slot_with-in-Unfed.new.slots slot)) next
    (ok_with c.slot_with-in-Unfed.result _ _ _ c.slot_with-in-Unfed.ensures.more c.slot_with-in-Unfed.ensures.slot (λ slot more found.
    has_unfed (giver_in c.args.givers.now) (c.args.fuel - 1) c.args.name c.slot_with-in-Unfed.new.slots slot more.ordered found (sym c.giver_in.ensures ∙ c.in-Unfed.is)))

pub returns-in-Cell-clause-flow : goal.returns-in-Cell-clause-flow
returns-in-Cell-clause-flow t c =
    let next : suc (c.args.fuel - 1) ≡ c.args.fuel = omega arith in
    subst (λ n. IfOk c.slot_with-in-Cell.result (λ slot. (c' : RawCircuit) → HasFlow c' (giver_in c.args.givers.now) n c.args.name c.slot_with-in-Cell.new.slots slot)) next
    (ok_with c.slot_with-in-Cell.result _ _ _ c.slot_with-in-Cell.ensures.more c.slot_with-in-Cell.ensures.slot (λ slot more found.
    has_cell (giver_in c.args.givers.now) (c.args.fuel - 1) c.args.name c.in-Cell.cell c.slot_with-in-Cell.new.slots slot more.ordered found (sym c.giver_in.ensures ∙ c.in-Cell.is)))

pub returns-in-Port-clause-flow : goal.returns-in-Port-clause-flow
returns-in-Port-clause-flow t c =
    let next : suc (c.args.fuel - 1) ≡ c.args.fuel = omega arith in
    subst (λ n. IfOk c.slot_with-in-Port.result (λ slot. (c' : RawCircuit) → HasFlow c' (giver_in c.args.givers.now) n c.args.name c.slot_with-in-Port.new.slots slot)) next
    (ok_with c.slot_with-in-Port.result _ _ _ c.slot_with-in-Port.ensures.more c.slot_with-in-Port.ensures.slot (λ slot more found.
    has_port (giver_in c.args.givers.now) (c.args.fuel - 1) c.args.name c.in-Port.port c.slot_with-in-Port.new.slots slot more.ordered found (sym c.giver_in.ensures ∙ c.in-Port.is)))

pub returns-in-Same-clause-flow : goal.returns-in-Same-clause-flow
returns-in-Same-clause-flow t c =
    let next : suc (c.args.fuel - 1) ≡ c.args.fuel = omega arith in
    subst (λ n. IfOk c.slot_of.result (λ slot. (c' : RawCircuit) → HasFlow c' (giver_in c.args.givers.now) n c.args.name c.slot_of.new.slots slot)) next
    (ok_with c.slot_of.result _ _ _ c.slot_of.ensures.more c.slot_of.ensures.flow (λ slot more flow.
    has_same (giver_in c.args.givers.now) (c.args.fuel - 1) c.args.name c.in-Same.other c.slot_of.new.slots slot (sym c.giver_in.ensures ∙ c.in-Same.is) flow))

pub returns-in_ok-datum-in-Image-clause-flow : goal.returns-in_ok-datum-in-Image-clause-flow
returns-in_ok-datum-in-Image-clause-flow t c =
    let next : suc (c.args.fuel - 1) ≡ c.args.fuel = omega arith in
    subst (λ n. IfOk c.slot_with-in-Image.result (λ slot. (c' : RawCircuit) → HasFlow c' (giver_in c.args.givers.now) n c.args.name c.slot_with-in-Image.new.slots slot)) next
    (ok_with c.slot_with-in-Image.result _ _ _ c.slot_with-in-Image.ensures.more c.slot_with-in-Image.ensures.slot (λ slot more found.
    has_image (giver_in c.args.givers.now) (c.args.fuel - 1) c.args.name c.in-Image.channel c.in-Image.other c.in_ok-datum-in-Image.datum c.slot_of-in-Image.new.slots c.slot_with-in-Image.new.slots slot
    c.in_ok-datum-in-Image.ensures.more.ordered more found (sym c.giver_in.ensures ∙ c.in-Image.is) c.in_ok-datum-in-Image.ensures.flow))
