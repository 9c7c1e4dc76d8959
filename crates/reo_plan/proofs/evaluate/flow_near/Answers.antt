use Rattle.std.proofs.Common.{◌≡◌, suc, ◌-◌, sym, ap, ◌∙◌, arith}
use Rattle.reo_flow.specs.declared.giver.Giver.TheVariants.{Cell, Port}
use Rattle.reo_flow.specs.Flow.{flow}
use Rattle.reo_plan.specs.inside.Slots.{slot_at}
use Rattle.reo_plan.proofs.SlotLemmas.{no_flow, flow_step}
use Rattle.reo_plan.proofs.evaluate.flow_near.Goals as goal

pub returns-then-fuel-eq0 : goal.returns-then-fuel-eq0
returns-then-fuel-eq0 g c =
    let none : 0 ≡ c.args.fuel = omega arith in
    sym (no_flow c.args.net.now c.args.texts.now (g.S.Sources.sources c.args.sources.now) (slot_at c.args.slots.now) c.args.slot)
    ∙ ap (λ n. flow c.args.net.now c.args.texts.now (g.S.Sources.sources c.args.sources.now) (slot_at c.args.slots.now) n c.args.slot) none

pub returns-in-Cell : goal.returns-in-Cell
returns-in-Cell g c =
    let next : suc (c.args.fuel - 1) ≡ c.args.fuel = omega arith in
    c.in_cell.ensures
    ∙ flow_step c.args.net.now c.args.texts.now (g.S.Sources.sources c.args.sources.now) c.args.slots.now c.args.fuel c.args.slot (Cell c.in-Cell.cell) next (sym c.giver_at.ensures ∙ c.in-Cell.is)

pub returns-in-Port : goal.returns-in-Port
returns-in-Port g c =
    let next : suc (c.args.fuel - 1) ≡ c.args.fuel = omega arith in
    c.at_port.ensures
    ∙ flow_step c.args.net.now c.args.texts.now (g.S.Sources.sources c.args.sources.now) c.args.slots.now c.args.fuel c.args.slot (Port c.in-Port.port) next (sym c.giver_at.ensures ∙ c.in-Port.is)
