use Rattle.std.proofs.Common.{◌≡◌, suc, ◌-◌, sym, ap, ◌∙◌, arith}
use Rattle.std.specs.Option.{option_and_then}
use Rattle.reo_flow.specs.Flow.{image_at, flow}
use Rattle.reo_plan.specs.inside.Slots.{slot_at}
use Rattle.reo_flow.specs.declared.giver.Giver.TheVariants.{Cell, Port, Image}
use Rattle.reo_plan.proofs.SlotLemmas.{flow_step}
use Rattle.reo_plan.proofs.evaluate.slot_value.Goals as goal

pub returns-in-Cell : goal.returns-in-Cell
returns-in-Cell g c =
    let next : suc (suc c.args.slot - 1) ≡ suc c.args.slot = omega arith in
    c.in_cell.ensures ∙ flow_step c.args.net.now c.args.texts.now (g.S.Sources.sources c.args.sources.now) c.args.slots.now (suc c.args.slot) c.args.slot (Cell c.in-Cell.cell) next (sym c.giver_at.ensures ∙ c.in-Cell.is)

pub returns-in-Port : goal.returns-in-Port
returns-in-Port g c =
    let next : suc (suc c.args.slot - 1) ≡ suc c.args.slot = omega arith in
    c.at_port.ensures ∙ flow_step c.args.net.now c.args.texts.now (g.S.Sources.sources c.args.sources.now) c.args.slots.now (suc c.args.slot) c.args.slot (Port c.in-Port.port) next (sym c.giver_at.ensures ∙ c.in-Port.is)

pub returns-in-Image : goal.returns-in-Image
returns-in-Image g c =
    let next : suc (suc c.args.slot - 1) ≡ suc c.args.slot = omega arith in
    let fuel : c.from.result ≡ suc c.args.slot - 1 = omega (arith, c.from.ensures) in
    let flows = flow c.args.net.now c.args.texts.now (g.S.Sources.sources c.args.sources.now) (slot_at c.args.slots.now) in
    c.image_of.ensures ∙ ap (option_and_then (image_at c.args.net.now c.args.texts.now c.in-Image.channel)) (c.flow_near-datum.ensures ∙ ap (λ n. flows n c.in-Image.other) fuel)
    ∙ flow_step c.args.net.now c.args.texts.now (g.S.Sources.sources c.args.sources.now) c.args.slots.now (suc c.args.slot) c.args.slot (Image c.in-Image.channel c.in-Image.other) next (sym c.giver_at.ensures ∙ c.in-Image.is)
