use Rattle.std.proofs.Common.{List, ℕ, Some, None, ap, ◌∙◌}
use Rattle.reo_value.specs.declared.value.Value.{Value}
use Rattle.reo_fabric.specs.declared.port_state.PortState.{PortState}
use Rattle.reo_fabric.specs.declared.port_state.PortState.TheVariants.{Answered}
use Rattle.reo_fabric.specs.inside.Writes.{written}
use Rattle.reo_fabric.proofs.WriteLemmas.{writes_carry_out, writes_answer}
use Rattle.reo_fabric.proofs.carry.carry_out.Goals as goal

pub returns-clause-cells : goal.returns-clause-cells
returns-clause-cells c =
    let entry = c.args.entry.now in
    c.empty_cells.ensures
    ∙ (ap (λ (takes : List (ℕ × Value)). written (λ value. None) takes c.fill_cells.new.cells) c.takes.ensures
    ∙ (ap (written (λ value. None) entry.takes) (c.fill_cells.ensures ∙ ap (λ (fills : List (ℕ × Value)). written Some fills c.args.cells.now) c.fills.ensures)
    ∙ writes_carry_out c.args.cells.now entry c.requires.within.takes_rise c.requires.within.fills_rise))

pub returns-clause-ports : goal.returns-clause-ports
returns-clause-ports c =
    let entry = c.args.entry.now in
    let make : Value → PortState = λ value. Answered value c.args.number in
    c.answer_ports-2.ensures
    ∙ (ap (λ (puts : List (ℕ × Value)). written make puts c.answer_ports.new.ports) c.puts.ensures
    ∙ (ap (written make entry.puts) (c.answer_ports.ensures ∙ ap (λ (gets : List (ℕ × Value)). written make gets c.args.ports.now) c.gets.ensures)
    ∙ writes_answer c.args.ports.now c.args.number entry c.requires.within.puts_rise c.requires.within.gets_rise))
