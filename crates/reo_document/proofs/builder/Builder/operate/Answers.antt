use Rattle.std.proofs.Common.{sym, subst, ◌∙◌}
use Rattle.reo_sentence.specs.Said.{name_at}
use Rattle.reo_document.specs.Builder.{data_of, operation_said}
use Rattle.reo_document.specs.Reading.{StopsWith}
use Rattle.reo_document.proofs.ReadLemmas.{OnOk-same, goes_as, stops_as, operation_misplaced, operation_with}
use Rattle.reo_document.proofs.builder.Builder.operate.Goals as goal

pub returns-in-Some-clause-stops : goal.returns-in-Some-clause-stops
returns-in-Some-clause-stops c = λ d has.
    let name = name_at c.args.line.now c.args.node in
    subst (StopsWith d c.args.number c.args.line.now) (sym c.refusal_at.ensures)
    (stops_as d (data_of c.args.self.now) c.args.number c.args.line.now (operation_said name c.args.value) c.in-Some.why
    (sym c.in-Some.is ∙ c.misplaced_at.ensures
    ∙ operation_misplaced (data_of c.args.self.now) name c.args.value c.way_with.result c.node-node.result c.port-port.result c.way_with.ensures c.node-node.ensures c.port-port.ensures) has)

pub returns-in-None-clause-goes : goal.returns-in-None-clause-goes
returns-in-None-clause-goes c = λ d has.
    let name = name_at c.args.line.now c.args.node in
    OnOk-same c.add_operation.result c.map_err.result c.map_err.ensures.variant
    (λ added. goes_as d (data_of c.args.self.now) (data_of c.add_operation.new.self) c.args.number c.args.line.now (operation_said name c.args.value)
    (sym c.in-None.is ∙ c.misplaced_at.ensures
    ∙ operation_misplaced (data_of c.args.self.now) name c.args.value c.way_with.result c.node-node.result c.port-port.result c.way_with.ensures c.node-node.ensures c.port-port.ensures)
    (added ∙ operation_with (data_of c.args.self.now) name c.args.value c.node-node.result c.port-port.result c.node-node.ensures c.port-port.ensures) has)
    c.add_operation.ensures.exact

pub returns-in-None-clause-exact : goal.returns-in-None-clause-exact
returns-in-None-clause-exact c =
    OnOk-same c.add_operation.result c.map_err.result c.map_err.ensures.variant
    (λ added. added ∙ operation_with (data_of c.args.self.now) (name_at c.args.line.now c.args.node) c.args.value c.node-node.result c.port-port.result c.node-node.ensures c.port-port.ensures)
    c.add_operation.ensures.exact
