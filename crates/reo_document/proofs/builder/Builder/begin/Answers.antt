use Rattle.std.proofs.Common.{sym, ap, subst, ◌∙◌}
use Rattle.reo_sentence.specs.Said.{ComponentSaid, name_at}
use Rattle.reo_document.specs.Builder.{data_of}
use Rattle.reo_document.specs.Placed.{with_said}
use Rattle.reo_document.specs.Reading.{StopsWith}
use Rattle.reo_document.proofs.ReadLemmas.{OnOk-same, goes_as, stops_as}
use Rattle.reo_document.proofs.builder.Builder.begin.Goals as goal

pub returns-in-Some-clause-stops : goal.returns-in-Some-clause-stops
returns-in-Some-clause-stops c = λ d has.
    subst (StopsWith d c.args.number c.args.line.now) (sym c.refusal_at.ensures)
    (stops_as d (data_of c.args.self.now) c.args.number c.args.line.now (ComponentSaid (name_at c.args.line.now c.args.name)) c.in-Some.why (sym c.in-Some.is ∙ c.misplaced_component.ensures) has)

pub returns-in-None-clause-goes : goal.returns-in-None-clause-goes
returns-in-None-clause-goes c = λ d has.
    OnOk-same c.add_component.result c.map_err.result c.map_err.ensures.variant
    (λ added. goes_as d (data_of c.args.self.now) (data_of c.add_component.new.self) c.args.number c.args.line.now (ComponentSaid (name_at c.args.line.now c.args.name)) (sym c.in-None.is ∙ c.misplaced_component.ensures)
    (added ∙ ap (λ n. with_said (data_of c.args.self.now) (ComponentSaid n)) c.name_in.ensures) has)
    c.add_component.ensures.exact

pub returns-in-None-clause-exact : goal.returns-in-None-clause-exact
returns-in-None-clause-exact c =
    OnOk-same c.add_component.result c.map_err.result c.map_err.ensures.variant (λ added. added ∙ ap (λ n. with_said (data_of c.args.self.now) (ComponentSaid n)) c.name_in.ensures) c.add_component.ensures.exact
