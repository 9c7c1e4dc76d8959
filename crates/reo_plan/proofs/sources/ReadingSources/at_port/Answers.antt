use Rattle.std.proofs.Common.{ℕ, map, sym, ap, ◌∙◌}
use Rattle.std.specs.Option.{option_and_then}
use Rattle.reo_fabric.specs.Entry.{at_place}
use Rattle.reo_flow.specs.Flow.{offered_value}
use Rattle.reo_plan.proofs.sources.ReadingSources.at_port.Goals as goal

pub returns-in-Some : goal.returns-in-Some
returns-in-Some c =
    let words : ℕ × ℕ × ℕ → ℕ × (ℕ × ℕ) = λ p. (p.0, (p.1, p.2)) in
    c.offered_value.ensures ∙ ap (option_and_then offered_value) (sym c.in-Some.is ∙ c.port_words.ensures ∙ ap (λ ports. at_place {A = ℕ × ℕ} (map words ports) c.args.port) c.as_slice.ensures)
