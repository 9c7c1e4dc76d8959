use Rattle.std.proofs.Common.{◌≡◌, ℕ, map, drop}
use Rattle.reo_fabric.specs.Entry.{at_place}
use Rattle.reo_plan.proofs.view.port_words.Given as goal

abbrev pub invariant-loop-words : goal.invariant-loop-words
invariant-loop-words l =
    let words : ℕ × ℕ × ℕ → ℕ × (ℕ × ℕ) = λ p. (p.0, (p.1, p.2)) in
    at_place {A = ℕ × ℕ} (map words (drop l.words-index l.ports)) l.port ≡ at_place {A = ℕ × ℕ} (map words l.ports) l.port
