use Rattle.std.proofs.Common.{ℕ, get_or, None, arith}
use Rattle.reo_fabric.specs.Reading.{state_word, data_word}
use Rattle.reo_fabric.specs.Engine.{offers_of}
use Rattle.reo_fabric.proofs.WordLemmas.{mapped_all}
use Rattle.reo_fabric.proofs.words.read_ports.Goals as goal

pub returns : goal.returns
returns c =
    mapped_all (λ (p : ℕ × ℕ × ℕ). (p.0, state_word (get_or (offers_of c.args.ports.now) p.0 None), data_word (get_or (offers_of c.args.ports.now) p.0 None))) (0, 0, 0) c.args.words.now c.loop-at.words c.loop-at.invariant.len
    (λ k within. c.loop-at.invariant.done k (omega arith))
