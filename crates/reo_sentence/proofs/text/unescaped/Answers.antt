use Rattle.std.proofs.Common.{ap, ◌∙◌}
use Rattle.reo_sentence.proofs.SeenLemmas.{bytes-some, bytes-none, bytes-end}
use Rattle.reo_sentence.proofs.text.unescaped.Goals as goal
use Rattle.reo_sentence.proofs.text.unescaped.Goals.{in-Some+in_ok-push-in-Some, in-None}

pub loop-byte-preserved : goal.loop-byte-preserved
loop-byte-preserved c =
    elim c.match-byte_step.branch [
      | in-Some+in_ok-push-in-Some w ↦ bytes-some _ _ _ _ _ _ _ c.loop-byte.invariant c.loop-byte-test.true w.in-Some.ensures w.is_escaped-is (ap (λ v. v.items) w.value-is ∙ w.in_ok-push-in-Some.ensures.items)
      | in-None w ↦ bytes-none _ _ _ _ _ _ c.loop-byte.invariant c.loop-byte-test.true w.in-None.ensures w.is_escaped-is (ap (λ v. v.items) w.value-is)
    ]

pub returns : goal.returns
returns c = bytes-end _ _ _ _ c.loop-byte.invariant c.loop-byte-test.false
