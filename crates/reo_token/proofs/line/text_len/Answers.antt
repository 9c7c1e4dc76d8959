use Rattle.reo_token.proofs.CutLemmas.{closes, is_bad, goes_on, never_closes}
use Rattle.reo_token.proofs.line.text_len.Goals as goal

pub returns-in-Closes-clause-exact : goal.returns-in-Closes-clause-exact
returns-in-Closes-clause-exact c = closes _ _ _ c.loop-at.invariant c.loop-at-test.true c.in-Closes.ensures

pub returns-in-Bad-clause-exact : goal.returns-in-Bad-clause-exact
returns-in-Bad-clause-exact c = is_bad _ _ _ c.loop-at.invariant c.loop-at-test.true c.in-Bad.ensures

pub loop-at-preserved : goal.loop-at-preserved
loop-at-preserved c = goes_on _ _ _ _ c.loop-at.invariant c.loop-at-test.true c.in-On.ensures

pub returns-clause-exact : goal.returns-clause-exact
returns-clause-exact c = never_closes _ _ _ c.loop-at.invariant c.loop-at-test.false
