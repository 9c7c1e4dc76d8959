use Rattle.std.proofs.Common.{◌≡◌, ◌≢◌, length, arith, sym, subst, ◌∙◌}
use Rattle.reo_token.proofs.CutLemmas.{Cuts, Cuts-start, skipped, ends_over, ends_large, ends_bad, goes_on_with}
use Rattle.reo_token.proofs.line.cut_line.Goals as goal

pub loop-rest-init : goal.loop-rest-init
loop-rest-init c = subst (Cuts c.args.line.now c.args.line.now) (sym c.clear.ensures.items) (Cuts-start c.args.line.now)

pub returns-then-is_over-clause-within : goal.returns-then-is_over-clause-within
returns-then-is_over-clause-within c = c.loop-rest.invariant.within

pub returns-then-is_over-clause-exact : goal.returns-then-is_over-clause-exact
returns-then-is_over-clause-exact c =
    ends_over _ _ _ _ c.loop-rest.invariant (skipped _ _ _ c.skip-rest.ensures c.blanks.ensures.exact) (sym c.is_over.ensures ∙ c.if-is_over.true)

pub returns-then-len-eq-MOST_TOKENS-clause-within : goal.returns-then-len-eq-MOST_TOKENS-clause-within
returns-then-len-eq-MOST_TOKENS-clause-within c = c.loop-rest.invariant.within

pub returns-then-len-eq-MOST_TOKENS-clause-exact : goal.returns-then-len-eq-MOST_TOKENS-clause-exact
returns-then-len-eq-MOST_TOKENS-clause-exact c =
    let full : length c.loop-rest.tokens.items ≡ 512 = omega (arith, c.loop-rest.tokens.ok) in
    ends_large _ _ _ _ c.loop-rest.invariant (skipped _ _ _ c.skip-rest.ensures c.blanks.ensures.exact) (sym c.is_over.ensures ∙ c.if-is_over.false) full

pub returns-in_default-clause-within : goal.returns-in_default-clause-within
returns-in_default-clause-within c = c.loop-rest.invariant.within

pub returns-in_default-clause-exact : goal.returns-in_default-clause-exact
returns-in_default-clause-exact c =
    let room : length c.loop-rest.tokens.items ≢ 512 = omega (arith, c.loop-rest.tokens.ok) in
    ends_bad _ _ _ _ c.loop-rest.invariant (skipped _ _ _ c.skip-rest.ensures c.blanks.ensures.exact) (sym c.is_over.ensures ∙ c.if-is_over.false) room (sym c.in_default.ensures.exact)

pub loop-rest-preserved : goal.loop-rest-preserved
loop-rest-preserved c =
    let room : length c.loop-rest.tokens.items ≢ 512 = omega (arith, c.loop-rest.tokens.ok) in
    let next = goes_on_with _ _ _ _ _ _ _ c.loop-rest.invariant (skipped _ _ _ c.skip-rest.ensures c.blanks.ensures.exact) (sym c.is_over.ensures ∙ c.if-is_over.false) room (sym c.in-Some.ensures.exact) (record { fits = c.in-Some.ensures.within; some = c.in-Some.ensures.some; quotes = c.in-Some.ensures.quotes }) c.skip-rest-in-loop-rest.ensures in
    subst (Cuts c.args.line.now c.skip-rest-in-loop-rest.result.now) (sym c.in_ok-push.ensures.items) next
