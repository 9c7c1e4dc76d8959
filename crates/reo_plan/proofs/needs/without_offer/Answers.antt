use Rattle.std.proofs.Common.{◌≡◌, ◌%◌, ⊎_elim, nat_eq, sym, ◌∙◌, subst}
use Rattle.std.specs.Int.{bit_at}
use Rattle.std.proofs.lemmas.Bool.{cases_eq, eqb-true}
use Rattle.reo_plan.proofs.AskLemmas.{and-left}
use Rattle.reo_plan.proofs.MarkLemmas.{no_shared, not_shared}
use Rattle.reo_plan.proofs.needs.without_offer.Goals as goal

pub returns-then-words-eq1-clause-kept : goal.returns-then-words-eq1-clause-kept
returns-then-words-eq1-clause-kept c = λ j none.
    let result = c.without_bit.result in
    no_shared result j (⊎_elim (λ same. subst (λ k. bit_at result k ≡ 0) (sym same) c.without_bit.ensures.own) (λ other. c.without_bit.ensures.others j other ∙ not_shared c.args.missing j none) (cases_eq j (c.args.words.now.0 % 64)))

pub returns-then-words-eq1-clause-offer : goal.returns-then-words-eq1-clause-offer
returns-then-words-eq1-clause-offer c = λ j offers.
    let words = c.args.words.now in
    let same = eqb-true (words.0 % 64) j (and-left (nat_eq (words.0 % 64) j) (nat_eq words.1 1) offers) in
    no_shared c.without_bit.result j (subst (λ k. bit_at c.without_bit.result k ≡ 0) same c.without_bit.ensures.own)
