use Rattle.std.proofs.Common.{◌≡◌, ℕ, ⊎_elim, inl, inr, Bool, List, refl, sym, ap, ◌∙◌, subst, arith}
use Rattle.std.specs.List.{list_all}
use Rattle.std.specs.Int.{bit_at}
use Rattle.std.proofs.lemmas.Bool.{cases_eq}
use Rattle.std.proofs.lemmas.Nat.Bits.{bit_at-zero}
use Rattle.reo_flow.specs.declared.fact.Fact.{Fact}
use Rattle.reo_flow.specs.declared.giver.Giver.{Giver}
use Rattle.reo_plan.specs.inside.Asks.{so_in, number_so}
use Rattle.reo_plan.specs.inside.Columns.{column_bit, MissesRows}
use Rattle.reo_plan.proofs.MarkLemmas.{small_has, all_by_has}
use Rattle.reo_plan.proofs.AskLemmas.{own_fails, number_fails, all_fit}
use Rattle.reo_plan.proofs.first.fits_or_rules_out.Goals as goal

pub returns-then-not-all_so-clause-fits : goal.returns-then-not-all_so-clause-fits
returns-then-not-all_so-clause-fits c =
    let row = c.args.row.now in
    let asks = c.args.asks.now in
    let so : List Giver → Fact → Bool = so_in c.args.net.now c.args.texts.now c.args.reading.now in
    own_fails c.args.net.now c.args.texts.now c.args.reading.now c.args.shared.now.slots c.args.shared.now.facts row asks c.requires.asks
    (sym c.if-not-all_so.true ∙ c.all_so.ensures ∙ ap (λ own. list_all (so own) c.as_slice-rest.result.now) c.as_slice-own.ensures ∙ ap (list_all (so row.slots)) c.as_slice-rest.ensures)

pub loop-left-init : goal.loop-left-init
loop-left-init c = record {
  marks = c.requires.marks;
  left = λ n there.
      c.unmarked-left.ensures.left (number_so c.args.net.now c.args.texts.now c.args.reading.now c.args.shared.now.slots c.args.shared.now.facts) c.requires.marks.met n
      (c.requires.asks.marked n there (small_has c.args.asks.now.numbers c.requires.asks.small n there));
  within = c.unmarked-left.ensures.within;
  out = refl;
}

pub returns-then-not-is_so-clause-fits : goal.returns-then-not-is_so-clause-fits
returns-then-not-is_so-clause-fits c =
    let so : List Giver → List Fact → ℕ → Bool = number_so c.args.net.now c.args.texts.now c.args.reading.now in
    let shared = c.args.shared.now in
    let n = c.lowest-number.result in
    let is : c.number_so-is_so.result ≡ so shared.slots shared.facts n =
    c.number_so-is_so.ensures ∙ ap (λ slots. so slots c.as_slice-facts.result.now n) c.as_slice-slots.ensures ∙ ap (λ facts. so shared.slots facts n) c.as_slice-facts.ensures in
    number_fails c.args.net.now c.args.texts.now c.args.reading.now shared.slots shared.facts c.args.row.now c.args.asks.now c.requires.asks n
    (c.loop-left.invariant.within n c.lowest-number.ensures.bit) (sym is ∙ c.if-not-is_so.true)

pub returns-then-not-is_so-clause-marks : goal.returns-then-not-is_so-clause-marks
returns-then-not-is_so-clause-marks c =
    let so : List Giver → List Fact → ℕ → Bool = number_so c.args.net.now c.args.texts.now c.args.reading.now in
    let shared = c.args.shared.now in
    let n = c.lowest-number.result in
    let is : c.number_so-is_so.result ≡ so shared.slots shared.facts n =
    c.number_so-is_so.ensures ∙ ap (λ slots. so slots c.as_slice-facts.result.now n) c.as_slice-slots.ensures ∙ ap (λ facts. so shared.slots facts n) c.as_slice-facts.ensures in
    c.mark.ensures (so shared.slots shared.facts) (sym is) c.loop-left.invariant.marks

pub returns-then-not-is_so-clause-out : goal.returns-then-not-is_so-clause-out
returns-then-not-is_so-clause-out c = λ p none misses.
    let so : List Giver → List Fact → ℕ → Bool = number_so c.args.net.now c.args.texts.now c.args.reading.now in
    let shared = c.args.shared.now in
    let n = c.lowest-number.result in
    let is : c.number_so-is_so.result ≡ so shared.slots shared.facts n =
    c.number_so-is_so.ensures ∙ ap (λ slots. so slots c.as_slice-facts.result.now n) c.as_slice-slots.ensures ∙ ap (λ facts. so shared.slots facts n) c.as_slice-facts.ensures in
    c.rule_out.ensures p (λ row small passes. ap (λ columns. column_bit columns n row) c.as_slice.ensures ∙ none n row small passes (sym is ∙ c.if-not-is_so.true))
    (subst (MissesRows p) (sym c.loop-left.invariant.out) misses)

pub loop-left-preserved : goal.loop-left-preserved
loop-left-preserved c =
    let so : List Giver → List Fact → ℕ → Bool = number_so c.args.net.now c.args.texts.now c.args.reading.now in
    let shared = c.args.shared.now in
    let number = c.lowest-number.result in
    let left = c.without_bit-left.result in
    let is : c.number_so-is_so.result ≡ so shared.slots shared.facts number =
    c.number_so-is_so.ensures ∙ ap (λ slots. so slots c.as_slice-facts.result.now number) c.as_slice-slots.ensures ∙ ap (λ facts. so shared.slots facts number) c.as_slice-facts.ensures in
    record {
      marks = c.mark.ensures (so shared.slots shared.facts) (sym is) c.loop-left.invariant.marks;
      left = λ n there. ⊎_elim
          (λ same. inl (ap (so shared.slots shared.facts) same ∙ sym is ∙ c.if-not-is_so.false))
          (λ other. ⊎_elim (λ passes. inl passes) (λ some. inr (c.without_bit-left.ensures.others n other ∙ some)) (c.loop-left.invariant.left n there))
          (cases_eq n number);
      within = λ n some. ⊎_elim
          (λ same. absurd (omega (arith, some, ap (bit_at left) same, c.without_bit-left.ensures.own)))
          (λ other. c.loop-left.invariant.within n (sym (c.without_bit-left.ensures.others n other) ∙ some))
          (cases_eq n number);
      out = c.loop-left.invariant.out;
    }

pub returns-clause-fits : goal.returns-clause-fits
returns-clause-fits c =
    let so : List Giver → Fact → Bool = so_in c.args.net.now c.args.texts.now c.args.reading.now in
    let shared = c.args.shared.now in
    let asks = c.args.asks.now in
    let row = c.args.row.now in
    let p : ℕ → Bool = number_so c.args.net.now c.args.texts.now c.args.reading.now shared.slots shared.facts in
    let none : (n : ℕ) → bit_at c.loop-left.left n ≡ 0 = λ n. ap (λ left. bit_at left n) (omega (arith, c.loop-left-test.false)) ∙ bit_at-zero n in
    all_fit c.args.net.now c.args.texts.now c.args.reading.now shared.slots shared.facts row asks c.requires.asks
    (all_by_has p asks.numbers (λ n there. ⊎_elim (λ passes. passes) (λ some. absurd (omega (arith, some, none n))) (c.loop-left.invariant.left n there)))
    (sym (ap (list_all (so row.slots)) c.as_slice-rest.ensures) ∙ sym (ap (λ own. list_all (so own) c.as_slice-rest.result.now) c.as_slice-own.ensures) ∙ sym c.all_so.ensures ∙ c.if-not-all_so.false)
