use Rattle.std.proofs.Common.{◌+◌, get_or, take, arith, subst}
use Rattle.std.proofs.lemmas.Bool.{eqb-true}
use Rattle.std.proofs.lemmas.List.{take_all}
use Rattle.reo_growth.specs.Lists.{has}
use Rattle.reo_growth.specs.Marks.{IsBefore, opened}
use Rattle.reo_growth.proofs.MarkLemmas.{changes_twice, has_more, opened_again}
use Rattle.reo_growth.proofs.OpenLemmas.{before_more}
use Rattle.reo_growth.proofs.TrailLemmas.{more_changed}
use Rattle.reo_growth.proofs.marks.mark_open.Goals as goal

pub loop-holder-preserved : goal.loop-holder-preserved
loop-holder-preserved c =
    let holders = c.args.holders.now in
    let i = c.loop-holder.holder-index in
    record {
      changed = changes_twice opened opened_again (has (take i holders)) _ (has (take (i + 1) holders)) (λ k. has_more holders i k c.loop-holder-test.true)
          c.args.automata.now.marks.items c.loop-holder.automata.marks.items c.open_one.new.automata.marks.items c.loop-holder.invariant.changed c.in_ok-open_one.ensures.changed;
      undo = more_changed c.args.automata.now c.loop-holder.automata c.open_one.new.automata c.loop-holder.invariant.undo c.in_ok-open_one.ensures.undo;
      least = before_more (has (take i holders)) _ (has (take (i + 1) holders)) (λ k. has_more holders i k c.loop-holder-test.true) c.args.least c.loop-holder.least c.min-least.result c.loop-holder.invariant.least
          (omega (arith, c.min-least.ensures), λ k h. let e = eqb-true (get_or holders i 0) k h in omega (arith, c.min-least.ensures));
    }

pub returns-clause-least : goal.returns-clause-least
returns-clause-least c =
    subst (λ holders. IsBefore (has holders) c.args.least c.loop-holder.least) (take_all c.loop-holder.holder-index c.args.holders.now c.loop-holder-test.false) c.loop-holder.invariant.least
