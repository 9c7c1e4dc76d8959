use Rattle.std.proofs.Common.{◌≡◌, ℕ, ◌+◌, Bool, not, ◌&&◌, ◌||◌, take, get_or, sym, ap, subst, ◌∙◌}
use Rattle.std.proofs.lemmas.List.{get_or_default, take_all}
use Rattle.reo_growth.specs.declared.marks.Mark.TheVariants.{Unknown}
use Rattle.reo_growth.specs.Lists.{has}
use Rattle.reo_growth.specs.Marks.{IsBefore, holders_at, is_fires, is_newly_held, opened}
use Rattle.reo_growth.proofs.OpenLemmas.{before_more}
use Rattle.reo_growth.proofs.MarkLemmas.{any_more, changes_twice, opened_again}
use Rattle.reo_growth.proofs.TrailLemmas.{more_changed}
use Rattle.reo_growth.proofs.ground.mark_all_open.Goals as goal

pub loop-name-preserved : goal.loop-name-preserved
loop-name-preserved c =
    let names = c.args.names.now in
    let holders = c.args.holders.now in
    let link = c.args.link.now in
    let i = c.loop-name.name-index in
    let name = get_or link i 0 in
    let within = c.loop-name-test.true in
    let already = c.fires-already.ensures ∙ ap is_fires (get_or_default names name _ Unknown (c.requires.known i 0 within)) in
    let holder = c.as_slice.ensures ∙ c.index-holders-name.is ∙ get_or_default holders name _ _ (c.requires.named i 0 within) in
    let before : ℕ → Bool = is_newly_held names holders (take i link) in
    let one : ℕ → Bool = λ k. not c.fires-already.result && has c.as_slice.result.now k in
    let after : ℕ → Bool = is_newly_held names holders (take (i + 1) link) in
    let either : (k : ℕ) → after k ≡ (before k || one k) =
    λ k. any_more (λ other. not (is_fires (get_or names other Unknown)) && has (holders_at holders other) k) link i within
    ∙ ap (λ b. before k || (not b && has (holders_at holders name) k)) (sym already)
    ∙ ap (λ xs. before k || (not c.fires-already.result && has xs k)) (sym holder) in
    record {
      changed = changes_twice opened opened_again before one after either
          c.args.automata.now.marks.items c.loop-name.automata.marks.items c.open_holders.new.automata.marks.items c.loop-name.invariant.changed c.in_ok-least.ensures.opened;
      undo = more_changed c.args.automata.now c.loop-name.automata c.open_holders.new.automata c.loop-name.invariant.undo c.in_ok-least.ensures.undo;
      least = before_more before one after either c.args.least c.loop-name.least _ c.loop-name.invariant.least c.in_ok-least.ensures.least;
    }

pub returns-clause-least : goal.returns-clause-least
returns-clause-least c =
    subst (λ link. IsBefore (is_newly_held c.args.names.now c.args.holders.now link) c.args.least c.loop-name.least)
    (take_all c.loop-name.name-index c.args.link.now c.loop-name-test.false) c.loop-name.invariant.least
