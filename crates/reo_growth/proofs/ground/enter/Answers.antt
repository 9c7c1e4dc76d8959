use Rattle.std.proofs.Common.{◌≡◌, length, subst, sym, ap, ◌∙◌}
use Rattle.reo_growth.specs.declared.web.Automaton.{Automaton}
use Rattle.reo_growth.specs.Lists.{has}
use Rattle.reo_growth.specs.Marks.{AreBelow, Changes, met, opened, is_newly_held}
use Rattle.reo_growth.proofs.MarkLemmas.{names_at, own_below, link_below, names_entered, automata_entered}
use Rattle.reo_growth.proofs.TrailLemmas.{more_changed}
use Rattle.reo_growth.proofs.ground.enter.Goals as goal

pub mark_fired-requires : goal.mark_fired-requires
mark_fired-requires c =
    subst (λ n. AreBelow n c.args.link.now) (sym c.requires.long.names) (link_below c.args.ground.now.web c.requires.ground.is_web c.args.x c.args.link.now c.requires.its)

pub mark_known-requires : goal.mark_known-requires
mark_known-requires c =
    let w = c.args.ground.now.web in
    let names = names_at w c.args.x c.as_slice.result.now c.index-as_slice-x.result c.requires.within c.as_slice.ensures ∙ sym (c.as_slice-4.ensures ∙ ap (λ (a : Automaton). a.names) c.index-as_slice-x.is) in
    let long : length c.mark_fired.new.names.marks.items ≡ w.names = c.in_ok-mark_fired.ensures.changed.0 ∙ c.requires.long.names in
    subst (λ n. AreBelow n c.as_slice-4.result.now) (sym long) (subst (AreBelow w.names) names (own_below w c.requires.ground.is_web c.args.x))

pub mark_all_open-requires-clause-named : goal.mark_all_open-requires-clause-named
mark_all_open-requires-clause-named c =
    let w = c.args.ground.now.web in
    let long : length c.as_slice-3.result.now ≡ w.names = ap length c.as_slice-3.ensures ∙ c.requires.ground.held.long in
    subst (λ n. AreBelow n c.args.link.now) (sym long) (link_below w c.requires.ground.is_web c.args.x c.args.link.now c.requires.its)

pub mark_all_open-requires-clause-known : goal.mark_all_open-requires-clause-known
mark_all_open-requires-clause-known c =
    let w = c.args.ground.now.web in
    let long : length c.as_slice-2.result.now ≡ w.names = ap length c.as_slice-2.ensures.value ∙ c.requires.long.names in
    subst (λ n. AreBelow n c.args.link.now) (sym long) (link_below w c.requires.ground.is_web c.args.x c.args.link.now c.requires.its)

pub returns-clause-entered : goal.returns-clause-entered
returns-clause-entered c = λ v are.
    let w = c.args.ground.now.web in
    let x = c.args.x in
    let link = c.args.link.now in
    let names = names_at w x c.as_slice.result.now c.index-as_slice-x.result c.requires.within c.as_slice.ensures ∙ sym (c.as_slice-4.ensures ∙ ap (λ (a : Automaton). a.names) c.index-as_slice-x.is) in
    record {
      automata = automata_entered w v x link c.requires.ground.is_web c.args.ground.now.holders c.requires.ground.held c.requires.its
          c.as_slice-2.result.now c.args.marking.now.automata.marks.items c.mark_all_open.new.automata.marks.items c.change.new.self.marks.items (c.as_slice-2.ensures.value ∙ are.names) are.automata
          (subst (λ xs. Changes (is_newly_held c.as_slice-2.result.now xs link) opened c.args.marking.now.automata.marks.items c.mark_all_open.new.automata.marks.items) c.as_slice-3.ensures c.in_ok-least.ensures.opened)
          c.in_ok-change.ensures.changed;
      names = names_entered w v x link c.args.marking.now.names.marks.items c.mark_fired.new.names.marks.items c.mark_known.new.names.marks.items are.names
          c.in_ok-mark_fired.ensures.changed
          (subst (λ xs. Changes (has xs) met c.mark_fired.new.names.marks.items c.mark_known.new.names.marks.items) (sym names) c.in_ok-mark_known.ensures.changed);
    }

pub returns-clause-automata : goal.returns-clause-automata
returns-clause-automata c =
    more_changed c.args.marking.now.automata c.mark_all_open.new.automata c.change.new.self c.in_ok-least.ensures.undo c.in_ok-change.ensures.undo

pub returns-clause-names : goal.returns-clause-names
returns-clause-names c =
    more_changed c.args.marking.now.names c.mark_fired.new.names c.mark_known.new.names c.in_ok-mark_fired.ensures.undo c.in_ok-mark_known.ensures.undo
