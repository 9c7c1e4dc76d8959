use Rattle.std.proofs.Common.{◌≡◌, ◌+◌, ◌∷◌, [], ◌++◌, map, length, sym, ap, ◌∙◌, arith}
use Rattle.std.specs.List.{range_with_len}
use Rattle.reo_graph.specs.Closure.{count_below}
use Rattle.reo_cut.specs.Numbers.{is_root}
use Rattle.reo_cut.proofs.CountLemmas.{count_none, count_within, map_range_more}
use Rattle.reo_cut.proofs.regions.counts.Goals as goal

pub loop-automaton-init : goal.loop-automaton-init
loop-automaton-init c = record { counts = c.new-counts.ensures.items; count = sym (count_none (is_root c.args.net.now c.args.labels.now)) }

pub next_count-count-requires-clause-fit : goal.next_count-count-requires-clause-fit
next_count-count-requires-clause-fit c =
    let most = count_within (is_root c.args.net.now c.args.labels.now) c.loop-automaton.automaton in
    omega (arith, most, c.loop-automaton.invariant.count, c.loop-automaton-test.true, c.requires)

pub loop-automaton-preserved : goal.loop-automaton-preserved
loop-automaton-preserved c =
    let p = is_root c.args.net.now c.args.labels.now in
    let n = c.loop-automaton.automaton in
    record {
      counts = c.in_ok-push.ensures.items ∙ (ap (λ l. l ++ c.loop-automaton.count ∷ []) c.loop-automaton.invariant.counts ∙ (ap (λ k. map (count_below p) (range_with_len 0 n) ++ k ∷ []) c.loop-automaton.invariant.count ∙ sym (map_range_more (count_below p) n)));
      count = c.next_count-count.ensures;
    }

pub returns : goal.returns
returns c =
    let p = is_root c.args.net.now c.args.labels.now in
    let n = c.loop-automaton.automaton in
    let all : n ≡ length c.args.labels.now = omega arith in
    c.in_ok-push-2.ensures.items ∙ (ap (λ l. l ++ c.loop-automaton.count ∷ []) c.loop-automaton.invariant.counts ∙ (ap (λ k. map (count_below p) (range_with_len 0 n) ++ k ∷ []) c.loop-automaton.invariant.count ∙ (sym (map_range_more (count_below p) n) ∙ ap (λ k. map (count_below p) (range_with_len 0 (k + 1))) all)))
