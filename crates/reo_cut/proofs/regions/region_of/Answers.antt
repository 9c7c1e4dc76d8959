use Rattle.std.proofs.Common.{◌∷◌, [], ◌++◌, map, sym, ap, ◌∙◌}
use Rattle.std.specs.List.{range_with_len}
use Rattle.reo_cut.specs.Numbers.{region_at}
use Rattle.reo_cut.proofs.CountLemmas.{map_range_more}
use Rattle.reo_cut.proofs.regions.region_of.Goals as goal

pub loop-automaton-preserved : goal.loop-automaton-preserved
loop-automaton-preserved c =
    let f = region_at c.args.net.now c.args.numbers.now in
    let n = c.loop-automaton.automaton in
    c.in_ok-push.ensures.items ∙ (ap (λ l. l ++ c.region-region.result ∷ []) c.loop-automaton.invariant ∙ (ap (λ r. map f (range_with_len 0 n) ++ r ∷ []) c.region-region.ensures ∙ sym (map_range_more f n)))
