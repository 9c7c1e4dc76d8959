use Rattle.std.proofs.Common.{◌+◌, sym, ap, ◌∙◌}
use Rattle.reo_cut.specs.Numbers.{is_root}
use Rattle.reo_cut.proofs.CountLemmas.{count_hit, count_miss}
use Rattle.reo_cut.proofs.regions.next_count.Goals as goal

pub returns-then-is_root : goal.returns-then-is_root
returns-then-is_root c =
    ap (λ n. n + 1) c.requires.so_far ∙ sym (count_hit (is_root c.args.net.now c.args.labels.now) c.args.automaton (sym c.is_root.ensures ∙ c.if-is_root.true))

pub returns-else-is_root : goal.returns-else-is_root
returns-else-is_root c =
    c.requires.so_far ∙ sym (count_miss (is_root c.args.net.now c.args.labels.now) c.args.automaton (sym c.is_root.ensures ∙ c.if-is_root.false))
