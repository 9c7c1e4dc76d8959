use Rattle.std.proofs.Common.{◌∙◌, sym}
use Rattle.reo_guard.specs.declared.guard.Guard.TheVariants.{rolls-Compare, rolls-Mod, rolls-IsInt, rolls-IsText, rolls-LenAtMost, rolls-Starts, rolls-And, rolls-Or, rolls-Not}
use Rattle.reo_guard.proofs.HoldsLemmas.{by_layer, of_shown, both, not_both, first_of_two, second_of_two, turned}
use Rattle.reo_guard.proofs.guard.+is_met.Goals as goal

pub returns-in-Compare : goal.returns-in-Compare
returns-in-Compare t c = by_layer _ _ _ _ _ (c.in-Compare.is ∙ sym (rolls-Compare c.in-Compare.cmp c.in-Compare.constant)) c.compares.ensures

pub returns-in-Mod : goal.returns-in-Mod
returns-in-Mod t c = by_layer _ _ _ _ _ (c.in-Mod.is ∙ sym (rolls-Mod c.in-Mod.divisor c.in-Mod.remainder)) c.has_remainder.ensures

pub returns-in-IsInt : goal.returns-in-IsInt
returns-in-IsInt t c = by_layer _ _ _ _ _ (c.in-IsInt.is ∙ sym rolls-IsInt) c.is_integer.ensures

pub returns-in-IsText : goal.returns-in-IsText
returns-in-IsText t c = by_layer _ _ _ _ _ (c.in-IsText.is ∙ sym rolls-IsText) c.is_text.ensures

pub returns-in-LenAtMost : goal.returns-in-LenAtMost
returns-in-LenAtMost t c = by_layer _ _ _ _ _ (c.in-LenAtMost.is ∙ sym (rolls-LenAtMost c.in-LenAtMost.most)) c.is_short.ensures

pub returns-in-Starts : goal.returns-in-Starts
returns-in-Starts t c = by_layer _ _ _ _ _ (c.in-Starts.is ∙ sym (rolls-Starts c.in-Starts.front)) c.starts_with.ensures

pub returns-then-is_met : goal.returns-then-is_met
returns-then-is_met t c =
    by_layer _ _ _ _ _ (c.in-And.is ∙ sym (rolls-And c.in-And.left c.in-And.right))
    (both c.is_met.result c.is_met-then-is_met.result (of_shown _ _ _ _ _ c.get.ensures c.is_met.ensures) c.if-is_met.true (of_shown _ _ _ _ _ c.get-then-is_met.ensures c.is_met-then-is_met.ensures))

pub returns-else-is_met : goal.returns-else-is_met
returns-else-is_met t c =
    by_layer _ _ _ _ _ (c.in-And.is ∙ sym (rolls-And c.in-And.left c.in-And.right))
    (not_both c.is_met.result (of_shown _ _ _ _ _ c.get.ensures c.is_met.ensures) c.if-is_met.false)

pub returns-then-is_met-2 : goal.returns-then-is_met-2
returns-then-is_met-2 t c =
    by_layer _ _ _ _ _ (c.in-Or.is ∙ sym (rolls-Or c.in-Or.left c.in-Or.right))
    (first_of_two c.is_met-in-Or.result (of_shown _ _ _ _ _ c.get-in-Or.ensures c.is_met-in-Or.ensures) c.if-is_met-2.true)

pub returns-else-is_met-2 : goal.returns-else-is_met-2
returns-else-is_met-2 t c =
    by_layer _ _ _ _ _ (c.in-Or.is ∙ sym (rolls-Or c.in-Or.left c.in-Or.right))
    (second_of_two c.is_met-in-Or.result c.is_met-else-is_met-2.result (of_shown _ _ _ _ _ c.get-in-Or.ensures c.is_met-in-Or.ensures) c.if-is_met-2.false (of_shown _ _ _ _ _ c.get-else-is_met-2.ensures c.is_met-else-is_met-2.ensures))

pub returns-in-Not : goal.returns-in-Not
returns-in-Not t c =
    by_layer _ _ _ _ _ (c.in-Not.is ∙ sym (rolls-Not c.in-Not.inner)) (turned c.is_met-in-Not.result (of_shown _ _ _ _ _ c.get-in-Not.ensures c.is_met-in-Not.ensures))
