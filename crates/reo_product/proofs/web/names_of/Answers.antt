use Rattle.std.proofs.Common.{ap, ◌∙◌}
use Rattle.std.specs.Prelude.{flat_map}
use Rattle.std.proofs.lemmas.List.{take_all}
use Rattle.std.proofs.lemmas.List.Filters.{dedup_is}
use Rattle.reo_automata.specs.declared.template.Template.{Template}
use Rattle.reo_product.proofs.WebLemmas.{names_are}
use Rattle.reo_product.proofs.web.names_of.Goals as goal

pub returns : goal.returns
returns c =
    let kept = dedup_is _ _ _ c.dedup.ensures.filtered in
    let all = c.loop-template.invariant ∙ ap (flat_map (λ (t : Template). t.names)) (take_all c.loop-template.template-index c.args.templates.now c.loop-template-test.false) in
    names_are c.args.templates.now c.loop-template.names.items c.sort_unstable.new.self.items c.dedup.new.self.items all c.sort_unstable.ensures.permutation c.sort_unstable.ensures.sorted kept
