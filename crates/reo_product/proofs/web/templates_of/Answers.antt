use Rattle.std.proofs.Common.{◌+◌, ◌++◌, ◌∷◌, [], take, get_or, sym, subst}
use Rattle.std.proofs.lemmas.List.{take_more}
use Rattle.reo_automata.specs.Template.{automaton_of, IsTemplate}
use Rattle.reo_product.specs.Places.{AreTemplates}
use Rattle.reo_product.proofs.PlaceLemmas.{paired_push}
use Rattle.reo_product.proofs.web.templates_of.Goals as goal

pub loop-number-preserved : goal.loop-number-preserved
loop-number-preserved c =
    let net = c.args.net.now in
    let automata = c.args.automata.now in
    let i = c.loop-number.number-index in
    let template = c.in_ok-template_by.field-0 in
    subst (AreTemplates net (take (i + 1) automata)) (sym c.in_ok-push.ensures.items)
    (subst (λ list. AreTemplates net list (c.loop-number.templates.items ++ template ∷ [])) (sym (take_more automata i 0 c.loop-number-test.true))
    (paired_push (λ x. IsTemplate net (automaton_of net x)) (take i automata) c.loop-number.templates.items (get_or automata i 0) template c.loop-number.invariant c.in_ok-template_by.ensures.exact))
