use Rattle.std.proofs.Common.{◌≡◌, ◌∷◌, ◌++◌, [], length, ap, sym, subst, ◌∙◌, arith}
use Rattle.std.specs.Vec.Iter.{into_iter_items}
use Rattle.reo_product.specs.Places.{ArePaired, IsKnownTemplate, IsPlacedTemplate}
use Rattle.reo_product.proofs.PlaceLemmas.{paired_push}
use Rattle.reo_product.proofs.TurnLemmas.{all_gone, gone_on, next_holds}
use Rattle.reo_product.proofs.web.place_templates.Goals as goal

pub place_template-requires-clause-known : goal.place_template-requires-clause-known
place_template-requires-clause-known c =
    let at = c.loop-template in
    let P = IsKnownTemplate c.args.names.now in
    let whole = at.invariant.0 ∙ c.into_iter-template-iterator.ensures.into_iter_gives.0 in
    (next_holds P c.args.templates.items at.yielded (into_iter_items at.template-iterator) (into_iter_items c.next.new.self) c.in-Some.template c.in-Some.ensures.steps.0 whole c.requires.known).known

pub place_template-requires-clause-links_known : goal.place_template-requires-clause-links_known
place_template-requires-clause-links_known c =
    let at = c.loop-template in
    let P = IsKnownTemplate c.args.names.now in
    let whole = at.invariant.0 ∙ c.into_iter-template-iterator.ensures.into_iter_gives.0 in
    (next_holds P c.args.templates.items at.yielded (into_iter_items at.template-iterator) (into_iter_items c.next.new.self) c.in-Some.template c.in-Some.ensures.steps.0 whole c.requires.known).links_known

pub loop-template-preserved : goal.loop-template-preserved
loop-template-preserved c =
    let at = c.loop-template in
    let x = c.in-Some.template in
    let R = IsPlacedTemplate c.args.names.now in
    let steps : into_iter_items at.template-iterator ≡ x ∷ into_iter_items c.next.new.self = c.in-Some.ensures.steps.0 in (
      gone_on _ at.yielded (into_iter_items at.template-iterator) (into_iter_items c.next.new.self) x steps at.invariant.0,
      let was = at.invariant.1 in
          let gone = c.in-Some.ensures.steps.1 in
          let short = ap length steps in
          omega arith,
      subst (ArePaired R (at.yielded ++ x ∷ [])) (sym c.in_ok-push.ensures.items) (paired_push R at.yielded at.automata.items x c.in_ok-place_template.field-0 at.invariant.2 c.in_ok-place_template.ensures),
    )

pub returns : goal.returns
returns c =
    let at = c.loop-template in
    let R = IsPlacedTemplate c.args.names.now in
    let all = all_gone _ at.yielded (into_iter_items at.template-iterator) _ c.in-None.ensures.steps.0 at.invariant.1 at.invariant.0 ∙ c.into_iter-template-iterator.ensures.into_iter_gives.0 in
    subst (λ templates. ArePaired R templates c.from_vec.result) all (subst (ArePaired R at.yielded) (sym c.from_vec.ensures) at.invariant.2)
