use Rattle.reo_automata.specs.declared.template.Link.{Link}
use Rattle.reo_product.specs.Places.{AreKnown}
use Rattle.reo_product.proofs.TurnLemmas.{between, split_more}
use Rattle.reo_product.proofs.places.places_of_links.Goals as goal

pub places_of-requires-clause-known : goal.places_of-requires-clause-known
places_of-requires-clause-known c =
    let before = c.loop-link.invariant in
    between (λ (link : Link). AreKnown c.args.names.now link.fires) c.args.links c.pop.new.self before.taken c.in-Some.link
    (split_more c.args.links c.loop-link.links c.pop.new.self before.taken c.in-Some.link c.in-Some.ensures before.split) c.requires.known
