use Rattle.reo_product.proofs.PlaceLemmas.{not_found}
use Rattle.reo_product.proofs.places.place_of.Goals as goal

pub returns-in-Err : goal.returns-in-Err
returns-in-Err c = not_found c.args.names.now c.args.name c.in-Err.field-0 c.requires.rising c.in-Err.ensures.position
