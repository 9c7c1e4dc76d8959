use Rattle.std.proofs.Common.{sym, ap, subst}
use Rattle.reo_net.specs.Regions.{OfNode}
use Rattle.reo_cut.specs.Cut.{IsOfRegion}
use Rattle.reo_picture.specs.Picture.{or_first}
use Rattle.reo_picture.proofs.laws.nodes_are_at_home.Goals as goal

pub returns : goal.returns
returns _ c cut is_cut node within =
    let own = is_cut.region_of (OfNode node) within in
    subst (IsOfRegion c is_cut.roots (OfNode node)) (sym (ap or_first own.1)) own.2
