use Rattle.std.proofs.Common.{length, get_or, subst, sym}
use Rattle.reo_growth.specs.Marks.{AreBelow}
use Rattle.reo_growth.proofs.MarkLemmas.{below_at}
use Rattle.reo_growth.proofs.marks.fits.Goals as goal

pub are_free-requires : goal.are_free-requires
are_free-requires c =
    let n = length c.args.marks.now in
    subst (AreBelow n) (sym c.partners_at.ensures) (below_at n c.args.partners.now (get_or c.args.link.now c.loop-name.name-index 0) c.requires.below)
