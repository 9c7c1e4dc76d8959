use Rattle.std.proofs.Common.{sym, subst, append-nil}
use Rattle.std.specs.Prelude.{codes}
use Rattle.reo_picture.specs.Buffer.{Adds}
use Rattle.reo_picture.specs.Picture.{ended}
use Rattle.reo_picture.proofs.AddsLemmas.{Adds-trans}
use Rattle.reo_picture.proofs.picture.push_opening.Goals as goal

pub returns : goal.returns
returns c =
    Adds-trans _ _ _ _ _ _ c.in_ok-push_line.ensures
    (Adds-trans _ _ _ _ _ _ c.in_ok-push_line-2.ensures
    (Adds-trans _ _ _ _ _ _ c.in_ok-push_line-3.ensures
    (subst (Adds _ _ _) (sym (append-nil (ended (codes "edge [fontname=\"sans-serif\", fontsize=10]")))) c.push_line-4.ensures)))
