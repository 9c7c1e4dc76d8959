use Rattle.std.proofs.Common.{◌≡◌, slice_get, Some, sym, ap, ◌∙◌, subst}
use Rattle.std.specs.Option.{option_copied}
use Rattle.reo_fabric.specs.Entry.{at_place}
use Rattle.reo_plan.proofs.BackLaw.{own_place}
use Rattle.reo_plan.proofs.view.word_there.Goals as goal

pub returns-then-found-cell : goal.returns-then-found-cell
returns-then-found-cell c =
    let p = c.in_ok-found.found.now in
    let found : slice_get c.args.cells.now c.args.place ≡ Some p = sym c.at.ensures ∙ ap option_copied c.in_ok-found.was in
    subst (λ cell. at_place c.args.cells.now cell ≡ Some p.1) c.if-found-cell.true (own_place 0 c.args.cells.now c.requires c.args.place p found).1
