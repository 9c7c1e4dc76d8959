use Rattle.std.proofs.Common.{◌||◌, ◌∙◌, ap, nat_eq}
use Rattle.reo_fabric.specs.inside.Readings.{listed}
use Rattle.reo_fabric.proofs.ReadingLemmas.{same_cells, listed_once, listed_twice}
use Rattle.reo_fabric.proofs.readings.list_cell.Goals as goal

pub returns-then-filler-taker-clause-are : goal.returns-then-filler-taker-clause-are
returns-then-filler-taker-clause-are c regions cells ports are =
    same_cells regions _ ports _ (c.in_ok-push_cell.ensures.are regions cells ports are) _
    (λ region. listed_once c.args.filler c.args.place cells region ∙ ap (λ taker. listed (λ r. nat_eq c.args.filler r || nat_eq taker r) c.args.place cells region) c.if-filler-taker.true)

pub returns-clause-are : goal.returns-clause-are
returns-clause-are c regions cells ports are =
    same_cells regions _ ports _ (c.in_ok-push_cell-2.ensures.are regions _ ports (c.in_ok-push_cell.ensures.are regions cells ports are)) _
    (λ region. listed_twice c.args.filler c.args.taker c.args.place cells region c.if-filler-taker.false)
