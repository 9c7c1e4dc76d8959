use Rattle.std.proofs.Common.{length, get_or, ap, ◌∙◌, arith}
use Rattle.std.proofs.lemmas.List.FromFn.{length-map-range_with_len, get_or-map-range_with_len}
use Rattle.reo_net.specs.Steps.{cell_of}
use Rattle.reo_plan.proofs.givers.cell_number.Goals as goal

pub bounds-cells-number : goal.bounds-cells-number
bounds-cells-number c = omega (arith, ap length c.requires.cells, length-map-range_with_len (cell_of c.args.net.now) 0 (length c.args.net.now.channels), c.requires.found)

pub returns : goal.returns
returns c =
    ap (λ cells. get_or cells c.args.number 0) c.requires.cells
    ∙ get_or-map-range_with_len (cell_of c.args.net.now) 0 (length c.args.net.now.channels) c.args.number c.args.number 0 c.requires.found (omega arith)
