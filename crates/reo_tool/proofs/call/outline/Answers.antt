use Rattle.std.proofs.Common.{length, ap, arith}
use Rattle.reo_document.specs.Document.{circuit_of}
use Rattle.reo_plan.proofs.FabricLaw.{few_regions}
use Rattle.reo_tool.proofs.call.outline.Goals as goal

pub outline_of-requires-clause-tables : goal.outline_of-requires-clause-tables
outline_of-requires-clause-tables c =
    let p = c.requires in
    let few = few_regions (circuit_of c.args.document.now) p.checked p.is_cut.roots p.is_cut.regions in
    let tables = ap length c.as_slice.ensures in
    omega (arith, few, tables, p.are_tables.as_many, p.is_cut.count)
