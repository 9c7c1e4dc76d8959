use Rattle.reo_tool.proofs.CallLaw.{written_by}
use Rattle.reo_tool.proofs.call.tell.Goals as goal

pub returns : goal.returns
returns g c = record {
  told = written_by _ _ c.args.text.now c.args.status c.unless_fault.result c.write_whole-written.result c.write_whole-written.ensures.whole c.write_whole-written.ensures.front c.write_whole-written.ensures.short c.write_whole-written.ensures.cause c.unless_fault.ensures;
}
