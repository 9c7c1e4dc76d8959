use Rattle.reo_tool.proofs.CallLaw.{promise_kept, refusal_told, length_told, usage_told}
use Rattle.reo_tool.proofs.call.plain_call.Goals as goal

pub returns-clause-lawful : goal.returns-clause-lawful
returns-clause-lawful g c = promise_kept c.args.words.now _ _ _ _ c.answer.result c.answer.ensures.cause

pub returns-clause-refusal : goal.returns-clause-refusal
returns-clause-refusal g c = refusal_told c.args.words.now _ _ _ _ c.answer.result c.answer.ensures.cause

pub returns-clause-overlong : goal.returns-clause-overlong
returns-clause-overlong g c = length_told c.args.words.now _ _ _ _ c.answer.result c.answer.ensures.cause

pub returns-clause-usage : goal.returns-clause-usage
returns-clause-usage g c = usage_told c.args.words.now _ _ _ _ c.answer.result c.answer.ensures.cause
