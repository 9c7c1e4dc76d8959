use Rattle.reo_grammar.proofs.LineLaws.{say_one, say_or_go_wrong, say_or_go_wrong_alone, go_wrong_once}
use Rattle.reo_grammar.proofs.laws.tokens_say_one_line_or_go_wrong.Goals as goal

pub returns-clause-one : goal.returns-clause-one
returns-clause-one c = say_one

pub returns-clause-either : goal.returns-clause-either
returns-clause-either c = say_or_go_wrong

pub returns-clause-alone : goal.returns-clause-alone
returns-clause-alone c = say_or_go_wrong_alone

pub returns-clause-once : goal.returns-clause-once
returns-clause-once c = go_wrong_once
