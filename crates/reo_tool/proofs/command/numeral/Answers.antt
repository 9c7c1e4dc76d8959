use Rattle.std.proofs.Common.{◌≡◌, true, ◌∙◌, arith}
use Rattle.reo_tool.specs.Words.{is_numeral}
use Rattle.reo_tool.proofs.WordLemmas.{numeral_parsed}
use Rattle.reo_tool.proofs.command.numeral.Goals as goal

pub returns : goal.returns
returns c =
    let is : is_numeral c.args.word.now ≡ true = grind arith in
    c.ok.ensures.value ∙ numeral_parsed c.args.word.now c.parse.result is c.parse.ensures.value.0
