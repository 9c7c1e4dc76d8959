use Rattle.std.proofs.Common.{arith}
use Rattle.reo_coupling.proofs.Opening.{opens_coupled}
use Rattle.reo_table.proofs.words.Words.new.Goals as goal

pub of_words-requires : goal.of_words-requires
of_words-requires c =
    rw (c.of.ensures, c.as_slice.ensures.value, c.in_ok-words.ensures.words)
    (opens_coupled (record { fabric = c.args.fabric.now; limit = c.args.limit }) c.requires.lawful c.in_ok-words.ensures.values c.requires.some (omega (arith, c.requires.small)))
