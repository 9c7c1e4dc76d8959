use Rattle.std.proofs.Common.{◌≢◌, ◌+◌, ◌*◌, length}
use Rattle.reo_grammar.specs.declared.key.Key.TheVariants as key
use Rattle.reo_sentence.specs.Reading.{left, next_key}
use Rattle.reo_sentence.specs.GuardReading.{ReadsGuard, ReadsTerm}
use Rattle.reo_sentence.proofs.cursor.Cursor.+guard.Given as goal

abbrev pub decreases-bracketed : goal.decreases-bracketed
decreases-bracketed l = 4 * length l.self.now.rest.now

abbrev pub decreases-factor : goal.decreases-factor
decreases-factor l = 4 * length l.self.now.rest.now + 1

abbrev pub decreases-term : goal.decreases-term
decreases-term l = 4 * length l.self.now.rest.now + 2

abbrev pub decreases-guard : goal.decreases-guard
decreases-guard l = 4 * length l.self.now.rest.now + 3

abbrev pub invariant-guard-terms : goal.invariant-guard-terms
invariant-guard-terms l = ReadsGuard l.fn.self l.self l.fn.texts l.texts l.left × (next_key (left l.self) ≢ key.And)

abbrev pub decreases-guard-terms : goal.decreases-guard-terms
decreases-guard-terms l = length l.self.rest.now

abbrev pub invariant-term-factors : goal.invariant-term-factors
invariant-term-factors l = ReadsTerm l.fn.self l.self l.fn.texts l.texts l.left

abbrev pub decreases-term-factors : goal.decreases-term-factors
decreases-term-factors l = length l.self.rest.now
