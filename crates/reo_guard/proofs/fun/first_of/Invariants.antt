use Rattle.std.proofs.Common.{◌≡◌, ◌≢◌, ℕ, ◌<◌, slice_get, Some}
use Rattle.reo_value.specs.declared.value.Value.{Value as AnyValue}
use Rattle.reo_guard.proofs.fun.first_of.Given as goal

abbrev pub invariant-loop-argument : goal.invariant-loop-argument
invariant-loop-argument l =
    (earlier : ℕ) (other : AnyValue × AnyValue) → earlier < l.argument-index → slice_get l.pairs earlier ≡ Some other → other.0 ≢ l.datum
