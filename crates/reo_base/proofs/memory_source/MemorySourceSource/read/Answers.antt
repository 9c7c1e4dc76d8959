use Rattle.std.proofs.Common.{ap, sym}
use Rattle.reo_base.specs.SourceState.{SourceState}
use Rattle.reo_base.proofs.Streams.{rest_is_copied, none_is_left}
use Rattle.reo_base.proofs.memory_source.MemorySourceSource.read.Goals as goal

pub returns-clause-bytes : goal.returns-clause-bytes
returns-clause-bytes c = (
  rest_is_copied _ _ _ _ _ _ _ _ (sym (ap (λ (s : SourceState). s.left) c.self.view_is)) c.deref-2.ensures.value c.copy_from_slice.ensures.after c.min-count.ensures,
  none_is_left _ _ _ _ _ _ _ _ c.deref-2.ensures.value c.copy_from_slice.ensures.len c.min-count.ensures c.min.ensures c.self.invariant.0,
)
