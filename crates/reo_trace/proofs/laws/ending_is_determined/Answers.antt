use Rattle.std.proofs.Common.{◌≡◌, ℕ, List, refl, sym}
use Rattle.reo_value.specs.declared.op.Op.{Op}
use Rattle.reo_net.specs.declared.circuit.RawCircuit.{RawCircuit}
use Rattle.reo_net.specs.Steps.{State}
use Rattle.reo_trace.specs.declared.report.Called.{Called}
use Rattle.reo_trace.specs.declared.report.Ending.{Ending}
use Rattle.reo_trace.specs.declared.report.Ending.TheVariants.{Done, Stuck, Limit}
use Rattle.reo_trace.specs.Lawful.{IsEndingOf}
use Rattle.reo_trace.proofs.laws.ending_is_determined.Goals as goal

same : (c : RawCircuit) (texts : List (List ℕ)) (scripts : List (List Op)) (calls : List (List Called)) (limit steps : ℕ) (final : State) (one other : Ending)
    → IsEndingOf c texts scripts calls limit steps final one → IsEndingOf c texts scripts calls limit steps final other → one ≡ other
same c texts scripts calls limit steps final Done other p q = sym (q.done.1 (p.done.0 refl))
same c texts scripts calls limit steps final Limit other p q = sym (q.at_limit.1 (p.at_limit.0 refl))
same c texts scripts calls limit steps final Stuck other p q = sym (q.stuck.1 (p.stuck.0 refl))

pub returns : goal.returns
returns c = same
