use Rattle.std.proofs.Common.{List, subst, All, IfSome}
use Rattle.std.proofs.lemmas.Option.{slice_get_within, get_or_from_slice_get}
use Rattle.reo_value.specs.declared.op.Op.{Op}
use Rattle.reo_value.specs.Code.{IsValue}
use Rattle.reo_schedule.specs.Offers.{offered_by}
use Rattle.reo_session.proofs.progress.known_scripts.Goals as goal

pub returns : goal.returns
returns c k op is =
    let scripts = c.args.scripts.now in
    let script = subst (λ (s : List Op). All (λ op. IfSome (offered_by op) IsValue) s) (get_or_from_slice_get scripts k is.script is.script is.found) (c.known_each.ensures k is.script (slice_get_within scripts k is.script is.found)) in
    subst (λ (o : Op). IfSome (offered_by o) IsValue) (get_or_from_slice_get is.script is.place op op is.at) (script is.place op (slice_get_within is.script is.place op is.at))
