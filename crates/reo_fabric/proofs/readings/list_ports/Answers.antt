use Rattle.std.proofs.Common.{◌∙◌, None, ap, arith, nat_eq, sym}
use Rattle.std.proofs.lemmas.List.{take_all}
use Rattle.reo_value.specs.declared.op.Way.TheVariants.{Put}
use Rattle.reo_fabric.specs.Reading.{places_of}
use Rattle.reo_fabric.specs.declared.fabric.PortSpec.{PortSpec}
use Rattle.reo_fabric.proofs.WordLemmas.{one_more}
use Rattle.reo_fabric.proofs.ReadingLemmas.{same_ports}
use Rattle.reo_fabric.proofs.readings.list_ports.Goals as goal

pub loop-place-preserved : goal.loop-place-preserved
loop-place-preserved c =
    let d : PortSpec = record { way = Put; region = 0; owner = None } in
    record {
      len = c.in_ok-push_port.ensures.len ∙ c.loop-place.invariant.len;
      are = λ regions cells are.
          same_ports regions cells _ _ (c.in_ok-push_port.ensures.are regions cells _ (c.loop-place.invariant.are regions cells are)) _
          (λ region. sym (one_more (λ port. nat_eq port.region region) c.args.ports.now c.loop-place.place d c.loop-place-test.true));
    }

pub returns-clause-are : goal.returns-clause-are
returns-clause-are c regions cells are =
    same_ports regions cells _ _ (c.loop-place.invariant.are regions cells are) _
    (λ region. ap (places_of (λ port. nat_eq port.region region) 0) (take_all c.loop-place.place c.args.ports.now (omega (arith, c.loop-place-test.false))))
