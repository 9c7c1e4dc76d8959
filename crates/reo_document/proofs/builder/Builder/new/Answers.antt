use Rattle.std.proofs.Common.{◌-◌, sym, ap}
use Rattle.reo_document.specs.Placed.{operation_count}
use Rattle.reo_document.proofs.OwnerLemmas.{owners_new}
use Rattle.reo_document.proofs.PortLemmas.{ports_new}
use Rattle.reo_document.proofs.builder.Builder.new.Goals as goal

pub returns-clause-scripts : goal.returns-clause-scripts
returns-clause-scripts c = record {
  first = owners_new c.new-6.result.items c.new-5.result.items c.new-6.ensures.items c.new-5.ensures.items;
  left = ap (λ ss. 100000 - operation_count ss) (sym c.new-5.ensures.items);
}

pub returns-clause-ports : goal.returns-clause-ports
returns-clause-ports c = ports_new c.new-7.result.items c.new.result.items c.new-7.ensures.items c.new.ensures.items
