use Rattle.std.proofs.Common.{◌≡◌, ℕ, ◌++◌, ◌∷◌, [], List, cond, get_or, slice_get, nat_eq, Some, sym, subst, ap, ◌∙◌, arith}
use Rattle.std.proofs.lemmas.Option.{slice_get-get_or}
use Rattle.reo_value.specs.declared.op.Way.TheVariants.{Put}
use Rattle.reo_net.specs.declared.circuit.Port.{Port}
use Rattle.reo_automata.specs.Links.{is_at}
use Rattle.reo_automata.proofs.EndLemmas.{chosen_more, port_is_at}
use Rattle.reo_automata.proofs.names.port_lists.Goals as goal

pub loop-number-preserved : goal.loop-number-preserved
loop-number-preserved c =
    let net = c.args.net.now in
    let i = c.loop-number.number in
    let ports = c.ports-port-items.result.now in
    let none : Port = record { node = 0; way = Put } in
    let port : Port = get_or ports i none in
    let found = subst (λ (all : List Port). slice_get all i ≡ Some port) c.ports-port-items.ensures.ports (slice_get-get_or ports i none c.loop-number-test.true) in
    record {
      long = c.in_ok-add_name.ensures.long ∙ c.loop-number.invariant.long;
      each = λ node below.
          c.in_ok-add_name.ensures.each node (omega (arith, c.loop-number.invariant.long))
          ∙ (ap (λ (list : List ℕ). list ++ cond (nat_eq port.node node) (i ∷ []) []) (c.loop-number.invariant.each node below)
          ∙ sym (chosen_more (is_at net node) i (nat_eq port.node node) (port_is_at net node i port found)));
    }
