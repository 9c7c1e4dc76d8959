use Rattle.std.proofs.Common.{◌++◌, ◌∷◌, [], IfSome, sym, subst}
use Rattle.reo_net.specs.declared.circuit.RawCircuit.{RawCircuit}
use Rattle.reo_plan.specs.inside.Asks.{IsNumbered, HasAsks}
use Rattle.reo_plan.proofs.AskLemmas.{on_ok, ask_number}
use Rattle.reo_plan.proofs.asks.add_ask.Goals as goal

pub returns-in-Some-clause-asks : goal.returns-in-Some-clause-asks
returns-in-Some-clause-asks c =
    let own = c.args.own.now in
    let fact = c.args.fact in
    let slots = c.shared_number.new.slots in
    let facts = c.shared_number.new.facts in
    let there = c.in_ok-number.ensures in
    let number = subst (λ o. IfSome o (λ n. (c' : RawCircuit) → IsNumbered c' own fact slots facts n)) c.in-Some.is there.number in
    on_ok c.push.result _ _ c.push.ensures.ok
    (λ pushed c' done has. subst (λ l. HasAsks c' slots facts own (done ++ fact ∷ []) l c.args.rest.now) (sym pushed)
    (ask_number c' own fact c.args.slots.now slots c.args.facts.now facts there.slots.extends there.facts done c.args.numbers.now c.args.rest.now has c.in-Some.number (number c')))
