use Rattle.std.proofs.Common.{◌≡◌, ◌<◌, length, slice_get, Some, None, sym, ap, ◌∙◌, arith}
use Rattle.std.proofs.lemmas.Option.{same_Some, slice_get-get_or}
use Rattle.reo_session.proofs.TakeLemmas.{nobody_there, may_own, takes_one, clears_one}
use Rattle.reo_session.proofs.collect.collect_at.Goals as goal

pub returns-in_default-clause-cleared : goal.returns-in_default-clause-cleared
returns-in_default-clause-cleared g c =
    nobody_there c.args.scripts.now c.args.engine.now c.args.watch.now c.args.calls.now c.requires c.args.port
    (λ k waits below. let clash : None ≡ Some k = c.in_default.ensures ∙ ap (λ xs. slice_get xs c.args.port) c.deref.ensures.value ∙ waits in cc)

pub returns-then-component-scripts-clause-cleared : goal.returns-then-component-scripts-clause-cleared
returns-then-component-scripts-clause-cleared g c =
    nobody_there c.args.scripts.now c.args.engine.now c.args.watch.now c.args.calls.now c.requires c.args.port
    (λ k waits below.
    let same = same_Some c.in-Some.component.now k (c.in-Some.ensures ∙ ap (λ xs. slice_get xs c.args.port) c.deref.ensures.value ∙ waits) in
    omega (arith, same, below, c.if-component-scripts.true))

pub collect_own-requires-clause-may : goal.collect_own-requires-clause-may
collect_own-requires-clause-may g c =
    let scripts = c.args.scripts.now in
    let i = c.in-Some.component.now in
    let below : i < length scripts = omega (arith, c.if-component-scripts.false) in
    let of_calls = slice_get-get_or c.args.calls.now i c.index-calls-component.result (omega (arith, below, c.requires.as_many)) in
    let of_script = slice_get-get_or scripts i c.index-scripts-component.result below ∙ ap Some (sym c.index-scripts-component.is ∙ sym c.as_slice-script.ensures) in
    may_own scripts c.args.engine.now c.args.watch.now c.args.calls.now c.requires i _ _ of_script of_calls

pub returns-clause-takes : goal.returns-clause-takes
returns-clause-takes g c =
    let scripts = c.args.scripts.now in
    let i = c.in-Some.component.now in
    let below : i < length scripts = omega (arith, c.if-component-scripts.false) in
    let of_calls = slice_get-get_or c.args.calls.now i c.index-calls-component.result (omega (arith, below, c.requires.as_many)) in
    let of_script = slice_get-get_or scripts i c.index-scripts-component.result below ∙ ap Some (sym c.index-scripts-component.is ∙ sym c.as_slice-script.ensures) in
    let o = c.in_ok-collect_own.ensures in
    takes_one scripts c.args.engine.now c.args.watch.now c.args.calls.now c.requires i _ _ of_script of_calls c.collect_own.new.own c.collect_own.new.engine c.collect_own.new.watch
    o.own o.engine o.places o.waiting o.asleep

pub returns-clause-cleared : goal.returns-clause-cleared
returns-clause-cleared g c =
    let scripts = c.args.scripts.now in
    let i = c.in-Some.component.now in
    let below : i < length scripts = omega (arith, c.if-component-scripts.false) in
    let of_calls = slice_get-get_or c.args.calls.now i c.index-calls-component.result (omega (arith, below, c.requires.as_many)) in
    let of_script = slice_get-get_or scripts i c.index-scripts-component.result below ∙ ap Some (sym c.index-scripts-component.is ∙ sym c.as_slice-script.ensures) in
    let o = c.in_ok-collect_own.ensures in
    clears_one scripts c.args.engine.now c.args.watch.now c.args.calls.now c.requires i _ _ of_script of_calls c.collect_own.new.own c.collect_own.new.engine c.collect_own.new.watch
    o.own o.engine o.places o.waiting o.asleep c.args.port (sym (c.in-Some.ensures ∙ ap (λ xs. slice_get xs c.args.port) c.deref.ensures.value))
