use Rattle.std.proofs.Common.{◌≡◌, ℕ, Vec, Global, Bool, map, nat_eq, get_or, None, refl, sym, ap, ◌∙◌}
use Rattle.reo_value.specs.declared.op.Way.TheVariants.{Put}
use Rattle.reo_fabric.specs.declared.fabric.PortSpec.{PortSpec}
use Rattle.reo_fabric.proofs.WordLemmas.{kept, failed}
use Rattle.reo_fabric.proofs.words.unread_ports.Goals as goal
use Rattle.reo_fabric.proofs.words.unread_ports.Goals.{then-is_at+in_ok-push, else-is_at}

pub loop-place-preserved : goal.loop-place-preserved
loop-place-preserved c =
    let xs = c.args.ports.now in
    let i = c.loop-place.place in
    let x : PortSpec = record { way = Put; region = 0; owner = None } in
    let within = c.loop-place-test.true in
    let test : PortSpec → Bool = λ port. nat_eq port.region c.args.region in
    let is : test (get_or xs i x) ≡ c.is_at.result = sym c.is_at.ensures in
    let items : Vec (ℕ × ℕ × ℕ) Global → _ = λ words. words.items in
    elim c.if-is_at.branch [
      | then-is_at+in_ok-push w ↦ kept test (λ (p : ℕ × ℕ × ℕ). p.0) xs i x c.loop-place.words.items _ _ within (is ∙ w.if-is_at.true) refl (ap items w.words-is ∙ w.in_ok-push.ensures.items) c.loop-place.invariant
      | else-is_at w ↦ ap (λ words. map (λ p. p.0) (items words)) w.words-is ∙ (c.loop-place.invariant ∙ sym (failed test xs i x within (is ∙ w.if-is_at.false)))
    ]
