use Rattle.std.proofs.Common.{◌≡◌, ℕ, ◌<◌, length, get_or, sym, ap, ◌∙◌, subst, arith}
use Rattle.std.proofs.lemmas.Grind.{common_steps}
use Rattle.reo_product.specs.RegionWeb.{name_at}
use Rattle.reo_product.proofs.TurnLemmas.{all_placed, AreTurned, IsPlaceOf}
use Rattle.reo_product.proofs.places.places_of.Goals as goal

pub known_place-place-requires-clause-known : goal.known_place-place-requires-clause-known
known_place-place-requires-clause-known c =
    let i = c.loop-index.index in
    let within : i < length c.args.list = grind (arith, common_steps, c.loop-index-test.true, c.len-index-end.ensures) in
    let is : get_or c.as_slice.result.now i 0 ≡ get_or c.args.list i 0 = ap (λ xs. get_or xs i 0) c.as_slice.ensures ∙ c.loop-index.invariant.left i (omega arith) in
    subst (λ n. (place : ℕ) × (place < length c.args.names.now) × (name_at c.args.names.now place ≡ n)) (sym is) (c.requires.known i 0 within)

pub returns : goal.returns
returns c =
    let end : c.loop-index.index ≡ length c.args.list = omega (arith, c.loop-index-test.false, c.loop-index.auto.index-end, c.len-index-end.ensures) in
    all_placed c.args.names.now c.args.list c.loop-index.list (subst (AreTurned (IsPlaceOf c.args.names.now) c.args.list c.loop-index.list) end c.loop-index.invariant)
