use Rattle.std.proofs.Common.{◌≡◌, ℕ, ◌⊎◌, true, false, length, get_or, set, take, None, length-set, ap, ◌∙◌, subst, arith}
use Rattle.std.proofs.Math.Seq.{take-length}
use Rattle.std.proofs.lemmas.Option.{slice_get-get_or}
use Rattle.reo_net.specs.Names.{name_count}
use Rattle.reo_growth.specs.Lists.{has}
use Rattle.reo_plan.specs.inside.Rows.{slot_in}
use Rattle.reo_plan.proofs.TableLemmas.{fewer_slots, none_left, none_without}
use Rattle.reo_plan.proofs.places.empty_slots.Goals as goal

pub loop-name-init : goal.loop-name-init
loop-name-init c = record { sized = c.requires.filled.sized; none = none_without c.args.names.now c.args.table.now.items c.requires.filled.named }

pub loop-name-preserved : goal.loop-name-preserved
loop-name-preserved c =
    let names = c.args.names.now in
    let n = c.loop-name.name-index in
    let name = get_or names n 0 in
    let table = c.loop-name.table.items in
    record {
      sized = let e : length (set table name None) ≡ length table = simp length-set in e ∙ c.loop-name.invariant.sized;
      none = fewer_slots names n name table (slice_get-get_or names n 0 (omega arith)) c.loop-name.invariant.none;
    }

pub returns : goal.returns
returns c =
    let names = c.args.names.now in
    let table = c.loop-name.table.items in
    none_left (name_count c.args.net.now) names table c.loop-name.invariant.sized
    (subst (λ front. (name : ℕ) → (has names name ≡ false) ⊎ (has front name ≡ true) → slot_in table name ≡ None) (ap (λ n. take n names) (let e : c.loop-name.name-index ≡ length names = omega (arith, c.loop-name-test.false, c.loop-name.auto.name-index-end) in e) ∙ take-length names) c.loop-name.invariant.none)
