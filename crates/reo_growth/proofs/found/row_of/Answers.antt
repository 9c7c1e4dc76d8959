use Rattle.std.proofs.Common.{cond, [], ◌∷◌, ◌++◌, get_or, ap, sym, ◌∙◌, arith}
use Rattle.std.specs.Prelude.{filter}
use Rattle.std.specs.List.{range_with_len}
use Rattle.std.proofs.lemmas.Grind.{common_steps}
use Rattle.std.proofs.lemmas.List.{get_or_default}
use Rattle.reo_growth.specs.declared.marks.Mark.TheVariants.{Unknown}
use Rattle.reo_growth.specs.Marks.{is_fires}
use Rattle.reo_growth.proofs.ListLemmas.{filter-range_more}
use Rattle.reo_growth.proofs.found.row_of.Goals as goal
use Rattle.reo_growth.proofs.found.row_of.Goals.{then-fires+in_ok-push, else-fires}

pub loop-name-preserved : goal.loop-name-preserved
loop-name-preserved c =
    let marks = c.args.marks.now in
    let i = c.loop-name.name in
    let at = c.fires.ensures ∙ ap is_fires (get_or_default marks i _ Unknown c.loop-name-test.true) in
    let more = filter-range_more (λ name. is_fires (get_or marks name Unknown)) i in
    elim c.if-fires.branch [
      | then-fires+in_ok-push w ↦ (let fires = sym at ∙ w.if-fires.true in
          let whole = more ∙ ap (λ b. filter (λ name. is_fires (get_or marks name Unknown)) (range_with_len 0 i) ++ cond b (i ∷ []) []) fires in
          rw w.names-is (record { names = grind (arith, common_steps, whole, c.loop-name.invariant.names); few = grind (arith, common_steps) }))
      | else-fires w ↦ (let silent = sym at ∙ w.if-fires.false in
          let whole = more ∙ ap (λ b. filter (λ name. is_fires (get_or marks name Unknown)) (range_with_len 0 i) ++ cond b (i ∷ []) []) silent in
          rw w.names-is (record { names = grind (arith, common_steps, whole, c.loop-name.invariant.names); few = omega arith }))
    ]
