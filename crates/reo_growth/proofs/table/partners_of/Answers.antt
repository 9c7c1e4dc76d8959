use Rattle.std.proofs.Common.{◌≡◌, ◌≤◌, [], length, get_or, subst, sym, ap, ◌∙◌, arith}
use Rattle.std.specs.List.{list_any}
use Rattle.std.proofs.lemmas.List.{take_all}
use Rattle.reo_growth.specs.Ground.{ArePartners, joins}
use Rattle.reo_growth.proofs.TableLemmas.{partners_more, are_partners}
use Rattle.reo_growth.proofs.table.partners_of.Goals as goal

pub loop-a-preserved : goal.loop-a-preserved
loop-a-preserved c =
    let w = c.args.web.now in
    let i = c.loop-a.a-index in
    let items = c.as_slice-a-items.ensures in
    record {
      long = c.in_ok-add_holder-2.ensures.0 ∙ c.in_ok-add_holder.ensures.0 ∙ c.loop-a.invariant.long;
      have = partners_more w w.cells i _ _ c.loop-a.table.items c.add_holder.new.table.items c.add_holder-in-loop-a.new.table.items (omega (arith, ap length items, c.loop-a-test.true))
          (ap (λ cells. get_or cells i (0, 0)) (sym items)) c.loop-a.invariant.long c.in_ok-add_holder.ensures c.in_ok-add_holder-2.ensures c.loop-a.invariant.have;
    }

pub returns-then-is_empty : goal.returns-then-is_empty
returns-then-is_empty c =
    let w = c.args.web.now in
    let none : w.cells ≡ [] = c.is_empty.ensures.0 c.if-is_empty.true in
    subst (ArePartners w) (sym c.new.ensures)
    (record { below = λ name d within. absurd (omega (arith, within)); have = λ one other below. sym (ap (list_any (joins one other)) none) })

pub returns : goal.returns
returns c =
    let w = c.args.web.now in
    let all : length w.cells ≤ c.loop-a.a-index = omega (arith, ap length c.as_slice-a-items.ensures, c.loop-a-test.false) in
    subst (ArePartners w) (sym c.from_vec.ensures)
    (are_partners w c.requires.web c.loop-a.table.items c.loop-a.invariant.long
    (λ one other below. c.loop-a.invariant.have one other below ∙ ap (list_any (joins one other)) (take_all c.loop-a.a-index w.cells all)))
