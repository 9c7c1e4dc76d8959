use Rattle.std.proofs.Common.{length, subst, sym, ap, ◌∙◌, arith}
use Rattle.reo_growth.specs.declared.web.Automaton.{Automaton}
use Rattle.reo_growth.specs.Marks.{AreBelow, AreHolders}
use Rattle.reo_growth.proofs.MarkLemmas.{names_at, own_below}
use Rattle.reo_growth.proofs.TableLemmas.{holders_more, are_holders}
use Rattle.reo_growth.proofs.table.holders_of.Goals as goal

pub add_holder-requires : goal.add_holder-requires
add_holder-requires c =
    let w = c.args.web.now in
    let at = ap length c.as_slice-automaton-items.ensures in
    let names = names_at w c.loop-x.x c.as_slice-automaton-items.result.now c.automaton-item.result (omega (arith, at, c.loop-x-test.true)) c.as_slice-automaton-items.ensures
    ∙ ap (λ (a : Automaton). a.names) (sym c.automaton-item.is) ∙ sym c.as_slice.ensures in
    subst (λ n. AreBelow n c.as_slice.result.now) (sym c.loop-x.invariant.long) (subst (AreBelow w.names) names (own_below w c.requires.web c.loop-x.x))

pub loop-x-preserved : goal.loop-x-preserved
loop-x-preserved c =
    let w = c.args.web.now in
    let at = ap length c.as_slice-automaton-items.ensures in
    let names = names_at w c.loop-x.x c.as_slice-automaton-items.result.now c.automaton-item.result (omega (arith, at, c.loop-x-test.true)) c.as_slice-automaton-items.ensures
    ∙ ap (λ (a : Automaton). a.names) (sym c.automaton-item.is) ∙ sym c.as_slice.ensures in
    record {
      long = c.in_ok-add_holder.ensures.0 ∙ c.loop-x.invariant.long;
      have = holders_more w c.loop-x.x c.as_slice.result.now c.loop-x.table.items c.add_holder.new.table.items names c.loop-x.invariant.long c.in_ok-add_holder.ensures c.loop-x.invariant.have;
    }

pub returns : goal.returns
returns c =
    let w = c.args.web.now in
    let at = ap length c.as_slice-automaton-items.ensures in
    subst (AreHolders w) (sym c.from_vec.ensures)
    (are_holders w c.loop-x.x c.loop-x.table.items (omega (arith, at, c.loop-x-test.false, c.loop-x.auto.x-end)) c.loop-x.invariant.long c.loop-x.invariant.have)
