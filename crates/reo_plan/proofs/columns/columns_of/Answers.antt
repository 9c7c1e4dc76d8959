use Rattle.std.proofs.Common.{◌≡◌, ℕ, replicate, ◌/◌, ◌%◌, ◌*◌, ◌+◌, [], length, get_or, not, Some, sym, ap, ◌∙◌, arith}
use Rattle.std.proofs.lemmas.Option.{slice_get-get_or}
use Rattle.reo_growth.specs.Lists.{has}
use Rattle.std.specs.Int.{bit_at}
use Rattle.std.specs.Option.{option_map_or}
use Rattle.std.proofs.lemmas.List.{length-replicate}
use Rattle.reo_plan.specs.declared.asks.Asks.{Asks}
use Rattle.reo_plan.specs.inside.Columns.{numbers_at}
use Rattle.reo_plan.proofs.ColumnLemmas.{no_bits}
use Rattle.reo_plan.proofs.columns.columns_of.Goals as goal

pub loop-row-init : goal.loop-row-init
loop-row-init c =
    let zeros : c.in_ok-columns.columns.items ≡ replicate 4096 0 = c.in_ok-columns.ensures.items_if_clones_equal (λ y same. same) in
    record {
      len = ap length zeros ∙ length-replicate {A = ℕ} 4096 0;
      are = λ number row small absent. ap (λ words. bit_at (get_or words (64 * number + row / 64) 0) (row % 64)) zeros ∙ no_bits 4096 (64 * number + row / 64) (row % 64);
    }

pub loop-row-preserved : goal.loop-row-preserved
loop-row-preserved c =
    let asks = c.args.asks.now in
    let row = c.loop-row.row in
    let found = slice_get-get_or asks row c.index-asks-row.result (omega arith) ∙ ap Some (sym c.index-asks-row.is) in
    record {
      len = c.add_numbers.ensures.len;
      are = c.add_numbers.ensures.kept (λ number row. not (has (numbers_at asks row) number)) c.loop-row.invariant.are
          (λ number asked.
          ap (λ o. not (has (option_map_or (λ (own : Asks). own.numbers) o []) number)) found
          ∙ ap (λ (own : Asks). not (has own.numbers number)) c.index-asks-row.is ∙ ap (λ numbers. not (has numbers number)) (sym c.as_slice.ensures) ∙ ap not asked);
    }
