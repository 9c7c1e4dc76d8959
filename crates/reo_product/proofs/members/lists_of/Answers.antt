use Rattle.std.proofs.Common.{◌++◌, ◌∙◌, ◌∷◌, [], List, ℕ, ap, cond, sym, arith}
use Rattle.reo_growth.proofs.ListLemmas.{filter-range_more}
use Rattle.reo_product.specs.Region.{is_at}
use Rattle.reo_product.proofs.members.lists_of.Goals as goal

pub loop-number-preserved : goal.loop-number-preserved
loop-number-preserved c =
    let i = c.loop-number.number in
    record {
      long = c.in_ok-add_member.ensures.long ∙ c.loop-number.invariant.long;
      each = λ region below.
          c.in_ok-add_member.ensures.each region (omega (arith, c.loop-number.invariant.long))
          ∙ (ap (λ (xs : List ℕ). xs ++ cond (is_at c.args.region_of.now region i) (i ∷ []) []) (c.loop-number.invariant.each region below)
          ∙ sym (filter-range_more (is_at c.args.region_of.now region) i));
    }
