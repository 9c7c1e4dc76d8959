use Rattle.std.proofs.Common.{List, ℕ, slice_get, sym, ap, ◌∙◌}
use Rattle.reo_product.proofs.MemberLemmas.{none_there}
use Rattle.reo_product.proofs.members.Members.of.Goals as goal

pub returns-in-None : goal.returns-in-None
returns-in-None c =
    sym (none_there c.args.self.now c.args.region (ap (λ (lists : List (List ℕ)). slice_get lists c.args.region) (sym c.self.view_is) ∙ sym c.in-None.ensures.value))
