use Rattle.std.proofs.Common.{List, ℕ, slice_get, sym, ap, ◌∙◌}
use Rattle.reo_automata.proofs.NameLemmas.{none_there}
use Rattle.reo_automata.proofs.names.NodeNames.of.Goals as goal

pub returns-in-None : goal.returns-in-None
returns-in-None c =
    sym (none_there c.args.self.now c.args.node (ap (λ (lists : List (List ℕ)). slice_get lists c.args.node) (sym c.self.view_is) ∙ sym c.in-None.ensures.value))
