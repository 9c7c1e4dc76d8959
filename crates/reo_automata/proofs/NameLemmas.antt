-- The lists of all nodes' names.
use Rattle.std.proofs.Common.{◌≡◌, ℕ, ⊎_elim, List, [], get_or, slice_get, Some, None}
use Rattle.std.proofs.lemmas.List.{get_or_past}
use Rattle.std.proofs.lemmas.Option.{slice_get_cases}

-- what is listed at no node
pub none_there : (lists : List (List ℕ)) (node : ℕ) → slice_get lists node ≡ None → get_or lists node [] ≡ []
none_there lists node none = ⊎_elim (λ there. absurd (let some : slice_get lists node ≡ Some there.0 = there.2 in cc)) (λ past. get_or_past lists node [] past.0) (slice_get_cases lists node).1
