-- What a reader of guards has taken.
use Rattle.std.specs.Prelude.{◌≡◌, ℕ, Bool, true, false, List, ◌++◌}
use Rattle.reo_guard.specs.declared.guard.Guard as numbered
use Rattle.reo_grammar.specs.declared.key.Key.{Key}
use Rattle.reo_grammar.specs.declared.key.Key.TheVariants as key
use Rattle.reo_grammar.specs.Token.{Token}
use Rattle.reo_grammar.specs.Guards.{Atom, atom_tokens, GuardTree, guard_tokens, guard_of, TermTree, term_tokens, term_of, FactorTree, factor_tokens, factor_of}
use Rattle.reo_grammar.specs.Machine.Guards.{Part, part_tokens, GuardPlace, TermPlace, First, FactorPlace, Front, Want, Within, guard_step, whole_guard}
use Rattle.reo_sentence.specs.declared.cursor.Cursor.{Cursor}
use Rattle.reo_sentence.specs.declared.stop.Stop.{Stop}
use Rattle.reo_sentence.specs.Limits.{is_wide_atom, is_long_atom, is_wide_guard, is_long_guard}
use Rattle.reo_sentence.specs.Numbered.{numbered_atom, numbered_guard}
use Rattle.reo_sentence.specs.Reading.{Reads, StopsAt}

-- tokens that complete an atom were read
pub record Completes (part : Part) (old new : Cursor) (known texts : List (List ℕ)) (guard : numbered.Guard) : Type 0 where
  pub atom : Atom
  pub front : List Token
  pub whole : part_tokens part ++ front ≡ atom_tokens atom
  pub reads : Reads old new known texts front (is_wide_atom atom) (is_long_atom atom) (numbered_atom atom) guard

pub record ReadsGuard (old new : Cursor) (known texts : List (List ℕ)) (guard : numbered.Guard) : Type 0 where
  pub tree : GuardTree
  pub reads : Reads old new known texts (guard_tokens tree) (is_wide_guard (guard_of tree)) (is_long_guard (guard_of tree)) (numbered_guard (guard_of tree)) guard

pub record ReadsTerm (old new : Cursor) (known texts : List (List ℕ)) (guard : numbered.Guard) : Type 0 where
  pub tree : TermTree
  pub reads : Reads old new known texts (term_tokens tree) (is_wide_guard (term_of tree)) (is_long_guard (term_of tree)) (numbered_guard (term_of tree)) guard

pub record ReadsFactor (old new : Cursor) (known texts : List (List ℕ)) (guard : numbered.Guard) : Type 0 where
  pub tree : FactorTree
  pub reads : Reads old new known texts (factor_tokens tree) (is_wide_guard (factor_of tree)) (is_long_guard (factor_of tree)) (numbered_guard (factor_of tree)) guard

-- The reader stops where the machine is stuck, wherever in a guard it began.
abbrev pub StopsIn : Part → Cursor → Cursor → Stop → Type 0
StopsIn part old new stop = (place : FactorPlace) → StopsAt guard_step whole_guard (Within place part) old new stop

abbrev pub StopsFactor : Cursor → Cursor → Stop → Type 0
StopsFactor old new stop = (place : FactorPlace) → StopsAt guard_step whole_guard (Want place) old new stop

abbrev pub StopsTerm : Cursor → Cursor → Stop → Type 0
StopsTerm old new stop = (place : TermPlace) → StopsAt guard_step whole_guard (Want (Front place)) old new stop

abbrev pub StopsGuard : Cursor → Cursor → Stop → Type 0
StopsGuard old new stop = (place : GuardPlace) → StopsAt guard_step whole_guard (Want (Front (First place))) old new stop

-- `or` and `and`
abbrev pub is_joint : Key → Bool
is_joint key.Or = true
is_joint key.And = true
is_joint key = false

-- the words with which a factor begins
abbrev pub is_factor_key : Key → Bool
is_factor_key key.Not = true
is_factor_key key.X = true
is_factor_key key.Is = true
is_factor_key key.Len = true
is_factor_key key.Starts = true
is_factor_key key = false
