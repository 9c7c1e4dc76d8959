-- What each kind of step makes of a region's view.
use Rattle.std.specs.Prelude.{ℕ, ◌+◌, List, [], ◌∷◌, ◌++◌, nat_eq, nat_lt, if◌then◌else◌}
use Rattle.reo_fabric.specs.declared.entry.Entry.{Entry}
use Rattle.reo_coupling.specs.declared.view.CellsView.{CellsView}
use Rattle.reo_coupling.specs.declared.view.Stage.{Stage}
use Rattle.reo_coupling.specs.declared.view.Stage.TheVariants.{Between, UnderWay, Cleared}

-- the last round that has a number
abbrev pub last_round : ℕ
last_round = 18446744073709551615

-- the round after a round; the last one comes again and again
abbrev pub round_after : ℕ → ℕ
round_after round = if nat_lt round last_round then round + 1 else round

-- a region whose seat was just made
abbrev pub fresh_view : ℕ → ℕ → CellsView
fresh_view limit region = record {
  region = region;
  limit = limit;
  round = 0;
  stage = Between;
  notes = [];
  loads = [];
  entries = [];
  takes_due = [];
  fills_due = [];
}

-- a round begins, and what was noted before is forgotten
abbrev pub after_begin : CellsView → CellsView
after_begin view = record view { round = round_after view.round; stage = UnderWay; notes = [] }

-- a word was loaded
abbrev pub after_load : CellsView → ℕ → ℕ → CellsView
after_load view place word = record view { loads = view.loads ++ record { round = view.round; place = place; word = word } ∷ [] }

-- a region that read this commit word is cleared to commit where the word is below the limit
abbrev pub stage_at : ℕ → ℕ → Stage
stage_at clock limit = if nat_lt clock limit then Cleared else UnderWay

-- the commit word was read
abbrev pub after_clock : CellsView → ℕ → CellsView
after_clock view clock = record (after_load view 0 clock) { stage = stage_at clock view.limit }

-- the word of a cell, which stands at this place, was read
abbrev pub after_see_cell : CellsView → ℕ → ℕ → ℕ → CellsView
after_see_cell view cell place word = record (after_load view place word) { notes = view.notes ++ (cell, word) ∷ [] }

-- An entry was committed with this number: its stores are due, and what was noted is forgotten.
abbrev pub after_commit : CellsView → ℕ → Entry → CellsView
after_commit view number entry = record view {
  stage = Between;
  notes = [];
  entries = view.entries ++ record { number = number; entry = entry } ∷ [];
  takes_due = entry.takes;
  fills_due = entry.fills;
}

-- the places but this one
abbrev pub without : {A : Type 0} → ℕ → List (ℕ × A) → List (ℕ × A)
without place [] = []
without place (p ∷ places) = if nat_eq place p.0 then without place places else p ∷ without place places

-- a word was stored in a cell, and is not due any more: 0 empties a cell, each other word fills one
abbrev pub after_set_cell : CellsView → ℕ → ℕ → CellsView
after_set_cell view cell word =
    if nat_eq word 0 then record view { takes_due = without cell view.takes_due } else record view { fills_due = without cell view.fills_due }
