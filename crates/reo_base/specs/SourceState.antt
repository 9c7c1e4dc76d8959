-- A source in memory, and what its next read does.
use Rattle.std.specs.Prelude.{ℕ, Bool, List, length, min, drop, if◌then◌else◌, Result, Ok, Err, ◌==◌}
use Rattle.std.specs.List.{list_any}
use Rattle.reo_base.specs.Faults.{counted}
use Rattle.reo_base.specs.declared.failed.Failed.{Failed}

pub record SourceState : Type 0 where
  pub left : List ℕ
  -- the most bytes that a read gives
  pub piece : ℕ
  -- the numbers of the reads that fail, from 1
  pub fail_at : List ℕ
  -- how many reads were made, and how many of them failed
  pub calls : ℕ
  pub faults : ℕ

-- whether the next read fails
abbrev pub read_fails : SourceState → Bool
read_fails s = list_any (λ number. number == counted s.calls) s.fail_at

-- how many bytes the next read gives where it does not fail
abbrev pub read_count : SourceState → ℕ → ℕ
read_count s room = min (min s.piece room) (length s.left)

-- what the next read into this much room returns
abbrev pub read_result : SourceState → ℕ → Result ℕ Failed
read_result s room = if read_fails s then Err (record {}) else Ok (read_count s room)

-- the source after the next read into this much room
abbrev pub after_read : SourceState → ℕ → SourceState
after_read s room =
    if read_fails s then record s { calls = counted s.calls; faults = counted s.faults }
    else record s { calls = counted s.calls; left = drop (read_count s room) s.left }
