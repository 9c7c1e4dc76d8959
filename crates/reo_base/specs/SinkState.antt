-- A sink in memory, and what its next write does.
use Rattle.std.specs.Prelude.{ℕ, Bool, List, ◌-◌, ◌++◌, ◌||◌, ◌&&◌, not, length, min, take, if◌then◌else◌, Result, Ok, Err, ◌==◌}
use Rattle.std.specs.List.{list_any}
use Rattle.reo_base.specs.Faults.{counted}
use Rattle.reo_base.specs.declared.failed.Failed.{Failed}

pub record SinkState : Type 0 where
  pub written : List ℕ
  -- how many bytes it holds at most
  pub room : ℕ
  -- the most bytes that a write takes
  pub piece : ℕ
  -- the numbers of the writes that fail, from 1
  pub fail_at : List ℕ
  -- how many writes were made, and how many of them failed
  pub calls : ℕ
  pub faults : ℕ

-- whether the next write, of these bytes, fails
abbrev pub write_fails : SinkState → List ℕ → Bool
write_fails s buf =
    not (length buf == 0) && (length s.written == s.room || list_any (λ number. number == counted s.calls) s.fail_at)

-- how many of these bytes the next write takes where it does not fail
abbrev pub write_count : SinkState → List ℕ → ℕ
write_count s buf = min (min s.piece (length buf)) (s.room - length s.written)

-- what the next write of these bytes returns
abbrev pub write_result : SinkState → List ℕ → Result ℕ Failed
write_result s buf = if write_fails s buf then Err (record {}) else Ok (write_count s buf)

-- the sink after the next write, of these bytes
abbrev pub after_write : SinkState → List ℕ → SinkState
after_write s buf =
    if write_fails s buf then record s { calls = counted s.calls; faults = counted s.faults }
    else record s { calls = counted s.calls; written = s.written ++ take (write_count s buf) buf }
