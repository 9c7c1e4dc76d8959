-- Tables that mark numbers, and where a number stands among the first elements of a list.
use Rattle.std.specs.Prelude.{◌≡◌, ℕ, ◌<◌, ◌⊎◌, Bool, true, false, not, List, length, slice_get, slice_index_or, Option, Some, None, Decides, if◌then◌else◌}
use Rattle.reo_value.specs.declared.op.Way.{Way}
use Rattle.reo_value.specs.declared.op.Way.TheVariants.{Put, Get}
use Rattle.reo_net.specs.declared.circuit.Channel.{Channel}
use Rattle.reo_net.specs.declared.circuit.Port.{Port}
use Rattle.reo_net.specs.Kind.{is_incoming, direction_of_b, hands_on}

-- for each number below n, whether P holds of it
pub record Marks (table : List Bool) (n : ℕ) (P : ℕ → Type 0) : Type 0 where
  pub len : length table ≡ n
  pub each : (k : ℕ) → k < n → Decides (slice_index_or table k false) (P k)

-- one of the first elements, so many, has this key
pub record IsKeyBelow {X : Type 0} (key : X → ℕ) (xs : List X) (below k : ℕ) : Type 0 where
  pub place : ℕ
  pub element : X
  pub within : place < below
  pub found : slice_get xs place ≡ Some element
  pub keyed : key element ≡ k

-- two of the first elements, so many, have this key
pub record IsKeyTwiceBelow {X : Type 0} (key : X → ℕ) (xs : List X) (below k : ℕ) : Type 0 where
  pub place : ℕ
  pub element : X
  pub within : place < below
  pub found : slice_get xs place ≡ Some element
  pub keyed : key element ≡ k
  pub before : IsKeyBelow key xs place k

-- one of the first elements, so many, has this key and passes the test
pub record IsPassBelow {X : Type 0} (key : X → ℕ) (test : X → Bool) (xs : List X) (below k : ℕ) : Type 0 where
  pub place : ℕ
  pub element : X
  pub within : place < below
  pub found : slice_get xs place ≡ Some element
  pub keyed : key element ≡ k
  pub passes : test element ≡ true

-- the nodes from which and to which the channel hands data on at once, where it does
abbrev pub handing_edge : Channel → Option (ℕ × ℕ)
handing_edge channel = if hands_on channel.kind then Some (channel.a, channel.b) else None

-- data come out of the channel at its end b
abbrev pub comes_out : Channel → Bool
comes_out channel = is_incoming (direction_of_b channel.kind)

-- data go from the node into one of the first channels, so many: at its end a, or at end b where none come out there
abbrev pub IsSourceBelow : List Channel → ℕ → ℕ → Type 0
IsSourceBelow channels below node =
    IsKeyBelow (λ channel. channel.a) channels below node ⊎ IsPassBelow (λ channel. channel.b) (λ channel. not (comes_out channel)) channels below node

abbrev pub table_for : Way → List Bool → List Bool → List Bool
table_for Put sinks sources = sinks
table_for Get sinks sources = sources

-- whether the table for the port's way marks its node
abbrev pub is_marked : List Bool → List Bool → Port → Bool
is_marked sinks sources port = slice_index_or (table_for port.way sinks sources) port.node false
