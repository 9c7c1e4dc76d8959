-- One label for all numbers that pairs link: as the code finds the regions.
use Rattle.std.specs.Prelude.{◌≡◌, ℕ, zero, suc, ◌+◌, ◌<◌, ◌≤◌, ◌⊎◌, nat_eq, if◌then◌else◌, List, [], ◌∷◌, ◌++◌, length, slice_get, slice_index_or}
use Rattle.std.specs.Option.{option_map_or}
use Rattle.reo_net.specs.declared.circuit.Channel.{Channel}
use Rattle.reo_net.specs.Kind.{is_fifo}

-- one label in the place of another
abbrev pub moved : ℕ → ℕ → ℕ → ℕ
moved from to label = if nat_eq label from then to else label

-- the pair is one of these
abbrev pub IsPair : List (ℕ × ℕ) → ℕ → ℕ → Type 0
IsPair [] a b = ⊥
IsPair (pair ∷ pairs) a b = ((pair.0 ≡ a) × (pair.1 ≡ b)) ⊎ IsPair pairs a b

-- a path of pairs, each either way round
pub data Linked (pairs : List (ℕ × ℕ)) (x : ℕ) : ℕ → Type 0 where
  stays : Linked pairs x x
  forth : {a : ℕ} (b : ℕ) → Linked pairs x a → IsPair pairs a b → Linked pairs x b
  back : (a : ℕ) {b : ℕ} → Linked pairs x b → IsPair pairs a b → Linked pairs x a

abbrev pub label_at : List ℕ → ℕ → ℕ
label_at labels x = slice_index_or labels x 0

-- for each number below n the least of those that pairs link with it
pub record AreLabels (pairs : List (ℕ × ℕ)) (n : ℕ) (labels : List ℕ) : Type 0 where
  pub len : length labels ≡ n
  pub inside : (a b : ℕ) → IsPair pairs a b → (a < n) × (b < n)
  pub same : (x y : ℕ) → x < n → y < n → label_at labels x ≡ label_at labels y → Linked pairs x y
  pub linked : (x y : ℕ) → x < n → y < n → Linked pairs x y → label_at labels x ≡ label_at labels y
  pub least : (x : ℕ) → x < n → label_at labels x ≤ x
  pub member : (x : ℕ) → x < n → Linked pairs x (label_at labels x)

-- a channel that is no FIFO1, with the nodes at its ends: automata by their numbers
abbrev pub pairs_of : ℕ → ℕ → Channel → List (ℕ × ℕ)
pairs_of channels k channel =
    if is_fifo channel.kind then [] else (k, channels + channel.b) ∷ (k, channels + channel.a) ∷ []

-- those of the first channels, so many
abbrev pub pairs_below : List Channel → ℕ → List (ℕ × ℕ)
pairs_below channels zero = []
pairs_below channels (suc k) = option_map_or (pairs_of (length channels) k) (slice_get channels k) [] ++ pairs_below channels k
