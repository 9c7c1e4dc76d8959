-- What is said of a channel by its kind, a line a kind: a kind more is a line more in each of these.
use Rattle.std.specs.Prelude.{◌≡◌, ℕ, List, [], ◌∷◌, Option, Some, None, Bool, true, false, not, ◌&&◌, ◌||◌}
use Rattle.reo_value.specs.declared.value.Value.{Value}
use Rattle.reo_guard.specs.Holds.{Holds}
use Rattle.reo_guard.specs.Yields.{Yields}
use Rattle.reo_guard.specs.Texts.{texts_of_value, texts_of_guard, texts_of_fun}
use Rattle.reo_net.specs.declared.kind.Kind.{Kind}
use Rattle.reo_net.specs.declared.kind.Kind.TheVariants.{Sync, Lossy, Drain, Fifo, Filter, Transform}

-- which way data go at a name, seen from its node
pub data Direction : Type 0 where
  Incoming : Direction
  Outgoing : Direction

abbrev pub is_incoming : Direction → Bool
is_incoming Incoming = true
is_incoming Outgoing = false

-- it is a buffer
abbrev pub is_fifo : Kind → Bool
is_fifo Sync = false
is_fifo Lossy = false
is_fifo Drain = false
is_fifo (Fifo first) = true
is_fifo (Filter guard) = false
is_fifo (Transform fun) = false

-- what it adds to the initial state: a buffer its first datum, or none
abbrev pub first_content : Kind → List (Option Value)
first_content Sync = []
first_content Lossy = []
first_content Drain = []
first_content (Fifo first) = first ∷ []
first_content (Filter guard) = []
first_content (Transform fun) = []

-- what its end b is for the node there: data come out of a channel at end b, but into a drain at both ends
abbrev pub direction_of_b : Kind → Direction
direction_of_b Sync = Incoming
direction_of_b Lossy = Incoming
direction_of_b Drain = Outgoing
direction_of_b (Fifo first) = Incoming
direction_of_b (Filter guard) = Incoming
direction_of_b (Transform fun) = Incoming

-- what comes out at end b is made, at once, of what goes in at end a
abbrev pub hands_on : Kind → Bool
hands_on Sync = true
hands_on Lossy = true
hands_on Drain = false
hands_on (Fifo first) = false
hands_on (Filter guard) = true
hands_on (Transform fun) = true

-- whether a row of the kind's table fires, of its ends a and b, just these, whatever its condition on the data
abbrev pub fires_ends : Kind → Bool → Bool → Bool
fires_ends Sync a b = a && b
fires_ends Lossy a b = a
fires_ends Drain a b = a && b
fires_ends (Fifo first) a b = (a && not b) || (b && not a)
fires_ends (Filter guard) a b = a
fires_ends (Transform fun) a b = a && b

-- the texts that it names
abbrev pub texts_of_kind : Kind → List ℕ
texts_of_kind Sync = []
texts_of_kind Lossy = []
texts_of_kind Drain = []
texts_of_kind (Fifo None) = []
texts_of_kind (Fifo (Some first)) = texts_of_value first
texts_of_kind (Filter guard) = texts_of_guard guard
texts_of_kind (Transform fun) = texts_of_fun fun

-- A channel that is no buffer may fire both ends, with the datum d at end a and e at end b.
abbrev pub BothFire : List (List ℕ) → Kind → Value → Value → Type 0
BothFire texts Sync d e = e ≡ d
BothFire texts Lossy d e = e ≡ d
BothFire texts Drain d e = Unit {0}
BothFire texts (Fifo first) d e = ⊥
BothFire texts (Filter guard) d e = Holds texts guard d × (e ≡ d)
BothFire texts (Transform fun) d e = Yields texts fun d e

-- A channel that is no buffer may fire end a alone, with the datum d.
abbrev pub OnlyAFires : List (List ℕ) → Kind → Value → Type 0
OnlyAFires texts Sync d = ⊥
OnlyAFires texts Lossy d = Unit {0}
OnlyAFires texts Drain d = ⊥
OnlyAFires texts (Fifo first) d = ⊥
OnlyAFires texts (Filter guard) d = Holds texts guard d → ⊥
OnlyAFires texts (Transform fun) d = ⊥

-- what a channel that is no buffer may have at its ends a and b when it fires; it never fires end b alone
abbrev pub Passes : List (List ℕ) → Kind → Option Value → Option Value → Type 0
Passes texts kind (Some d) (Some e) = BothFire texts kind d e
Passes texts kind (Some d) None = OnlyAFires texts kind d
Passes texts kind None b = ⊥

-- From what a buffer holds, with what there is at its ends a and b, to what it holds then.
-- All other cases are empty: so both ends never fire at once.
abbrev pub Buffers : Option Value → Option Value → Option Value → Option Value → Type 0
-- an empty one takes the datum at its end a
Buffers None (Some d) None new = new ≡ Some d
-- a full one hands on what it holds at its end b
Buffers (Some held) None (Some d) new = (d ≡ held) × (new ≡ None)
Buffers None None b new = ⊥
Buffers None (Some d) (Some e) new = ⊥
Buffers (Some held) (Some d) b new = ⊥
Buffers (Some held) None None new = ⊥

-- From what a channel holds, with what there is at its ends a and b, to what it holds then: a transition of it.
abbrev pub ChannelStep : List (List ℕ) → Kind → Option Value → Option Value → Option Value → Option Value → Type 0
ChannelStep texts Sync held a b new = Passes texts Sync a b × (new ≡ held)
ChannelStep texts Lossy held a b new = Passes texts Lossy a b × (new ≡ held)
ChannelStep texts Drain held a b new = Passes texts Drain a b × (new ≡ held)
ChannelStep texts (Fifo first) held a b new = Buffers held a b new
ChannelStep texts (Filter guard) held a b new = Passes texts (Filter guard) a b × (new ≡ held)
ChannelStep texts (Transform fun) held a b new = Passes texts (Transform fun) a b × (new ≡ held)
