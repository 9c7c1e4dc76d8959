-- How one port stands: its two words, what its party knows of it, its places in the history, and what is due at it.
use Rattle.std.specs.Prelude.{◌≡◌, ℕ, ◌+◌, ◌<◌, ◌≤◌, ◌⊎◌, List, [], ◌∷◌, ◌++◌, length, take, All, Option, Some, None, nat_eq, if◌then◌else◌}
use Rattle.reo_value.specs.declared.value.Value.{Value}
use Rattle.reo_value.specs.declared.op.Way.{Way}
use Rattle.reo_value.specs.declared.op.Way.TheVariants.{Put, Get}
use Rattle.reo_value.specs.Code.{code_of, IsValue}
use Rattle.reo_fabric.specs.declared.entry.Entry.{Entry}
use Rattle.reo_fabric.specs.Entry.{at_place}
use Rattle.reo_coupling.specs.declared.view.PortView.{PortView}
use Rattle.reo_coupling.specs.declared.view.Offer.{Offer}
use Rattle.reo_coupling.specs.declared.view.Call.{Call}

abbrev pub first_some : Option Value → Option Value → Option Value
first_some (Some value) other = Some value
first_some None other = other

-- what an entry puts or gets at a port
abbrev pub datum_at : Entry → ℕ → Option Value
datum_at entry port = first_some (at_place entry.puts port) (at_place entry.gets port)

abbrev pub with_datum : ℕ → Option Value → List (ℕ × Value) → List (ℕ × Value)
with_datum number None places = places
with_datum number (Some value) places = (number, value) ∷ places

-- The places of a port: the numbers of the entries that have it, with what they put or get there. The first entry has the
-- number `first`.
abbrev pub places_of : ℕ → ℕ → List Entry → List (ℕ × Value)
places_of port first [] = []
places_of port first (entry ∷ entries) = with_datum first (datum_at entry port) (places_of port (first + 1) entries)

-- the places of the calls that were collected at a port
abbrev pub taken_at : ℕ → List Call → List (ℕ × Value)
taken_at port [] = []
taken_at port (call ∷ calls) = if nat_eq port call.port then (call.number, call.value) ∷ taken_at port calls else taken_at port calls

pub record PortNow : Type 0 where
  pub way : Way
  pub state_word : ℕ
  pub data_word : ℕ
  -- what its party knows of it
  pub known : PortView
  -- the calls that its party collected at all its ports, and the places of those at this one
  pub calls : List Call
  pub taken : List (ℕ × Value)
  -- its places in the history
  pub places : List (ℕ × Value)
  -- what its region has still to store: a get's datum, and an answer with its number
  pub got_due : Option Value
  pub answer_due : Option ℕ

pub record NothingDueAt (got_due : Option Value) (answer_due : Option ℕ) : Type 0 where
  pub got : got_due ≡ None
  pub answer : answer_due ≡ None

-- the party did not read its call to be answered
pub record IsUnseen (known : PortView) : Type 0 where
  pub seen : known.seen ≡ None
  pub datum : known.datum ≡ None

-- the number is above those of all calls that the party had collected when it made the offer
abbrev pub IsAfterItsPast : List Call → Offer → ℕ → Type 0
IsAfterItsPast calls offer number = All (λ call. call.number < number) (take offer.had calls)

-- at a put the data word is the code of what is offered
abbrev pub IsLaid : Way → Option Value → ℕ → Type 0
IsLaid Put None word = ⊥
IsLaid Put (Some value) word = IsValue value × (word ≡ code_of value)
IsLaid Get offered word = Unit {0}

-- at a put the datum is what was offered
abbrev pub IsGiven : Way → Option Value → Value → Type 0
IsGiven Put offered value = offered ≡ Some value
IsGiven Get offered value = Unit {0}

-- a call stands at the port, by this offer
pub record IsCalled (known : PortView) (calls : List Call) (offer : Offer) : Type 0 where
  pub call : known.call ≡ Some offer
  pub had : offer.had ≤ length calls

-- the offer has this place in the history, after all that its party had collected when it made it
pub record HasPlace (way : Way) (calls : List Call) (taken places : List (ℕ × Value)) (offer : Offer) (number : ℕ) (value : Value) : Type 0 where
  pub last : places ≡ taken ++ (number, value) ∷ []
  pub later : IsAfterItsPast calls offer number
  pub given : IsGiven way offer.value value
  pub real : IsValue value

-- No call stands. Where a value was stored for the next put, the data word is its code.
pub record IsIdle (now : PortNow) : Type 0 where
  pub state : now.state_word ≡ 0
  pub no_call : now.known.call ≡ None
  pub unseen : IsUnseen now.known
  pub places : now.places ≡ now.taken
  pub nothing_due : NothingDueAt now.got_due now.answer_due
  pub set : (value : Value) → now.known.set ≡ Some value → (now.way ≡ Put) × (IsValue value × (now.data_word ≡ code_of value))

-- A call stands, and no entry has it.
pub record IsOffered (now : PortNow) : Type 0 where
  pub offer : Offer
  pub called : IsCalled now.known now.calls offer
  pub state : now.state_word ≡ 1
  pub unseen : IsUnseen now.known
  pub places : now.places ≡ now.taken
  pub nothing_due : NothingDueAt now.got_due now.answer_due
  pub laid : IsLaid now.way offer.value now.data_word

-- a get's datum is due or stored, and a put's is what is laid
abbrev pub DatumComes : Way → Option Value → ℕ → Value → Type 0
DatumComes Put due word value = (due ≡ None) × (word ≡ code_of value)
DatumComes Get due word value = (due ≡ Some value) ⊎ ((due ≡ None) × (word ≡ code_of value))

-- A call stands, an entry has it, and the answer is due.
pub record IsCommitted (now : PortNow) : Type 0 where
  pub offer : Offer
  pub called : IsCalled now.known now.calls offer
  pub number : ℕ
  pub value : Value
  pub place : HasPlace now.way now.calls now.taken now.places offer number value
  pub state : now.state_word ≡ 1
  pub unseen : IsUnseen now.known
  pub due : now.answer_due ≡ Some number
  pub datum : DatumComes now.way now.got_due now.data_word value

-- A call stands, and it is answered. What the party read of the answer is so.
pub record IsAnswered (now : PortNow) : Type 0 where
  pub offer : Offer
  pub called : IsCalled now.known now.calls offer
  pub number : ℕ
  pub value : Value
  pub place : HasPlace now.way now.calls now.taken now.places offer number value
  pub state : now.state_word ≡ 3 + number
  pub nothing_due : NothingDueAt now.got_due now.answer_due
  pub word : now.data_word ≡ code_of value
  pub seen : (other : ℕ) → now.known.seen ≡ Some other → other ≡ number
  pub datum : (other : Value) → now.known.datum ≡ Some other → other ≡ value

abbrev pub IsInOnePhase : PortNow → Type 0
IsInOnePhase now = IsIdle now ⊎ (IsOffered now ⊎ (IsCommitted now ⊎ IsAnswered now))

-- a collected call: its number is above those that its party had collected when it made the offer, and a put's value is what
-- was offered
pub record WasAnswered (way : Way) (calls : List Call) (offer : Offer) (place : ℕ × Value) : Type 0 where
  pub had : offer.had ≤ length calls
  pub later : IsAfterItsPast calls offer place.0
  pub given : IsGiven way offer.value place.1

-- each offer of the past has its place, in order
abbrev pub ArePaired : Way → List Call → List Offer → List (ℕ × Value) → Type 0
ArePaired way calls [] [] = Unit {0}
ArePaired way calls [] (place ∷ places) = ⊥
ArePaired way calls (offer ∷ offers) [] = ⊥
ArePaired way calls (offer ∷ offers) (place ∷ places) = WasAnswered way calls offer place × ArePaired way calls offers places

pub record PortStands (now : PortNow) : Type 0 where
  pub phase : IsInOnePhase now
  pub past : ArePaired now.way now.calls now.known.past now.taken
