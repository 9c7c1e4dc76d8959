-- A party, as contracts see it, and what its calls answer.
use Rattle.std.specs.Prelude.{◌≡◌, ◌≢◌, ℕ, ◌+◌, Bool, true, false, List, [], ◌∷◌, ◌++◌, length, map, slice_get, slice_index_or, All, Option, Some, None, nat_eq, if◌then◌else◌}
use Rattle.atomic_table.specs.Seated.{TableId}
use Rattle.reo_value.specs.declared.value.Value.{Value}
use Rattle.reo_value.specs.declared.op.Op.{Op}
use Rattle.reo_value.specs.declared.op.Op.TheVariants as op
use Rattle.reo_value.specs.declared.op.Way.{Way}
use Rattle.reo_value.specs.declared.op.Way.TheVariants.{Put, Get}
use Rattle.reo_value.specs.Code.{code_of, IsValue}
use Rattle.reo_fabric.specs.declared.entry.Entry.{Entry}
use Rattle.reo_fabric.specs.declared.fabric.Fabric.{Fabric}
use Rattle.reo_fabric.specs.declared.fabric.PortSpec.{PortSpec}
use Rattle.reo_coupling.specs.declared.view.Offer.{Offer}
use Rattle.reo_coupling.specs.declared.view.PartyView.{PartyView}
use Rattle.reo_coupling.specs.Moment.{Setting, state_place, data_place}
use Rattle.reo_coupling.specs.PortViews.{port_of, after_see_state, after_call}
use Rattle.reo_coupling.specs.Ports.{IsAfterItsPast, IsGiven}
use Rattle.reo_coupling.specs.PortParts.{CallStands}
use Rattle.reo_table.specs.History.{IsHistory}
use Rattle.reo_table.specs.Shared.{WordsState}
use Rattle.reo_port.specs.declared.party.Collected.{Collected}
use Rattle.reo_port.specs.declared.party.Collected.TheVariants.{Answered, Waiting, NoCall}
use Rattle.reo_port.specs.declared.party.PortRefusal.{PortRefusal}
use Rattle.reo_port.specs.declared.party.PortRefusal.TheVariants.{NotMine, WrongWay, Already}

pub record PartyValue : Type 0 where
  -- the words that its seat belongs to, and what the seat knows
  pub id : TableId
  pub view : PartyView
  -- for each port the way in which data go at it, where the party owns it
  pub ways : List (Option Way)

abbrev pub way_of_owner : ℕ → Option ℕ → Way → Option Way
way_of_owner party None way = None
way_of_owner party (Some owner) way = if nat_eq party owner then Some way else None

abbrev pub ways_of : Fabric → ℕ → List (Option Way)
ways_of fabric party = map (λ spec. way_of_owner party spec.owner spec.way) fabric.ports

-- the party works on these words, and owns the ports that their fabric gives it
pub record IsPartyOf (words : WordsState) (state : PartyValue) : Type 0 where
  pub own : state.id ≡ words.id
  pub ways : state.ways ≡ ways_of words.setting.fabric state.view.party

abbrev pub way_at : PartyValue → ℕ → Option Way
way_at state port = slice_index_or state.ways port None

abbrev pub put_of : ℕ → Option Value → Option Op
put_of port None = None
put_of port (Some value) = Some (op.Put port value)

-- the call that stands at an owned port with this open offer
abbrev pub standing : Option Way → ℕ → Option Offer → Option Op
standing None port offer = None
standing (Some way) port None = None
standing (Some Put) port (Some offer) = put_of port offer.value
standing (Some Get) port (Some offer) = Some (op.Get port)

-- the party's call that stands at a port
abbrev pub call_at : PartyValue → ℕ → Option Op
call_at state port = standing (way_at state port) port (port_of state.view port).call

abbrev pub same_way : Way → Way → Bool
same_way Put Put = true
same_way Put Get = false
same_way Get Put = false
same_way Get Get = true

abbrev pub already : Option Op → Option PortRefusal
already None = None
already (Some call) = Some Already

-- Why a call may not be posted: the port is not the party's, or data go the other way there, or a call stands there.
abbrev pub refused : Option Way → Way → Option Op → Option PortRefusal
refused None way call = Some NotMine
refused (Some own) way call = if same_way own way then already call else Some WrongWay

abbrev pub refusal_of : PartyValue → ℕ → Way → Option PortRefusal
refusal_of state port way = refused (way_at state port) way (call_at state port)

-- The calls that stand are noted, and each put that stands has its value.
pub record AreNoted (ways : List (Option Way)) (view : PartyView) (calls : List (Option Op)) : Type 0 where
  pub same : length calls ≡ length ways
  pub each : (port : ℕ) → slice_index_or calls port None ≡ standing (slice_index_or ways port None) port (port_of view port).call
  pub puts : (port : ℕ) (offer : Offer) → slice_index_or ways port None ≡ Some Put → (port_of view port).call ≡ Some offer → offer.value ≡ None → ⊥

-- The party's call at a port was answered with this value, and is collected. There is a history in which all calls that the
-- party collected stand, this one with its number; the number is above those of all calls that the party had collected when it
-- made the offer, and a put's value is what was offered.
pub record IsAnswer (setting : Setting) (old new : PartyView) (port : ℕ) (value : Value) (number : ℕ) : Type 0 where
  pub calls : new.calls ≡ old.calls ++ record { port = port; value = value; number = number } ∷ []
  -- the port is idle again, and its offer is one of the past
  pub at : port_of new port ≡ after_call (port_of old port)
  pub others : (other : ℕ) → (other ≡ port → ⊥) → port_of new other ≡ port_of old other
  -- the words that were read
  pub loads : new.loads ≡ (old.loads ++ (state_place setting.fabric port, 3 + number) ∷ []) ++ (data_place setting.fabric port, code_of value) ∷ []
  pub party : new.party ≡ old.party
  pub history : List Entry
  pub real : IsHistory setting history
  pub stand : All (CallStands setting.fabric history new.party) new.calls
  pub offer : Offer
  pub called : (port_of old port).call ≡ Some offer
  pub later : IsAfterItsPast old.calls offer number
  pub given : (spec : PortSpec) → slice_get setting.fabric.ports port ≡ Some spec → IsGiven spec.way offer.value value

-- What came of collecting. Waiting: a call stands, and the state word was read as 1, which is offered. No call: none of this
-- party stands there.
abbrev pub IsCollected : WordsState → PartyValue → PartyValue → ℕ → Collected → Type 0
IsCollected words old new port (Answered value number) =
    (call_at old port ≢ None) × ((new ≡ record old { view = new.view }) × IsAnswer words.setting old.view new.view port value number)
IsCollected words old new port Waiting = (call_at old port ≢ None) × (new ≡ record old { view = after_see_state old.view port (state_place words.setting.fabric port) 1 })
IsCollected words old new port NoCall = (call_at old port ≡ None) × (new ≡ old)

-- some value has this code
pub record IsCode (word : ℕ) : Type 0 where
  pub value : Value
  pub real : IsValue value
  pub code : word ≡ code_of value
