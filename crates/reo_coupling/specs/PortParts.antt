-- What the words of ports stand for, part by part.
use Rattle.std.specs.Prelude.{◌≡◌, ℕ, ◌<◌, ◌⊎◌, List, [], ◌∷◌, ◌++◌, slice_index, slice_get, All, Option, Some, None}
use Rattle.reo_value.specs.declared.value.Value.{Value}
use Rattle.reo_value.specs.declared.op.Way.TheVariants.{Put, Get}
use Rattle.reo_fabric.specs.declared.entry.Entry.{Entry}
use Rattle.reo_fabric.specs.declared.entry.Numbered.{Numbered}
use Rattle.reo_fabric.specs.declared.fabric.Fabric.{Fabric}
use Rattle.reo_fabric.specs.declared.fabric.PortSpec.{PortSpec}
use Rattle.reo_fabric.specs.Entry.{at_place}
use Rattle.reo_coupling.specs.declared.view.Call.{Call}
use Rattle.reo_coupling.specs.declared.view.PartyView.{PartyView}
use Rattle.reo_coupling.specs.declared.view.PortView.{PortView}
use Rattle.reo_coupling.specs.declared.view.PortsView.{PortsView}
use Rattle.reo_coupling.specs.declared.view.RegionView.{RegionView}
use Rattle.reo_coupling.specs.declared.view.Stage.TheVariants.{Between}
use Rattle.reo_coupling.specs.Moment.{Setting, Moment, state_place, data_place}
use Rattle.reo_coupling.specs.PortViews.{fresh_port, port_of}
use Rattle.reo_coupling.specs.Ports.{datum_at, places_of, taken_at, PortNow, PortStands}
use Rattle.reo_coupling.specs.Parts.{NothingDue}

-- what a region knows of ports
abbrev pub ports_of : Moment → ℕ → PortsView
ports_of moment region = (moment.book region).ports

-- what the owner of a port knows of it, and the calls that it collected; a port without owner has neither
abbrev pub known_at : (ℕ → PartyView) → Option ℕ → ℕ → PortView
known_at folk None port = fresh_port
known_at folk (Some party) port = port_of (folk party) port

abbrev pub calls_of : (ℕ → PartyView) → Option ℕ → List Call
calls_of folk None = []
calls_of folk (Some party) = (folk party).calls

abbrev pub state_at : Setting → Moment → ℕ → ℕ
state_at setting moment port = slice_index moment.words (state_place setting.fabric port)

abbrev pub data_at : Setting → Moment → ℕ → ℕ
data_at setting moment port = slice_index moment.words (data_place setting.fabric port)

-- a port at a moment
abbrev pub port_now : Setting → Moment → ℕ → PortSpec → PortNow
port_now setting moment port spec = record {
  way = spec.way;
  state_word = state_at setting moment port;
  data_word = data_at setting moment port;
  known = known_at moment.folk spec.owner port;
  calls = calls_of moment.folk spec.owner;
  taken = taken_at port (calls_of moment.folk spec.owner);
  places = places_of port 0 moment.history;
  got_due = at_place (ports_of moment spec.region).gots_due port;
  answer_due = at_place (ports_of moment spec.region).answers_due port;
}

-- Each port is in one phase, and its collected calls are its first places in the history.
abbrev pub PortsStand : Setting → Moment → Type 0
PortsStand setting moment = (port : ℕ) (spec : PortSpec) → slice_get setting.fabric.ports port ≡ Some spec → PortStands (port_now setting moment port spec)

-- the port is at the region
pub record IsPortOf (fabric : Fabric) (region port : ℕ) : Type 0 where
  pub spec : PortSpec
  pub found : slice_get fabric.ports port ≡ Some spec
  pub at : spec.region ≡ region

-- the port is at the region, and is offered
pub record IsOfferedAt (setting : Setting) (moment : Moment) (region port : ℕ) : Type 0 where
  pub own : IsPortOf setting.fabric region port
  pub state : state_at setting moment port ≡ 1

-- this word is laid at a put port of the region, which is offered
pub record IsLaidAt (setting : Setting) (moment : Moment) (region port word : ℕ) : Type 0 where
  pub offered : IsOfferedAt setting moment region port
  pub way : offered.own.spec.way ≡ Put
  pub laid : data_at setting moment port ≡ word

-- what is noted of ports still stands
pub record OffersStand (setting : Setting) (moment : Moment) (region : ℕ) (view : PortsView) : Type 0 where
  pub states : (port : ℕ) → at_place view.states port ≡ Some 1 → IsOfferedAt setting moment region port
  pub laid : (port word : ℕ) → at_place view.laid port ≡ Some word → IsLaidAt setting moment region port word

-- What a region noted of offers in its round still stands.
abbrev pub OffersAreNoted : Setting → Moment → Type 0
OffersAreNoted setting moment = (region : ℕ) → region < setting.fabric.regions → OffersStand setting moment region (ports_of moment region)

-- no store is due, at no cell and no port
pub record OwesNothing (view : RegionView) : Type 0 where
  pub cells : NothingDue view.cells
  pub gots : view.ports.gots_due ≡ []
  pub answers : view.ports.answers_due ≡ []

-- the region stores what is due: it is not cleared, and has no notes
pub record IsStoring (view : RegionView) : Type 0 where
  pub stage : view.cells.stage ≡ Between
  pub notes : view.cells.notes ≡ []
  pub states : view.ports.states ≡ []
  pub laid : view.ports.laid ≡ []

-- A region with stores due has no notes and is not cleared.
abbrev pub StoresComeFirst : Setting → Moment → Type 0
StoresComeFirst setting moment = (region : ℕ) → region < setting.fabric.regions → OwesNothing (moment.book region) ⊎ IsStoring (moment.book region)

-- the region's last entry
pub record IsLast (view : RegionView) (last : Numbered) : Type 0 where
  pub earlier : List Numbered
  pub entries : view.cells.entries ≡ earlier ++ last ∷ []

-- a datum that is due is that of a get of the region's last entry
pub record GotIsOfTheLast (fabric : Fabric) (region : ℕ) (view : RegionView) (port : ℕ) (value : Value) : Type 0 where
  pub own : IsPortOf fabric region port
  pub way : own.spec.way ≡ Get
  pub last : Numbered
  pub is_last : IsLast view last
  pub gets : at_place last.entry.gets port ≡ Some value

-- an answer that is due has the number of the region's last entry, which has the port
pub record AnswerIsOfTheLast (fabric : Fabric) (region : ℕ) (view : RegionView) (port number : ℕ) : Type 0 where
  pub own : IsPortOf fabric region port
  pub last : Numbered
  pub is_last : IsLast view last
  pub numbered : number ≡ last.number
  pub value : Value
  pub has : datum_at last.entry port ≡ Some value

-- no place stands twice in the list
abbrev pub AreOnce : {A : Type 0} → List (ℕ × A) → Type 0
AreOnce [] = Unit {0}
AreOnce (p ∷ places) = (at_place places p.0 ≡ None) × AreOnce places

-- What a region has to store at ports is of its last entry, and no store is due twice.
pub record PortDuesAreOfTheLast (fabric : Fabric) (region : ℕ) (view : RegionView) : Type 0 where
  pub gots : (port : ℕ) (value : Value) → at_place view.ports.gots_due port ≡ Some value → GotIsOfTheLast fabric region view port value
  pub answers : (port number : ℕ) → at_place view.ports.answers_due port ≡ Some number → AnswerIsOfTheLast fabric region view port number
  pub gots_once : AreOnce view.ports.gots_due
  pub answers_once : AreOnce view.ports.answers_due

abbrev pub AnswersAreOfTheLast : Setting → Moment → Type 0
AnswersAreOfTheLast setting moment = (region : ℕ) → region < setting.fabric.regions → PortDuesAreOfTheLast setting.fabric region (moment.book region)

-- the party owns the port
pub record IsOwned (fabric : Fabric) (party port : ℕ) : Type 0 where
  pub spec : PortSpec
  pub found : slice_get fabric.ports port ≡ Some spec
  pub owner : spec.owner ≡ Some party

-- The call is at a port that the party owns, and the entry of the history with its number has the port with its value.
pub record CallStands (fabric : Fabric) (history : List Entry) (party : ℕ) (call : Call) : Type 0 where
  pub own : IsOwned fabric party call.port
  pub entry : Entry
  pub found : slice_get history call.number ≡ Some entry
  pub datum : datum_at entry call.port ≡ Some call.value

-- The calls that each party collected stand in the history.
abbrev pub CallsStand : Setting → Moment → Type 0
CallsStand setting moment = (party : ℕ) → party < setting.fabric.parties → All (CallStands setting.fabric moment.history party) (moment.folk party).calls

-- Each party's view is its own.
abbrev pub PartiesAreNamed : Setting → Moment → Type 0
PartiesAreNamed setting moment = (party : ℕ) → party < setting.fabric.parties → (moment.folk party).party ≡ party
