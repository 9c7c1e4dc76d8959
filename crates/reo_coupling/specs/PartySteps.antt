-- What each kind of a party's step does to the words and the views.
use Rattle.std.specs.Prelude.{◌≡◌, ℕ, ◌<◌, slice_set, Option, Some, None}
use Rattle.reo_value.specs.declared.value.Value.{Value}
use Rattle.reo_value.specs.declared.op.Way.{Way}
use Rattle.reo_value.specs.declared.op.Way.TheVariants.{Put, Get}
use Rattle.reo_value.specs.Code.{code_of, IsValue}
use Rattle.reo_fabric.specs.declared.fabric.Fabric.{Fabric}
use Rattle.reo_coupling.specs.declared.view.PartyView.{PartyView}
use Rattle.reo_coupling.specs.declared.view.PortView.{PortView}
use Rattle.reo_coupling.specs.Moment.{Setting, Moment, state_place, data_place}
use Rattle.reo_coupling.specs.PortViews.{port_of, after_set_put, after_offer, after_see_state, after_see_got, after_clear}
use Rattle.reo_coupling.specs.PortParts.{state_at, data_at, IsOwned}
use Rattle.reo_coupling.specs.Whole.{StandsFor}

-- the party owns the put port
pub record IsOwnedPut (fabric : Fabric) (party port : ℕ) : Type 0 where
  pub own : IsOwned fabric party port
  pub way : own.spec.way ≡ Put

-- what a party knows of a port
abbrev pub known_of : Moment → ℕ → ℕ → PortView
known_of moment party port = port_of (moment.folk party) port

-- a step of a party changes no other party's view and no region's, and the history stays
pub record IsOfParty (party : ℕ) (before after : Moment) : Type 0 where
  pub history : after.history ≡ before.history
  pub regions : after.book ≡ before.book
  pub others : (other : ℕ) → (other ≡ party → ⊥) → after.folk other ≡ before.folk other

-- a party stores the value of the put that it offers next, at an idle port
pub record SetsPut (setting : Setting) (party : ℕ) (before after : Moment) : Type 0 where
  pub port : ℕ
  pub value : Value
  pub own : IsOwned setting.fabric party port
  pub way : own.spec.way ≡ Put
  pub idle : (known_of before party port).call ≡ None
  pub real : IsValue value
  pub words : after.words ≡ slice_set before.words (data_place setting.fabric port) (code_of value)
  pub view : after.folk party ≡ after_set_put (before.folk party) port value
  pub frame : IsOfParty party before after

-- at a put a value was stored for the offer
abbrev pub IsSetFor : Way → Option Value → Type 0
IsSetFor Put None = ⊥
IsSetFor Put (Some value) = Unit {0}
IsSetFor Get set = Unit {0}

-- the port is the party's, and at a put a value was stored for the offer
pub record IsReady (fabric : Fabric) (view : PartyView) (port : ℕ) : Type 0 where
  pub own : IsOwned fabric view.party port
  pub set : IsSetFor own.spec.way (port_of view port).set

-- a party opens a call at an idle port
pub record MakesOffer (setting : Setting) (party : ℕ) (before after : Moment) : Type 0 where
  pub port : ℕ
  pub own : IsOwned setting.fabric party port
  pub idle : (known_of before party port).call ≡ None
  pub set : IsSetFor own.spec.way (known_of before party port).set
  pub words : after.words ≡ slice_set before.words (state_place setting.fabric port) 1
  pub view : after.folk party ≡ after_offer (before.folk party) port
  pub frame : IsOfParty party before after

-- a party reads the state word of a port
pub record SeesState (setting : Setting) (party : ℕ) (before after : Moment) : Type 0 where
  pub port : ℕ
  pub own : IsOwned setting.fabric party port
  pub words : after.words ≡ before.words
  pub view : after.folk party ≡ after_see_state (before.folk party) port (state_place setting.fabric port) (state_at setting before port)
  pub frame : IsOfParty party before after

-- a party reads the data word of a port that it read to be answered: the word is the code of this value
pub record SeesGot (setting : Setting) (party : ℕ) (before after : Moment) : Type 0 where
  pub port : ℕ
  pub own : IsOwned setting.fabric party port
  pub number : ℕ
  pub seen : (known_of before party port).seen ≡ Some number
  pub value : Value
  pub real : IsValue value
  pub code : data_at setting before port ≡ code_of value
  pub words : after.words ≡ before.words
  pub view : after.folk party ≡ after_see_got (before.folk party) port (data_place setting.fabric port) (data_at setting before port) value
  pub frame : IsOfParty party before after

-- a party collects the call at a port whose number and datum it read
pub record Clears (setting : Setting) (party : ℕ) (before after : Moment) : Type 0 where
  pub port : ℕ
  pub own : IsOwned setting.fabric party port
  pub number : ℕ
  pub value : Value
  pub seen : (known_of before party port).seen ≡ Some number
  pub datum : (known_of before party port).datum ≡ Some value
  pub words : after.words ≡ slice_set before.words (state_place setting.fabric port) 0
  pub view : after.folk party ≡ after_clear (before.folk party) port
  pub frame : IsOfParty party before after

-- where the words stand for the history before a step of a party, they do after it
abbrev pub PartyKeeps : (Setting → ℕ → Moment → Moment → Type 0) → Type 0
PartyKeeps Step = (setting : Setting) (party : ℕ) (before after : Moment) → party < setting.fabric.parties → StandsFor setting before → Step setting party before after → StandsFor setting after
