-- What each kind of step makes of what a region knows of ports, and of what a party knows.
use Rattle.std.specs.Prelude.{ℕ, ◌-◌, List, [], ◌∷◌, ◌++◌, length, map, Option, Some, None, nat_lt, if◌then◌else◌}
use Rattle.reo_value.specs.declared.value.Value.{Value}
use Rattle.reo_fabric.specs.declared.entry.Entry.{Entry}
use Rattle.reo_fabric.specs.Entry.{at_place}
use Rattle.reo_coupling.specs.declared.view.PortsView.{PortsView}
use Rattle.reo_coupling.specs.declared.view.PortView.{PortView}
use Rattle.reo_coupling.specs.declared.view.PartyView.{PartyView}
use Rattle.reo_coupling.specs.declared.view.Offer.{Offer}
use Rattle.reo_coupling.specs.declared.view.Call.{Call}
use Rattle.reo_coupling.specs.Views.{without}

-- a region that knows nothing of ports
abbrev pub no_ports : PortsView
no_ports = record { states = []; laid = []; gots_due = []; answers_due = []; last = 0 }

-- a round begins, and what was noted before is forgotten
abbrev pub ports_after_begin : PortsView → PortsView
ports_after_begin view = record view { states = []; laid = [] }

-- the state word of a port was read
abbrev pub after_see_port : PortsView → ℕ → ℕ → PortsView
after_see_port view port word = record view { states = view.states ++ (port, word) ∷ [] }

-- the data word of an offered put port was read
abbrev pub after_see_offer : PortsView → ℕ → ℕ → PortsView
after_see_offer view port word = record view { laid = view.laid ++ (port, word) ∷ [] }

-- An entry was committed with this number: the data of its gets and all its answers are due, and what was noted is forgotten.
abbrev pub ports_after_commit : ℕ → Entry → PortsView
ports_after_commit number entry = record { states = []; laid = []; gots_due = entry.gets; answers_due = map (λ p. (p.0, number)) (entry.puts ++ entry.gets); last = number }

-- the datum of a get was stored
abbrev pub after_set_got : PortsView → ℕ → PortsView
after_set_got view port = record view { gots_due = without port view.gots_due }

-- a port was answered
abbrev pub after_answer : PortsView → ℕ → PortsView
after_answer view port = record view { answers_due = without port view.answers_due }

-- a port at which nothing happened yet
abbrev pub fresh_port : PortView
fresh_port = record { past = []; call = None; set = None; seen = None; datum = None }

-- a party whose seat was just made
abbrev pub fresh_party : ℕ → PartyView
fresh_party party = record { party = party; ports = []; calls = []; loads = [] }

abbrev pub known_or_fresh : Option PortView → PortView
known_or_fresh None = fresh_port
known_or_fresh (Some known) = known

-- what a party knows of a port
abbrev pub port_of : PartyView → ℕ → PortView
port_of view port = known_or_fresh (at_place view.ports port)

-- the party knows this of a port now
abbrev pub with_port : PartyView → ℕ → PortView → PartyView
with_port view port known = record view { ports = (port, known) ∷ view.ports }

-- a word was loaded
abbrev pub party_after_load : PartyView → ℕ → ℕ → PartyView
party_after_load view place word = record view { loads = view.loads ++ (place, word) ∷ [] }

-- the value of the next put was stored
abbrev pub after_set_put : PartyView → ℕ → Value → PartyView
after_set_put view port value = with_port view port (record (port_of view port) { set = Some value })

-- an offer was made, of what was stored for it
abbrev pub after_offer : PartyView → ℕ → PartyView
after_offer view port = with_port view port (record (port_of view port) { call = Some (record { value = (port_of view port).set; had = length view.calls }); set = None })

-- a state word from 3 on says that the call was answered, and at which number
abbrev pub seen_in : ℕ → Option ℕ → Option ℕ
seen_in word seen = if nat_lt word 3 then seen else Some (word - 3)

-- the state word of a port, which stands at this place, was read
abbrev pub after_see_state : PartyView → ℕ → ℕ → ℕ → PartyView
after_see_state view port place word = with_port (party_after_load view place word) port (record (port_of view port) { seen = seen_in word (port_of view port).seen })

-- the data word of a port, which stands at this place, was read, and this value has the word as its code
abbrev pub after_see_got : PartyView → ℕ → ℕ → ℕ → Value → PartyView
after_see_got view port place word value = with_port (party_after_load view place word) port (record (port_of view port) { datum = Some value })

-- the call that was answered at this number with this datum
abbrev pub answered_call : ℕ → Option ℕ → Option Value → List Call
answered_call port (Some number) (Some value) = record { port = port; value = value; number = number } ∷ []
answered_call port (Some number) None = []
answered_call port None datum = []

abbrev pub offers_of : Option Offer → List Offer
offers_of None = []
offers_of (Some offer) = offer ∷ []

-- the port is idle again, and its offer is one of the past
abbrev pub after_call : PortView → PortView
after_call known = record { past = known.past ++ offers_of known.call; call = None; set = None; seen = None; datum = None }

-- the call at a port was collected
abbrev pub after_clear : PartyView → ℕ → PartyView
after_clear view port = with_port (record view { calls = view.calls ++ answered_call port (port_of view port).seen (port_of view port).datum }) port (after_call (port_of view port))
