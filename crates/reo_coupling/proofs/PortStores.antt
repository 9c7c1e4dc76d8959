-- The stores of a region at ports: the datum of a get, and an answer.
use Rattle.std.proofs.Common.{◌≡◌, ℕ, ◌+◌, ◌<◌, ◌⊎◌, ⊎_elim, inr, [], List, slice_get, Some, None, refl, sym, ap, ◌∙◌, subst, arith}
use Rattle.std.proofs.lemmas.Bool.{cases_eq}
use Rattle.std.proofs.lemmas.Option.{slice_get_within}
use Rattle.reo_value.specs.declared.value.Value.{Value}
use Rattle.reo_value.specs.Code.{code_of}
use Rattle.reo_fabric.specs.declared.fabric.Fabric.{Fabric}
use Rattle.reo_fabric.specs.declared.fabric.PortSpec.{PortSpec}
use Rattle.reo_fabric.specs.Entry.{at_place}
use Rattle.reo_coupling.specs.declared.view.PortsView.{PortsView}
use Rattle.reo_coupling.specs.declared.view.RegionView.{RegionView}
use Rattle.reo_coupling.specs.Moment.{Setting, Moment, state_place, data_place}
use Rattle.reo_coupling.specs.PortViews.{after_set_got, after_answer}
use Rattle.reo_coupling.specs.Parts.{view_of}
use Rattle.reo_coupling.specs.Ports.{places_of, taken_at, PortNow, PortStands}
use Rattle.reo_coupling.specs.PortParts.{ports_of, known_at, calls_of, state_at, data_at, port_now, PortsStand, IsPortOf, OffersStand, OffersAreNoted, OwesNothing, IsStoring, StoresComeFirst, AreOnce, AnswersAreOfTheLast}
use Rattle.reo_coupling.specs.Steps.{SetsGot, Answers, OthersStay}
use Rattle.reo_coupling.specs.Whole.{StandsFor, KeepsCellParts, KeepsPortParts}
use Rattle.reo_coupling.proofs.Frames.{word_else, word_here, length_else}
use Rattle.reo_coupling.proofs.Lists.{without_here, without_else, without_found, without_once}
use Rattle.reo_coupling.proofs.Above.{above, loads_only}
use Rattle.reo_coupling.proofs.OnePort.{same_port, one_sets_got, one_answers}
use Rattle.reo_coupling.proofs.PortFrames.{whole_view, one_region, dues_fewer, offers_else, each_book, part_stays, parties_stay, dues_stay, calls_stay}

nothing_at : {A : Type 0} (places : List (ℕ × A)) (port : ℕ) (x : A) → places ≡ [] → at_place places port ≡ Some x → ⊥
nothing_at places port x none found =
    let is : None ≡ Some x = sym (ap (λ l. at_place l port) none) ∙ found in
    cc

-- two ports have four words
pub apart_state : (fabric : Fabric) (p q : ℕ) → (p ≡ q → ⊥) → state_place fabric p ≡ state_place fabric q → ⊥
apart_state fabric p q ne same = ne (omega (arith, same))

pub apart_data : (fabric : Fabric) (p q : ℕ) → (p ≡ q → ⊥) → data_place fabric p ≡ data_place fabric q → ⊥
apart_data fabric p q ne same = ne (omega (arith, same))

pub state_is_no_data : (fabric : Fabric) (p q : ℕ) → state_place fabric p ≡ data_place fabric q → ⊥
state_is_no_data fabric p q same = omega (arith, same)

-- a region that stores what is due at a port of its own
module _ (setting : Setting) (region : ℕ) (before after : Moment) (within : region < setting.fabric.regions) (stands : StandsFor setting before) (port : ℕ) (own : IsPortOf setting.fabric region port)
    (storing : IsStoring (before.book region)) (ports : PortsView) (of_view : view_of after region ≡ view_of before region) (of_ports : ports_of after region ≡ ports) (others : OthersStay region before after)
    (parties : after.folk ≡ before.folk) (history : after.history ≡ before.history) (states_same : ports.states ≡ (ports_of before region).states) (laid_same : ports.laid ≡ (ports_of before region).laid)
    (state_else : (other : ℕ) → (other ≡ port → ⊥) → state_at setting after other ≡ state_at setting before other) (data_else : (other : ℕ) → (other ≡ port → ⊥) → data_at setting after other ≡ data_at setting before other)
    (gots_else : (other : ℕ) → (other ≡ port → ⊥) → at_place ports.gots_due other ≡ at_place (ports_of before region).gots_due other)
    (answers_else : (other : ℕ) → (other ≡ port → ⊥) → at_place ports.answers_due other ≡ at_place (ports_of before region).answers_due other) where
  now : RegionView
  now = record { cells = view_of before region; ports = ports }

  is_now : after.book region ≡ now
  unfolding now
  is_now = whole_view (after.book region) (view_of before region) ports of_view of_ports

  -- another port stays
  pub other_stands : (other : ℕ) (spec : PortSpec) → (other ≡ port → ⊥) → slice_get setting.fabric.ports other ≡ Some spec → PortStands (port_now setting after other spec)
  unfolding now
  other_stands other spec ne found =
      same_port (port_now setting after other spec) (port_now setting before other spec) refl (state_else other ne) (data_else other ne) (ap (λ f. known_at f spec.owner other) parties) (ap (λ f. calls_of f spec.owner) parties)
      (ap (λ f. taken_at other (calls_of f spec.owner)) parties) (ap (places_of other 0) history)
      (part_stays setting region before after now is_now others parties (λ view. at_place view.ports.gots_due other) (gots_else other ne) spec.region)
      (part_stays setting region before after now is_now others parties (λ view. at_place view.ports.answers_due other) (answers_else other ne) spec.region) (stands.ports other spec found)

  pub each_stands : ((spec : PortSpec) → slice_get setting.fabric.ports port ≡ Some spec → PortStands (port_now setting after port spec)) → PortsStand setting after
  each_stands here other spec found =
      ⊎_elim
      (λ same. subst (λ p. PortStands (port_now setting after p spec)) (sym same) (here spec (subst (λ p. slice_get setting.fabric.ports p ≡ Some spec) same found)))
      (λ ne. other_stands other spec ne found)
      (cases_eq other port)

  pub notes_after : OffersAreNoted setting after
  unfolding now
  notes_after =
      each_book setting region before after now is_now others parties (λ r view. OffersStand setting after r view.ports) setting.fabric.regions
      (λ inside. record {
        states = λ p noted. absurd (nothing_at ports.states p 1 (states_same ∙ storing.states) noted);
        laid = λ p word noted. absurd (nothing_at ports.laid p word (laid_same ∙ storing.laid) noted);
      })
      (λ r inside ne.
      let not_here : (p : ℕ) → IsPortOf setting.fabric r p → p ≡ port → ⊥ = λ p theirs is. ne (one_region setting.fabric r region port (subst (IsPortOf setting.fabric r) is theirs) own) in
      offers_else setting before after r (before.book r).ports (λ p theirs. state_else p (not_here p theirs)) (λ p theirs. data_else p (not_here p theirs)) (stands.offers r inside))

  pub stores_after : StoresComeFirst setting after
  unfolding now
  stores_after =
      each_book setting region before after now is_now others parties (λ r view. OwesNothing view ⊎ IsStoring view) setting.fabric.regions
      (λ inside. inr (record { stage = storing.stage; notes = storing.notes; states = states_same ∙ storing.states; laid = laid_same ∙ storing.laid })) (λ r inside ne. stands.stores r inside)

  pub dues_after : ((p : ℕ) (value : Value) → at_place ports.gots_due p ≡ Some value → at_place (ports_of before region).gots_due p ≡ Some value)
      → ((p number : ℕ) → at_place ports.answers_due p ≡ Some number → at_place (ports_of before region).answers_due p ≡ Some number)
      → (AreOnce (ports_of before region).gots_due → AreOnce ports.gots_due) → (AreOnce (ports_of before region).answers_due → AreOnce ports.answers_due) → AnswersAreOfTheLast setting after
  unfolding now
  dues_after gots answers gots_once answers_once =
      dues_stay setting region before after now is_now others parties
      (λ inside. dues_fewer setting.fabric region (before.book region) now refl gots answers gots_once answers_once (stands.answers region inside)) stands.answers

module _ (setting : Setting) (region : ℕ) (before after : Moment) (within : region < setting.fabric.regions) (stands : StandsFor setting before) (step : SetsGot setting region before after) where
  got_own : IsPortOf setting.fabric region step.port
  got_own = ((stands.answers region within).gots step.port step.value step.due).own

  got_storing : IsStoring (before.book region)
  got_storing = ⊎_elim (λ none. absurd (nothing_at (ports_of before region).gots_due step.port step.value none.gots step.due)) (λ is. is) (stands.stores region within)

  got_state : (other : ℕ) → state_at setting after other ≡ state_at setting before other
  got_state other = word_else before.words after.words _ _ (state_place setting.fabric other) step.words (state_is_no_data setting.fabric other step.port)

  got_data : (other : ℕ) → (other ≡ step.port → ⊥) → data_at setting after other ≡ data_at setting before other
  got_data other ne = word_else before.words after.words _ _ (data_place setting.fabric other) step.words (apart_data setting.fabric other step.port ne)

  got_here : (spec : PortSpec) → slice_get setting.fabric.ports step.port ≡ Some spec → PortStands (port_now setting after step.port spec)
  got_here spec found =
      let at : spec.region ≡ region = one_region setting.fabric spec.region region step.port (record { spec = spec; found = found; at = refl }) got_own in
      let now : PortNow = port_now setting before step.port spec in
      same_port (port_now setting after step.port spec) (record now { data_word = code_of step.value; got_due = None }) refl (got_state step.port)
      (word_here before.words after.words _ _ step.words (omega (arith, stands.sized.words, slice_get_within setting.fabric.ports step.port spec found))) (ap (λ f. known_at f spec.owner step.port) step.parties)
      (ap (λ f. calls_of f spec.owner) step.parties) (ap (λ f. taken_at step.port (calls_of f spec.owner)) step.parties) (ap (places_of step.port 0) step.history)
      (ap (λ r. at_place (ports_of after r).gots_due step.port) at ∙ (ap (λ (v : PortsView). at_place v.gots_due step.port) step.ports ∙ without_here step.port (ports_of before region).gots_due))
      (ap (λ r. at_place (ports_of after r).answers_due step.port) at ∙ (ap (λ (v : PortsView). at_place v.answers_due step.port) step.ports ∙ ap (λ r. at_place (ports_of before r).answers_due step.port) (sym at)))
      (one_sets_got now step.value (stands.ports step.port spec found) (ap (λ r. at_place (ports_of before r).gots_due step.port) at ∙ step.due))

pub set_got_ports : KeepsPortParts SetsGot
set_got_ports = record {
  ports = λ setting region before after within stands step.
      each_stands setting region before after within stands step.port (got_own setting region before after within stands step) (got_storing setting region before after within stands step) (after_set_got (ports_of before region) step.port)
      step.view step.ports step.others step.parties step.history refl refl (λ other ne. got_state setting region before after within stands step other) (got_data setting region before after within stands step)
      (λ other ne. without_else step.port other (ports_of before region).gots_due ne) (λ other ne. refl) (got_here setting region before after within stands step);
  offers = λ setting region before after within stands step.
      notes_after setting region before after within stands step.port (got_own setting region before after within stands step) (got_storing setting region before after within stands step) (after_set_got (ports_of before region) step.port)
      step.view step.ports step.others step.parties step.history refl refl (λ other ne. got_state setting region before after within stands step other) (got_data setting region before after within stands step)
      (λ other ne. without_else step.port other (ports_of before region).gots_due ne) (λ other ne. refl);
  stores = λ setting region before after within stands step.
      stores_after setting region before after within stands step.port (got_own setting region before after within stands step) (got_storing setting region before after within stands step) (after_set_got (ports_of before region) step.port)
      step.view step.ports step.others step.parties step.history refl refl (λ other ne. got_state setting region before after within stands step other) (got_data setting region before after within stands step)
      (λ other ne. without_else step.port other (ports_of before region).gots_due ne) (λ other ne. refl);
  answers = λ setting region before after within stands step.
      dues_after setting region before after within stands step.port (got_own setting region before after within stands step) (got_storing setting region before after within stands step) (after_set_got (ports_of before region) step.port)
      step.view step.ports step.others step.parties step.history refl refl (λ other ne. got_state setting region before after within stands step other) (got_data setting region before after within stands step)
      (λ other ne. without_else step.port other (ports_of before region).gots_due ne) (λ other ne. refl) (λ p value due. without_found step.port p (ports_of before region).gots_due value due) (λ p number due. due)
      (without_once step.port (ports_of before region).gots_due) (λ once. once);
  calls = λ setting region before after within stands step.
      calls_stay setting region before after (record { cells = view_of before region; ports = after_set_got (ports_of before region) step.port }) (whole_view (after.book region) _ _ step.view step.ports) step.others step.parties step.history stands.calls;
  parties = λ setting region before after within stands step.
      parties_stay setting region before after (record { cells = view_of before region; ports = after_set_got (ports_of before region) step.port }) (whole_view (after.book region) _ _ step.view step.ports) step.others step.parties stands.parties;
}

pub set_got_cells : KeepsCellParts SetsGot
set_got_cells =
    above SetsGot (λ setting region before after within stands step.
    loads_only setting region before after (view_of before region).loads step.view step.others (length_else before.words after.words _ _ step.words) (λ place low. word_else before.words after.words _ _ place step.words (λ same. omega (arith, low, same))) step.history)

module _ (setting : Setting) (region : ℕ) (before after : Moment) (within : region < setting.fabric.regions) (stands : StandsFor setting before) (step : Answers setting region before after) where
  answer_own : IsPortOf setting.fabric region step.port
  answer_own = ((stands.answers region within).answers step.port step.number step.due).own

  answer_storing : IsStoring (before.book region)
  answer_storing = ⊎_elim (λ none. absurd (nothing_at (ports_of before region).answers_due step.port step.number none.answers step.due)) (λ is. is) (stands.stores region within)

  answer_state : (other : ℕ) → (other ≡ step.port → ⊥) → state_at setting after other ≡ state_at setting before other
  answer_state other ne = word_else before.words after.words _ _ (state_place setting.fabric other) step.words (apart_state setting.fabric other step.port ne)

  answer_data : (other : ℕ) → data_at setting after other ≡ data_at setting before other
  answer_data other = word_else before.words after.words _ _ (data_place setting.fabric other) step.words (λ same. state_is_no_data setting.fabric step.port other (sym same))

  answer_here : (spec : PortSpec) → slice_get setting.fabric.ports step.port ≡ Some spec → PortStands (port_now setting after step.port spec)
  answer_here spec found =
      let at : spec.region ≡ region = one_region setting.fabric spec.region region step.port (record { spec = spec; found = found; at = refl }) answer_own in
      let now : PortNow = port_now setting before step.port spec in
      let none : now.got_due ≡ None = ap (λ r. at_place (ports_of before r).gots_due step.port) at ∙ step.stored in
      same_port (port_now setting after step.port spec) (record now { state_word = 3 + step.number; answer_due = None }) refl
      (word_here before.words after.words _ _ step.words (omega (arith, stands.sized.words, slice_get_within setting.fabric.ports step.port spec found))) (answer_data step.port) (ap (λ f. known_at f spec.owner step.port) step.parties)
      (ap (λ f. calls_of f spec.owner) step.parties) (ap (λ f. taken_at step.port (calls_of f spec.owner)) step.parties) (ap (places_of step.port 0) step.history)
      (ap (λ r. at_place (ports_of after r).gots_due step.port) at ∙ (ap (λ (v : PortsView). at_place v.gots_due step.port) step.ports ∙ ap (λ r. at_place (ports_of before r).gots_due step.port) (sym at)))
      (ap (λ r. at_place (ports_of after r).answers_due step.port) at ∙ (ap (λ (v : PortsView). at_place v.answers_due step.port) step.ports ∙ without_here step.port (ports_of before region).answers_due))
      (one_answers now step.number (stands.ports step.port spec found) (ap (λ r. at_place (ports_of before r).answers_due step.port) at ∙ step.due) none)

pub answer_ports : KeepsPortParts Answers
answer_ports = record {
  ports = λ setting region before after within stands step.
      each_stands setting region before after within stands step.port (answer_own setting region before after within stands step) (answer_storing setting region before after within stands step) (after_answer (ports_of before region) step.port)
      step.view step.ports step.others step.parties step.history refl refl (answer_state setting region before after within stands step) (λ other ne. answer_data setting region before after within stands step other)
      (λ other ne. refl) (λ other ne. without_else step.port other (ports_of before region).answers_due ne) (answer_here setting region before after within stands step);
  offers = λ setting region before after within stands step.
      notes_after setting region before after within stands step.port (answer_own setting region before after within stands step) (answer_storing setting region before after within stands step) (after_answer (ports_of before region) step.port)
      step.view step.ports step.others step.parties step.history refl refl (answer_state setting region before after within stands step) (λ other ne. answer_data setting region before after within stands step other)
      (λ other ne. refl) (λ other ne. without_else step.port other (ports_of before region).answers_due ne);
  stores = λ setting region before after within stands step.
      stores_after setting region before after within stands step.port (answer_own setting region before after within stands step) (answer_storing setting region before after within stands step) (after_answer (ports_of before region) step.port)
      step.view step.ports step.others step.parties step.history refl refl (answer_state setting region before after within stands step) (λ other ne. answer_data setting region before after within stands step other)
      (λ other ne. refl) (λ other ne. without_else step.port other (ports_of before region).answers_due ne);
  answers = λ setting region before after within stands step.
      dues_after setting region before after within stands step.port (answer_own setting region before after within stands step) (answer_storing setting region before after within stands step) (after_answer (ports_of before region) step.port)
      step.view step.ports step.others step.parties step.history refl refl (answer_state setting region before after within stands step) (λ other ne. answer_data setting region before after within stands step other)
      (λ other ne. refl) (λ other ne. without_else step.port other (ports_of before region).answers_due ne) (λ p value due. due) (λ p number due. without_found step.port p (ports_of before region).answers_due number due)
      (λ once. once) (without_once step.port (ports_of before region).answers_due);
  calls = λ setting region before after within stands step.
      calls_stay setting region before after (record { cells = view_of before region; ports = after_answer (ports_of before region) step.port }) (whole_view (after.book region) _ _ step.view step.ports) step.others step.parties step.history stands.calls;
  parties = λ setting region before after within stands step.
      parties_stay setting region before after (record { cells = view_of before region; ports = after_answer (ports_of before region) step.port }) (whole_view (after.book region) _ _ step.view step.ports) step.others step.parties stands.parties;
}

pub answer_cells : KeepsCellParts Answers
answer_cells =
    above Answers (λ setting region before after within stands step.
    loads_only setting region before after (view_of before region).loads step.view step.others (length_else before.words after.words _ _ step.words) (λ place low. word_else before.words after.words _ _ place step.words (λ same. omega (arith, low, same))) step.history)
