-- The commit, at ports.
use Rattle.std.proofs.Common.{◌≡◌, ℕ, ◌+◌, ◌<◌, ◌⊎◌, ⊎_elim, inl, inr, [], List, ◌∷◌, ◌++◌, map, length, slice_get, slice_index, All, Option, Some, None, IfSome, refl, sym, ap, ◌∙◌, subst, arith}
use Rattle.std.proofs.lemmas.Bool.{cases_eq, eq-eqb}
use Rattle.std.proofs.lemmas.Bool.Decides.{eqb_tells}
use Rattle.std.proofs.lemmas.List.Elements.{All-nil, All-weaker}
use Rattle.std.proofs.lemmas.Option.{same_Some, slice_get_within, get_or_from_slice_get}
use Rattle.reo_value.specs.declared.value.Value.{Value}
use Rattle.reo_value.specs.declared.op.Way.{Way}
use Rattle.reo_value.specs.declared.op.Way.TheVariants.{Put, Get}
use Rattle.reo_value.specs.Code.{code_of}
use Rattle.reo_fabric.specs.declared.entry.Entry.{Entry}
use Rattle.reo_fabric.specs.declared.fabric.PortSpec.{PortSpec}
use Rattle.reo_fabric.specs.Entry.{at_place}
use Rattle.reo_fabric.specs.Fabric.{IsPort}
use Rattle.reo_fabric.specs.Decider.{Puts, Gets}
use Rattle.reo_fabric.proofs.PlaceLemmas.{at_first, at_later, at_place_holds}
use Rattle.reo_coupling.specs.declared.view.Call.{Call}
use Rattle.reo_coupling.specs.declared.view.PartyView.{PartyView}
use Rattle.reo_coupling.specs.declared.view.PortsView.{PortsView}
use Rattle.reo_coupling.specs.declared.view.RegionView.{RegionView}
use Rattle.reo_coupling.specs.declared.view.Stage.TheVariants.{Between, Cleared}
use Rattle.reo_coupling.specs.Moment.{Setting, Moment, state_place, data_place}
use Rattle.reo_coupling.specs.Views.{after_commit}
use Rattle.reo_coupling.specs.PortViews.{ports_after_commit}
use Rattle.reo_coupling.specs.Parts.{view_of}
use Rattle.reo_coupling.specs.Ports.{first_some, datum_at, with_datum, places_of, taken_at, PortStands}
use Rattle.reo_coupling.specs.PortParts.{ports_of, known_at, calls_of, state_at, data_at, port_now, PortsStand, OffersStand, OffersAreNoted, OwesNothing, IsStoring, StoresComeFirst, AreOnce, AnswerIsOfTheLast, AnswersAreOfTheLast, CallStands, CallsStand}
use Rattle.reo_coupling.specs.Steps.{Commits, noted, word_or_zero}
use Rattle.reo_coupling.specs.Whole.{StandsFor, KeepsPortParts}
use Rattle.reo_coupling.proofs.Places.{get_longer}
use Rattle.reo_coupling.proofs.Commit.{code_is_above, none_else}
use Rattle.reo_coupling.proofs.Frames.{word_else}
use Rattle.reo_coupling.proofs.Lists.{rising_once}
use Rattle.reo_coupling.proofs.OnePort.{none_some, same_port, one_commits}
use Rattle.reo_coupling.proofs.PortFrames.{whole_view, offers_else, each_book, parties_stay, dues_stay}

-- the places of a port, with an entry more
pub places_more : (port first : ℕ) (entries : List Entry) (entry : Entry) (number : ℕ) → number ≡ first + length entries → places_of port first (entries ++ entry ∷ []) ≡ places_of port first entries ++ with_datum number (datum_at entry port) []
places_more port first [] entry number is =
    let same : first ≡ number = omega arith in
    ap (λ n. with_datum n (datum_at entry port) []) same
places_more port first (e ∷ entries) entry number is =
    ap (with_datum first (datum_at e port)) (places_more port (first + 1) entries entry number (omega arith)) ∙ go (datum_at e port) (places_of port (first + 1) entries) (with_datum number (datum_at entry port) [])
  where
    go : (d : Option Value) (xs ys : List (ℕ × Value)) → with_datum first d (xs ++ ys) ≡ with_datum first d xs ++ ys
    go None xs ys = refl
    go (Some v) xs ys = refl

append_none : (xs : List (ℕ × Value)) → xs ++ [] ≡ xs
append_none [] = refl
append_none (x ∷ xs) = ap (λ l. x ∷ l) (append_none xs)

at_appended : (xs ys : List (ℕ × Value)) (port : ℕ) → at_place (xs ++ ys) port ≡ first_some (at_place xs port) (at_place ys port)
at_appended [] ys port = refl
at_appended (p ∷ xs) ys port =
    ⊎_elim
    (λ here. at_first p (xs ++ ys) port here.0 ∙ ap (λ o. first_some o (at_place ys port)) (sym (at_first p xs port here.0)))
    (λ later. at_later p (xs ++ ys) port later.0 ∙ (at_appended xs ys port ∙ ap (λ o. first_some o (at_place ys port)) (sym (at_later p xs port later.0))))
    (eqb_tells port p.0)

unfoldable pub numbered_at : ℕ → Option Value → Option ℕ
numbered_at number None = None
numbered_at number (Some value) = Some number

at_numbered : (number : ℕ) (places : List (ℕ × Value)) (port : ℕ) → at_place (map (λ (p : ℕ × Value). (p.0, number)) places) port ≡ numbered_at number (at_place places port)
unfolding numbered_at
at_numbered number [] port = refl
at_numbered number (p ∷ places) port =
    ⊎_elim
    (λ here. at_first (p.0, number) (map (λ (q : ℕ × Value). (q.0, number)) places) port here.0 ∙ ap (numbered_at number) (sym (at_first p places port here.0)))
    (λ later. at_later (p.0, number) (map (λ (q : ℕ × Value). (q.0, number)) places) port later.0 ∙ (at_numbered number places port ∙ ap (numbered_at number) (sym (at_later p places port later.0))))
    (eqb_tells port p.0)

-- Each port of two lists stands in one of them, once: so it is answered once.
numbered_once : (number : ℕ) (places : List (ℕ × Value)) → AreOnce places → AreOnce (map (λ (p : ℕ × Value). (p.0, number)) places)
unfolding numbered_at
numbered_once number [] once = tt
numbered_once number (p ∷ places) once = (at_numbered number places p.0 ∙ ap (numbered_at number) once.0, numbered_once number places once.1)

appended_once : (xs ys : List (ℕ × Value)) → AreOnce xs → AreOnce ys → ((port : ℕ) (value : Value) → at_place xs port ≡ Some value → at_place ys port ≡ None) → AreOnce (xs ++ ys)
appended_once [] ys of_xs of_ys apart = of_ys
appended_once (p ∷ xs) ys of_xs of_ys apart = (
  at_appended xs ys p.0 ∙ (ap (λ o. first_some o (at_place ys p.0)) of_xs.0 ∙ apart p.0 p.1 (at_first p xs p.0 (eq-eqb p.0 p.0 refl))),
  appended_once xs ys of_xs.1 of_ys (λ port value found.
      ⊎_elim
      (λ here. none_some (at_place xs port) value (ap (at_place xs) here.1 ∙ of_xs.0) found)
      (λ later. apart port value (at_later p xs port later.0 ∙ found))
      (eqb_tells port p.0)),
)

-- an answer is due at each port of the entry, with its number
pub answer_at : (number : ℕ) (entry : Entry) (port : ℕ) → at_place (ports_after_commit number entry).answers_due port ≡ numbered_at number (datum_at entry port)
answer_at number entry port = at_numbered number (entry.puts ++ entry.gets) port ∙ ap (numbered_at number) (at_appended entry.puts entry.gets port)

-- what a reading has of a port is what was noted there
noted_words : (laid states : List (ℕ × ℕ)) (port s d : ℕ) → at_place {A = ℕ × ℕ} (map (λ (p : ℕ × ℕ × ℕ). (p.0, (p.1, p.2))) (map (λ (p : ℕ × ℕ). (p.0, p.1, word_or_zero (at_place laid p.0))) states)) port ≡ Some (s, d)
    → (at_place states port ≡ Some s) × (word_or_zero (at_place laid port) ≡ d)
noted_words laid [] port s d found = none_some (at_place [] port) (s, d) refl found
noted_words laid (p ∷ states) port s d found =
    let rest : List (ℕ × (ℕ × ℕ)) = map (λ (p : ℕ × ℕ × ℕ). (p.0, (p.1, p.2))) (map (λ (p : ℕ × ℕ). (p.0, p.1, word_or_zero (at_place laid p.0))) states) in
    ⊎_elim
    (λ here.
    let both : (p.1, word_or_zero (at_place laid p.0)) ≡ (s, d) = same_Some _ _ (sym (at_first (p.0, (p.1, word_or_zero (at_place laid p.0))) rest port here.0) ∙ found) in
    (at_first p states port here.0 ∙ ap (λ (x : ℕ × ℕ). Some x.0) both, ap (λ n. word_or_zero (at_place laid n)) here.1 ∙ ap (λ (x : ℕ × ℕ). x.1) both))
    (λ later.
    let more = noted_words laid states port s d (sym (at_later (p.0, (p.1, word_or_zero (at_place laid p.0))) rest port later.0) ∙ found) in
    (at_later p states port later.0 ∙ more.0, more.1))
    (eqb_tells port p.0)

word_is_some : (o : Option ℕ) (word : ℕ) → 0 < word → word_or_zero o ≡ word → o ≡ Some word
word_is_some None word some is = absurd (omega (arith, some, is))
word_is_some (Some w) word some is = ap Some is

put_is_no_get : Put ≡ Get → ⊥
put_is_no_get e = cc

module _ (setting : Setting) (region : ℕ) (before after : Moment) (inside : region < setting.fabric.regions) (stands : StandsFor setting before) (step : Commits setting region before after) where
  now : RegionView
  now = record { cells = after_commit (view_of before region) (slice_index before.words 0) step.entry; ports = ports_after_commit (slice_index before.words 0) step.entry }

  is_now : after.book region ≡ now
  unfolding now
  is_now = whole_view (after.book region) _ _ step.view step.ports

  mine : (view_of before region).region ≡ region
  mine = stands.named.regions region inside

  owes_none : OwesNothing (before.book region)
  owes_none =
      ⊎_elim
      (λ none. none)
      (λ storing.
      let same : Between ≡ Cleared = sym storing.stage ∙ step.may.cleared in
      cc)
      (stands.stores region inside)

  word_stays : (place : ℕ) → 0 < place → slice_index after.words place ≡ slice_index before.words place
  word_stays place some = word_else before.words after.words 0 _ place step.words (λ is. omega (arith, some, is))

  put_at : (port : ℕ) (value : Value) → at_place step.entry.puts port ≡ Some value → Puts setting.fabric (noted (before.book region)) (port, value)
  put_at port value at = at_place_holds (Puts setting.fabric (noted (before.book region))) step.entry.puts port value step.may.fits.puts at

  get_at : (port : ℕ) (value : Value) → at_place step.entry.gets port ≡ Some value → Gets setting.fabric (noted (before.book region)) (port, value)
  get_at port value at = at_place_holds (Gets setting.fabric (noted (before.book region))) step.entry.gets port value step.may.fits.gets at

  put_own : (port : ℕ) (value : Value) → at_place step.entry.puts port ≡ Some value → IsPort setting.fabric Put region port
  put_own port value at = subst (λ r. IsPort setting.fabric Put r port) mine (put_at port value at).own

  get_own : (port : ℕ) (value : Value) → at_place step.entry.gets port ≡ Some value → IsPort setting.fabric Get region port
  get_own port value at = subst (λ r. IsPort setting.fabric Get r port) mine (get_at port value at).own

  way_of : (way : Way) (port : ℕ) (spec : PortSpec) → slice_get setting.fabric.ports port ≡ Some spec → IsPort setting.fabric way region port → spec.way ≡ way
  way_of way port spec found own = ap (λ (p : PortSpec). p.way) (same_Some spec own.spec (sym found ∙ own.found)) ∙ own.goes

  at_region : (way : Way) (port : ℕ) (spec : PortSpec) → slice_get setting.fabric.ports port ≡ Some spec → IsPort setting.fabric way region port → spec.region ≡ region
  at_region way port spec found own = ap (λ (p : PortSpec). p.region) (same_Some spec own.spec (sym found ∙ own.found)) ∙ own.at

  -- the port of a put is offered, and what is put is laid there
  put_is_laid : (port : ℕ) (value : Value) → at_place step.entry.puts port ≡ Some value → (state_at setting before port ≡ 1) × (data_at setting before port ≡ code_of value)
  put_is_laid port value at =
      let words = noted_words (ports_of before region).laid (ports_of before region).states port 1 (code_of value) (put_at port value at).reads in
      let laid = word_is_some (at_place (ports_of before region).laid port) (code_of value) (code_is_above value) words.1 in
      (((stands.offers region inside).states port words.0).state, ((stands.offers region inside).laid port (code_of value) laid).laid)

  get_is_offered : (port : ℕ) (value : Value) → at_place step.entry.gets port ≡ Some value → state_at setting before port ≡ 1
  get_is_offered port value at =
      let gets = get_at port value at in
      ((stands.offers region inside).states port (noted_words (ports_of before region).laid (ports_of before region).states port 1 gets.word gets.reads).0).state

  -- all calls collected so far have smaller numbers
  calls_below : (port : ℕ) (spec : PortSpec) (owner : Option ℕ) → spec.owner ≡ owner → slice_get setting.fabric.ports port ≡ Some spec → All (λ (c : Call). c.number < slice_index before.words 0) (calls_of before.folk owner)
  calls_below port spec None is found = All-nil (λ (c : Call). c.number < slice_index before.words 0)
  calls_below port spec (Some party) is found =
      let within = slice_get_within setting.fabric.ports port spec found in
      let at_spec = subst (λ (s : PortSpec). IfSome s.owner (λ p. p < setting.fabric.parties)) (get_or_from_slice_get setting.fabric.ports port spec spec found) (stands.sized.fabric.owners port spec within) in
      let there : party < setting.fabric.parties = subst (λ (o : Option ℕ). IfSome o (λ p. p < setting.fabric.parties)) is at_spec in
      All-weaker (CallStands setting.fabric before.history party) (λ (c : Call). c.number < slice_index before.words 0)
      (λ c call. let low = slice_get_within before.history c.number call.entry call.found in omega (arith, stands.counted.count, low)) (before.folk party).calls (stands.calls party there)

  places_here : (port : ℕ) → places_of port 0 after.history ≡ places_of port 0 before.history ++ with_datum (slice_index before.words 0) (datum_at step.entry port) []
  places_here port = ap (places_of port 0) step.history ∙ places_more port 0 before.history step.entry (slice_index before.words 0) (omega (arith, stands.counted.count))

  -- the datum of the entry at a port that is not of the region, or at one that the entry has not, is none
  module _ (port : ℕ) (spec : PortSpec) (found : slice_get setting.fabric.ports port ≡ Some spec) where
    stands_as : (got : Option Value) (due : Option ℕ) (places : List (ℕ × Value)) → places_of port 0 after.history ≡ places → at_place (ports_of after spec.region).gots_due port ≡ got → at_place (ports_of after spec.region).answers_due port ≡ due
        → PortStands (record (port_now setting before port spec) { places = places; got_due = got; answer_due = due }) → PortStands (port_now setting after port spec)
    stands_as got due places of_places of_got of_due standing =
        same_port (port_now setting after port spec) (record (port_now setting before port spec) { places = places; got_due = got; answer_due = due }) refl (word_stays (state_place setting.fabric port) (omega arith))
        (word_stays (data_place setting.fabric port) (omega arith)) (ap (λ f. known_at f spec.owner port) step.parties) (ap (λ f. calls_of f spec.owner) step.parties) (ap (λ f. taken_at port (calls_of f spec.owner)) step.parties) of_places of_got
        of_due standing

    elsewhere : (spec.region ≡ region → ⊥) → PortStands (port_now setting after port spec)
    elsewhere ne =
        let no_put : at_place step.entry.puts port ≡ None = none_else (at_place step.entry.puts port) (λ v at. ne (at_region Put port spec found (put_own port v at))) in
        let no_get : at_place step.entry.gets port ≡ None = none_else (at_place step.entry.gets port) (λ v at. ne (at_region Get port spec found (get_own port v at))) in
        let none : datum_at step.entry port ≡ None = ap (λ o. first_some o (at_place step.entry.gets port)) no_put ∙ no_get in
        stands_as (at_place (ports_of before spec.region).gots_due port) (at_place (ports_of before spec.region).answers_due port) (places_of port 0 before.history)
        (places_here port ∙ (ap (λ d. places_of port 0 before.history ++ with_datum (slice_index before.words 0) d []) none ∙ append_none (places_of port 0 before.history)))
        (ap (λ (v : RegionView). at_place v.ports.gots_due port) (step.others spec.region ne)) (ap (λ (v : RegionView). at_place v.ports.answers_due port) (step.others spec.region ne)) (stands.ports port spec found)

    module _ (at : spec.region ≡ region) where
      got_now : at_place (ports_of after spec.region).gots_due port ≡ at_place step.entry.gets port
      got_now = ap (λ r. at_place (ports_of after r).gots_due port) at ∙ ap (λ (v : PortsView). at_place v.gots_due port) step.ports

      due_now : at_place (ports_of after spec.region).answers_due port ≡ numbered_at (slice_index before.words 0) (datum_at step.entry port)
      due_now =
          ap (λ r. at_place (ports_of after r).answers_due port) at
          ∙ (ap (λ (v : PortsView). at_place v.answers_due port) step.ports ∙ answer_at (slice_index before.words 0) step.entry port)

      no_got : at_place (ports_of before spec.region).gots_due port ≡ None
      no_got = ap (λ r. at_place (ports_of before r).gots_due port) at ∙ ap (λ l. at_place l port) owes_none.gots

      no_due : at_place (ports_of before spec.region).answers_due port ≡ None
      no_due = ap (λ r. at_place (ports_of before r).answers_due port) at ∙ ap (λ l. at_place l port) owes_none.answers

      datum_is : (put get : Option Value) → at_place step.entry.puts port ≡ put → at_place step.entry.gets port ≡ get → datum_at step.entry port ≡ first_some put get
      datum_is put get of_put of_get = ap (λ o. first_some o (at_place step.entry.gets port)) of_put ∙ ap (first_some put) of_get

      here : (put get : Option Value) → at_place step.entry.puts port ≡ put → at_place step.entry.gets port ≡ get → PortStands (port_now setting after port spec)
      unfolding numbered_at
      here None None of_put of_get =
          let none = datum_is None None of_put of_get in
          stands_as (at_place (ports_of before spec.region).gots_due port) (at_place (ports_of before spec.region).answers_due port) (places_of port 0 before.history)
          (places_here port ∙ (ap (λ d. places_of port 0 before.history ++ with_datum (slice_index before.words 0) d []) none ∙ append_none (places_of port 0 before.history)))
          (got_now ∙ (of_get ∙ sym no_got)) (due_now ∙ (ap (numbered_at (slice_index before.words 0)) none ∙ sym no_due)) (stands.ports port spec found)
      here (Some v) None of_put of_get =
          let some = datum_is (Some v) None of_put of_get in
          let laid = put_is_laid port v of_put in
          stands_as None (Some (slice_index before.words 0)) (places_of port 0 before.history ++ (slice_index before.words 0, v) ∷ [])
          (places_here port ∙ ap (λ d. places_of port 0 before.history ++ with_datum (slice_index before.words 0) d []) some) (got_now ∙ of_get) (due_now ∙ ap (numbered_at (slice_index before.words 0)) some)
          (one_commits (port_now setting before port spec) (slice_index before.words 0) v None (stands.ports port spec found) laid.0 no_due (put_at port v of_put).value (calls_below port spec spec.owner refl found) (λ put. laid.1)
          (inl (way_of Put port spec found (put_own port v of_put), refl)))
      here None (Some v) of_put of_get =
          let some = datum_is None (Some v) of_put of_get in
          let way = way_of Get port spec found (get_own port v of_get) in
          stands_as (Some v) (Some (slice_index before.words 0)) (places_of port 0 before.history ++ (slice_index before.words 0, v) ∷ [])
          (places_here port ∙ ap (λ d. places_of port 0 before.history ++ with_datum (slice_index before.words 0) d []) some) (got_now ∙ of_get) (due_now ∙ ap (numbered_at (slice_index before.words 0)) some)
          (one_commits (port_now setting before port spec) (slice_index before.words 0) v (Some v) (stands.ports port spec found) (get_is_offered port v of_get) no_due (get_at port v of_get).value (calls_below port spec spec.owner refl found)
          (λ put. absurd (put_is_no_get (sym put ∙ way))) (inr (way, refl)))
      here (Some v) (Some u) of_put of_get = absurd (put_is_no_get (sym (way_of Put port spec found (put_own port v of_put)) ∙ way_of Get port spec found (get_own port u of_get)))

  pub commit_stand : PortsStand setting after
  commit_stand port spec found = ⊎_elim (λ at. here port spec found at (at_place step.entry.puts port) (at_place step.entry.gets port) refl refl) (elsewhere port spec found) (cases_eq spec.region region)

  pub commit_offers : OffersAreNoted setting after
  unfolding now
  commit_offers =
      each_book setting region before after now is_now step.others step.parties (λ r view. OffersStand setting after r view.ports) setting.fabric.regions
      (λ within. record { states = λ port at. none_some (at_place [] port) 1 refl at; laid = λ port word at. none_some (at_place [] port) word refl at })
      (λ r within ne.
      offers_else setting before after r (before.book r).ports (λ port own. word_stays (state_place setting.fabric port) (omega arith)) (λ port own. word_stays (data_place setting.fabric port) (omega arith)) (stands.offers r within))

  pub commit_stores : StoresComeFirst setting after
  unfolding now
  commit_stores =
      each_book setting region before after now is_now step.others step.parties (λ r view. OwesNothing view ⊎ IsStoring view) setting.fabric.regions (λ within. inr (record { stage = refl; notes = refl; states = refl; laid = refl }))
      (λ r within ne. stands.stores r within)

  answer_of : (port number : ℕ) (put get : Option Value) → at_place step.entry.puts port ≡ put → at_place step.entry.gets port ≡ get → numbered_at (slice_index before.words 0) (first_some put get) ≡ Some number → AnswerIsOfTheLast setting.fabric region now port number
  unfolding now numbered_at
  answer_of port number None None of_put of_get due = none_some (numbered_at (slice_index before.words 0) None) number refl due
  answer_of port number (Some v) get of_put of_get due =
      let own = put_own port v of_put in
      record {
        own = record { spec = own.spec; found = own.found; at = own.at };
        last = record { number = slice_index before.words 0; entry = step.entry };
        is_last = record { earlier = (view_of before region).entries; entries = refl };
        numbered = sym (same_Some _ _ due);
        value = v;
        has = ap (λ o. first_some o (at_place step.entry.gets port)) of_put;
      }
  answer_of port number None (Some v) of_put of_get due =
      let own = get_own port v of_get in
      record {
        own = record { spec = own.spec; found = own.found; at = own.at };
        last = record { number = slice_index before.words 0; entry = step.entry };
        is_last = record { earlier = (view_of before region).entries; entries = refl };
        numbered = sym (same_Some _ _ due);
        value = v;
        has = ap (λ o. first_some o (at_place step.entry.gets port)) of_put ∙ of_get;
      }

  no_get : (port : ℕ) (value : Value) (get : Option Value) → at_place step.entry.puts port ≡ Some value → at_place step.entry.gets port ≡ get → get ≡ None
  no_get port value None of_put of_get = refl
  no_get port value (Some v) of_put of_get =
      let put = put_own port value of_put in
      let get = get_own port v of_get in
      let same : put.spec ≡ get.spec = same_Some put.spec get.spec (sym put.found ∙ get.found) in
      absurd (put_is_no_get (sym put.goes ∙ (ap (λ (s : PortSpec). s.way) same ∙ get.goes)))

  pub commit_answers : AnswersAreOfTheLast setting after
  unfolding now
  commit_answers =
      dues_stay setting region before after now is_now step.others step.parties
      (λ within. record {
        gots = λ port value due.
            let own = get_own port value due in
            record {
              own = record { spec = own.spec; found = own.found; at = own.at };
              way = own.goes;
              last = record { number = slice_index before.words 0; entry = step.entry };
              is_last = record { earlier = (view_of before region).entries; entries = refl };
              gets = due;
            };
        answers = λ port number due. answer_of port number (at_place step.entry.puts port) (at_place step.entry.gets port) refl refl (sym (answer_at (slice_index before.words 0) step.entry port) ∙ due);
        gots_once = rising_once step.entry.gets 0 step.may.fits.gets_rise;
        answers_once =
            numbered_once (slice_index before.words 0) (step.entry.puts ++ step.entry.gets)
            (appended_once step.entry.puts step.entry.gets (rising_once step.entry.puts 0 step.may.fits.puts_rise) (rising_once step.entry.gets 0 step.may.fits.gets_rise)
            (λ port value found. no_get port value (at_place step.entry.gets port) found refl));
      })
      stands.answers

  pub commit_calls : CallsStand setting after
  commit_calls party within =
      subst (λ (f : ℕ → PartyView). All (CallStands setting.fabric after.history party) (f party).calls) (sym step.parties)
      (All-weaker (CallStands setting.fabric before.history party) (CallStands setting.fabric after.history party)
      (λ c call. record {
        own = call.own;
        entry = call.entry;
        found = ap (λ h. slice_get h c.number) step.history ∙ get_longer before.history (step.entry ∷ []) c.number call.entry call.found;
        datum = call.datum;
      })
      (before.folk party).calls (stands.calls party within))

pub commit_ports : KeepsPortParts Commits
commit_ports = record {
  ports = commit_stand;
  offers = commit_offers;
  stores = commit_stores;
  answers = commit_answers;
  calls = commit_calls;
  parties = λ setting region before after within stands step.
      parties_stay setting region before after
      (record { cells = after_commit (view_of before region) (slice_index before.words 0) step.entry; ports = ports_after_commit (slice_index before.words 0) step.entry }) (whole_view (after.book region) _ _ step.view step.ports) step.others step.parties
      stands.parties;
}
