-- The table allows each kind of step.
use Rattle.std.proofs.Common.{◌≡◌, ℕ, ◌+◌, ◌%◌, ◌^◌, ◌<◌, ⊎_elim, List, [], ◌∷◌, ◌++◌, length, slice_get, slice_index, slice_set, Some, None, refl, sym, ap, ◌∙◌, subst, arith, mod-eq_of_lt}
use Rattle.std.proofs.lemmas.List.{set-get_or}
use Rattle.std.proofs.lemmas.Option.{slice_get_within}
use Rattle.reo_fabric.specs.declared.fabric.Fabric.{Fabric}
use Rattle.atomic_table.specs.Table.{State, Me, keeps, Allows, Splits}
use Rattle.reo_fabric.specs.declared.entry.Entry.{Entry}
use Rattle.reo_fabric.specs.Entry.{at_place}
use Rattle.reo_fabric.specs.Fabric.{IsPort}
use Rattle.reo_value.specs.declared.value.Value.{Value}
use Rattle.reo_value.specs.declared.op.Way.TheVariants.{Put}
use Rattle.reo_value.specs.Code.{code_of}
use Rattle.reo_coupling.specs.declared.view.CellsView.{CellsView}
use Rattle.reo_coupling.specs.declared.view.RegionView.{RegionView}
use Rattle.reo_coupling.specs.declared.view.Mark.TheVariants.{Fresh}
use Rattle.reo_coupling.specs.declared.view.View.{View}
use Rattle.reo_coupling.specs.declared.view.View.TheVariants.{Root, Region}
use Rattle.reo_coupling.specs.Moment.{Setting, Moment, round_place, cell_place, state_place, data_place}
use Rattle.reo_coupling.specs.Views.{round_after, after_load, after_begin, after_clock, after_see_cell, after_commit, after_set_cell}
use Rattle.reo_coupling.specs.PortViews.{ports_after_begin, ports_after_commit, after_see_port, after_see_offer, after_set_got, after_answer}
use Rattle.reo_coupling.specs.RegionViews.{region_after_begin, region_after_clock, region_after_see_cell, region_after_see_port, region_after_see_offer, region_after_commit, region_after_set_cell, region_after_set_got, region_after_answer}
use Rattle.reo_coupling.specs.Parts.{NothingDue, entries_of}
use Rattle.reo_coupling.specs.PortParts.{OwesNothing, IsPortOf}
use Rattle.reo_coupling.specs.Steps.{Begins, ReadsClock, SeesCell, SeesPort, SeesOffer, Commits, SetsCell, SetsGot, Answers, IsOwnCell, MayCommit, IsDue}
use Rattle.reo_coupling.specs.Seats.{moment_of, with_view, IsCoupled, KeepsTheRule, mark_at, after_split, fresh_region}
use Rattle.reo_coupling.proofs.Quiet.{read_stands}
use Rattle.reo_coupling.proofs.EachPart.{begin_keeps, clock_keeps, see_cell_keeps, see_port_keeps, see_offer_keeps, commit_keeps, set_cell_keeps, set_got_keeps, answer_keeps}
use Rattle.reo_coupling.proofs.Store.{same_field, taken_off, filled_off}
use Rattle.reo_coupling.proofs.Fresh.{owes_no_first}
use Rattle.reo_coupling.proofs.Seating.{keeps_the_rule, splitting_keeps_the_rule, view_here, view_else}
use Rattle.reo_table.specs.History.{IsHistory, HasHistory, IsNumbered, SaysWhatIsHeld}
use Rattle.reo_table.specs.Plays.{region_of, root_of, Begun, Clocked, Seen, PortSeen, OfferSeen, Committed, Stored, GotStored, PortAnswered}
use Rattle.reo_table.proofs.Views.{found}

abbrev pub Rule : {S : Type 0} → Setting → State S View → Type 0
Rule setting state = IsCoupled setting state.words state.views

-- the history of the rule
pub is_history : (setting : Setting) (words : List ℕ) (views : List View) (rule : IsCoupled setting words views) → IsHistory setting rule.history
is_history setting words views rule = record { few = omega (arith, rule.stands.limit); regions = rule.stands.counted.regions; lawful = rule.stands.lawful.history }

module _ {S : Type 0} (setting : Setting) (slots id : ℕ) (me : Me S View) (is : me.0 ≡ Region (region_of me.0)) (no_slot : me.1 ≡ []) where
  -- A step that keeps the rule on plain data is allowed, where the word becomes f of what was found, and the view `new` of it.
  lifted : (Step : Setting → ℕ → Moment → Moment → Type 0) (i : ℕ) (f : ℕ → ℕ) (new : ℕ → RegionView) (later : List Entry → List Entry) (then : ℕ → Me S View → Type 0) → KeepsTheRule Step
      → ((n : ℕ) → (new n).cells.region ≡ (region_of me.0).cells.region)
      → ((words : List ℕ) (views : List View) (rule : IsCoupled setting words views) → (region_of me.0).cells.region < setting.fabric.regions → rule.book (region_of me.0).cells.region ≡ region_of me.0
      → Step setting (region_of me.0).cells.region (moment_of words rule.history rule.book rule.folk)
      (moment_of (slice_set words i (f (slice_index words i))) (later rule.history) (with_view rule.book (new (slice_index words i))) rule.folk)
      × then (slice_index words i) (Region (new (slice_index words i)), []))
      → Allows (Rule setting) slots id me i f then
  lifted Step i f new later then law same steps s rule homes there small =
      let here : slice_get s.views id ≡ Some (Region (region_of me.0)) = found s.views id me.0 there ∙ ap Some is in
      let seat = rule.tells.regions.seats id (region_of me.0) here in
      let step = steps s.words s.views rule seat.within seat.known in
      let n : ℕ = slice_index s.words i in (
        Region (new n),
        keeps,
        tt,
        (law setting s.words (slice_set s.words i (f n)) s.views id (region_of me.0) (new n) (later rule.history) rule here (same n) step.0).rule,
        subst (λ l. then n (Region (new n), l)) (sym no_slot) step.1,
      )

  -- what each step on plain data says of the view and of the others
  part_is : {X : Type 0} (book : ℕ → RegionView) (new : RegionView) (F G : RegionView → X) → new.cells.region ≡ (region_of me.0).cells.region → book (region_of me.0).cells.region ≡ region_of me.0 → F new ≡ G (region_of me.0)
      → F (with_view book new (region_of me.0).cells.region) ≡ G (book (region_of me.0).cells.region)
  part_is book new F G same known step = ap F (view_here book new (region_of me.0).cells.region (sym same)) ∙ (step ∙ ap G (sym known))

  others_are : (book : ℕ → RegionView) (new : RegionView) → new.cells.region ≡ (region_of me.0).cells.region → (other : ℕ) → (other ≡ (region_of me.0).cells.region → ⊥) → with_view book new other ≡ book other
  others_are book new same other ne = view_else book new other (λ mine. ne (mine ∙ same))

  as_known : (book : ℕ → RegionView) (P : RegionView → Type 0) → book (region_of me.0).cells.region ≡ region_of me.0 → P (region_of me.0) → P (book (region_of me.0).cells.region)
  as_known book P known holds = subst P (sym known) holds

  pub allows_begin : (more : ℕ) → ((region_of me.0).cells.round + more) % 2 ^ 64 ≡ round_after (region_of me.0).cells.round → OwesNothing (region_of me.0)
      → Allows (Rule setting) slots id me (1 + (region_of me.0).cells.region) (λ n. (n + more) % 2 ^ 64) (Begun me)
  allows_begin more rises quiet =
      lifted Begins (round_place (region_of me.0).cells.region) (λ n. (n + more) % 2 ^ 64) (λ n. region_after_begin (region_of me.0)) (λ h. h) (Begun me) (keeps_the_rule Begins begin_keeps) (λ n. refl)
      (λ words views rule within known.
      let told : slice_index words (round_place (region_of me.0).cells.region) ≡ (region_of me.0).cells.round = rule.stands.rounds (region_of me.0).cells.region within ∙ ap (λ (v : RegionView). v.cells.round) known in (
        record {
          quiet = as_known rule.book OwesNothing known quiet;
          words = ap (slice_set words (round_place (region_of me.0).cells.region)) (ap (λ n. (n + more) % 2 ^ 64) told ∙ (rises ∙ ap round_after (sym told)));
          history = refl;
          view = part_is rule.book (region_after_begin (region_of me.0)) (λ v. v.cells) (λ v. after_begin v.cells) refl known refl;
          ports = part_is rule.book (region_after_begin (region_of me.0)) (λ v. v.ports) (λ v. ports_after_begin v.ports) refl known refl;
          parties = refl;
          others = others_are rule.book (region_after_begin (region_of me.0)) refl;
        },
        (told, (refl, refl)),
      ))

  -- what the rule says of the history
  mine : (words : List ℕ) (views : List View) (rule : IsCoupled setting words views) → (region_of me.0).cells.region < setting.fabric.regions → rule.book (region_of me.0).cells.region ≡ region_of me.0
      → (region_of me.0).cells.entries ≡ entries_of (region_of me.0).cells.region 0 rule.history
  mine words views rule within known = ap (λ (v : RegionView). v.cells.entries) (sym known) ∙ rule.stands.counted.lists (region_of me.0).cells.region within

  has_history : (words : List ℕ) (views : List View) (rule : IsCoupled setting words views) → (region_of me.0).cells.region < setting.fabric.regions → rule.book (region_of me.0).cells.region ≡ region_of me.0
      → HasHistory setting (region_of me.0) (slice_index words 0)
  has_history words views rule within known = record {
    own = record {
      region = within;
      limit = ap (λ (v : RegionView). v.cells.limit) (sym known) ∙ rule.stands.named.limits (region_of me.0).cells.region within;
      fresh = λ none.
          subst OwesNothing known
          (owes_no_first setting (moment_of words rule.history rule.book rule.folk) (region_of me.0).cells.region rule.stands within (ap (λ (v : RegionView). v.cells.entries) known ∙ none));
    };
    history = rule.history;
    real = is_history setting words views rule;
    counted = sym rule.stands.counted.count;
    mine = mine words views rule within known;
  }

  says_what_is_held : (cell : ℕ) → OwesNothing (region_of me.0) → (words : List ℕ) (views : List View) (rule : IsCoupled setting words views) → (region_of me.0).cells.region < setting.fabric.regions → rule.book (region_of me.0).cells.region ≡ region_of me.0
      → SaysWhatIsHeld setting (region_of me.0).cells cell (slice_index words (cell_place setting.fabric cell))
  says_what_is_held cell quiet words views rule within known = record {
    history = rule.history;
    real = is_history setting words views rule;
    mine = mine words views rule within known;
    held = λ lasts.
        (read_stands setting (moment_of words rule.history rule.book rule.folk) (region_of me.0).cells.region cell (slice_index words (cell_place setting.fabric cell)) rule.stands.cells
        (as_known rule.book (λ (v : RegionView). NothingDue v.cells) known quiet.cells) refl lasts).held_is;
  }

  is_numbered : (entry : Entry) (words : List ℕ) (views : List View) (rule : IsCoupled setting words views) (later : List ℕ) → (region_of me.0).cells.region < setting.fabric.regions
      → Commits setting (region_of me.0).cells.region (moment_of words rule.history rule.book rule.folk)
      (moment_of later (rule.history ++ entry ∷ []) (with_view rule.book (region_after_commit (region_of me.0) (slice_index words 0) entry)) rule.folk)
      → IsNumbered setting (after_commit (region_of me.0).cells (slice_index words 0) entry) (slice_index words 0) entry
  is_numbered entry words views rule later within step =
      let before : Moment = moment_of words rule.history rule.book rule.folk in
      let book : ℕ → RegionView = with_view rule.book (region_after_commit (region_of me.0) (slice_index words 0) entry) in
      let after : Moment = moment_of later (rule.history ++ entry ∷ []) book rule.folk in
      record {
        earlier = rule.history;
        counted = rule.stands.counted.count;
        real = record {
          few = omega (arith, commit_keeps.of_cells.limit setting (region_of me.0).cells.region before after within rule.stands step);
          regions = (commit_keeps.of_cells.counted setting (region_of me.0).cells.region before after within rule.stands step).regions;
          lawful = (commit_keeps.of_cells.lawful setting (region_of me.0).cells.region before after within rule.stands step).history;
        };
        mine =
            ap (λ (v : RegionView). v.cells.entries) (sym (view_here rule.book (region_after_commit (region_of me.0) (slice_index words 0) entry) (region_of me.0).cells.region refl))
            ∙ (commit_keeps.of_cells.counted setting (region_of me.0).cells.region before after within rule.stands step).lists (region_of me.0).cells.region within;
      }

  pub allows_clock : OwesNothing (region_of me.0) → Allows (Rule setting) slots id me 0 (λ n. n) (Clocked setting me)
  allows_clock quiet =
      lifted ReadsClock 0 (λ n. n) (λ n. region_after_clock (region_of me.0) n) (λ h. h) (Clocked setting me) (keeps_the_rule ReadsClock clock_keeps) (λ n. refl)
      (λ words views rule within known. (
        record {
          quiet = as_known rule.book OwesNothing known quiet;
          words = set-get_or words 0 0;
          history = refl;
          view = part_is rule.book (region_after_clock (region_of me.0) (slice_index words 0)) (λ v. v.cells) (λ v. after_clock v.cells (slice_index words 0)) refl known refl;
          ports = part_is rule.book (region_after_clock (region_of me.0) (slice_index words 0)) (λ v. v.ports) (λ v. v.ports) refl known refl;
          parties = refl;
          others = others_are rule.book (region_after_clock (region_of me.0) (slice_index words 0)) refl;
        },
        (has_history words views rule within known, (refl, refl)),
      ))

  pub allows_see_cell : (cell : ℕ) → IsOwnCell setting.fabric (region_of me.0).cells.region cell → OwesNothing (region_of me.0)
      → Allows (Rule setting) slots id me (cell_place setting.fabric cell) (λ n. n) (Seen setting cell (cell_place setting.fabric cell) me)
  allows_see_cell cell own quiet =
      lifted SeesCell (cell_place setting.fabric cell) (λ n. n) (λ n. region_after_see_cell (region_of me.0) cell (cell_place setting.fabric cell) n) (λ h. h) (Seen setting cell (cell_place setting.fabric cell) me)
      (keeps_the_rule SeesCell see_cell_keeps) (λ n. refl)
      (λ words views rule within known.
      let new : RegionView = region_after_see_cell (region_of me.0) cell (cell_place setting.fabric cell) (slice_index words (cell_place setting.fabric cell)) in (
        record {
          cell = cell;
          own = own;
          quiet = as_known rule.book OwesNothing known quiet;
          words = set-get_or words (cell_place setting.fabric cell) 0;
          history = refl;
          view = part_is rule.book new (λ v. v.cells) (λ v. after_see_cell v.cells cell (cell_place setting.fabric cell) (slice_index words (cell_place setting.fabric cell))) refl known refl;
          ports = part_is rule.book new (λ v. v.ports) (λ v. v.ports) refl known refl;
          parties = refl;
          others = others_are rule.book new refl;
        },
        (says_what_is_held cell quiet words views rule within known, (refl, refl)),
      ))

  pub allows_see_port : (port : ℕ) → IsPortOf setting.fabric (region_of me.0).cells.region port → OwesNothing (region_of me.0)
      → Allows (Rule setting) slots id me (state_place setting.fabric port) (λ n. n) (PortSeen port (state_place setting.fabric port) me)
  allows_see_port port own quiet =
      lifted SeesPort (state_place setting.fabric port) (λ n. n) (λ n. region_after_see_port (region_of me.0) port (state_place setting.fabric port) n) (λ h. h) (PortSeen port (state_place setting.fabric port) me)
      (keeps_the_rule SeesPort see_port_keeps) (λ n. refl)
      (λ words views rule within known.
      let new : RegionView = region_after_see_port (region_of me.0) port (state_place setting.fabric port) (slice_index words (state_place setting.fabric port)) in (
        record {
          port = port;
          own = own;
          quiet = as_known rule.book OwesNothing known quiet;
          words = set-get_or words (state_place setting.fabric port) 0;
          history = refl;
          view = part_is rule.book new (λ v. v.cells) (λ v. after_load v.cells (state_place setting.fabric port) (slice_index words (state_place setting.fabric port))) refl known refl;
          ports = part_is rule.book new (λ v. v.ports) (λ v. after_see_port v.ports port (slice_index words (state_place setting.fabric port))) refl known refl;
          parties = refl;
          others = others_are rule.book new refl;
        },
        (refl, refl),
      ))

  pub allows_see_offer : (port : ℕ) → IsPort setting.fabric Put (region_of me.0).cells.region port → at_place (region_of me.0).ports.states port ≡ Some 1 → OwesNothing (region_of me.0)
      → Allows (Rule setting) slots id me (data_place setting.fabric port) (λ n. n) (OfferSeen port (data_place setting.fabric port) me)
  allows_see_offer port own noted quiet =
      lifted SeesOffer (data_place setting.fabric port) (λ n. n) (λ n. region_after_see_offer (region_of me.0) port (data_place setting.fabric port) n) (λ h. h) (OfferSeen port (data_place setting.fabric port) me)
      (keeps_the_rule SeesOffer see_offer_keeps) (λ n. refl)
      (λ words views rule within known.
      let new : RegionView = region_after_see_offer (region_of me.0) port (data_place setting.fabric port) (slice_index words (data_place setting.fabric port)) in (
        record {
          port = port;
          own = own;
          noted = as_known rule.book (λ (v : RegionView). at_place v.ports.states port ≡ Some 1) known noted;
          quiet = as_known rule.book OwesNothing known quiet;
          words = set-get_or words (data_place setting.fabric port) 0;
          history = refl;
          view = part_is rule.book new (λ v. v.cells) (λ v. after_load v.cells (data_place setting.fabric port) (slice_index words (data_place setting.fabric port))) refl known refl;
          ports = part_is rule.book new (λ v. v.ports) (λ v. after_see_offer v.ports port (slice_index words (data_place setting.fabric port))) refl known refl;
          parties = refl;
          others = others_are rule.book new refl;
        },
        (refl, refl),
      ))

  pub allows_commit : (entry : Entry) → MayCommit setting.fabric (region_of me.0) entry → Allows (Rule setting) slots id me 0 (λ n. (n + 1) % 2 ^ 64) (Committed setting entry me)
  allows_commit entry may =
      lifted Commits 0 (λ n. (n + 1) % 2 ^ 64) (λ n. region_after_commit (region_of me.0) n entry) (λ h. h ++ entry ∷ []) (Committed setting entry me) (keeps_the_rule Commits commit_keeps) (λ n. refl)
      (λ words views rule within known.
      let few : slice_index words 0 < 2 ^ 33 = omega (arith, rule.stands.counted.count, rule.stands.limit, rule.stands.sized.limit, rule.stands.sized.fabric.few_regions) in
      let new : RegionView = region_after_commit (region_of me.0) (slice_index words 0) entry in
      let step : Commits setting (region_of me.0).cells.region (moment_of words rule.history rule.book rule.folk) (moment_of (slice_set words 0 ((slice_index words 0 + 1) % 2 ^ 64)) (rule.history ++ entry ∷ []) (with_view rule.book (region_after_commit (region_of me.0) (slice_index words 0) entry)) rule.folk) =
      record {
        entry = entry;
        may = as_known rule.book (λ (v : RegionView). MayCommit setting.fabric v entry) known may;
        words = ap (slice_set words 0) (one_more (slice_index words 0) few);
        history = refl;
        view = part_is rule.book new (λ v. v.cells) (λ v. after_commit v.cells (slice_index words 0) entry) refl known refl;
        ports = part_is rule.book new (λ v. v.ports) (λ v. ports_after_commit (slice_index words 0) entry) refl known refl;
        parties = refl;
        others = others_are rule.book new refl;
      } in
      (step, (is_numbered entry words views rule _ within step, (refl, refl))))
    where
      one_more : (n : ℕ) → n < 2 ^ 33 → (n + 1) % 2 ^ 64 ≡ n + 1
      one_more n few = omega arith

  pub allows_set_cell : (cell word : ℕ) → IsDue (region_of me.0).cells cell word → Allows (Rule setting) slots id me (cell_place setting.fabric cell) (λ n. word) (λ n. Stored cell me word)
  unfolding taken_off filled_off
  allows_set_cell cell word due =
      lifted SetsCell (cell_place setting.fabric cell) (λ n. word) (λ n. region_after_set_cell (region_of me.0) cell word) (λ h. h) (λ n. Stored cell me word) (keeps_the_rule SetsCell set_cell_keeps)
      (λ n. region_stays (region_of me.0).cells cell word)
      (λ words views rule within known. (
        record {
          cell = cell;
          word = word;
          due = as_known rule.book (λ (v : RegionView). IsDue v.cells cell word) known due;
          words = refl;
          history = refl;
          view = part_is rule.book (region_after_set_cell (region_of me.0) cell word) (λ v. v.cells) (λ v. after_set_cell v.cells cell word) (region_stays (region_of me.0).cells cell word) known refl;
          ports = part_is rule.book (region_after_set_cell (region_of me.0) cell word) (λ v. v.ports) (λ v. v.ports) (region_stays (region_of me.0).cells cell word) known refl;
          parties = refl;
          others = others_are rule.book (region_after_set_cell (region_of me.0) cell word) (region_stays (region_of me.0).cells cell word);
        },
        (refl, refl),
      ))
    where
      region_stays : (view : CellsView) (c w : ℕ) → (after_set_cell view c w).region ≡ view.region
      region_stays view c w = same_field (λ v. v.region) view c w refl refl

  pub allows_set_got : (port : ℕ) (value : Value) → at_place (region_of me.0).ports.gots_due port ≡ Some value
      → Allows (Rule setting) slots id me (data_place setting.fabric port) (λ n. code_of value) (λ n. GotStored port me (code_of value))
  allows_set_got port value due =
      lifted SetsGot (data_place setting.fabric port) (λ n. code_of value) (λ n. region_after_set_got (region_of me.0) port) (λ h. h) (λ n. GotStored port me (code_of value)) (keeps_the_rule SetsGot set_got_keeps) (λ n. refl)
      (λ words views rule within known. (
        record {
          port = port;
          value = value;
          due = as_known rule.book (λ (v : RegionView). at_place v.ports.gots_due port ≡ Some value) known due;
          words = refl;
          history = refl;
          view = part_is rule.book (region_after_set_got (region_of me.0) port) (λ v. v.cells) (λ v. v.cells) refl known refl;
          ports = part_is rule.book (region_after_set_got (region_of me.0) port) (λ v. v.ports) (λ v. after_set_got v.ports port) refl known refl;
          parties = refl;
          others = others_are rule.book (region_after_set_got (region_of me.0) port) refl;
        },
        (refl, refl),
      ))

  pub allows_answer : (port number : ℕ) → at_place (region_of me.0).ports.answers_due port ≡ Some number → at_place (region_of me.0).ports.gots_due port ≡ None
      → Allows (Rule setting) slots id me (state_place setting.fabric port) (λ n. 3 + number) (λ n. PortAnswered port me (3 + number))
  allows_answer port number due stored =
      lifted Answers (state_place setting.fabric port) (λ n. 3 + number) (λ n. region_after_answer (region_of me.0) port) (λ h. h) (λ n. PortAnswered port me (3 + number)) (keeps_the_rule Answers answer_keeps) (λ n. refl)
      (λ words views rule within known. (
        record {
          port = port;
          number = number;
          due = as_known rule.book (λ (v : RegionView). at_place v.ports.answers_due port ≡ Some number) known due;
          stored = as_known rule.book (λ (v : RegionView). at_place v.ports.gots_due port ≡ None) known stored;
          words = refl;
          history = refl;
          view = part_is rule.book (region_after_answer (region_of me.0) port) (λ v. v.cells) (λ v. v.cells) refl known refl;
          ports = part_is rule.book (region_after_answer (region_of me.0) port) (λ v. v.ports) (λ v. after_answer v.ports port) refl known refl;
          parties = refl;
          others = others_are rule.book (region_after_answer (region_of me.0) port) refl;
        },
        (refl, refl),
      ))

pub allows_split : {S : Type 0} (setting : Setting) (id region : ℕ) (me : Me S View) → me.0 ≡ Root (root_of me.0) → region < setting.fabric.regions → mark_at (root_of me.0) region ≡ Fresh
    → Splits (Rule {S = S} setting) id me.0 (Root (after_split (root_of me.0) region)) (Region (fresh_region (root_of me.0).limit region))
allows_split setting id region me is within fresh s rule there =
    (splitting_keeps_the_rule setting s.words s.views id region (root_of me.0) rule (found s.views id me.0 there ∙ ap Some is) within fresh).rule

-- the round word does not wrap
pub round_rises : (round more : ℕ) → round + more < 2 ^ 64 → round + more ≡ round_after round → (round + more) % 2 ^ 64 ≡ round_after round
round_rises round more fits is = mod-eq_of_lt fits ∙ is

pub own_within : (fabric : Fabric) (region cell : ℕ) → IsOwnCell fabric region cell → cell < length fabric.cells
own_within fabric region cell own = ⊎_elim (λ takes. slice_get_within fabric.cells cell takes.spec takes.found) (λ fills. slice_get_within fabric.cells cell fills.spec fills.found) own
