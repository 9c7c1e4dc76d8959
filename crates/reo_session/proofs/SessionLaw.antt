-- How a session begins, and what it reports.
use Rattle.std.proofs.Common.{◌≡◌, ℕ, zero, suc, ◌+◌, ◌<◌, ◌≤◌, List, [], ◌∷◌, ◌++◌, length, map, slice_get, flat_map, filter, Bool, true, false, cond, Option, Some, None, refl, sym, ap, ◌∙◌, subst, arith}
use Rattle.std.specs.List.{range_with_len}
use Rattle.std.specs.Option.{option_map_or}
use Rattle.std.proofs.lemmas.Bool.{false≢true}
use Rattle.reo_value.specs.declared.value.Value.{Value}
use Rattle.reo_value.specs.declared.op.Op.{Op}
use Rattle.reo_net.specs.declared.kind.Kind.{Kind}
use Rattle.reo_net.specs.declared.kind.Kind.TheVariants.{Sync, Lossy, Drain, Fifo, Filter, Transform}
use Rattle.reo_net.specs.declared.circuit.Channel.{Channel}
use Rattle.reo_net.specs.declared.circuit.RawCircuit.{RawCircuit}
use Rattle.reo_net.specs.declared.circuit.Step.{Step}
use Rattle.reo_net.specs.Kind.{is_fifo, first_content}
use Rattle.reo_net.specs.Runs.{initial_state}
use Rattle.reo_cut.specs.declared.cut.CellCut.{CellCut}
use Rattle.reo_cut.specs.Cut.{is_buffer}
use Rattle.reo_fabric.specs.declared.entry.Entry.{Entry}
use Rattle.reo_fabric.specs.declared.fabric.CellSpec.{CellSpec}
use Rattle.reo_fabric.specs.declared.fabric.PortSpec.{PortSpec}
use Rattle.reo_fabric.specs.declared.fabric.Fabric.{Fabric}
use Rattle.reo_fabric.specs.declared.port_state.PortState.{PortState}
use Rattle.reo_fabric.specs.declared.port_state.PortState.TheVariants.{Idle}
use Rattle.reo_fabric.specs.declared.reading.Reading.{Reading}
use Rattle.reo_fabric.specs.Engine.{EngineState, port_at, started}
use Rattle.reo_fabric.specs.Fabric.{first_state}
use Rattle.reo_flow.specs.Allows.{Table}
use Rattle.reo_plan.specs.Fabric.{held_at_first, cell_spec}
use Rattle.reo_trace.specs.declared.report.Called.{Called}
use Rattle.reo_trace.specs.declared.report.Ending.{Ending}
use Rattle.reo_trace.specs.declared.report.Ending.TheVariants.{Done, Stuck, Limit}
use Rattle.reo_trace.specs.Lawful.{AllAnswered}
use Rattle.reo_schedule.specs.Board.{IsBoard}
use Rattle.reo_schedule.specs.Calls.{calls_of}
use Rattle.reo_schedule.specs.Plain.{IsPlainReport}
use Rattle.reo_schedule.specs.Turn.{steps_of}
use Rattle.reo_schedule.proofs.RunLaw.{begins, ends_done, ends_stuck, ends_at_limit}
use Rattle.reo_session.specs.Running.{IsRunning, IsPosting, any_steps, same_lengths}
use Rattle.reo_session.specs.Session.{IsSet, Reports}
use Rattle.reo_session.specs.Turn.{AreQuiet}
use Rattle.reo_session.proofs.PostLemmas.{all_first}
use Rattle.reo_session.proofs.ProgressLemmas.{all_answered, not_all}
use Rattle.reo_session.proofs.TurnLemmas.{quiet_at}

-- the first values of the cells are the initial state
map_map : {A B C : Type 0} (g : B → C) (f : A → B) (xs : List A) → map g (map f xs) ≡ map (λ x. g (f x)) xs
map_map g f [] = refl
map_map g f (x ∷ xs) = ap (λ ys. g (f x) ∷ ys) (map_map g f xs)

fifo_first : (kind : Kind) → is_fifo kind ≡ true → first_content kind ≡ held_at_first kind ∷ []
fifo_first Sync is = absurd (false≢true is)
fifo_first Lossy is = absurd (false≢true is)
fifo_first Drain is = absurd (false≢true is)
fifo_first (Fifo first) is = refl
fifo_first (Filter guard) is = absurd (false≢true is)
fifo_first (Transform fun) is = absurd (false≢true is)

other_first : (kind : Kind) → is_fifo kind ≡ false → first_content kind ≡ []
other_first Sync is = refl
other_first Lossy is = refl
other_first Drain is = refl
other_first (Fifo first) is = absurd (false≢true (sym is))
other_first (Filter guard) is = refl
other_first (Transform fun) is = refl

module _ (test : ℕ → Bool) (f : ℕ → Option Value) where
  firsts_from : (first : ℕ) (xs : List Channel) → ((i : ℕ) (channel : Channel) → slice_get xs i ≡ Some channel → (test (first + i) ≡ is_fifo channel.kind) × (f (first + i) ≡ held_at_first channel.kind))
      → map f (filter test (range_with_len first (length xs))) ≡ flat_map (λ channel. first_content channel.kind) xs
  firsts_from first [] each = refl
  firsts_from first (x ∷ xs) each =
      go (is_fifo x.kind) refl (firsts_from (first + 1) xs (λ i channel at. let e : first + 1 + i ≡ first + suc i = omega arith in let both = each (suc i) channel at in (ap test e ∙ both.0, ap f e ∙ both.1)))
    where
      later : List ℕ
      later = filter test (range_with_len (first + 1) (length xs))

      rest : List (Option Value)
      rest = flat_map (λ (channel : Channel). first_content channel.kind) xs

      here : (test first ≡ is_fifo x.kind) × (f first ≡ held_at_first x.kind)
      here = let e : first ≡ first + 0 = omega arith in let both = each 0 x refl in (ap test e ∙ both.0, ap f e ∙ both.1)

      go : (b : Bool) → is_fifo x.kind ≡ b → map f later ≡ rest → map f (cond (test first) (first ∷ later) later) ≡ first_content x.kind ++ rest
      go true is same = ap (λ b. map f (cond b (first ∷ later) later)) (here.0 ∙ is) ∙ ap (λ v. v ∷ map f later) here.1 ∙ ap (λ vs. held_at_first x.kind ∷ vs) same ∙ ap (λ vs. vs ++ rest) (sym (fifo_first x.kind is))
      go false is same = ap (λ b. map f (cond b (first ∷ later) later)) (here.0 ∙ is) ∙ same ∙ ap (λ vs. vs ++ rest) (sym (other_first x.kind is))

first_of : RawCircuit → ℕ → Option Value
first_of c k = option_map_or (λ channel. held_at_first channel.kind) (slice_get c.channels k) None

pub first_is_initial : (c : RawCircuit) (fabric : Fabric) (tables : List Table) → IsBoard c fabric tables → first_state fabric ≡ initial_state c
unfolding first_of
first_is_initial c fabric tables board =
    ap (map (λ (cell : CellSpec). cell.first)) board.is_fabric.cells
    ∙ map_map (λ (cell : CellSpec). cell.first) (cell_spec c) board.cut.cells
    ∙ sym (map_map (first_of c) (λ (cell : CellCut). cell.channel) board.cut.cells)
    ∙ ap (map (first_of c)) board.is_cut.cells
    ∙ firsts_from (is_buffer c) (first_of c) 0 c.channels
    (λ i channel at.
    let e : 0 + i ≡ i = omega arith in
    (ap (is_buffer c) e ∙ ap (λ o. option_map_or (λ (ch : Channel). is_fifo ch.kind) o false) at, ap (first_of c) e ∙ ap (λ o. option_map_or (λ (ch : Channel). held_at_first ch.kind) o None) at))

-- at first all ports are idle
pub all_idle : (ports : List PortSpec) (port : ℕ) → port_at (map (λ p. Idle) ports) port ≡ Idle
all_idle [] port = refl
all_idle (p ∷ ports) zero = refl
all_idle (p ∷ ports) (suc port) = all_idle ports port

-- the fabric and the decider are the engine's own
pub at_engine : {D : Type 0} (c : RawCircuit) (texts : List (List ℕ)) (scripts : List (List Op)) (fabric : Fabric) (tables : List Table) (limit : ℕ) (decider : D) (engine : EngineState D) (has_kept : List Step → Type 0) (calls : List (List Called)) (place : ℕ)
    → IsRunning c texts scripts fabric tables limit decider engine has_kept calls place → IsRunning c texts scripts engine.fabric tables limit engine.decider engine has_kept calls place
at_engine c texts scripts fabric tables limit decider engine has_kept calls place running =
    subst (λ d. IsRunning c texts scripts engine.fabric tables limit d engine has_kept calls place) (sym running.decider_is)
    (subst (λ f. IsRunning c texts scripts f tables limit decider engine has_kept calls place) (sym running.fabric_is) running)

-- whoever kept the steps
pub unkept : {D : Type 0} (c : RawCircuit) (texts : List (List ℕ)) (scripts : List (List Op)) (fabric : Fabric) (tables : List Table) (limit : ℕ) (decider : D) (engine : EngineState D) (has_kept : List Step → Type 0) (calls : List (List Called)) (place : ℕ)
    → IsRunning c texts scripts fabric tables limit decider engine has_kept calls place → IsRunning c texts scripts fabric tables limit decider engine any_steps calls place
unkept c texts scripts fabric tables limit decider engine has_kept calls place r = record {
  turns = r.turns;
  under_way = r.under_way;
  kept = tt;
  calls_are = r.calls_are;
  place_is = r.place_is;
  within = r.within;
  fabric_is = r.fabric_is;
  decider_is = r.decider_is;
  cells_are = r.cells_are;
  counted = r.counted;
  ports_long = r.ports_long;
  posted = r.posted;
}

pub from_engine : {D : Type 0} (c : RawCircuit) (texts : List (List ℕ)) (scripts : List (List Op)) (fabric : Fabric) (tables : List Table) (limit : ℕ) (decider : D) (before engine : EngineState D) (has_kept : List Step → Type 0) (calls : List (List Called)) (place : ℕ)
    → before.fabric ≡ fabric → before.decider ≡ decider → IsRunning c texts scripts before.fabric tables limit before.decider engine has_kept calls place → IsRunning c texts scripts fabric tables limit decider engine has_kept calls place
from_engine c texts scripts fabric tables limit decider before engine has_kept calls place fabrics deciders running =
    subst (λ d. IsRunning c texts scripts fabric tables limit d engine has_kept calls place) deciders
    (subst (λ f. IsRunning c texts scripts f tables limit before.decider engine has_kept calls place) fabrics running)

module _ (c : RawCircuit) (texts : List (List ℕ)) (scripts : List (List Op)) (fabric : Fabric) (tables : List Table) (limit : ℕ) (allows : ℕ → Reading → Entry → Type 0) (first_choice : ℕ → Reading → Option ℕ) (may_step : Entry → Type 0) (has_step : Entry → Step → Type 0)
    (set : IsSet c texts scripts fabric tables allows first_choice may_step has_step) {D : Type 0} (decider : D) where
  pub starts : (has_kept : List Step → Type 0) → has_kept [] → (ports : List PortState) → IsPosting scripts (length scripts) (length fabric.ports) ports
      → IsRunning c texts scripts fabric tables limit decider (record (started fabric decider) { ports = ports }) has_kept (map (λ script. []) scripts) 0
  starts has_kept none ports posting = record {
    turns = [];
    under_way = begins c set.checked texts scripts set.fit set.put_values fabric tables set.board limit set.brings;
    kept = none;
    calls_are = refl;
    place_is = refl;
    within = omega arith;
    fabric_is = refl;
    decider_is = refl;
    cells_are = first_is_initial c fabric tables set.board;
    counted = refl;
    ports_long = posting.ports_long ∙ set.board.is_fabric.as_many;
    posted = all_first scripts (length fabric.ports) ports posting;
  }

  module _ (some : 1 ≤ limit) (engine : EngineState D) (has_kept : List Step → Type 0) (calls : List (List Called)) (place : ℕ) (running : IsRunning c texts scripts fabric tables limit decider engine has_kept calls place) where
    reported : (ending : Ending) → IsPlainReport c texts scripts limit (record { steps = steps_of running.turns; calls = calls_of scripts (steps_of running.turns); ending = ending })
        → Reports c texts scripts limit has_kept calls ending
    reported ending plain = record {
      steps = steps_of running.turns;
      kept = running.kept;
      plain = subst (λ (cs : List (List Called)). IsPlainReport c texts scripts limit (record { steps = steps_of running.turns; calls = cs; ending = ending })) (sym running.calls_are) plain;
    }

    count : length calls ≡ length scripts
    count = ap length running.calls_are ∙ running.under_way.lawful.components

    left_of : same_lengths scripts calls ≡ false → AllAnswered scripts (calls_of scripts (steps_of running.turns)) → ⊥
    left_of differ all = not_all scripts calls differ (subst (AllAnswered scripts) (sym running.calls_are) all)

    pub reports_done : same_lengths scripts calls ≡ true → Reports c texts scripts limit has_kept calls Done
    reports_done same =
        reported Done (ends_done c set.checked texts scripts set.fit set.put_values fabric tables set.board limit some running.turns running.under_way (subst (AllAnswered scripts) running.calls_are (all_answered scripts calls count same)))

    pub reports_limit : same_lengths scripts calls ≡ false → limit ≤ engine.count → Reports c texts scripts limit has_kept calls Limit
    reports_limit differ reached =
        reported Limit (ends_at_limit c set.checked texts scripts set.fit set.put_values fabric tables set.board limit some running.turns running.under_way (left_of differ) (omega (arith, reached, running.counted)))

    pub reports_stuck : same_lengths scripts calls ≡ false → engine.count < limit → AreQuiet first_choice engine 0 fabric.regions → Reports c texts scripts limit has_kept calls Stuck
    reports_stuck differ below quiet =
        reported Stuck (ends_stuck c set.checked texts scripts set.fit set.put_values fabric tables set.board limit some running.turns running.under_way set.brings (left_of differ) (omega (arith, below, running.counted))
        (λ region in_regions. quiet_at c set.checked texts scripts set.fit set.put_values fabric tables set.board limit decider allows first_choice may_step has_step set.by_tables engine has_kept calls place running region (quiet region (omega arith) in_regions)))
