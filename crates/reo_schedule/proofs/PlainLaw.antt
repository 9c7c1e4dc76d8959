-- There is one plain report at most.
use Rattle.std.proofs.Common.{◌≡◌, ℕ, ◌+◌, ◌<◌, ⊎_elim, List, [], ◌∷◌, ◌++◌, length, slice_get, Bool, true, false, cond, Some, None, refl, sym, ap, ◌∙◌, subst, arith}
use Rattle.std.specs.Prelude.{nat_lt}
use Rattle.std.proofs.lemmas.Bool.{cases_order}
use Rattle.std.proofs.lemmas.Option.{same_Some}
use Rattle.reo_value.specs.declared.op.Op.{Op}
use Rattle.reo_net.specs.declared.circuit.RawCircuit.{RawCircuit}
use Rattle.reo_net.specs.declared.circuit.Step.{Step}
use Rattle.reo_net.specs.Checks.{IsChecked}
use Rattle.reo_net.specs.Runs.{Run, initial_state}
use Rattle.reo_net.specs.Steps.{State}
use Rattle.reo_net.proofs.RunLemmas.{runs_end_once}
use Rattle.reo_fabric.specs.declared.entry.Entry.{Entry}
use Rattle.reo_fabric.specs.declared.fabric.Fabric.{Fabric}
use Rattle.reo_fabric.specs.declared.reading.Reading.{Reading}
use Rattle.reo_flow.specs.Step.{IsStepOf}
use Rattle.reo_flow.specs.Allows.{Table, AreTables, Allows, IsFirstChoice}
use Rattle.reo_flow.proofs.OnceLaw.{one_entry_at_most, one_step_at_most}
use Rattle.reo_trace.specs.declared.report.Called.{Called}
use Rattle.reo_trace.specs.declared.report.Ending.{Ending}
use Rattle.reo_trace.specs.declared.report.Report.{Report}
use Rattle.reo_trace.specs.declared.report.Ending.TheVariants.{Done, Stuck, Limit}
use Rattle.reo_trace.specs.Lawful.{IsEndingOf}
use Rattle.reo_schedule.specs.Board.{IsBoard}
use Rattle.reo_schedule.specs.Calls.{calls_of}
use Rattle.reo_schedule.specs.Turn.{Turn, steps_of, state_of, ops_of, reads, place_of, rank_from, AllowsTurn, IsNext}
use Rattle.reo_schedule.specs.Offers.{offers_in}
use Rattle.reo_schedule.specs.Plain.{Follows, IsPlainReport}
use Rattle.reo_schedule.specs.Laws.{OnePlainReport}
use Rattle.reo_schedule.proofs.BoardLemmas.{one_tables, same_count, same_reading}

-- where one element at most comes next, one list at most follows
module _ {A : Type 0} (Next : List A → A → Type 0) where
  one_list : ((before : List A) (x y : A) → Next before x → Next before y → x ≡ y) → (before xs ys : List A) → Follows Next before xs → Follows Next before ys → xs ≡ ys
  one_list one before [] [] follow_x follow_y = refl
  one_list one before [] (y ∷ ys) follow_x follow_y = absurd (follow_x y follow_y.0)
  one_list one before (x ∷ xs) [] follow_x follow_y = absurd (follow_y x follow_x.0)
  one_list one before (x ∷ xs) (y ∷ ys) follow_x follow_y =
      let same = one before x y follow_x.0 follow_y.0 in
      ap (λ z. z ∷ xs) same ∙ ap (λ zs. y ∷ zs) (one_list one (before ++ y ∷ []) xs ys (subst (λ z. Follows Next (before ++ z ∷ []) xs) same follow_x.1) follow_y.1)

  follow_by : (Other : List A → A → Type 0) → ((before : List A) (x : A) → Next before x → Other before x) → ((before : List A) (x : A) → Other before x → Next before x)
      → (before xs : List A) → Follows Next before xs → Follows Other before xs
  follow_by Other to from before [] follow = λ x next. follow x (from before x next)
  follow_by Other to from before (x ∷ xs) follow = (to before x follow.0, follow_by Other to from (before ++ x ∷ []) xs follow.1)

-- ranks are of one region each
same_rank : (regions place r s : ℕ) → r < regions → s < regions → rank_from regions place r ≡ rank_from regions place s → r ≡ s
same_rank regions place r s in_r in_s same = go (nat_lt r place) (nat_lt s place) same
  where
    go : (a b : Bool) → cond a (r + regions) r ≡ cond b (s + regions) s → r ≡ s
    go true true e = omega (arith, e)
    go true false e = absurd (omega (arith, e, in_s))
    go false true e = absurd (omega (arith, e, in_r))
    go false false e = e

module _ (c : RawCircuit) (texts : List (List ℕ)) (checked : IsChecked c) (scripts : List (List Op)) (limit : ℕ) where
  -- a reading allows one turn with a choice
  module _ (tables : List Table) (are : AreTables c tables) where
    one_turn : (region : ℕ) (reading : Reading) (t u : Turn) → AllowsTurn c texts tables region reading t → AllowsTurn c texts tables region reading u → t.entry.choice ≡ u.entry.choice → t ≡ u
    one_turn region reading t u is_t is_u same =
        let entries = one_entry_at_most c texts tables checked are region reading t.entry u.entry is_t.allowed is_u.allowed same in
        let table : is_u.allowed.table ≡ is_t.allowed.table = same_Some is_u.allowed.table is_t.allowed.table (sym is_u.allowed.tabled ∙ is_t.allowed.tabled) in
        let names : is_u.allowed.names ≡ is_t.allowed.names =
        same_Some is_u.allowed.names is_t.allowed.names (sym is_u.allowed.firing ∙ ap (λ rows. slice_get rows u.entry.choice) table ∙ ap (slice_get is_t.allowed.table) (sym same) ∙ is_t.allowed.firing) in
        let step_t = one_step_at_most c texts tables checked are region reading t.entry is_t.allowed t.step is_t.is_step in
        let step_u = one_step_at_most c texts tables checked are region reading t.entry is_t.allowed u.step
        (subst (λ ns. IsStepOf c texts ns t.entry u.step) names (subst (λ (e : Entry). IsStepOf c texts is_u.allowed.names e u.step) (sym entries) is_u.is_step)) in
        let steps : t.step ≡ u.step = step_t ∙ sym step_u in
        (λ i. record { entry = entries i; step = steps i })

    module _ (fabric : Fabric) where
      abbrev Next : List Turn → Turn → Type 0
      Next = IsNext c texts scripts fabric tables limit

      not_before : (before : List Turn) (t u : Turn) → Next before t → Next before u → rank_from fabric.regions (place_of before) t.entry.region < rank_from fabric.regions (place_of before) u.entry.region → ⊥
      not_before before t u next_t next_u earlier = next_u.passed t.entry.region next_t.region earlier t.entry next_t.allowed.allowed

      one_next : (before : List Turn) (t u : Turn) → Next before t → Next before u → t ≡ u
      one_next before t u next_t next_u =
          let rank = rank_from fabric.regions (place_of before) in
          let ranks : rank t.entry.region ≡ rank u.entry.region =
          ⊎_elim (λ same. same) (λ apart. ⊎_elim (λ less. absurd (not_before before t u next_t next_u less)) (λ more. absurd (not_before before u t next_u next_t more)) apart)
          (cases_order (rank t.entry.region) (rank u.entry.region)) in
          let region : t.entry.region ≡ u.entry.region = same_rank fabric.regions (place_of before) t.entry.region u.entry.region next_t.region next_u.region ranks in
          let allowed_u = subst (λ r. AllowsTurn c texts tables r (reads c fabric scripts before r) u) (sym region) next_u.allowed in
          let first_u = subst (λ r. IsFirstChoice (Allows c texts tables r (reads c fabric scripts before r)) (Some u.entry.choice)) (sym region) next_u.first in
          let choice : t.entry.choice ≡ u.entry.choice =
          ⊎_elim (λ same. same)
          (λ apart. ⊎_elim (λ less. absurd (first_u.1 t.entry next_t.allowed.allowed less)) (λ more. absurd (next_t.first.1 u.entry allowed_u.allowed more)) apart)
          (cases_order t.entry.choice u.entry.choice) in
          one_turn t.entry.region (reads c fabric scripts before t.entry.region) t u next_t.allowed allowed_u choice

  -- what comes next does not hang on who uses the ports
  next_too : (one other : Fabric) (tables tables_too : List Table) → IsBoard c one tables → IsBoard c other tables_too → (before : List Turn) (turn : Turn) → IsNext c texts scripts one tables limit before turn → IsNext c texts scripts other tables_too limit before turn
  next_too one other tables tables_too board board_too before turn next =
      subst (λ ts. IsNext c texts scripts other ts limit before turn) (one_tables c tables tables_too board.are_tables board_too.are_tables)
      (record {
        left = next.left;
        few = next.few;
        region = subst (λ n. turn.entry.region < n) count next.region;
        allowed = subst (λ reading. AllowsTurn c texts tables turn.entry.region reading turn) (read turn.entry.region) next.allowed;
        first = subst (λ reading. IsFirstChoice (Allows c texts tables turn.entry.region reading) (Some turn.entry.choice)) (read turn.entry.region) next.first;
        passed = λ region below earlier. subst (λ reading. IsFirstChoice (Allows c texts tables region reading) None) (read region)
            (next.passed region (subst (λ n. region < n) (sym count) below) (subst (λ n. rank_from n (place_of before) region < rank_from n (place_of before) turn.entry.region) (sym count) earlier));
      })
    where
      count : one.regions ≡ other.regions
      count = same_count c one other tables tables_too board board_too

      read : (region : ℕ) → reads c one scripts before region ≡ reads c other scripts before region
      read region = same_reading c one other tables tables_too board board_too region (state_of c before) (offers_in (ops_of scripts before) (length c.ports))

  same_turns : (one other : Report) (is : IsPlainReport c texts scripts limit one) (is_too : IsPlainReport c texts scripts limit other) → is.turns ≡ is_too.turns
  same_turns one other is is_too =
      one_list (IsNext c texts scripts is_too.fabric is_too.tables limit) (one_next is_too.tables is_too.board.are_tables is_too.fabric) [] is.turns is_too.turns
      (follow_by (IsNext c texts scripts is.fabric is.tables limit) (IsNext c texts scripts is_too.fabric is_too.tables limit)
      (next_too is.fabric is_too.fabric is.tables is_too.tables is.board is_too.board) (next_too is_too.fabric is.fabric is_too.tables is.tables is_too.board is.board) [] is.turns is.follow)
      is_too.follow

ends_in_one_way : (c : RawCircuit) (texts : List (List ℕ)) (scripts : List (List Op)) (calls : List (List Called)) (limit steps : ℕ) (final : State) (one other : Ending)
    → IsEndingOf c texts scripts calls limit steps final one → IsEndingOf c texts scripts calls limit steps final other → one ≡ other
ends_in_one_way c texts scripts calls limit steps final Done other p q = sym (q.done.1 (p.done.0 refl))
ends_in_one_way c texts scripts calls limit steps final Limit other p q = sym (q.at_limit.1 (p.at_limit.0 refl))
ends_in_one_way c texts scripts calls limit steps final Stuck other p q = sym (q.stuck.1 (p.stuck.0 refl))

pub one_plain_report : OnePlainReport
one_plain_report c texts scripts limit one other checked is is_too =
    let steps : one.steps ≡ other.steps = is.steps ∙ ap steps_of (same_turns c texts checked scripts limit one other is is_too) ∙ sym is_too.steps in
    let calls : one.calls ≡ other.calls = is.calls ∙ ap (calls_of scripts) steps ∙ sym is_too.calls in
    let final : is.lawful.final ≡ is_too.lawful.final = runs_end_once c texts (initial_state c) one.steps is.lawful.final is_too.lawful.final is.lawful.run (subst (λ (ss : List Step). Run c texts (initial_state c) ss is_too.lawful.final) (sym steps) is_too.lawful.run) in
    let ended : IsEndingOf c texts scripts one.calls limit (length one.steps) is.lawful.final other.ending =
    subst (λ (cs : List (List Called)). IsEndingOf c texts scripts cs limit (length one.steps) is.lawful.final other.ending) (sym calls)
    (subst (λ (ss : List Step). IsEndingOf c texts scripts other.calls limit (length ss) is.lawful.final other.ending) (sym steps)
    (subst (λ f. IsEndingOf c texts scripts other.calls limit (length other.steps) f other.ending) (sym final) is_too.lawful.ended)) in
    let ending : one.ending ≡ other.ending = ends_in_one_way c texts scripts one.calls limit (length one.steps) is.lawful.final one.ending other.ending is.lawful.ended ended in
    (λ i. record { steps = steps i; calls = calls i; ending = ending i })
