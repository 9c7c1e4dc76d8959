-- Offering the first operation of one component after the other.
use Rattle.std.proofs.Common.{◌≡◌, ℕ, zero, suc, ◌+◌, ◌<◌, ◌≤◌, ⊎_elim, List, [], ◌∷◌, length, map, slice_get, set, Option, Some, None, refl, sym, ap, ◌∙◌, subst, arith, length-set}
use Rattle.std.proofs.lemmas.Bool.{cases_eq, cases_lt}
use Rattle.std.proofs.lemmas.Option.{same_Some, slice_get_within, slice_get-get_or}
use Rattle.reo_value.specs.declared.op.Op.{Op}
use Rattle.reo_value.specs.Op.{port_of}
use Rattle.reo_fabric.specs.declared.fabric.Fabric.{Fabric}
use Rattle.reo_fabric.specs.declared.port_state.PortState.{PortState}
use Rattle.reo_fabric.specs.declared.port_state.PortState.TheVariants.{Idle, Offered}
use Rattle.reo_fabric.specs.Engine.{port_at}
use Rattle.reo_trace.specs.declared.report.Called.{Called}
use Rattle.reo_schedule.specs.Offers.{offered_by}
use Rattle.reo_session.specs.Posted.{ScriptsFitFabric, ArePosted, MayPost, waiting_with, with_posted}
use Rattle.reo_session.specs.Watch.{Knows, KnowsFirst}
use Rattle.reo_session.specs.Running.{IsPosting}
use Rattle.reo_session.proofs.CollectLemmas.{set_same, set_other, port_set_same, port_set_other}

no_own : (some : List (List Op)) (k : ℕ) (own : List Called) → slice_get (map (λ script. []) some) k ≡ Some own → own ≡ []
no_own [] k own e = cc
no_own (s ∷ some) zero own e = sym (same_Some [] own e)
no_own (s ∷ some) (suc k) own e = no_own some k own e

module _ (scripts : List (List Op)) where
  pub none_posted : (ports : List PortState) → ((port : ℕ) → port_at ports port ≡ Idle) → IsPosting scripts 0 (length ports) ports
  none_posted ports idle = record {
    ports_long = refl;
    posted = λ k script op below of_script first. absurd (omega (arith, below));
    idle = λ port free. idle port;
  }

  pub all_first : (n : ℕ) (ports : List PortState) → IsPosting scripts (length scripts) n ports → ArePosted scripts (map (λ script. []) scripts) ports
  all_first n ports posting = record {
    posted = λ k op next.
        let none = no_own scripts k next.own next.of_calls in
        posting.posted k next.script op (slice_get_within scripts k next.script next.of_script) next.of_script (ap (λ (o : List Called). slice_get next.script (length o)) (sym none) ∙ next.next);
    idle = λ port free. posting.idle port (λ k script op below of_script first is. free k op (record { script = script; own = []; of_script = of_script; of_calls = own_none scripts k script of_script; next = first }) is);
  }
    where
      own_none : (some : List (List Op)) (k : ℕ) (script : List Op) → slice_get some k ≡ Some script → slice_get (map {B = List Called} (λ script. []) some) k ≡ Some []
      own_none [] k script e = cc
      own_none (s ∷ some) zero script e = refl
      own_none (s ∷ some) (suc k) script e = own_none some k script e

  module _ (fabric : Fabric) (fit : ScriptsFitFabric fabric scripts) (n : ℕ) (long : n ≡ length fabric.ports) (i : ℕ) (ports : List PortState) (so_far : IsPosting scripts i n ports) (script : List Op) (of_script : slice_get scripts i ≡ Some script) where
    first_below : (op : Op) → slice_get script 0 ≡ Some op → port_of op < length ports
    first_below op first =
        let spec = fit.ported i op (record { script = script; found = of_script; place = 0; at = first }) in
        omega (arith, slice_get_within fabric.ports (port_of op) spec.0 spec.1, long, so_far.ports_long)

    apart : (op : Op) → slice_get script 0 ≡ Some op → (k : ℕ) (other_script : List Op) (other : Op) → k < i → slice_get scripts k ≡ Some other_script → slice_get other_script 0 ≡ Some other → port_of other ≡ port_of op → ⊥
    apart op first k other_script other below of_other first_other same =
        let e = fit.unshared k i other op (record { script = other_script; found = of_other; place = 0; at = first_other }) (record { script = script; found = of_script; place = 0; at = first }) same in
        omega (arith, e, below)

    pub may_post_first : (op : Op) → slice_get script 0 ≡ Some op → MayPost fabric ports op
    may_post_first op first =
        let spec = fit.ported i op (record { script = script; found = of_script; place = 0; at = first }) in
        record {
          idle = slice_get-get_or ports (port_of op) Idle (first_below op first) ∙ ap Some (so_far.idle (port_of op) (apart op first));
          spec = spec.0;
          found = spec.1;
          way = spec.2;
        }

    pub post_more : (after : List PortState) → after ≡ with_posted ports (slice_get script 0) → IsPosting scripts (i + 1) n after
    post_more after is = subst (IsPosting scripts (i + 1) n) (sym is) (go (slice_get script 0) refl)
      where
        earlier : (k : ℕ) → k < i + 1 → (k ≡ i → ⊥) → k < i
        earlier k below differ = ⊎_elim (λ less. less) (λ not_less. absurd (differ (omega (arith, below, not_less)))) (cases_lt k i)

        go : (o : Option Op) → slice_get script 0 ≡ o → IsPosting scripts (i + 1) n (with_posted ports o)
        go None e = record {
          ports_long = so_far.ports_long;
          posted = λ k other_script other below of_other first.
              ⊎_elim
              (λ same. absurd (let own = same_Some other_script script (sym of_other ∙ ap (slice_get scripts) same ∙ of_script) in let clash : None ≡ Some other = sym e ∙ ap (λ s. slice_get s 0) (sym own) ∙ first in cc))
              (λ differ. so_far.posted k other_script other (earlier k below differ) of_other first)
              (cases_eq k i);
          idle = λ port free. so_far.idle port (λ k other_script other below of_other first. free k other_script other (omega (arith, below)) of_other first);
        }
        go (Some op) e = record {
          ports_long = length-set ports (port_of op) (Offered (offered_by op)) ∙ so_far.ports_long;
          posted = λ k other_script other below of_other first.
              ⊎_elim
              (λ same.
              let own = same_Some other_script script (sym of_other ∙ ap (slice_get scripts) same ∙ of_script) in
              let is_op = same_Some other op (sym first ∙ ap (λ s. slice_get s 0) own ∙ e) in
              subst (λ x. port_at (set ports (port_of op) (Offered (offered_by op))) (port_of x) ≡ Offered (offered_by x)) (sym is_op) (port_set_same ports (port_of op) (Offered (offered_by op)) (first_below op e)))
              (λ differ. port_set_other ports (port_of op) (port_of other) (Offered (offered_by op)) (λ same. apart op e k other_script other (earlier k below differ) of_other first (sym same))
              ∙ so_far.posted k other_script other (earlier k below differ) of_other first)
              (cases_eq k i);
          idle = λ port free.
              port_set_other ports (port_of op) port (Offered (offered_by op)) (λ is_there. free i script op (omega arith) of_script e is_there)
              ∙ so_far.idle port (λ k other_script other below of_other first. free k other_script other (omega (arith, below)) of_other first);
        }

    -- and it is known who waits at the first operation's port
    pub knows_more : (waiting after : List ℕ) → length waiting ≡ length fabric.ports → KnowsFirst scripts i waiting → after ≡ waiting_with waiting i (slice_get script 0) → KnowsFirst scripts (i + 1) after
    knows_more waiting after long_waiting knows is = subst (KnowsFirst scripts (i + 1)) (sym is) (go (slice_get script 0) refl)
      where
        go : (o : Option Op) → slice_get script 0 ≡ o → KnowsFirst scripts (i + 1) (waiting_with waiting i o)
        go None e k other_script other below of_other first =
            ⊎_elim
            (λ same. absurd (let own = same_Some other_script script (sym of_other ∙ ap (slice_get scripts) same ∙ of_script) in let clash : None ≡ Some other = sym e ∙ ap (λ s. slice_get s 0) (sym own) ∙ first in cc))
            (λ differ. knows k other_script other (⊎_elim (λ less. less) (λ not_less. absurd (differ (omega (arith, below, not_less)))) (cases_lt k i)) of_other first)
            (cases_eq k i)
        go (Some op) e k other_script other below of_other first =
            ⊎_elim
            (λ same.
            let own = same_Some other_script script (sym of_other ∙ ap (slice_get scripts) same ∙ of_script) in
            let is_op = same_Some other op (sym first ∙ ap (λ s. slice_get s 0) own ∙ e) in
            ap (λ x. slice_get (set waiting (port_of op) i) (port_of x)) is_op ∙ set_same waiting (port_of op) i (omega (arith, first_below op e, long, long_waiting, so_far.ports_long)) ∙ ap Some (sym same))
            (λ differ.
            let earlier : k < i = ⊎_elim (λ less. less) (λ not_less. absurd (differ (omega (arith, below, not_less)))) (cases_lt k i) in
            set_other waiting (port_of op) (port_of other) i (λ same. apart op e k other_script other earlier of_other first (sym same)) ∙ knows k other_script other earlier of_other first)
            (cases_eq k i)

-- when all first operations are offered
pub knows_all : (scripts : List (List Op)) (count : ℕ) (waiting : List ℕ) → length scripts ≤ count → KnowsFirst scripts count waiting → Knows scripts (map (λ script. []) scripts) waiting
knows_all scripts count waiting all knows k op next =
    let none = no_own scripts k next.own next.of_calls in
    knows k next.script op (omega (arith, slice_get_within scripts k next.script next.of_script, all)) next.of_script (ap (λ (o : List Called). slice_get next.script (length o)) (sym none) ∙ next.next)
