-- Collecting the answers of one component, whichever it is.
use Rattle.std.proofs.Common.{◌≡◌, ℕ, zero, suc, ◌+◌, ◌<◌, ◌⊎◌, inl, inr, ⊎_elim, List, [], ◌∷◌, ◌++◌, length, slice_get, get_or, set, Option, Some, None, refl, sym, ap, ◌∙◌, subst, ext_get_or, arith, length-set, length-append}
use Rattle.std.specs.Option.{option_map, option_to_list}
use Rattle.std.proofs.lemmas.Bool.{cases_eq}
use Rattle.std.proofs.lemmas.Option.{same_Some, none-some, slice_get_within, slice_get-get_or, get_or_from_slice_get}
use Rattle.reo_value.specs.declared.value.Value.{Value}
use Rattle.reo_value.specs.declared.op.Op.{Op}
use Rattle.reo_value.specs.Op.{port_of}
use Rattle.reo_net.specs.Scripts.{IsOperationOf}
use Rattle.reo_net.proofs.NameLemmas.{slice_get_found}
use Rattle.reo_fabric.specs.declared.fabric.Fabric.{Fabric}
use Rattle.reo_fabric.specs.declared.port_state.PortState.{PortState}
use Rattle.reo_fabric.specs.declared.port_state.PortState.TheVariants.{Idle, Offered, Answered}
use Rattle.reo_fabric.specs.Engine.{port_at, answer_of}
use Rattle.reo_trace.specs.declared.report.Called.{Called}
use Rattle.reo_schedule.specs.Calls.{IsNextOf}
use Rattle.reo_schedule.specs.Offers.{offered_by}
use Rattle.reo_session.specs.Posted.{ScriptsFitFabric, IsAnswered, IsFree, ArePosted, AreOpen, call_by, calls_by, collected, with_posted, after_answer, after_own, MayCollect, IsCollected, waiting_with, waiting_after, waiting_own}
use Rattle.reo_session.specs.Watch.{Knows}

-- places after a write
pub set_same : {X : Type 0} (xs : List X) (i : ℕ) (y : X) → i < length xs → slice_get (set xs i y) i ≡ Some y
set_same [] i y below = absurd (omega (arith, below))
set_same (x ∷ xs) zero y below = refl
set_same (x ∷ xs) (suc i) y below = set_same xs i y (omega (arith, below))

pub set_other : {X : Type 0} (xs : List X) (i j : ℕ) (y : X) → (i ≡ j → ⊥) → slice_get (set xs i y) j ≡ slice_get xs j
set_other [] i j y apart = refl
set_other (x ∷ xs) zero zero y apart = absurd (apart refl)
set_other (x ∷ xs) zero (suc j) y apart = refl
set_other (x ∷ xs) (suc i) zero y apart = refl
set_other (x ∷ xs) (suc i) (suc j) y apart = set_other xs i j y (λ e. apart (ap suc e))

pub port_set_same : (ports : List PortState) (p : ℕ) (state : PortState) → p < length ports → port_at (set ports p state) p ≡ state
port_set_same ports p state below = get_or_from_slice_get (set ports p state) p state Idle (set_same ports p state below)

pub port_set_other : (ports : List PortState) (p q : ℕ) (state : PortState) → (p ≡ q → ⊥) → port_at (set ports p state) q ≡ port_at ports q
port_set_other [] p q state apart = refl
port_set_other (x ∷ ports) zero zero state apart = absurd (apart refl)
port_set_other (x ∷ ports) zero (suc q) state apart = refl
port_set_other (x ∷ ports) (suc p) zero state apart = refl
port_set_other (x ∷ ports) (suc p) (suc q) state apart = port_set_other ports p q state (λ e. apart (ap suc e))

pub same_by_places : {X : Type 0} (d : X) (xs ys : List X) → length xs ≡ length ys → ((k : ℕ) → k < length xs → slice_get xs k ≡ slice_get ys k) → xs ≡ ys
same_by_places d xs ys long same =
    ext_get_or d xs ys long (λ k below. let e = slice_get-get_or ys k d (omega (arith, below, long)) in get_or_from_slice_get xs k (get_or ys k d) d (same k below ∙ e))

append_none : {X : Type 0} (xs : List X) → xs ++ [] ≡ xs
append_none [] = refl
append_none (x ∷ xs) = ap (λ ys. x ∷ ys) (append_none xs)

length-collected : (scripts : List (List Op)) (ports : List PortState) (calls : List (List Called)) → length calls ≡ length scripts → length (collected scripts ports calls) ≡ length scripts
length-collected [] ports calls long = refl
length-collected (s ∷ scripts) ports [] long = long
length-collected (s ∷ scripts) ports (o ∷ calls) long = ap suc (length-collected scripts ports calls (omega (arith, long)))

collected_at : (scripts : List (List Op)) (ports : List PortState) (calls : List (List Called)) (k : ℕ) (script : List Op) (own : List Called) → slice_get scripts k ≡ Some script → slice_get calls k ≡ Some own
    → slice_get (collected scripts ports calls) k ≡ Some (own ++ calls_by ports (slice_get script (length own)))
collected_at [] ports calls k script own of_script of_calls = cc
collected_at (s ∷ scripts) ports [] k script own of_script of_calls = cc
collected_at (s ∷ scripts) ports (o ∷ calls) zero script own of_script of_calls =
    ap (λ x. Some (o ++ calls_by ports (slice_get x (length o)))) (same_Some s script of_script) ∙ ap (λ x. Some (x ++ calls_by ports (slice_get script (length x)))) (same_Some o own of_calls)
collected_at (s ∷ scripts) ports (o ∷ calls) (suc k) script own of_script of_calls = collected_at scripts ports calls k script own of_script of_calls

-- nothing was collected
pub collected_none : (scripts : List (List Op)) (ports : List PortState) (calls : List (List Called)) → AreOpen scripts calls ports → IsCollected scripts ports calls ports calls
collected_none scripts ports calls are_open = record { as_many = refl; ports_long = refl; are_open = are_open; same = refl; fewer = λ port answered. answered }

-- some were, and then others
pub collected_more : (scripts : List (List Op)) (was_ports middle_ports ports : List PortState) (was middle calls : List (List Called))
    → IsCollected scripts was_ports was middle_ports middle → IsCollected scripts middle_ports middle ports calls → IsCollected scripts was_ports was ports calls
collected_more scripts was_ports middle_ports ports was middle calls first second = record {
  as_many = second.as_many ∙ first.as_many;
  ports_long = second.ports_long ∙ first.ports_long;
  are_open = second.are_open;
  same = second.same ∙ first.same;
  fewer = λ port answered. first.fewer port (second.fewer port answered);
}

set_back : {X : Type 0} (xs : List X) (i : ℕ) (x : X) → slice_get xs i ≡ Some x → set xs i x ≡ xs
set_back [] i x is = refl
set_back (y ∷ xs) zero x is = ap (λ z. z ∷ xs) (sym (same_Some y x is))
set_back (y ∷ xs) (suc i) x is = ap (λ zs. y ∷ zs) (set_back xs i x is)

not_answered : (state : PortState) → answer_of state ≡ None → (value : Value) (number : ℕ) → state ≡ Answered value number → ⊥
not_answered state none value number is = none-some (value, number) (sym none ∙ ap answer_of is)

pub long_waiting : (waiting : List ℕ) (i : ℕ) (o : Option Op) → length (waiting_with waiting i o) ≡ length waiting
long_waiting waiting i None = refl
long_waiting waiting i (Some op) = length-set waiting (port_of op) i

-- what is known when the answer to a component's next operation was taken, where there was one
pub record OneCollected (scripts : List (List Op)) (was_ports : List PortState) (was : List (List Called)) (next : Option Op) (was_waiting : List ℕ) (ports : List PortState) (calls : List (List Called)) (waiting : List ℕ) : Type 0 where
  pub collected : IsCollected scripts was_ports was ports calls
  pub knows : Knows scripts calls waiting
  pub waiting_long : length waiting ≡ length was_waiting
  pub cleared : (op : Op) → next ≡ Some op → IsAnswered ports (port_of op) → ⊥

module _ (fabric : Fabric) (scripts : List (List Op)) (fit : ScriptsFitFabric fabric scripts) (ports : List PortState) (calls : List (List Called)) (as_many : length calls ≡ length scripts)
    (long : length ports ≡ length fabric.ports) (are_open : AreOpen scripts calls ports) where
  operation : (some : List (List Called)) (k : ℕ) (op : Op) → IsNextOf scripts some k op → IsOperationOf scripts k op
  operation some k op next = record { script = next.script; found = next.of_script; place = length next.own; at = next.next }

  module _ (i : ℕ) (script : List Op) (own : List Called) (of_script : slice_get scripts i ≡ Some script) (of_calls : slice_get calls i ≡ Some own) where
    abbrev behind : Option Op
    behind = slice_get script (length own + 1)

    next_is : (op : Op) → slice_get script (length own) ≡ Some op → IsNextOf scripts calls i op
    next_is op at = record { script = script; own = own; of_script = of_script; of_calls = of_calls; next = at }

    -- the component's operations are at no other's ports
    op_port : (place : ℕ) (op : Op) → slice_get script place ≡ Some op → port_of op < length ports
    op_port place op at =
        let spec = fit.ported i op (record { script = script; found = of_script; place = place; at = at }) in
        omega (arith, slice_get_within fabric.ports (port_of op) spec.0 spec.1, long)

    own_port : (place : ℕ) (op : Op) → slice_get script place ≡ Some op → (some : List (List Called)) (k : ℕ) (other : Op) → IsNextOf scripts some k other → port_of other ≡ port_of op → k ≡ i
    own_port place op at some k other next same = fit.unshared k i other op (operation some k other next) (record { script = script; found = of_script; place = place; at = at }) same

    -- what is next of it
    next_own : (k : ℕ) (other : Op) → IsNextOf scripts calls k other → k ≡ i → slice_get script (length own) ≡ Some other
    next_own k other next same =
        let s = same_Some next.script script (sym next.of_script ∙ ap (slice_get scripts) same ∙ of_script) in
        let o = same_Some next.own own (sym next.of_calls ∙ ap (slice_get calls) same ∙ of_calls) in
        ap (λ (x : List Called). slice_get script (length x)) (sym o) ∙ ap (λ x. slice_get x (length next.own)) (sym s) ∙ next.next

    pub may_collect : MayCollect fabric ports (slice_get script (length own)) behind
    may_collect = record {
      within = λ op at. op_port (length own) op at;
      then_posts = λ op other at behind_is.
          let spec = fit.ported i other (record { script = script; found = of_script; place = length own + 1; at = behind_is }) in
          record { idle = idle_there op other at behind_is; spec = spec.0; found = spec.1; way = spec.2 };
    }
      where
        idle_there : (op other : Op) → slice_get script (length own) ≡ Some op → behind ≡ Some other → slice_get (set ports (port_of op) Idle) (port_of other) ≡ Some Idle
        idle_there op other at behind_is =
            ⊎_elim
            (λ same. subst (λ q. slice_get (set ports (port_of op) Idle) q ≡ Some Idle) same (set_same ports (port_of op) Idle (op_port (length own) op at)))
            (λ apart.
            let free : IsFree scripts calls (port_of other) = λ k x next is.
            let mine = own_port (length own + 1) other behind_is calls k x next is in
            apart (ap port_of (same_Some op x (sym at ∙ next_own k x next mine)) ∙ is) in
            set_other ports (port_of op) (port_of other) Idle apart ∙ slice_get-get_or ports (port_of other) Idle (op_port (length own + 1) other behind_is) ∙ ap Some (are_open.idle (port_of other) free))
            (cases_eq (port_of op) (port_of other))

    module _ (own_after : List Called) (ports_after : List PortState) (waiting waiting_then : List ℕ) (is_own : own_after ≡ own ++ calls_by ports (slice_get script (length own)))
        (are_ports : ports_after ≡ after_own ports (slice_get script (length own)) behind) (are_waiting : waiting_then ≡ waiting_own ports waiting i (slice_get script (length own)) behind)
        (waiting_long : length waiting ≡ length fabric.ports) (knows : Knows scripts calls waiting) where
      abbrev calls_after : List (List Called)
      calls_after = set calls i own_after

      -- what is known then
      abbrev Then : Type 0
      Then = OneCollected scripts ports calls (slice_get script (length own)) waiting ports_after calls_after waiting_then

      below_calls : i < length calls
      below_calls = slice_get_within calls i own of_calls

      at_own : slice_get calls_after i ≡ Some own_after
      at_own = set_same calls i own_after below_calls

      at_others : (k : ℕ) → (k ≡ i → ⊥) → slice_get calls_after k ≡ slice_get calls k
      at_others k apart = set_other calls i k own_after (λ e. apart (sym e))

      other_next : (k : ℕ) (op : Op) → (k ≡ i → ⊥) → IsNextOf scripts calls_after k op → IsNextOf scripts calls k op
      other_next k op apart next = record { script = next.script; own = next.own; of_script = next.of_script; of_calls = sym (at_others k apart) ∙ next.of_calls; next = next.next }

      other_later : (k : ℕ) (op : Op) → (k ≡ i → ⊥) → IsNextOf scripts calls k op → IsNextOf scripts calls_after k op
      other_later k op apart next = record { script = next.script; own = next.own; of_script = next.of_script; of_calls = at_others k apart ∙ next.of_calls; next = next.next }

      -- nothing is answered
      unanswered : own_after ≡ own → ports_after ≡ ports → waiting_then ≡ waiting → ((op : Op) → slice_get script (length own) ≡ Some op → answer_of (port_at ports (port_of op)) ≡ None) → Then
      unanswered same_own same_ports same_waiting none =
          let same_calls : calls_after ≡ calls = ap (set calls i) same_own ∙ set_back calls i own of_calls in
          record {
            collected = subst (λ ps. IsCollected scripts ports calls ps calls_after) (sym same_ports) (subst (IsCollected scripts ports calls ports) (sym same_calls) (collected_none scripts ports calls are_open));
            knows = subst (Knows scripts calls_after) (sym same_waiting) (subst (λ cs. Knows scripts cs waiting) (sym same_calls) knows);
            waiting_long = ap length same_waiting;
            cleared = λ op at answered. not_answered (port_at ports (port_of op)) (none op at) answered.value answered.number (ap (λ ps. port_at ps (port_of op)) (sym same_ports) ∙ answered.at);
          }

      -- an answer is taken
      module _ (op : Op) (at : slice_get script (length own) ≡ Some op) (longer : length own_after ≡ length own + 1) (taken : ports_after ≡ with_posted (set ports (port_of op) Idle) behind)
          (waits : waiting_then ≡ waiting_with waiting i behind) where
        abbrev without : List PortState
        without = set ports (port_of op) Idle

        next_after : (k : ℕ) (other : Op) → IsNextOf scripts calls_after k other → k ≡ i → behind ≡ Some other
        next_after k other next same =
            let s = same_Some next.script script (sym next.of_script ∙ ap (slice_get scripts) same ∙ of_script) in
            let o = same_Some next.own own_after (sym next.of_calls ∙ ap (slice_get calls_after) same ∙ at_own) in
            ap (slice_get script) (sym longer) ∙ ap (λ (x : List Called). slice_get script (length x)) (sym o) ∙ ap (λ x. slice_get x (length next.own)) (sym s) ∙ next.next

        without_long : length without ≡ length ports
        without_long = length-set ports (port_of op) Idle

        -- a port that is none of the component's
        kept : (port : ℕ) → (port_of op ≡ port → ⊥) → ((other : Op) → behind ≡ Some other → port_of other ≡ port → ⊥) → port_at ports_after port ≡ port_at ports port
        kept port apart apart_behind = ap (λ ps. port_at ps port) taken ∙ go behind refl
          where
            go : (o : Option Op) → behind ≡ o → port_at (with_posted without o) port ≡ port_at ports port
            go None e = port_set_other ports (port_of op) port Idle apart
            go (Some other) e = port_set_other without (port_of other) port (Offered (offered_by other)) (apart_behind other e) ∙ port_set_other ports (port_of op) port Idle apart

        kept_other : (k : ℕ) (other : Op) → (k ≡ i → ⊥) → IsNextOf scripts calls k other → port_at ports_after (port_of other) ≡ port_at ports (port_of other)
        kept_other k other apart next =
            kept (port_of other) (λ same. apart (own_port (length own) op at calls k other next (sym same))) (λ x is same. apart (own_port (length own + 1) x is calls k other next (sym same)))

        posted_behind : (other : Op) → behind ≡ Some other → port_at ports_after (port_of other) ≡ Offered (offered_by other)
        posted_behind other e =
            ap (λ ps. port_at ps (port_of other)) (taken ∙ ap (with_posted without) e)
            ∙ port_set_same without (port_of other) (Offered (offered_by other)) (omega (arith, op_port (length own + 1) other e, without_long))

        -- a port of the component's operation that was answered
        idle_there : port_at without (port_of op) ≡ Idle
        idle_there = port_set_same ports (port_of op) Idle (op_port (length own) op at)

        idle_after : (port : ℕ) → IsFree scripts calls_after port → port_at ports_after port ≡ Idle
        idle_after port free = ap (λ ps. port_at ps port) taken ∙ go behind refl
          where
            before : port_at without port ≡ Idle
            before =
                ⊎_elim
                (λ same. subst (λ q. port_at without q ≡ Idle) same idle_there)
                (λ apart. port_set_other ports (port_of op) port Idle apart
                ∙ are_open.idle port (λ k other next is. ⊎_elim
                (λ same. apart (ap port_of (same_Some op other (sym at ∙ next_own k other next same)) ∙ is))
                (λ differ. free k other (other_later k other differ next) is)
                (cases_eq k i)))
                (cases_eq (port_of op) port)

            go : (o : Option Op) → behind ≡ o → port_at (with_posted without o) port ≡ Idle
            go None e = before
            go (Some other) e =
                port_set_other without (port_of other) port (Offered (offered_by other))
                (λ is. free i other (record { script = script; own = own_after; of_script = of_script; of_calls = at_own; next = ap (slice_get script) longer ∙ e }) is) ∙ before

        open_then : (k : ℕ) (other : Op) → IsNextOf scripts calls_after k other → (port_at ports_after (port_of other) ≡ Offered (offered_by other)) ⊎ IsAnswered ports_after (port_of other)
        open_then k other next =
            ⊎_elim
            (λ same. inl (posted_behind other (next_after k other next same)))
            (λ apart.
            let before = other_next k other apart next in
            let stays = kept_other k other apart before in
            ⊎_elim (λ offered. inl (stays ∙ offered)) (λ answered. inr (record { value = answered.value; number = answered.number; at = stays ∙ answered.at })) (are_open.open_there k other before))
            (cases_eq k i)

        -- no answer is there that was not
        fewer : (port : ℕ) → IsAnswered ports_after port → IsAnswered ports port
        fewer port answered = by_behind behind refl
          where
            read : (o : Option Op) → behind ≡ o → port_at (with_posted without o) port ≡ Answered answered.value answered.number
            read o e = sym (ap (λ ps. port_at ps port) (taken ∙ ap (with_posted without) e)) ∙ answered.at

            by_without : port_at without port ≡ Answered answered.value answered.number → IsAnswered ports port
            by_without is =
                ⊎_elim
                (λ same. absurd (let clash : Idle ≡ Answered answered.value answered.number = sym idle_there ∙ ap (port_at without) same ∙ is in cc))
                (λ apart. record { value = answered.value; number = answered.number; at = sym (port_set_other ports (port_of op) port Idle apart) ∙ is })
                (cases_eq (port_of op) port)

            by_behind : (o : Option Op) → behind ≡ o → IsAnswered ports port
            by_behind None e = by_without (read None e)
            by_behind (Some other) e =
                ⊎_elim
                (λ same. absurd (let clash : Offered (offered_by other) ≡ Answered answered.value answered.number = sym (posted_behind other e) ∙ ap (port_at ports_after) same ∙ answered.at in cc))
                (λ apart. by_without (sym (port_set_other without (port_of other) port (Offered (offered_by other)) apart) ∙ read (Some other) e))
                (cases_eq (port_of other) port)

        cleared : IsAnswered ports_after (port_of op) → ⊥
        cleared answered = by_behind behind refl
          where
            by_behind : (o : Option Op) → behind ≡ o → ⊥
            by_behind None e =
                let clash : Idle ≡ Answered answered.value answered.number = sym idle_there ∙ sym (ap (λ ps. port_at ps (port_of op)) (taken ∙ ap (with_posted without) e)) ∙ answered.at in cc
            by_behind (Some other) e =
                ⊎_elim
                (λ same. let clash : Offered (offered_by other) ≡ Answered answered.value answered.number = sym (posted_behind other e) ∙ ap (port_at ports_after) same ∙ answered.at in cc)
                (λ apart.
                let clash : Idle ≡ Answered answered.value answered.number =
                sym idle_there ∙ sym (port_set_other without (port_of other) (port_of op) (Offered (offered_by other)) apart) ∙ sym (ap (λ ps. port_at ps (port_of op)) (taken ∙ ap (with_posted without) e)) ∙ answered.at in cc)
                (cases_eq (port_of other) (port_of op))

        made_after : calls_by ports_after (slice_get script (length own_after)) ≡ []
        made_after = ap (λ n. calls_by ports_after (slice_get script n)) longer ∙ go behind refl
          where
            go : (o : Option Op) → behind ≡ o → calls_by ports_after o ≡ []
            go None e = refl
            go (Some other) e =
                let made : (Value × ℕ) → Called = λ answer. record { op = other; value = answer.0; number = answer.1 } in
                ap (λ state. option_to_list (option_map made (answer_of state))) (posted_behind other e)

        made_others : (k : ℕ) (other_script : List Op) (other_own : List Called) → (k ≡ i → ⊥) → slice_get scripts k ≡ Some other_script → slice_get calls k ≡ Some other_own
            → calls_by ports_after (slice_get other_script (length other_own)) ≡ calls_by ports (slice_get other_script (length other_own))
        made_others k other_script other_own apart of_other of_own = go (slice_get other_script (length other_own)) refl
          where
            go : (o : Option Op) → slice_get other_script (length other_own) ≡ o → calls_by ports_after o ≡ calls_by ports o
            go None e = refl
            go (Some other) e =
                let made : (Value × ℕ) → Called = λ answer. record { op = other; value = answer.0; number = answer.1 } in
                ap (λ state. option_to_list (option_map made (answer_of state))) (kept_other k other apart (record { script = other_script; own = other_own; of_script = of_other; of_calls = of_own; next = e }))

        same_collected : collected scripts ports_after calls_after ≡ collected scripts ports calls
        same_collected =
            same_by_places [] (collected scripts ports_after calls_after) (collected scripts ports calls)
            (length-collected scripts ports_after calls_after (length-set calls i own_after ∙ as_many) ∙ sym (length-collected scripts ports calls as_many))
            (λ k below. at_place k (omega (arith, below, length-collected scripts ports_after calls_after (length-set calls i own_after ∙ as_many))))
          where
            at_place : (k : ℕ) → k < length scripts → slice_get (collected scripts ports_after calls_after) k ≡ slice_get (collected scripts ports calls) k
            at_place k below =
                ⊎_elim
                (λ same. subst (λ n. slice_get (collected scripts ports_after calls_after) n ≡ slice_get (collected scripts ports calls) n) (sym same)
                (collected_at scripts ports_after calls_after i script own_after of_script at_own ∙ ap (λ xs. Some (own_after ++ xs)) made_after ∙ ap Some (append_none own_after ∙ is_own)
                ∙ sym (collected_at scripts ports calls i script own of_script of_calls)))
                (λ apart.
                let script_there = slice_get_found scripts k below in
                let own_there = slice_get_found calls k (omega (arith, below, as_many)) in
                collected_at scripts ports_after calls_after k script_there.0 own_there.0 script_there.1 (at_others k apart ∙ own_there.1)
                ∙ ap (λ xs. Some (own_there.0 ++ xs)) (made_others k script_there.0 own_there.0 apart script_there.1 own_there.1)
                ∙ sym (collected_at scripts ports calls k script_there.0 own_there.0 script_there.1 own_there.1))
                (cases_eq k i)

        knows_then : Knows scripts calls_after waiting_then
        knows_then k other next = ap (λ ws. slice_get ws (port_of other)) waits ∙ go behind refl
          where
            go : (o : Option Op) → behind ≡ o → slice_get (waiting_with waiting i o) (port_of other) ≡ Some k
            go None e =
                ⊎_elim
                (λ same. absurd (let clash : None ≡ Some other = sym e ∙ next_after k other next same in cc))
                (λ apart. knows k other (other_next k other apart next))
                (cases_eq k i)
            go (Some x) e =
                ⊎_elim
                (λ same.
                let is = same_Some x other (sym e ∙ next_after k other next same) in
                ap (λ p. slice_get (set waiting (port_of x) i) p) (ap port_of (sym is)) ∙ set_same waiting (port_of x) i (omega (arith, op_port (length own + 1) x e, long, waiting_long)) ∙ ap Some (sym same))
                (λ apart.
                let before = other_next k other apart next in
                set_other waiting (port_of x) (port_of other) i (λ is. apart (own_port (length own + 1) x e calls k other before (sym is))) ∙ knows k other before)
                (cases_eq k i)

        answered_then : Then
        answered_then = record {
          collected = record {
            as_many = length-set calls i own_after;
            ports_long = ap length taken ∙ long_after behind;
            are_open = record { open_there = open_then; idle = idle_after };
            same = same_collected;
            fewer = fewer;
          };
          knows = knows_then;
          waiting_long = ap length waits ∙ long_waiting waiting i behind;
          cleared = λ other is answered. cleared (subst (λ x. IsAnswered ports_after (port_of x)) (same_Some other op (sym is ∙ at)) answered);
        }
          where
            long_after : (o : Option Op) → length (with_posted without o) ≡ length ports
            long_after None = without_long
            long_after (Some other) = length-set without (port_of other) (Offered (offered_by other)) ∙ without_long

      pub collect_one : Then
      collect_one = go (slice_get script (length own)) refl
        where
          go : (o : Option Op) → slice_get script (length own) ≡ o → Then
          go None e =
              unanswered (is_own ∙ ap (λ o. own ++ calls_by ports o) e ∙ append_none own) (are_ports ∙ ap (λ o. after_own ports o behind) e) (are_waiting ∙ ap (λ o. waiting_own ports waiting i o behind) e)
              (λ op at. absurd (let clash : None ≡ Some op = sym e ∙ at in cc))
          go (Some op) e = by_answer (answer_of (port_at ports (port_of op))) refl
            where
              made : (Value × ℕ) → Called
              made answer = record { op = op; value = answer.0; number = answer.1 }

              by_answer : (answer : Option (Value × ℕ)) → answer_of (port_at ports (port_of op)) ≡ answer → Then
              by_answer None none =
                  unanswered (is_own ∙ ap (λ o. own ++ calls_by ports o) e ∙ ap (λ a. own ++ option_to_list (option_map made a)) none ∙ append_none own)
                  (are_ports ∙ ap (λ o. after_own ports o behind) e ∙ ap (after_answer ports op behind) none)
                  (are_waiting ∙ ap (λ o. waiting_own ports waiting i o behind) e ∙ ap (waiting_after waiting i behind) none)
                  (λ other at. ap (λ x. answer_of (port_at ports (port_of x))) (same_Some other op (sym at ∙ e)) ∙ none)
              by_answer (Some answer) some =
                  answered_then op e
                  (ap length (is_own ∙ ap (λ o. own ++ calls_by ports o) e ∙ ap (λ a. own ++ option_to_list (option_map made a)) some) ∙ length-append own (made answer ∷ []))
                  (are_ports ∙ ap (λ o. after_own ports o behind) e ∙ ap (after_answer ports op behind) some)
                  (are_waiting ∙ ap (λ o. waiting_own ports waiting i o behind) e ∙ ap (waiting_after waiting i behind) some)

-- where no answer is left, all that is next is offered
pub all_posted : (scripts : List (List Op)) (calls : List (List Called)) (ports : List PortState) → AreOpen scripts calls ports → ((port : ℕ) → IsAnswered ports port → ⊥) → ArePosted scripts calls ports
all_posted scripts calls ports are_open none = record {
  posted = λ k op next. ⊎_elim (λ offered. offered) (λ answered. absurd (none (port_of op) answered)) (are_open.open_there k op next);
  idle = are_open.idle;
}

-- no answer stands where all that is next is offered
pub none_answered : (scripts : List (List Op)) (calls : List (List Called)) (ports : List PortState) → ArePosted scripts calls ports → (port : ℕ) → IsAnswered ports port → ⊥
none_answered scripts calls ports posted port answered =
    let free : IsFree scripts calls port = λ k op next is.
    let clash : Offered (offered_by op) ≡ Answered answered.value answered.number = sym (posted.posted k op next) ∙ ap (port_at ports) is ∙ answered.at in cc in
    let clash : Idle ≡ Answered answered.value answered.number = sym (posted.idle port free) ∙ answered.at in cc

-- where the next operations are offered, no answer is there to take
nothing_taken : (ports : List PortState) (scripts : List (List Op)) (calls : List (List Called)) → length scripts ≡ length calls → ((k : ℕ) (op : Op) → IsNextOf scripts calls k op → call_by ports op ≡ None) → calls ≡ collected scripts ports calls
nothing_taken ports [] [] count each = refl
nothing_taken ports [] (own ∷ calls) count each = absurd (omega (arith, count))
nothing_taken ports (script ∷ scripts) [] count each = absurd (omega (arith, count))
nothing_taken ports (script ∷ scripts) (own ∷ calls) count each =
    ap (λ cs. own ∷ cs)
    (nothing_taken ports scripts calls (omega (arith, count)) (λ k op next. each (suc k) op (record { script = next.script; own = next.own; of_script = next.of_script; of_calls = next.of_calls; next = next.next })))
    ∙ ap (λ xs. xs ∷ collected scripts ports calls) (sym (append_none own) ∙ ap (λ xs. own ++ xs) (sym (go (slice_get script (length own)) refl)))
  where
    go : (o : Option Op) → slice_get script (length own) ≡ o → calls_by ports o ≡ []
    go None e = refl
    go (Some op) e = ap option_to_list (each 0 op (record { script = script; own = own; of_script = refl; of_calls = refl; next = e }))

pub nothing_to_collect : (ports : List PortState) (scripts : List (List Op)) (calls : List (List Called)) → length calls ≡ length scripts → ArePosted scripts calls ports → calls ≡ collected scripts ports calls
nothing_to_collect ports scripts calls count posted =
    nothing_taken ports scripts calls (sym count)
    (λ k op next.
    let from_answer : (Value × ℕ) → Called = λ answer. record { op = op; value = answer.0; number = answer.1 } in
    ap (λ s. option_map from_answer (answer_of s)) (posted.posted k op next))
