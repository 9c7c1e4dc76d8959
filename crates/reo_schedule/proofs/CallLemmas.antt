-- The calls after one step more.
use Rattle.std.proofs.Common.{◌≡◌, ℕ, zero, suc, ◌+◌, ◌⊎◌, inl, inr, ⊎_elim, List, [], ◌∷◌, ◌++◌, length, map, slice_get, Option, Some, None, refl, sym, ap, ◌∙◌, subst, arith}
use Rattle.std.specs.Option.{option_map, option_to_list}
use Rattle.std.proofs.lemmas.Option.{same_Some}
use Rattle.std.proofs.lemmas.List.{map-append, length-map}
use Rattle.reo_value.specs.declared.value.Value.{Value}
use Rattle.reo_value.specs.declared.op.Op.{Op}
use Rattle.reo_value.specs.Op.{port_of}
use Rattle.reo_net.specs.declared.circuit.RawCircuit.{RawCircuit}
use Rattle.reo_net.specs.declared.circuit.Step.{Step}
use Rattle.reo_net.specs.Steps.{State, datum}
use Rattle.reo_net.specs.Runs.{initial_state}
use Rattle.reo_fabric.specs.declared.entry.Entry.{Entry}
use Rattle.reo_fabric.specs.Entry.{carried_out}
use Rattle.reo_fabric.specs.History.{state_after}
use Rattle.reo_trace.specs.declared.report.Called.{Called}
use Rattle.reo_schedule.specs.Calls.{answer_next, calls_with, calls_from, calls_of}
use Rattle.reo_schedule.specs.Turn.{Turn, entries_of, steps_of, state_of, place_of}
use Rattle.reo_schedule.specs.UnderWay.{Led}
use Rattle.reo_schedule.specs.Plain.{Follows}

-- places after a push
pub push_old : {X : Type 0} (xs : List X) (y : X) (i : ℕ) (x : X) → slice_get xs i ≡ Some x → slice_get (xs ++ y ∷ []) i ≡ Some x
push_old [] y i x e = cc
push_old (z ∷ xs) y zero x e = e
push_old (z ∷ xs) y (suc i) x e = push_old xs y i x e

pub push_last : {X : Type 0} (xs : List X) (y : X) → slice_get (xs ++ y ∷ []) (length xs) ≡ Some y
push_last [] y = refl
push_last (z ∷ xs) y = push_last xs y

pub push_cases : {X : Type 0} (xs : List X) (y : X) (i : ℕ) (x : X) → slice_get (xs ++ y ∷ []) i ≡ Some x → (slice_get xs i ≡ Some x) ⊎ ((i ≡ length xs) × (y ≡ x))
push_cases [] y zero x e = inr (refl, same_Some y x e)
push_cases [] y (suc i) x e = cc
push_cases (z ∷ xs) y zero x e = inl e
push_cases (z ∷ xs) y (suc i) x e = ⊎_elim (λ old. inl old) (λ new. inr (ap suc new.0, new.1)) (push_cases xs y i x e)

-- one turn more
module _ (scripts : List (List Op)) where
  from_more : (number : ℕ) (calls : List (List Called)) (steps : List Step) (step : Step) → calls_from scripts number calls (steps ++ step ∷ []) ≡ calls_with scripts step (number + length steps) (calls_from scripts number calls steps)
  from_more number calls [] step = ap (λ n. calls_with scripts step n calls) (let e : number ≡ number + 0 = omega arith in e)
  from_more number calls (first ∷ steps) step =
      from_more (number + 1) (calls_with scripts first number calls) steps step
      ∙ ap (λ n. calls_with scripts step n (calls_from scripts (number + 1) (calls_with scripts first number calls) steps)) (let e : number + 1 + length steps ≡ number + suc (length steps) = omega arith in e)

  pub calls_more : (steps : List Step) (step : Step) → calls_of scripts (steps ++ step ∷ []) ≡ calls_with scripts step (length steps) (calls_of scripts steps)
  calls_more steps step = from_more 0 (map (λ script. []) scripts) steps step ∙ ap (λ n. calls_with scripts step n (calls_of scripts steps)) (let e : 0 + length steps ≡ length steps = omega arith in e)

state_more : (state : State) (entries : List Entry) (entry : Entry) → state_after state (entries ++ entry ∷ []) ≡ carried_out (state_after state entries) entry
state_more state [] entry = refl
state_more state (first ∷ entries) entry = state_more (carried_out state first) entries entry

pub steps_turn : (turns : List Turn) (turn : Turn) → steps_of (turns ++ turn ∷ []) ≡ steps_of turns ++ turn.step ∷ []
steps_turn turns turn = map-append (λ (t : Turn). t.step) turns (turn ∷ [])

pub state_turn : (c : RawCircuit) (turns : List Turn) (turn : Turn) → state_of c (turns ++ turn ∷ []) ≡ carried_out (state_of c turns) turn.entry
state_turn c turns turn =
    ap (state_after (initial_state c)) (map-append (λ (t : Turn). t.entry) turns (turn ∷ [])) ∙ state_more (initial_state c) (entries_of turns) turn.entry

pub calls_turn : (scripts : List (List Op)) (turns : List Turn) (turn : Turn) → calls_of scripts (steps_of (turns ++ turn ∷ [])) ≡ calls_with scripts turn.step (length turns) (calls_of scripts (steps_of turns))
calls_turn scripts turns turn =
    ap (calls_of scripts) (steps_turn turns turn) ∙ calls_more scripts (steps_of turns) turn.step
    ∙ ap (λ n. calls_with scripts turn.step n (calls_of scripts (steps_of turns))) (length-map turns (λ (t : Turn). t.step))

pub place_turn : (turns : List Turn) (turn : Turn) → place_of (turns ++ turn ∷ []) ≡ turn.entry.region + 1
place_turn [] turn = refl
place_turn (first ∷ []) turn = refl
place_turn (first ∷ (next ∷ turns)) turn = place_turn (next ∷ turns) turn

module _ {A : Type 0} (Next : List A → A → Type 0) where
  push_empty : (before : List A) → before ++ [] ≡ before
  push_empty [] = refl
  push_empty (x ∷ xs) = ap (λ ys. x ∷ ys) (push_empty xs)

  push_over : (before : List A) (x : A) (xs : List A) → (before ++ x ∷ []) ++ xs ≡ before ++ x ∷ xs
  push_over [] x xs = refl
  push_over (y ∷ before) x xs = ap (λ ys. y ∷ ys) (push_over before x xs)

  pub led_more : (before xs : List A) (x : A) → Led Next before xs → Next (before ++ xs) x → Led Next before (xs ++ x ∷ [])
  led_more before [] x led next = (subst (λ b. Next b x) (push_empty before) next, tt)
  led_more before (y ∷ xs) x led next = (led.0, led_more (before ++ y ∷ []) xs x led.1 (subst (λ b. Next b x) (sym (push_over before y xs)) next))

  pub led_follows : (before xs : List A) → Led Next before xs → ((x : A) → Next (before ++ xs) x → ⊥) → Follows Next before xs
  led_follows before [] led end = λ x next. end x (subst (λ b. Next b x) (sym (push_empty before)) next)
  led_follows before (y ∷ xs) led end = (led.0, led_follows (before ++ y ∷ []) xs led.1 (λ x next. end x (subst (λ b. Next b x) (push_over before y xs) next)))

-- the calls of one component
module _ (step : Step) (number : ℕ) where
  pub calls_long : (scripts : List (List Op)) (calls : List (List Called)) → length calls ≡ length scripts → length (calls_with scripts step number calls) ≡ length scripts
  calls_long [] calls long = refl
  calls_long (script ∷ scripts) [] long = long
  calls_long (script ∷ scripts) (own ∷ calls) long = ap suc (calls_long scripts calls (omega (arith, long)))

  pub own_with : (scripts : List (List Op)) (calls : List (List Called)) (k : ℕ) (script : List Op) (own : List Called) → slice_get scripts k ≡ Some script → slice_get calls k ≡ Some own
      → slice_get (calls_with scripts step number calls) k ≡ Some (own ++ answer_next step number (slice_get script (length own)))
  own_with [] calls k script own of_script of_calls = cc
  own_with (s ∷ scripts) [] k script own of_script of_calls = cc
  own_with (s ∷ scripts) (o ∷ calls) zero script own of_script of_calls =
      ap (λ x. Some (o ++ answer_next step number (slice_get x (length o)))) (same_Some s script of_script) ∙ ap (λ x. Some (x ++ answer_next step number (slice_get script (length x)))) (same_Some o own of_calls)
  own_with (s ∷ scripts) (o ∷ calls) (suc k) script own of_script of_calls = own_with scripts calls k script own of_script of_calls

  pub own_given : (scripts : List (List Op)) (calls : List (List Called)) (k : ℕ) (after : List Called) → length calls ≡ length scripts → slice_get (calls_with scripts step number calls) k ≡ Some after
      → (script : List Op) × (own : List Called) × (slice_get scripts k ≡ Some script) × (slice_get calls k ≡ Some own) × (own ++ answer_next step number (slice_get script (length own)) ≡ after)
  own_given [] [] k after long at = cc
  own_given [] (o ∷ calls) k after long at = absurd (omega (arith, long))
  own_given (s ∷ scripts) [] k after long at = absurd (omega (arith, long))
  own_given (s ∷ scripts) (o ∷ calls) zero after long at = (s, o, refl, refl, same_Some (o ++ answer_next step number (slice_get s (length o))) after at)
  own_given (s ∷ scripts) (o ∷ calls) (suc k) after long at = own_given scripts calls k after (omega (arith, long)) at

-- an answer is of the next operation
pub record IsAnswer (step : Step) (number : ℕ) (next : Option Op) (call : Called) : Type 0 where
  pub op : Op
  pub is_next : next ≡ Some op
  pub value : Value
  pub fired : datum step (port_of op) ≡ Some value
  pub is : record { op = op; value = value; number = number } ≡ call

pub answer_cases : (step : Step) (number : ℕ) (next : Option Op) → (answer_next step number next ≡ []) ⊎ ((call : Called) × (answer_next step number next ≡ call ∷ []) × IsAnswer step number next call)
answer_cases step number None = inl refl
answer_cases step number (Some op) = go (datum step (port_of op)) refl
  where
    go : (o : Option Value) → datum step (port_of op) ≡ o
        → (answer_next step number (Some op) ≡ []) ⊎ ((call : Called) × (answer_next step number (Some op) ≡ call ∷ []) × IsAnswer step number (Some op) call)
    go None e =
        let made : Value → Called = λ v. record { op = op; value = v; number = number } in
        inl (ap (λ o. option_to_list (option_map made o)) e)
    go (Some value) e =
        let made : Value → Called = λ v. record { op = op; value = v; number = number } in
        inr (made value, ap (λ o. option_to_list (option_map made o)) e, record { op = op; is_next = refl; value = value; fired = e; is = refl })

pub answer_made : (step : Step) (number : ℕ) (op : Op) (value : Value) → datum step (port_of op) ≡ Some value → answer_next step number (Some op) ≡ record { op = op; value = value; number = number } ∷ []
answer_made step number op value e =
    let made : Value → Called = λ v. record { op = op; value = v; number = number } in
    ap (λ o. option_to_list (option_map made o)) e
