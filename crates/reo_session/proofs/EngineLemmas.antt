-- An engine whose ports change.
use Rattle.std.proofs.Common.{◌≡◌, ℕ, ◌+◌, List, [], ◌∷◌, ◌++◌, length, slice_get, Option, Some, None, refl, sym, ap, ◌∙◌}
use Rattle.std.specs.Option.{IsSome, option_map, option_to_list}
use Rattle.std.proofs.lemmas.Bool.{false≢true}
use Rattle.reo_value.specs.declared.value.Value.{Value}
use Rattle.reo_value.specs.declared.op.Op.{Op}
use Rattle.reo_value.specs.declared.op.Op.TheVariants as op
use Rattle.reo_value.specs.declared.op.Way.{Way}
use Rattle.reo_value.specs.declared.op.Way.TheVariants.{Put, Get}
use Rattle.reo_value.specs.Op.{port_of, way_of}
use Rattle.reo_fabric.specs.declared.port_state.PortState.{PortState}
use Rattle.reo_fabric.specs.declared.port_state.PortState.TheVariants.{Idle, Offered, Answered}
use Rattle.reo_fabric.specs.Engine.{EngineState, port_at, answer_of, with_port, without_answer, taken_answer}
use Rattle.reo_trace.specs.declared.report.Called.{Called}
use Rattle.reo_schedule.specs.Offers.{offered_by}
use Rattle.reo_session.specs.Posted.{WithPorts, calls_by, with_posted, after_answer, after_own}

-- a put offers a value, a get none
pub way_offers : (o : Op) (way : Way) → way ≡ way_of o → (way ≡ Put → IsSome (offered_by o)) × (IsSome (offered_by o) → way ≡ Put)
way_offers (op.Put port value) way is = (λ put. refl, λ some. is)
way_offers (op.Get port) way is = (λ put. absurd (let clash : Get ≡ Put = sym is ∙ put in cc), λ some. absurd (false≢true some))

module _ {D : Type 0} (engine : EngineState D) (port : ℕ) where
  pub taken_some : (value : Value) (number : ℕ) → answer_of (port_at engine.ports port) ≡ Some (value, number) → taken_answer engine port ≡ with_port engine port Idle
  taken_some value number is = go (port_at engine.ports port) is
    where
      go : (state : PortState) → answer_of state ≡ Some (value, number) → without_answer engine port state ≡ with_port engine port Idle
      go Idle e = absurd (let clash : None ≡ Some (value, number) = e in cc)
      go (Offered offer) e = absurd (let clash : None ≡ Some (value, number) = e in cc)
      go (Answered v n) e = refl

  pub taken_none : answer_of (port_at engine.ports port) ≡ None → taken_answer engine port ≡ engine
  taken_none is = go (port_at engine.ports port) is
    where
      go : (state : PortState) → answer_of state ≡ None → without_answer engine port state ≡ engine
      go Idle e = refl
      go (Offered offer) e = refl
      go (Answered v n) e = absurd (let clash : None ≡ Some (v, n) = sym e in cc)

append_none : (xs : List Called) → xs ++ [] ≡ xs
append_none [] = refl
append_none (x ∷ xs) = ap (λ ys. x ∷ ys) (append_none xs)

-- what one component collects
module _ {D : Type 0} (engine : EngineState D) (own : List Called) (script : List Op) where
  abbrev next : Option Op
  next = slice_get script (length own)

  abbrev behind : Option Op
  behind = slice_get script (length own + 1)

  pub over_own : next ≡ None → own ≡ own ++ calls_by engine.ports next
  over_own is = sym (ap (λ o. own ++ calls_by engine.ports o) is ∙ append_none own)

  pub over_engine : next ≡ None → WithPorts engine engine (after_own engine.ports next behind)
  over_engine is = ap (λ o. record engine { ports = after_own engine.ports o behind }) (sym is)

  module _ (o : Op) (is : next ≡ Some o) where
    made : (Value × ℕ) → Called
    made answer = record { op = o; value = answer.0; number = answer.1 }

    pub none_own : answer_of (port_at engine.ports (port_of o)) ≡ None → own ≡ own ++ calls_by engine.ports next
    unfolding made
    none_own none = sym (ap (λ x. own ++ calls_by engine.ports x) is ∙ ap (λ a. own ++ option_to_list (option_map made a)) none ∙ append_none own)

    pub none_engine : (after : EngineState D) → after ≡ taken_answer engine (port_of o) → answer_of (port_at engine.ports (port_of o)) ≡ None → WithPorts engine after (after_own engine.ports next behind)
    none_engine after taken none =
        taken ∙ taken_none engine (port_of o) none ∙ sym (ap (λ x. record engine { ports = after_own engine.ports x behind }) is ∙ ap (λ a. record engine { ports = after_answer engine.ports o behind a }) none)

    module _ (value : Value) (number : ℕ) (some : answer_of (port_at engine.ports (port_of o)) ≡ Some (value, number)) where
      pub some_own : (new : List Called) → new ≡ own ++ record { op = o; value = value; number = number } ∷ [] → new ≡ own ++ calls_by engine.ports next
      unfolding made
      some_own new e = e ∙ sym (ap (λ x. own ++ calls_by engine.ports x) is ∙ ap (λ a. own ++ option_to_list (option_map made a)) some)

      pub some_engine : (taken after : EngineState D) → taken ≡ taken_answer engine (port_of o) → WithPorts taken after (with_posted taken.ports behind) → WithPorts engine after (after_own engine.ports next behind)
      some_engine taken after is_taken posted =
          let before = is_taken ∙ taken_some engine (port_of o) value number some in
          posted ∙ ap (λ (e : EngineState D). record e { ports = with_posted e.ports behind }) before
          ∙ sym (ap (λ x. record engine { ports = after_own engine.ports x behind }) is ∙ ap (λ a. record engine { ports = after_answer engine.ports o behind a }) some)
