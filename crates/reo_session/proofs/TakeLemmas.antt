-- The answers of an entry are taken.
use Rattle.std.proofs.Common.{◌≡◌, ℕ, ◌+◌, ◌<◌, ◌++◌, List, [], ◌∷◌, length, take, slice_get, get_or, set, Option, Some, None, refl, sym, ap, ◌∙◌, subst}
use Rattle.std.specs.Prelude.{All}
use Rattle.std.proofs.lemmas.List.{take_more}
use Rattle.std.proofs.lemmas.List.Elements.{All-append}
use Rattle.std.proofs.lemmas.Option.{same_Some, slice_get_within}
use Rattle.reo_value.specs.declared.value.Value.{Value}
use Rattle.reo_value.specs.declared.op.Op.{Op}
use Rattle.reo_fabric.specs.declared.entry.Entry.{Entry}
use Rattle.reo_fabric.specs.declared.port_state.PortState.TheVariants.{Idle, Answered}
use Rattle.reo_fabric.specs.Entry.{at_place}
use Rattle.reo_fabric.specs.declared.reading.Reading.{Reading}
use Rattle.reo_fabric.specs.Engine.{EngineState, after_entry}
use Rattle.reo_fabric.proofs.PlaceLemmas.{at_place_holds}
use Rattle.reo_trace.specs.declared.report.Called.{Called}
use Rattle.reo_session.specs.declared.watch.Watch.{Watch}
use Rattle.reo_session.specs.Posted.{AreOpen, ArePosted, IsAnswered, IsFree, ScriptsFitFabric, WithPorts, after_own, calls_by, collected, waiting_own, MayCollect}
use Rattle.reo_session.specs.Watch.{AreAnsweredAt, AsleepAreQuiet, HasPlacesOf, IsWatch, IsWatching, KeepsAsleep, Knows, MayTake, TakesAnswers, WakesFor}
use Rattle.reo_session.proofs.CollectLemmas.{OneCollected, collected_none, collected_more, may_collect, collect_one, all_posted, nothing_to_collect}
use Rattle.reo_session.proofs.WakeLemmas.{all_one}
use Rattle.reo_session.proofs.WatchLemmas.{still_watch, same_places, more_places, quiet_then}

module _ {D : Type 0} (scripts : List (List Op)) where
  pub takes_none : (engine : EngineState D) (watch : Watch) (calls : List (List Called)) → MayTake scripts engine watch calls → TakesAnswers scripts engine watch calls engine watch calls
  takes_none engine watch calls may = record {
    collected = collected_none scripts engine.ports calls may.are_open;
    engine = refl;
    places = same_places watch;
    waiting = refl;
    knows = may.knows;
    asleep = λ region asleep. (asleep, refl);
  }

  pub takes_more : (old middle new : EngineState D) (was between watch : Watch) (calls some later : List (List Called))
      → TakesAnswers scripts old was calls middle between some → TakesAnswers scripts middle between some new watch later → TakesAnswers scripts old was calls new watch later
  takes_more old middle new was between watch calls some later first second = record {
    collected = collected_more scripts old.ports middle.ports new.ports calls some later first.collected second.collected;
    engine = second.engine ∙ ap (λ (e : EngineState D). record e { ports = new.ports }) first.engine;
    places = more_places was between watch first.places second.places;
    waiting = second.waiting ∙ first.waiting;
    knows = second.knows;
    asleep = λ region asleep.
        let then = second.asleep region asleep in
        let before = first.asleep region then.0 in
        (before.0, then.1 ∙ before.1);
  }

  module _ (old new : EngineState D) (was watch : Watch) (calls later : List (List Called)) (may : MayTake scripts old was calls) (takes : TakesAnswers scripts old was calls new watch later) where
    pub fabric_stays : new.fabric ≡ old.fabric
    fabric_stays = ap (λ (e : EngineState D). e.fabric) takes.engine

    pub may_still : MayTake scripts new watch later
    may_still = record {
      as_many = takes.collected.as_many ∙ may.as_many;
      fit = subst (λ f. ScriptsFitFabric f scripts) (sym fabric_stays) may.fit;
      long = takes.collected.ports_long ∙ may.long ∙ ap (λ f. length f.ports) (sym fabric_stays);
      are_open = takes.collected.are_open;
      is_watch = subst (λ f. IsWatch f watch) (sym fabric_stays) (still_watch old.fabric was watch may.is_watch takes.places);
      waiting = takes.waiting ∙ may.waiting ∙ ap (λ f. length f.ports) (sym fabric_stays);
      knows = takes.knows;
    }

  module _ (engine : EngineState D) (watch : Watch) (calls : List (List Called)) (may : MayTake scripts engine watch calls) where
    -- only who waits at a port has an answer there
    pub nobody_there : (port : ℕ) → ((k : ℕ) → slice_get watch.waiting.items port ≡ Some k → k < length scripts → ⊥) → IsAnswered engine.ports port → ⊥
    nobody_there port none answered =
        let free : IsFree scripts calls port = λ k op next is.
        none k (ap (slice_get watch.waiting.items) (sym is) ∙ may.knows k op next) (slice_get_within scripts k next.script next.of_script) in
        let clash : Idle ≡ Answered answered.value answered.number = sym (may.are_open.idle port free) ∙ answered.at in cc

    module _ (i : ℕ) (script : List Op) (own : List Called) (of_script : slice_get scripts i ≡ Some script) (of_calls : slice_get calls i ≡ Some own) where
      pub may_own : MayCollect engine.fabric engine.ports (slice_get script (length own)) (slice_get script (length own + 1))
      may_own = may_collect engine.fabric scripts may.fit engine.ports calls may.as_many may.long may.are_open i script own of_script of_calls

      module _ (own_after : List Called) (new : EngineState D) (later : Watch) (is_own : own_after ≡ own ++ calls_by engine.ports (slice_get script (length own)))
          (is_new : WithPorts engine new (after_own engine.ports (slice_get script (length own)) (slice_get script (length own + 1)))) (places : HasPlacesOf watch later)
          (waits : later.waiting.items ≡ waiting_own engine.ports watch.waiting.items i (slice_get script (length own)) (slice_get script (length own + 1)))
          (asleep : KeepsAsleep engine watch.awake.items new later.awake.items) where
        ports_are : new.ports ≡ after_own engine.ports (slice_get script (length own)) (slice_get script (length own + 1))
        ports_are = ap (λ (e : EngineState D). e.ports) is_new

        one : OneCollected scripts engine.ports calls (slice_get script (length own)) watch.waiting.items new.ports (set calls i own_after) later.waiting.items
        one = collect_one engine.fabric scripts may.fit engine.ports calls may.as_many may.long may.are_open i script own of_script of_calls own_after new.ports watch.waiting.items later.waiting.items
            is_own ports_are waits may.waiting may.knows

        pub takes_one : TakesAnswers scripts engine watch calls new later (set calls i own_after)
        takes_one = record {
          collected = one.collected;
          engine = is_new ∙ ap (λ ps. record engine { ports = ps }) (sym ports_are);
          places = places;
          waiting = one.waiting_long;
          knows = one.knows;
          asleep = asleep;
        }

        pub clears_one : (port : ℕ) → slice_get watch.waiting.items port ≡ Some i → IsAnswered new.ports port → ⊥
        clears_one port waits_there answered =
            let before = one.collected.fewer port answered in
            let free : IsFree scripts calls port = λ k op next is.
            let same = same_Some k i (sym (may.knows k op next) ∙ ap (slice_get watch.waiting.items) is ∙ waits_there) in
            let s = same_Some next.script script (sym next.of_script ∙ ap (slice_get scripts) same ∙ of_script) in
            let o = same_Some next.own own (sym next.of_calls ∙ ap (slice_get calls) same ∙ of_calls) in
            let its = ap (λ (x : List Called). slice_get script (length x)) (sym o) ∙ ap (λ x. slice_get x (length next.own)) (sym s) ∙ next.next in
            one.cleared op its (subst (IsAnswered new.ports) (sym is) answered) in
            let clash : Idle ≡ Answered before.value before.number = sym (may.are_open.idle port free) ∙ before.at in cc

-- where the answers at all places of an entry are taken, none is left
pub none_left : {D : Type 0} (scripts : List (List Op)) (its_puts its_gets : List (ℕ × Value)) (old middle new : EngineState D) (was between watch : Watch) (calls some later : List (List Called)) → AreAnsweredAt its_puts its_gets old.ports
    → TakesAnswers scripts old was calls middle between some → All (λ place. IsAnswered middle.ports place.0 → ⊥) its_puts
    → TakesAnswers scripts middle between some new watch later → All (λ place. IsAnswered new.ports place.0 → ⊥) its_gets
    → (port : ℕ) → IsAnswered new.ports port → ⊥
none_left scripts its_puts its_gets old middle new was between watch calls some later by_entry first puts second gets port answered = by_put (at_place its_puts port) refl
  where
    before : IsAnswered middle.ports port
    before = second.collected.fewer port answered

    by_get : at_place its_puts port ≡ None → (o : Option Value) → at_place its_gets port ≡ o → ⊥
    by_get no_put None no_get = by_entry port no_put no_get (first.collected.fewer port before)
    by_get no_put (Some value) is = at_place_holds (λ place. IsAnswered new.ports place.0 → ⊥) its_gets port value gets is answered

    by_put : (o : Option Value) → at_place its_puts port ≡ o → ⊥
    by_put None no_put = by_get no_put (at_place its_gets port) refl
    by_put (Some value) is = at_place_holds (λ place. IsAnswered middle.ports place.0 → ⊥) its_puts port value puts is before

-- when an entry was carried out, and the regions of its places woken
pub may_then : {D : Type 0} (scripts : List (List Op)) (old fired : EngineState D) (was woken : Watch) (entry : Entry) (calls : List (List Called)) → fired.fabric ≡ old.fabric → ScriptsFitFabric old.fabric scripts
    → length fired.ports ≡ length old.fabric.ports → length calls ≡ length scripts → AreOpen scripts calls fired.ports → IsWatch old.fabric was → length was.waiting.items ≡ length old.fabric.ports
    → Knows scripts calls was.waiting.items → WakesFor entry was woken → MayTake scripts fired woken calls
may_then scripts old fired was woken entry calls fabric fit long as_many are_open is waiting knows wakes = record {
  as_many = as_many;
  fit = subst (λ f. ScriptsFitFabric f scripts) (sym fabric) fit;
  long = long ∙ ap (λ f. length f.ports) (sym fabric);
  are_open = are_open;
  is_watch = subst (λ f. IsWatch f woken) (sym fabric) (still_watch old.fabric was woken is wakes.places);
  waiting = ap length wakes.waiting ∙ waiting ∙ ap (λ f. length f.ports) (sym fabric);
  knows = subst (Knows scripts calls) (sym wakes.waiting) knows;
}

-- what is known of a run after a turn
pub watching_then : {D : Type 0} (first_choice : ℕ → Reading → Option ℕ) (scripts : List (List Op)) (old fired new : EngineState D) (was woken watch : Watch) (entry : Entry) (calls later : List (List Called))
    → IsWatch old.fabric was → AsleepAreQuiet first_choice old was.awake.items → fired ≡ after_entry old entry → WakesFor entry was woken → MayTake scripts fired woken calls
    → TakesAnswers scripts fired woken calls new watch later → IsWatching first_choice scripts new watch later
watching_then first_choice scripts old fired new was woken watch entry calls later is quiet after wakes may takes =
    let then = may_still scripts fired new woken watch calls later may takes in
    record {
      is_watch = then.is_watch;
      waiting = then.waiting;
      knows = takes.knows;
      quiet = quiet_then first_choice old fired new was woken watch entry is quiet after wakes takes.asleep;
    }

-- the answers at one place more are taken
pub clears_more : {D : Type 0} (scripts : List (List Op)) (old new : EngineState D) (was watch : Watch) (calls later : List (List Called)) (places : List (ℕ × Value)) (i : ℕ) (d : ℕ × Value) → i < length places
    → All (λ place. IsAnswered old.ports place.0 → ⊥) (take i places) → TakesAnswers scripts old was calls new watch later → (IsAnswered new.ports (get_or places i d).0 → ⊥)
    → All (λ place. IsAnswered new.ports place.0 → ⊥) (take (i + 1) places)
clears_more scripts old new was watch calls later places i d within before takes cleared =
    let P : (ℕ × Value) → Type 0 = λ place. IsAnswered new.ports place.0 → ⊥ in
    subst (All P) (sym (take_more places i d within))
    (All-append P (take i places) (get_or places i d ∷ []) (λ k other below answered. before k other below (takes.collected.fewer _ answered)) (all_one P (get_or places i d) cleared))

-- all were
module _ {D : Type 0} (scripts : List (List Op)) (its_puts its_gets : List (ℕ × Value)) (old middle new : EngineState D) (was between watch : Watch) (calls some later : List (List Called)) (may : MayTake scripts old was calls)
    (by_entry : AreAnsweredAt its_puts its_gets old.ports) (first : TakesAnswers scripts old was calls middle between some) (puts : All (λ place. IsAnswered middle.ports place.0 → ⊥) its_puts)
    (second : TakesAnswers scripts middle between some new watch later) (gets : All (λ place. IsAnswered new.ports place.0 → ⊥) its_gets) where
  pub posted_then : ArePosted scripts later new.ports
  posted_then = all_posted scripts later new.ports second.collected.are_open (none_left scripts its_puts its_gets old middle new was between watch calls some later by_entry first puts second gets)

  pub calls_then : later ≡ collected scripts old.ports calls
  calls_then =
      nothing_to_collect new.ports scripts later (second.collected.as_many ∙ first.collected.as_many ∙ may.as_many) posted_then ∙ second.collected.same ∙ first.collected.same
