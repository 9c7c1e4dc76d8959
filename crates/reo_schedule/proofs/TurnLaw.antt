-- A turn more keeps what was done lawful.
use Rattle.std.proofs.Common.{◌≡◌, ℕ, zero, suc, ◌+◌, ◌<◌, ◌≤◌, ◌⊎◌, inl, inr, ⊎_elim, List, [], ◌∷◌, ◌++◌, length, map, slice_get, get_or, take, true, Option, Some, None, is_some, IsTrue, refl, sym, ap, ◌∙◌, subst, arith, length-append}
use Rattle.std.specs.Option.{option_and_then}
use Rattle.std.specs.List.Sorted.{IsStrictlyIncreasing}
use Rattle.std.proofs.lemmas.Bool.{false≢true, cases_lt}
use Rattle.std.proofs.lemmas.Option.{same_Some, slice_get_within, slice_get-get_or, get_or_from_slice_get}
use Rattle.std.proofs.lemmas.List.{map-append, take_more}
use Rattle.std.proofs.lemmas.List.Elements.{All-append, All-cons, All-nil}
use Rattle.reo_value.specs.declared.value.Value.{Value}
use Rattle.reo_value.specs.declared.op.Op.{Op}
use Rattle.reo_value.specs.Op.{port_of}
use Rattle.reo_net.specs.declared.circuit.RawCircuit.{RawCircuit}
use Rattle.reo_net.specs.declared.circuit.Step.{Step}
use Rattle.reo_net.specs.Runs.{Run, initial_state}
use Rattle.reo_net.specs.Scripts.{ScriptsFit}
use Rattle.reo_net.specs.Steps.{State, ProductStep, datum, fires_in}
use Rattle.reo_net.proofs.NameLemmas.{slice_get_found}
use Rattle.reo_trace.specs.declared.report.Called.{Called}
use Rattle.reo_trace.specs.Lawful.{HasItsValue, FiresOneRegion, AreFirstOf, StandsIn, call_at, IsAnsweredOnce}
use Rattle.reo_schedule.specs.Calls.{IsNextOf, answer_next, calls_with}
use Rattle.reo_schedule.specs.UnderWay.{IsLawfulSoFar}
use Rattle.reo_schedule.proofs.CallLemmas.{push_old, push_last, push_cases, calls_long, own_with, own_given, answer_cases, answer_made}
use Rattle.reo_schedule.proofs.OfferLemmas.{one_component}

-- a run and one step more
run_push : (c : RawCircuit) (texts : List (List ℕ)) (from mid new : State) (steps : List Step) (step : Step) → Run c texts from steps mid → ProductStep c texts mid step new → Run c texts from (steps ++ step ∷ []) new
run_push c texts from mid new [] step r s = (new, subst (λ q. ProductStep c texts q step new) r s, refl)
run_push c texts from mid new (first ∷ steps) step r s = (r.0, r.1, run_push c texts r.0 mid new steps step r.2 s)

-- a number above all others
rises_push : (xs : List ℕ) (n : ℕ) → IsStrictlyIncreasing xs → ((i x : ℕ) → slice_get xs i ≡ Some x → x < n) → IsStrictlyIncreasing (xs ++ n ∷ [])
rises_push xs n rising below k h =
    let len = length-append xs (n ∷ []) in
    ⊎_elim
    (λ (inner : k + 1 < length xs).
    let a = get_or_from_slice_get (xs ++ n ∷ []) k (get_or xs k 0) 0 (push_old xs n k (get_or xs k 0) (slice_get-get_or xs k 0 (omega arith))) in
    let b = get_or_from_slice_get (xs ++ n ∷ []) (k + 1) (get_or xs (k + 1) 0) 0 (push_old xs n (k + 1) (get_or xs (k + 1) 0) (slice_get-get_or xs (k + 1) 0 inner)) in
    omega (arith, a, b, rising k inner))
    (λ (last : length xs ≤ k + 1).
    let at : length xs ≡ k + 1 = omega arith in
    let found = slice_get-get_or xs k 0 (omega arith) in
    let a = get_or_from_slice_get (xs ++ n ∷ []) k (get_or xs k 0) 0 (push_old xs n k (get_or xs k 0) found) in
    let b = get_or_from_slice_get (xs ++ n ∷ []) (k + 1) n 0 (subst (λ i. slice_get (xs ++ n ∷ []) i ≡ Some n) at (push_last xs n)) in
    omega (arith, a, b, below k (get_or xs k 0) found))
    (cases_lt (k + 1) (length xs))

number_at : (own : List Called) (i x : ℕ) → slice_get (map (λ (call : Called). call.number) own) i ≡ Some x → (call : Called) × (slice_get own i ≡ Some call) × (call.number ≡ x)
number_at [] i x e = cc
number_at (call ∷ own) zero x e = (call, refl, same_Some call.number x e)
number_at (call ∷ own) (suc i) x e = number_at own i x e

at_own : (calls : List (List Called)) (k i : ℕ) (own : List Called) (call : Called) → slice_get calls k ≡ Some own → slice_get own i ≡ Some call → call_at calls k i ≡ Some call
at_own calls k i own call of_calls at = ap (option_and_then (λ (o : List Called). slice_get o i)) of_calls ∙ at

own_of : (calls : List (List Called)) (k i : ℕ) (call : Called) → call_at calls k i ≡ Some call → (own : List Called) × (slice_get calls k ≡ Some own) × (slice_get own i ≡ Some call)
own_of calls k i call at = go (slice_get calls k) refl at
  where
    go : (o : Option (List Called)) → slice_get calls k ≡ o → option_and_then (λ (own : List Called). slice_get own i) o ≡ Some call → (own : List Called) × (slice_get calls k ≡ Some own) × (slice_get own i ≡ Some call)
    go None e is = absurd (let clash : None ≡ Some call = is in cc)
    go (Some own) e is = (own, e, is)

-- what a step is to the operations that are next: each port that fires is that of one, and gives a put its datum
pub record AnswersOffers (c : RawCircuit) (scripts : List (List Op)) (calls : List (List Called)) (step : Step) : Type 0 where
  pub offered : (port : ℕ) → port < length c.ports → IsTrue (fires_in (datum step) port) → (k : ℕ) × (op : Op) × IsNextOf scripts calls k op × (port_of op ≡ port)
  pub own : (k : ℕ) (op : Op) (value : Value) → IsNextOf scripts calls k op → datum step (port_of op) ≡ Some value → HasItsValue op value

module _ (c : RawCircuit) (texts : List (List ℕ)) (scripts : List (List Op)) (fit : ScriptsFit c scripts) (old : State) (steps : List Step) (calls : List (List Called)) (so_far : IsLawfulSoFar c texts scripts old steps calls)
    (new : State) (step : Step) (product : ProductStep c texts old step new) (region : FiresOneRegion c step) (answers : AnswersOffers c scripts calls step) where
  abbrev more : List Step
  more = steps ++ step ∷ []

  abbrev after : List (List Called)
  after = calls_with scripts step (length steps) calls

  stands_later : (call : Called) → StandsIn steps call → StandsIn more call
  stands_later call s = record { step = s.step; found = push_old steps step call.number s.step s.found; fired = s.fired; own = s.own }

  numbered : (k i : ℕ) (call : Called) → call_at calls k i ≡ Some call → call.number < length steps
  numbered k i call e = let s = so_far.placed k i call e in slice_get_within steps call.number s.step s.found

  -- a call in this step
  record IsNew (k i : ℕ) (call : Called) : Type 0 where
    op : Op
    next : IsNextOf scripts calls k op
    last : i ≡ length next.own
    value : Value
    fired : datum step (port_of op) ≡ Some value
    is : record { op = op; value = value; number = length steps } ≡ call

  append_none : (xs : List Called) → xs ++ [] ≡ xs
  append_none [] = refl
  append_none (x ∷ xs) = ap (λ ys. x ∷ ys) (append_none xs)

  call_old : (k i : ℕ) (call : Called) → call_at calls k i ≡ Some call → call_at after k i ≡ Some call
  call_old k i call e =
      let own = own_of calls k i call e in
      let script = slice_get_found scripts k (subst (λ n. k < n) so_far.components (slice_get_within calls k own.0 own.1)) in
      let with_own = own_with step (length steps) scripts calls k script.0 own.0 script.1 own.1 in
      at_own after k i (own.0 ++ answer_next step (length steps) (slice_get script.0 (length own.0))) call with_own
      (⊎_elim
      (λ none. ap (λ (xs : List Called). slice_get (own.0 ++ xs) i) none ∙ ap (λ (xs : List Called). slice_get xs i) (append_none own.0) ∙ own.2)
      (λ some. ap (λ (xs : List Called). slice_get (own.0 ++ xs) i) some.1 ∙ push_old own.0 some.0 i call own.2)
      (answer_cases step (length steps) (slice_get script.0 (length own.0))))

  call_cases : (k i : ℕ) (call : Called) → call_at after k i ≡ Some call → (call_at calls k i ≡ Some call) ⊎ IsNew k i call
  call_cases k i call e =
      let own = own_of after k i call e in
      let given = own_given step (length steps) scripts calls k own.0 so_far.components own.1 in
      let at : slice_get (given.1 ++ answer_next step (length steps) (slice_get given.0 (length given.1))) i ≡ Some call = ap (λ (xs : List Called). slice_get xs i) given.4 ∙ own.2 in
      ⊎_elim
      (λ none. inl (at_own calls k i given.1 call given.3 (sym (ap (λ (xs : List Called). slice_get (given.1 ++ xs) i) none ∙ ap (λ (xs : List Called). slice_get xs i) (append_none given.1)) ∙ at)))
      (λ some. ⊎_elim
      (λ earlier. inl (at_own calls k i given.1 call given.3 earlier))
      (λ last. inr (record {
        op = some.2.op;
        next = record { script = given.0; own = given.1; of_script = given.2; of_calls = given.3; next = some.2.is_next };
        last = last.0;
        value = some.2.value;
        fired = some.2.fired;
        is = some.2.is ∙ last.1;
      }))
      (push_cases given.1 some.0 i call (ap (λ (xs : List Called). slice_get (given.1 ++ xs) i) (sym some.1) ∙ at)))
      (answer_cases step (length steps) (slice_get given.0 (length given.1)))

  call_made : (k : ℕ) (op : Op) (value : Value) → (next : IsNextOf scripts calls k op) → datum step (port_of op) ≡ Some value → call_at after k (length next.own) ≡ Some (record { op = op; value = value; number = length steps })
  call_made k op value next fired =
      let made : Called = record { op = op; value = value; number = length steps } in
      at_own after k (length next.own) (next.own ++ made ∷ []) made
      (own_with step (length steps) scripts calls k next.script next.own next.of_script next.of_calls
      ∙ ap (λ o. Some (next.own ++ answer_next step (length steps) o)) next.next
      ∙ ap (λ xs. Some (next.own ++ xs)) (answer_made step (length steps) op value fired))
      (push_last next.own made)

  placed_after : (k i : ℕ) (call : Called) → call_at after k i ≡ Some call → StandsIn more call
  placed_after k i call e =
      ⊎_elim
      (λ earlier. stands_later call (so_far.placed k i call earlier))
      (λ new. subst (StandsIn more) new.is (record { step = step; found = push_last steps step; fired = new.fired; own = answers.own k new.op new.value new.next new.fired }))
      (call_cases k i call e)

  -- the operation behind the answered ones
  order_more : (k : ℕ) (script : List Op) (own : List Called) (op : Op) (value : Value) → slice_get calls k ≡ Some own → slice_get script (length own) ≡ Some op → AreFirstOf script own
      → AreFirstOf script (own ++ record { op = op; value = value; number = length steps } ∷ [])
  order_more k script own op value of_calls at before =
      let added : Called = record { op = op; value = value; number = length steps } in
      let len = length-append own (added ∷ []) in
      record {
        first = map-append (λ (call : Called). call.op) own (added ∷ []) ∙ ap (λ (ops : List Op). ops ++ op ∷ []) before.first
            ∙ ap (λ (x : Op). take (length own) script ++ x ∷ []) (sym (get_or_from_slice_get script (length own) op op at))
            ∙ sym (take_more script (length own) op (slice_get_within script (length own) op at)) ∙ ap (λ n. take n script) (sym len);
        rising = subst IsStrictlyIncreasing (sym (map-append (λ (call : Called). call.number) own (added ∷ [])))
            (rises_push (map (λ (call : Called). call.number) own) (length steps) before.rising
            (λ i x e. let call = number_at own i x e in subst (λ n. n < length steps) call.2 (numbered k i call.0 (at_own calls k i own call.0 of_calls call.1))));
      }

  in_order_after : (k : ℕ) (script : List Op) (own : List Called) → slice_get scripts k ≡ Some script → slice_get after k ≡ Some own → AreFirstOf script own
  in_order_after k script own of_script of_after =
      let given = own_given step (length steps) scripts calls k own so_far.components of_after in
      let same = same_Some given.0 script (sym given.2 ∙ of_script) in
      let before = so_far.in_order k given.0 given.1 given.2 given.3 in
      subst (λ s. AreFirstOf s own) same
      (⊎_elim
      (λ none. subst (AreFirstOf given.0) (sym (append_none given.1) ∙ ap (λ xs. given.1 ++ xs) (sym none) ∙ given.4) before)
      (λ some. subst (AreFirstOf given.0) (ap (λ (call : Called). given.1 ++ call ∷ []) some.2.is ∙ ap (λ xs. given.1 ++ xs) (sym some.1) ∙ given.4) (order_more k given.0 given.1 some.2.op some.2.value given.3 some.2.is_next before))
      (answer_cases step (length steps) (slice_get given.0 (length given.1))))

  once_earlier : (number port : ℕ) → number < length steps → IsAnsweredOnce calls number port → IsAnsweredOnce after number port
  once_earlier number port below o = record {
    component = o.component;
    place = o.place;
    is_call = record { call = o.is_call.call; found = call_old o.component o.place o.is_call.call o.is_call.found; at = o.is_call.at; in_step = o.is_call.in_step };
    only = λ k i call.
        ⊎_elim
        (λ earlier. o.only k i (record { call = call.call; found = earlier; at = call.at; in_step = call.in_step }))
        (λ new. absurd (let same : length steps ≡ call.call.number = ap (λ (x : Called). x.number) new.is in omega (arith, same, call.in_step, below)))
        (call_cases k i call.call call.found);
  }

  once_last : (port : ℕ) → port < length c.ports → IsTrue (fires_in (datum step) port) → IsAnsweredOnce after (length steps) port
  once_last port within fires =
      let offer = answers.offered port within fires in
      let value = some_value (datum step port) fires in
      let fired : datum step (port_of offer.1) ≡ Some value.0 = ap (datum step) offer.3 ∙ value.1 in
      record {
        component = offer.0;
        place = length offer.2.own;
        is_call = record {
          call = record { op = offer.1; value = value.0; number = length steps };
          found = call_made offer.0 offer.1 value.0 offer.2 fired;
          at = offer.3;
          in_step = refl;
        };
        only = λ k i call.
            ⊎_elim
            (λ earlier. absurd (omega (arith, numbered k i call.call earlier, call.in_step)))
            (λ new.
            let port_is : port_of new.op ≡ port_of offer.1 = ap (λ (x : Called). port_of x.op) new.is ∙ call.at ∙ sym offer.3 in
            let k_is : k ≡ offer.0 = one_component c scripts fit calls k offer.0 new.op offer.1 new.next offer.2 port_is in
            let own_is : new.next.own ≡ offer.2.own = same_Some new.next.own offer.2.own (sym new.next.of_calls ∙ ap (slice_get calls) k_is ∙ offer.2.of_calls) in
            (k_is, new.last ∙ ap (λ (o : List Called). length o) own_is))
            (call_cases k i call.call call.found);
      }
    where
      some_value : (o : Option Value) → is_some o ≡ true → (v : Value) × (o ≡ Some v)
      some_value None h = absurd (false≢true h)
      some_value (Some v) h = (v, refl)

  pub lawful_more : IsLawfulSoFar c texts scripts new more after
  lawful_more = record {
    is_state = product.is_state;
    run = run_push c texts (initial_state c) old new steps step so_far.run product;
    firings = All-append (FiresOneRegion c) steps (step ∷ []) so_far.firings (All-cons (FiresOneRegion c) step [] region (All-nil (FiresOneRegion c)));
    components = calls_long step (length steps) scripts calls so_far.components;
    in_order = in_order_after;
    placed = placed_after;
    once = λ number at port found within fires.
        ⊎_elim
        (λ earlier. once_earlier number port (slice_get_within steps number at earlier) (so_far.once number at port earlier within fires))
        (λ last. subst (λ n. IsAnsweredOnce after n port) (sym last.0) (once_last port within (subst (λ (s : Step). IsTrue (fires_in (datum s) port)) (sym last.1) fires)))
        (push_cases steps step number at found);
  }
