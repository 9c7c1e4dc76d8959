-- One port: what each kind of its party's step makes of it.
use Rattle.std.proofs.Common.{◌≡◌, ℕ, zero, suc, ◌+◌, ◌-◌, ◌<◌, ◌≤◌, inl, inr, ⊎_elim, Bool, true, false, cond, List, [], ◌∷◌, ◌++◌, length, take, nat_lt, All, Option, Some, None, refl, sym, ap, ◌∙◌, subst, arith, length-append}
use Rattle.std.proofs.lemmas.Bool.{ltb-true, ltb-false}
use Rattle.std.proofs.lemmas.Option.{same_Some}
use Rattle.reo_value.specs.declared.value.Value.{Value}
use Rattle.reo_value.specs.declared.op.Way.{Way}
use Rattle.reo_value.specs.declared.op.Way.TheVariants.{Put, Get}
use Rattle.reo_value.specs.Code.{code_of, IsValue}
use Rattle.reo_fabric.proofs.CodeLemmas.{codes_differ}
use Rattle.reo_coupling.specs.declared.view.Offer.{Offer}
use Rattle.reo_coupling.specs.declared.view.Call.{Call}
use Rattle.reo_coupling.specs.PortViews.{seen_in, after_call, offers_of}
use Rattle.reo_coupling.specs.Ports.{PortNow, PortStands, IsIdle, IsAnswered, HasPlace, IsAfterItsPast, IsLaid, IsGiven, WasAnswered, ArePaired}
use Rattle.reo_coupling.specs.PartySteps.{IsSetFor}
use Rattle.reo_coupling.proofs.OnePort.{none_some}

-- a port at which no call stands is idle
pub uncalled_is_idle : (now : PortNow) → now.known.call ≡ None → PortStands now → IsIdle now
uncalled_is_idle now none stands =
    ⊎_elim
    (λ idle. idle)
    (λ rest.
    ⊎_elim
    (λ offered. none_some now.known.call offered.offer none offered.called.call)
    (λ more. ⊎_elim (λ committed. none_some now.known.call committed.offer none committed.called.call) (λ answered. none_some now.known.call answered.offer none answered.called.call) more)
    rest)
    stands.phase

-- a port that its party read to be answered is answered
pub seen_is_answered : (now : PortNow) (number : ℕ) → now.known.seen ≡ Some number → PortStands now → IsAnswered now
seen_is_answered now number seen stands =
    ⊎_elim
    (λ idle. none_some now.known.seen number idle.unseen.seen seen)
    (λ rest.
    ⊎_elim
    (λ offered. none_some now.known.seen number offered.unseen.seen seen)
    (λ more. ⊎_elim (λ committed. none_some now.known.seen number committed.unseen.seen seen) (λ answered. answered) more)
    rest)
    stands.phase

-- the value of the next put is stored
pub one_sets_put : (now : PortNow) (value : Value) → PortStands now → now.known.call ≡ None → now.way ≡ Put → IsValue value → PortStands (record now { data_word = code_of value; known = record now.known { set = Some value } })
one_sets_put now value stands none way real = record {
  phase = inl (record {
    state = idle.state;
    no_call = none;
    unseen = record { seen = idle.unseen.seen; datum = idle.unseen.datum };
    places = idle.places;
    nothing_due = idle.nothing_due;
    set = λ other is. (way, (subst IsValue (same_Some value other is) real, ap code_of (same_Some value other is)));
  });
  past = stands.past;
}
  where
    idle : IsIdle now
    idle = uncalled_is_idle now none stands

-- an offer is made
pub one_offers : (now : PortNow) → PortStands now → now.known.call ≡ None → IsSetFor now.way now.known.set
    → PortStands (record now { state_word = 1; known = record now.known { call = Some (record { value = now.known.set; had = length now.calls }); set = None } })
one_offers now stands none set = record {
  phase = inr (inl (record {
    offer = record { value = now.known.set; had = length now.calls };
    called = record { call = refl; had = omega arith };
    state = refl;
    unseen = record { seen = idle.unseen.seen; datum = idle.unseen.datum };
    places = idle.places;
    nothing_due = idle.nothing_due;
    laid = laid now.way now.known.set set (λ value is. (idle.set value is).1);
  }));
  past = stands.past;
}
  where
    idle : IsIdle now
    idle = uncalled_is_idle now none stands

    laid : (way : Way) (held : Option Value) → IsSetFor way held → ((value : Value) → held ≡ Some value → IsValue value × (now.data_word ≡ code_of value)) → IsLaid way held now.data_word
    laid Put None is stored = absurd is
    laid Put (Some value) is stored = stored value refl
    laid Get held is stored = tt

seen_low : (word : ℕ) (seen : Option ℕ) (b : Bool) → nat_lt word 3 ≡ b → word < 3 → seen_in word seen ≡ seen
seen_low word seen true is low = ap (λ b. cond b seen (Some (word - 3))) is
seen_low word seen false is low =
    let high = ltb-false word 3 is in
    absurd (omega (arith, low, high))

pub seen_high : (word number : ℕ) (seen : Option ℕ) (b : Bool) → nat_lt word 3 ≡ b → word ≡ 3 + number → seen_in word seen ≡ Some number
seen_high word number seen true is high =
    let low : word < 3 = ltb-true word 3 is in
    absurd (omega (arith, low, high))
seen_high word number seen false is high = ap (λ b. cond b seen (Some (word - 3))) is ∙ ap Some (omega (arith, high))

-- the state word is read
pub one_sees_state : (now : PortNow) → PortStands now → PortStands (record now { known = record now.known { seen = seen_in now.state_word now.known.seen } })
one_sees_state now stands = record {
  phase =
      ⊎_elim
      (λ idle. inl (record {
        state = idle.state;
        no_call = idle.no_call;
        unseen = record { seen = low (omega (arith, idle.state)) ∙ idle.unseen.seen; datum = idle.unseen.datum };
        places = idle.places;
        nothing_due = idle.nothing_due;
        set = idle.set;
      }))
      (λ rest.
      ⊎_elim
      (λ offered. inr (inl (record {
        offer = offered.offer;
        called = record { call = offered.called.call; had = offered.called.had };
        state = offered.state;
        unseen = record { seen = low (omega (arith, offered.state)) ∙ offered.unseen.seen; datum = offered.unseen.datum };
        places = offered.places;
        nothing_due = offered.nothing_due;
        laid = offered.laid;
      })))
      (λ more.
      ⊎_elim
      (λ committed. inr (inr (inl (record {
        offer = committed.offer;
        called = record { call = committed.called.call; had = committed.called.had };
        number = committed.number;
        value = committed.value;
        place = committed.place;
        state = committed.state;
        unseen = record { seen = low (omega (arith, committed.state)) ∙ committed.unseen.seen; datum = committed.unseen.datum };
        due = committed.due;
        datum = committed.datum;
      }))))
      (λ answered. inr (inr (inr (record {
        offer = answered.offer;
        called = record { call = answered.called.call; had = answered.called.had };
        number = answered.number;
        value = answered.value;
        place = answered.place;
        state = answered.state;
        nothing_due = answered.nothing_due;
        word = answered.word;
        seen = λ other is.
            same_Some other answered.number (sym is ∙ seen_high now.state_word answered.number now.known.seen (nat_lt now.state_word 3) refl answered.state);
        datum = answered.datum;
      }))))
      more)
      rest)
      stands.phase;
  past = stands.past;
}
  where
    low : now.state_word < 3 → seen_in now.state_word now.known.seen ≡ now.known.seen
    low less = seen_low now.state_word now.known.seen (nat_lt now.state_word 3) refl less

-- the data word is read
pub one_sees_got : (now : PortNow) (number : ℕ) (value : Value) → PortStands now → now.known.seen ≡ Some number → IsValue value → now.data_word ≡ code_of value → PortStands (record now { known = record now.known { datum = Some value } })
one_sees_got now number value stands seen real code = record {
  phase = inr (inr (inr (record {
    offer = answered.offer;
    called = record { call = answered.called.call; had = answered.called.had };
    number = answered.number;
    value = answered.value;
    place = answered.place;
    state = answered.state;
    nothing_due = answered.nothing_due;
    word = answered.word;
    seen = answered.seen;
    datum = λ other is. sym (same_Some value other is) ∙ codes_differ value answered.value real answered.place.real (sym code ∙ answered.word);
  })));
  past = stands.past;
}
  where
    answered : IsAnswered now
    answered = seen_is_answered now number seen stands

-- a list of calls that grew has the same beginning
take_grown : {A : Type 0} (n : ℕ) (xs ys : List A) → n ≤ length xs → take n (xs ++ ys) ≡ take n xs
take_grown zero xs ys few = refl
take_grown (suc n) [] ys few = absurd (omega (arith, few))
take_grown (suc n) (x ∷ xs) ys few = ap (λ l. x ∷ l) (take_grown n xs ys (omega (arith, few)))

past_grown : (calls more : List Call) (offer : Offer) (number : ℕ) → offer.had ≤ length calls → IsAfterItsPast calls offer number → IsAfterItsPast (calls ++ more) offer number
past_grown calls more offer number had later = subst (All (λ (c : Call). c.number < number)) (sym (take_grown offer.had calls more had)) later

had_grown : (calls more : List Call) (n : ℕ) → n ≤ length calls → n ≤ length (calls ++ more)
had_grown calls more n few = omega (arith, few, length-append calls more)

paired_grown : (way : Way) (calls more : List Call) (offers : List Offer) (places : List (ℕ × Value)) → ArePaired way calls offers places → ArePaired way (calls ++ more) offers places
paired_grown way calls more [] [] paired = tt
paired_grown way calls more [] (place ∷ places) paired = paired
paired_grown way calls more (offer ∷ offers) [] paired = paired
paired_grown way calls more (offer ∷ offers) (place ∷ places) paired = (
  record { had = had_grown calls more offer.had paired.0.had; later = past_grown calls more offer place.0 paired.0.had paired.0.later; given = paired.0.given },
  paired_grown way calls more offers places paired.1,
)

paired_more : (way : Way) (calls : List Call) (offers : List Offer) (places : List (ℕ × Value)) (offer : Offer) (place : ℕ × Value) → ArePaired way calls offers places → WasAnswered way calls offer place
    → ArePaired way calls (offers ++ offer ∷ []) (places ++ place ∷ [])
paired_more way calls [] [] offer place paired was = (was, tt)
paired_more way calls [] (p ∷ places) offer place paired was = absurd paired
paired_more way calls (o ∷ offers) [] offer place paired was = absurd paired
paired_more way calls (o ∷ offers) (p ∷ places) offer place paired was = (paired.0, paired_more way calls offers places offer place paired.1 was)

place_grown : (now : PortNow) (more : List Call) (offer : Offer) (number : ℕ) (value : Value) → offer.had ≤ length now.calls → HasPlace now.way now.calls now.taken now.places offer number value
    → HasPlace now.way (now.calls ++ more) now.taken now.places offer number value
place_grown now more offer number value had place = record { last = place.last; later = past_grown now.calls more offer number had place.later; given = place.given; real = place.real }

-- a call at another port is collected
pub one_collects_elsewhere : (now : PortNow) (more : List Call) → PortStands now → PortStands (record now { calls = now.calls ++ more })
one_collects_elsewhere now more stands = record {
  phase =
      ⊎_elim
      (λ idle. inl (record { state = idle.state; no_call = idle.no_call; unseen = idle.unseen; places = idle.places; nothing_due = idle.nothing_due; set = idle.set }))
      (λ rest.
      ⊎_elim
      (λ offered. inr (inl (record {
        offer = offered.offer;
        called = record { call = offered.called.call; had = had_grown now.calls more offered.offer.had offered.called.had };
        state = offered.state;
        unseen = offered.unseen;
        places = offered.places;
        nothing_due = offered.nothing_due;
        laid = offered.laid;
      })))
      (λ others.
      ⊎_elim
      (λ committed. inr (inr (inl (record {
        offer = committed.offer;
        called = record { call = committed.called.call; had = had_grown now.calls more committed.offer.had committed.called.had };
        number = committed.number;
        value = committed.value;
        place = place_grown now more committed.offer committed.number committed.value committed.called.had committed.place;
        state = committed.state;
        unseen = committed.unseen;
        due = committed.due;
        datum = committed.datum;
      }))))
      (λ answered. inr (inr (inr (record {
        offer = answered.offer;
        called = record { call = answered.called.call; had = had_grown now.calls more answered.offer.had answered.called.had };
        number = answered.number;
        value = answered.value;
        place = place_grown now more answered.offer answered.number answered.value answered.called.had answered.place;
        state = answered.state;
        nothing_due = answered.nothing_due;
        word = answered.word;
        seen = answered.seen;
        datum = answered.datum;
      }))))
      others)
      rest)
      stands.phase;
  past = paired_grown now.way now.calls more now.known.past now.taken stands.past;
}

-- the call is collected
pub one_clears : (now : PortNow) (number : ℕ) (value : Value) (more : List Call) → PortStands now → now.known.seen ≡ Some number → now.known.datum ≡ Some value
    → PortStands (record now { state_word = 0; known = after_call now.known; calls = now.calls ++ more; taken = now.taken ++ (number, value) ∷ [] })
one_clears now number value more stands seen datum = record {
  phase = inl (record {
    state = refl;
    no_call = refl;
    unseen = record { seen = refl; datum = refl };
    places = answered.place.last ∙ ap (λ p. now.taken ++ p ∷ []) same_place;
    nothing_due = answered.nothing_due;
    set = λ other is. none_some None other refl is;
  });
  past =
      subst (λ os. ArePaired now.way (now.calls ++ more) (now.known.past ++ offers_of os) (now.taken ++ (number, value) ∷ [])) (sym answered.called.call)
      (paired_more now.way (now.calls ++ more) now.known.past now.taken answered.offer (number, value) (paired_grown now.way now.calls more now.known.past now.taken stands.past) (record {
        had = had_grown now.calls more answered.offer.had answered.called.had;
        later = subst (IsAfterItsPast (now.calls ++ more) answered.offer) (sym number_is) (past_grown now.calls more answered.offer answered.number answered.called.had answered.place.later);
        given = subst (IsGiven now.way answered.offer.value) (sym value_is) answered.place.given;
      }));
}
  where
    answered : IsAnswered now
    answered = seen_is_answered now number seen stands

    number_is : number ≡ answered.number
    number_is = answered.seen number seen

    value_is : value ≡ answered.value
    value_is = answered.datum value datum

    same_place : ◌≡◌ {A = ℕ × Value} (answered.number, answered.value) (number, value)
    same_place = ap (λ (n : ℕ). (n, answered.value)) (sym number_is) ∙ ap (λ (v : Value). (number, v)) (sym value_is)
