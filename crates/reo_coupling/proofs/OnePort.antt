-- One port: what each kind of step makes of it.
use Rattle.std.proofs.Common.{◌≡◌, ℕ, ◌+◌, ◌<◌, ◌⊎◌, inl, inr, ⊎_elim, List, [], ◌∷◌, ◌++◌, All, Option, Some, None, refl, sym, ap, ◌∙◌, subst, arith}
use Rattle.std.proofs.lemmas.Option.{same_Some}
use Rattle.std.proofs.lemmas.List.Elements.{All-take}
use Rattle.reo_value.specs.declared.value.Value.{Value}
use Rattle.reo_value.specs.declared.op.Way.{Way}
use Rattle.reo_value.specs.declared.op.Way.TheVariants.{Put, Get}
use Rattle.reo_value.specs.Code.{code_of, IsValue}
use Rattle.reo_fabric.proofs.CodeLemmas.{codes_differ}
use Rattle.reo_coupling.specs.declared.view.PortView.{PortView}
use Rattle.reo_coupling.specs.declared.view.Call.{Call}
use Rattle.reo_coupling.specs.PortViews.{fresh_port}
use Rattle.reo_coupling.specs.Ports.{PortNow, PortStands, IsOffered, IsCommitted, IsLaid, IsGiven, DatumComes, ArePaired}

module _ {A : Type 0} where
  pub none_some : {P : Type 0} (o : Option A) (x : A) → o ≡ None → o ≡ Some x → P
  none_some o x none some =
      let both : ◌≡◌ {A = Option A} None (Some x) = sym none ∙ some in
      absurd (clash both)
    where
      clash : ◌≡◌ {A = Option A} None (Some x) → ⊥
      clash e = cc

-- a port all of whose parts are as another's
pub same_port : (a b : PortNow) → a.way ≡ b.way → a.state_word ≡ b.state_word → a.data_word ≡ b.data_word → a.known ≡ b.known → a.calls ≡ b.calls → a.taken ≡ b.taken → a.places ≡ b.places → a.got_due ≡ b.got_due
    → a.answer_due ≡ b.answer_due → PortStands b → PortStands a
same_port a b way state data_is known calls taken places got answer stands = subst PortStands (sym path) stands
  where
    path : a ≡ b
    path =
        ap (λ (x : Way). record a { way = x }) way
        ∙ (ap (λ (x : ℕ). record a { way = b.way; state_word = x }) state
        ∙ (ap (λ (x : ℕ). record a { way = b.way; state_word = b.state_word; data_word = x }) data_is
        ∙ (ap (λ (x : PortView). record b { known = x; calls = a.calls; taken = a.taken; places = a.places; got_due = a.got_due; answer_due = a.answer_due }) known
        ∙ (ap (λ (x : List Call). record b { calls = x; taken = a.taken; places = a.places; got_due = a.got_due; answer_due = a.answer_due }) calls
        ∙ (ap (λ (x : List (ℕ × Value)). record b { taken = x; places = a.places; got_due = a.got_due; answer_due = a.answer_due }) taken
        ∙ (ap (λ (x : List (ℕ × Value)). record b { places = x; got_due = a.got_due; answer_due = a.answer_due }) places
        ∙ (ap (λ (x : Option Value). record b { got_due = x; answer_due = a.answer_due }) got ∙ ap (λ (x : Option ℕ). record b { answer_due = x }) answer)))))))

-- a port at which nothing happened yet
pub fresh_stands : (now : PortNow) → now.state_word ≡ 0 → now.known ≡ fresh_port → now.taken ≡ [] → now.places ≡ [] → now.got_due ≡ None → now.answer_due ≡ None → PortStands now
fresh_stands now state known taken places got answer = record {
  phase = inl (record {
    state = state;
    no_call = ap (λ (k : PortView). k.call) known;
    unseen = record { seen = ap (λ (k : PortView). k.seen) known; datum = ap (λ (k : PortView). k.datum) known };
    places = places ∙ sym taken;
    nothing_due = record { got = got; answer = answer };
    set = λ value is. none_some now.known.set value (ap (λ (k : PortView). k.set) known) is;
  });
  past = subst (λ (k : PortView). ArePaired now.way now.calls k.past now.taken) (sym known) (subst (ArePaired now.way now.calls []) (sym taken) tt);
}

-- a port that is offered has its state word, and one with an answer due too
pub owed_is_committed : (now : PortNow) (number : ℕ) → now.answer_due ≡ Some number → PortStands now → IsCommitted now
owed_is_committed now number due stands =
    ⊎_elim
    (λ idle. none_some now.answer_due number idle.nothing_due.answer due)
    (λ rest.
    ⊎_elim
    (λ offered. none_some now.answer_due number offered.nothing_due.answer due)
    (λ more. ⊎_elim (λ committed. committed) (λ answered. none_some now.answer_due number answered.nothing_due.answer due) more)
    rest)
    stands.phase

-- where the state word is 1 and no answer is due, the port is offered
pub free_is_offered : (now : PortNow) → now.state_word ≡ 1 → now.answer_due ≡ None → PortStands now → IsOffered now
free_is_offered now one none stands =
    ⊎_elim
    (λ idle. absurd (omega (arith, one, idle.state)))
    (λ rest.
    ⊎_elim
    (λ offered. offered)
    (λ more. ⊎_elim (λ committed. none_some now.answer_due committed.number none committed.due) (λ answered. absurd (omega (arith, one, answered.state))) more)
    rest)
    stands.phase

-- an entry has the port, and the answer becomes due
pub one_commits : (now : PortNow) (number : ℕ) (value : Value) (got : Option Value) → PortStands now → now.state_word ≡ 1 → now.answer_due ≡ None → IsValue value → All (λ (c : Call). c.number < number) now.calls
    → (now.way ≡ Put → now.data_word ≡ code_of value) → ((now.way ≡ Put) × (got ≡ None)) ⊎ ((now.way ≡ Get) × (got ≡ Some value))
    → PortStands (record now { places = now.places ++ (number, value) ∷ []; got_due = got; answer_due = Some number })
one_commits now number value got stands one none real below word ways = record {
  phase = inr (inr (inl (record {
    offer = offered.offer;
    called = offered.called;
    number = number;
    value = value;
    place = record {
      last = ap (λ l. l ++ (number, value) ∷ []) offered.places;
      later = All-take (λ (c : Call). c.number < number) offered.offer.had now.calls below;
      given = gives now.way offered.offer.value now.data_word offered.laid word;
      real = real;
    };
    state = one;
    unseen = offered.unseen;
    due = refl;
    datum = comes now.way got word ways;
  })));
  past = stands.past;
}
  where
    offered : IsOffered now
    offered = free_is_offered now one none stands

    gives : (way : Way) (held : Option Value) (w : ℕ) → IsLaid way held w → (way ≡ Put → w ≡ code_of value) → IsGiven way held value
    gives Put None w laid is = absurd laid
    gives Put (Some v) w laid is = ap Some (codes_differ v value laid.0 real (sym laid.1 ∙ is refl))
    gives Get held w laid is = tt

    clash : Put ≡ Get → ⊥
    clash e = cc

    comes : (way : Way) (due : Option Value) → (way ≡ Put → now.data_word ≡ code_of value) → ((way ≡ Put) × (due ≡ None)) ⊎ ((way ≡ Get) × (due ≡ Some value)) → DatumComes way due now.data_word value
    comes Put due is (inl put) = (put.1, is refl)
    comes Put due is (inr get) = absurd (clash get.0)
    comes Get due is (inl put) = absurd (clash (sym put.0))
    comes Get due is (inr get) = inl get.1

-- the datum of a get is stored
pub one_sets_got : (now : PortNow) (value : Value) → PortStands now → now.got_due ≡ Some value → PortStands (record now { data_word = code_of value; got_due = None })
one_sets_got now value stands due = record { phase = inr (inr (inl after)); past = stands.past }
  where
    committed : IsCommitted now
    committed =
        ⊎_elim
        (λ idle. none_some now.got_due value idle.nothing_due.got due)
        (λ rest.
        ⊎_elim
        (λ offered. none_some now.got_due value offered.nothing_due.got due)
        (λ more. ⊎_elim (λ is. is) (λ answered. none_some now.got_due value answered.nothing_due.got due) more)
        rest)
        stands.phase

    stored : (way : Way) (got : Option Value) (w : ℕ) (held : Value) → got ≡ Some value → DatumComes way got w held → DatumComes way None (code_of value) held
    stored Put got w held is comes = none_some got value comes.0 is
    stored Get got w held is comes =
        ⊎_elim (λ has. inr (refl, ap code_of (same_Some value held (sym is ∙ has)))) (λ not. none_some got value not.0 is) comes

    after : IsCommitted (record now { data_word = code_of value; got_due = None })
    after = record {
      offer = committed.offer;
      called = committed.called;
      number = committed.number;
      value = committed.value;
      place = committed.place;
      state = committed.state;
      unseen = committed.unseen;
      due = committed.due;
      datum = stored now.way now.got_due now.data_word committed.value due committed.datum;
    }

-- the answer is stored
pub one_answers : (now : PortNow) (number : ℕ) → PortStands now → now.answer_due ≡ Some number → now.got_due ≡ None → PortStands (record now { state_word = 3 + number; answer_due = None })
one_answers now number stands due none = record {
  phase = inr (inr (inr (record {
    offer = committed.offer;
    called = committed.called;
    number = committed.number;
    value = committed.value;
    place = committed.place;
    state = ap (λ n. 3 + n) (same_Some number committed.number (sym due ∙ committed.due));
    nothing_due = record { got = none; answer = refl };
    word = there now.way now.got_due now.data_word committed.value none committed.datum;
    seen = λ other is. none_some now.known.seen other committed.unseen.seen is;
    datum = λ other is. none_some now.known.datum other committed.unseen.datum is;
  })));
  past = stands.past;
}
  where
    committed : IsCommitted now
    committed = owed_is_committed now number due stands

    there : (way : Way) (got : Option Value) (w : ℕ) (held : Value) → got ≡ None → DatumComes way got w held → w ≡ code_of held
    there Put got w held is comes = comes.1
    there Get got w held is comes = ⊎_elim (λ has. none_some got held is has) (λ not. not.1) comes
