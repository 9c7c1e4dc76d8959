-- what joining automata one after the other gives
use Rattle.std.proofs.Common.{◌≡◌, ℕ, ◌⊎◌, ⊎_elim, inl, inr, List, [], ◌∷◌, Bool, true, false, Option, Some, None, is_some, IfSome, IsTrue, refl, sym, ap, ◌∙◌, subst}
use Rattle.std.specs.Option.{option_or}
use Rattle.std.proofs.lemmas.Bool.{cases_eq}
use Rattle.std.proofs.lemmas.Option.{same_Some}
use Rattle.reo_value.specs.declared.value.Value.{Value}
use Rattle.reo_net.specs.declared.circuit.RawCircuit.{RawCircuit}
use Rattle.reo_net.specs.Kind.{ChannelStep}
use Rattle.reo_net.specs.Names.{end_a, end_b, IsNameOf}
use Rattle.reo_net.specs.declared.stand.Stand.{Stand}
use Rattle.reo_net.specs.Stand.{stand_of}
use Rattle.reo_net.specs.Steps.{State, Data, content}
use Rattle.reo_net.specs.Regions.{Automaton, OfChannel, OfNode, HasName}
use Rattle.reo_net.specs.Join.{IsWithin, MoveTogether, MovesAlone, AutomatonMoves, AutomatonStays, automaton_of, joined}
use Rattle.reo_net.proofs.KindLemmas.{no_quiet_move}
use Rattle.reo_net.proofs.StandLemmas.{incoming_stands, outgoing_stands}

-- membership by recursion
abbrev pub Among : Automaton → List Automaton → Type 0
Among x [] = ⊥
Among x (y ∷ ys) = (y ≡ x) ⊎ Among x ys

-- there is no datum at a name of the automaton
abbrev pub IsSilent : RawCircuit → Automaton → Data → Type 0
IsSilent c x d = (name : ℕ) → HasName c x name → d name ≡ None

-- what the transitions of joined automata are, with no regard to their order
pub record IsJoint (c : RawCircuit) (texts : List (List ℕ)) (xs : List Automaton) (old : State) (d : Data) (new : State) : Type 0 where
  pub some : Automaton
  pub of_them : Among some xs
  pub moves : AutomatonMoves c texts some old d new
  pub only : IsWithin ((joined c texts xs).Named) d
  pub each : (x : Automaton) → Among x xs → (IsSilent c x d × AutomatonStays c x old new) ⊎ AutomatonMoves c texts x old d new

-- the data at some names alone
abbrev kept : {N : Type 0} → N ⊎ (N → ⊥) → Option Value → Option Value
kept (inl h) o = o
kept (inr h) o = None

kept_in : {N : Type 0} (b : N ⊎ (N → ⊥)) (o : Option Value) → N → kept b o ≡ o
kept_in (inl h) o n = refl
kept_in (inr h) o n = absurd (h n)

kept_fires : {N : Type 0} (b : N ⊎ (N → ⊥)) (o : Option Value) → IsTrue (is_some (kept b o)) → N
kept_fires (inl h) o fires = h
kept_fires (inr h) o fires = cc

pub none_or_fires : (o : Option Value) → (o ≡ None) ⊎ IsTrue (is_some o)
none_or_fires None = inl refl
none_or_fires (Some v) = inr refl

none_kept : {N : Type 0} (b : N ⊎ (N → ⊥)) (o : Option Value) → o ≡ None → kept b o ≡ None
none_kept (inl h) o e = e
none_kept (inr h) o e = refl

both_kept : {N M : Type 0} (a : N ⊎ (N → ⊥)) (b : M ⊎ (M → ⊥)) (o : Option Value) → (IsTrue (is_some o) → N ⊎ M) → o ≡ option_or (kept a o) (kept b o)
both_kept a b None only = sym (ap (λ x. option_or x (kept b None)) (none_kept a None refl) ∙ none_kept b None refl)
both_kept (inl h) b (Some v) only = refl
both_kept (inr h) (inl m) (Some v) only = refl
both_kept (inr h) (inr m) (Some v) only = ⊎_elim (λ n. absurd (h n)) (λ n. absurd (m n)) (only refl)

pub not_none : (o : Option Value) → IsTrue (is_some o) → o ≡ None → ⊥
not_none None fires e = cc
not_none (Some v) fires e = cc

module _ (c : RawCircuit) (texts : List (List ℕ)) where
  -- whether an automaton has a name is decided
  channel_has : (k name : ℕ) → HasName c (OfChannel k) name ⊎ (HasName c (OfChannel k) name → ⊥)
  channel_has k name =
      ⊎_elim (λ a. inl (inl a)) (λ no_a. ⊎_elim (λ b. inl (inr b)) (λ no_b. inr (λ has. ⊎_elim no_a no_b has)) (cases_eq name (end_b c k))) (cases_eq name (end_a c k))

  module _ (node name : ℕ) where
    unstood : stand_of c name ≡ None → IsNameOf c node name → ⊥
    unstood e at =
        ⊎_elim
        (λ comes. let clash : None ≡ Some (record { node = node; incoming = true }) = sym e ∙ (incoming_stands c node name).1 comes in cc)
        (λ goes. let clash : None ≡ Some (record { node = node; incoming = false }) = sym e ∙ (outgoing_stands c node name).1 goes in cc)
        at

    same_stand : (s t : Stand) → stand_of c name ≡ Some s → stand_of c name ≡ Some t → s.node ≡ t.node
    same_stand s t e f = ap (λ (x : Stand). x.node) (same_Some s t (sym e ∙ f))

    elsewhere : (s : Stand) → stand_of c name ≡ Some s → (s.node ≡ node → ⊥) → IsNameOf c node name → ⊥
    elsewhere s e other at =
        ⊎_elim
        (λ comes. other (same_stand s (record { node = node; incoming = true }) e ((incoming_stands c node name).1 comes)))
        (λ goes. other (same_stand s (record { node = node; incoming = false }) e ((outgoing_stands c node name).1 goes)))
        at

    by_way : (b : Bool) → stand_of c name ≡ Some (record { node = node; incoming = b }) → IsNameOf c node name
    by_way true at = inl ((incoming_stands c node name).0 at)
    by_way false at = inr ((outgoing_stands c node name).0 at)

    by_stand : (o : Option Stand) → stand_of c name ≡ o → IsNameOf c node name ⊎ (IsNameOf c node name → ⊥)
    by_stand None e = inr (unstood e)
    by_stand (Some s) e =
        ⊎_elim (λ at. inl (by_way s.incoming (e ∙ ap (λ n. Some (record { node = n; incoming = s.incoming })) at))) (λ other. inr (elsewhere s e other)) (cases_eq s.node node)

  has : (x : Automaton) (name : ℕ) → HasName c x name ⊎ (HasName c x name → ⊥)
  has (OfChannel k) name = channel_has k name
  has (OfNode node) name = by_stand node name (stand_of c name) refl

  abbrev pub Named : List Automaton → ℕ → Type 0
  Named xs = (joined c texts xs).Named

  joined_has : (xs : List Automaton) (name : ℕ) → Named xs name ⊎ (Named xs name → ⊥)
  joined_has [] name = inr (λ e. e)
  joined_has (x ∷ xs) name =
      ⊎_elim (λ h. inl (inl h)) (λ none. ⊎_elim (λ h. inl (inr h)) (λ neither. inr (λ e. ⊎_elim none neither e)) (joined_has xs name)) (has x name)

  pub named_from : (xs : List Automaton) (x : Automaton) (name : ℕ) → Among x xs → HasName c x name → Named xs name
  named_from [] x name at h = absurd at
  named_from (y ∷ ys) x name at h = ⊎_elim (λ e. inl (subst (λ z. HasName c z name) (sym e) h)) (λ of_rest. inr (named_from ys x name of_rest h)) at

  pub named_gives : (xs : List Automaton) (name : ℕ) → Named xs name → (x : Automaton) × Among x xs × HasName c x name
  named_gives [] name h = absurd h
  named_gives (y ∷ ys) name h = ⊎_elim (λ own. (y, inl refl, own)) (λ other. let found = named_gives ys name other in (found.0, inr found.1, found.2)) h

  stays_each : (xs : List Automaton) (old new : State) → (joined c texts xs).Stays old new → (x : Automaton) → Among x xs → AutomatonStays c x old new
  stays_each [] old new stays x at = absurd at
  stays_each (y ∷ ys) old new stays x at = ⊎_elim (λ e. subst (λ z. AutomatonStays c z old new) e stays.0) (λ of_rest. stays_each ys old new stays.1 x of_rest) at

  stays_all : (xs : List Automaton) (old new : State) → ((x : Automaton) → Among x xs → AutomatonStays c x old new) → (joined c texts xs).Stays old new
  stays_all [] old new each = tt
  stays_all (y ∷ ys) old new each = (each y (inl refl), stays_all ys old new (λ x at. each x (inr at)))

  -- a transition looks at the data of its own names alone
  moves_alike : (x : Automaton) (old : State) (d e : Data) (new : State) → ((name : ℕ) → HasName c x name → d name ≡ e name) → AutomatonMoves c texts x old d new → AutomatonMoves c texts x old e new
  moves_alike (OfChannel k) old d e new same m = (
    m.0,
    m.1,
    subst (λ b. ChannelStep texts m.0.kind (content c k m.0.kind old) (e (end_a c k)) b (content c k m.0.kind new)) (same (end_b c k) (inr refl))
        (subst (λ a. ChannelStep texts m.0.kind (content c k m.0.kind old) a (d (end_b c k)) (content c k m.0.kind new)) (same (end_a c k) (inl refl)) m.2),
  )
  moves_alike (OfNode node) old d e new same s = record {
    fires = record {
      input = s.fires.input;
      incoming = s.fires.incoming;
      chosen = subst (λ o. IsTrue (is_some o)) (same s.fires.input (inl s.fires.incoming)) s.fires.chosen;
      alone = λ other comes fires. s.fires.alone other comes (subst (λ o. IsTrue (is_some o)) (sym (same other (inl comes))) fires);
      all = λ output goes. subst (λ o. IsTrue (is_some o)) (same output (inr goes)) (s.fires.all output goes);
      output = s.fires.output;
      outgoing = s.fires.outgoing;
    };
    value = s.value;
    same = λ name of. subst (λ o. IfSome o (λ v. v ≡ s.value)) (same name of) (s.same name of);
  }

  -- and it fires one of them
  pub moves_fire : (x : Automaton) (old : State) (d : Data) (new : State) → AutomatonMoves c texts x old d new → (name : ℕ) × HasName c x name × IsTrue (is_some (d name))
  moves_fire (OfChannel k) old d new m = ends (d (end_a c k)) (d (end_b c k)) refl refl where
    ends : (a b : Option Value) → d (end_a c k) ≡ a → d (end_b c k) ≡ b → (name : ℕ) × HasName c (OfChannel k) name × IsTrue (is_some (d name))
    ends (Some v) b at_a at_b = (end_a c k, inl refl, ap is_some at_a)
    ends None (Some w) at_a at_b = (end_b c k, inr refl, ap is_some at_b)
    ends None None at_a at_b =
        absurd (no_quiet_move texts m.0.kind (content c k m.0.kind old) (content c k m.0.kind new)
        (subst (λ b. ChannelStep texts m.0.kind (content c k m.0.kind old) None b (content c k m.0.kind new)) at_b
        (subst (λ a. ChannelStep texts m.0.kind (content c k m.0.kind old) a (d (end_b c k)) (content c k m.0.kind new)) at_a m.2)))
  moves_fire (OfNode node) old d new s = (s.fires.input, inl s.fires.incoming, s.fires.chosen)

  or_same : (o : Option Value) → option_or o o ≡ o
  or_same None = refl
  or_same (Some v) = refl

  or_none : (o p : Option Value) → p ≡ None → option_or o p ≡ o
  or_none None p e = e
  or_none (Some v) p e = refl

  none_or : (o p : Option Value) → o ≡ None → option_or o p ≡ p
  none_or None p e = refl
  none_or (Some v) p e = cc

  module _ (x : Automaton) (xs : List Automaton) (old : State) (d : Data) (new : State) where
    module _ (t : MoveTogether (automaton_of c texts x) (joined c texts xs) old d new) (rest : IsJoint c texts xs old t.second new) where
      head_alike : (name : ℕ) → HasName c x name → t.first name ≡ d name
      head_alike name own =
          ⊎_elim
          (λ none. sym (t.joint name ∙ or_none (t.first name) (t.second name) none))
          (λ fires. sym (t.joint name ∙ (ap (option_or (t.first name)) (sym (t.agree name own (rest.only name fires))) ∙ or_same (t.first name))))
          (none_or_fires (t.second name))

      tail_alike : (name : ℕ) → Named xs name → t.second name ≡ d name
      tail_alike name of_rest =
          ⊎_elim
          (λ none. sym (t.joint name ∙ none_or (t.first name) (t.second name) none))
          (λ fires. sym (t.joint name ∙ (ap (λ o. option_or o (t.second name)) (t.agree name (t.moves.0 name fires) of_rest) ∙ or_same (t.second name))))
          (none_or_fires (t.first name))

      within_either : (name : ℕ) → IsTrue (is_some (d name)) → HasName c x name ⊎ Named xs name
      within_either name fires =
          ⊎_elim
          (λ none. inr (rest.only name (subst (λ o. IsTrue (is_some o)) (t.joint name ∙ none_or (t.first name) (t.second name) none) fires)))
          (λ first. inl (t.moves.0 name first))
          (none_or_fires (t.first name))

      head_moves : AutomatonMoves c texts x old d new
      head_moves = moves_alike x old t.first d new head_alike t.moves.1

      rest_each : (y : Automaton) → Among y xs → (IsSilent c y d × AutomatonStays c y old new) ⊎ AutomatonMoves c texts y old d new
      rest_each y at =
          ⊎_elim
          (λ quiet. inl (λ name own. sym (tail_alike name (named_from xs y name at own)) ∙ quiet.0 name own, quiet.1))
          (λ moves. inr (moves_alike y old t.second d new (λ name own. tail_alike name (named_from xs y name at own)) moves))
          (rest.each y at)

      together : IsJoint c texts (x ∷ xs) old d new
      together = record {
        some = x;
        of_them = inl refl;
        moves = head_moves;
        only = within_either;
        each = λ y at. ⊎_elim (λ e. inr (subst (λ z. AutomatonMoves c texts z old d new) e head_moves)) (rest_each y) at;
      }

    alone : MovesAlone (automaton_of c texts x) (joined c texts xs) old d new → IsJoint c texts (x ∷ xs) old d new
    alone a = record {
      some = x;
      of_them = inl refl;
      moves = a.moves.1;
      only = λ name fires. inl (a.moves.0 name fires);
      each = λ y at. ⊎_elim
          (λ e. inr (subst (λ z. AutomatonMoves c texts z old d new) e a.moves.1))
          (λ of_rest. inl (λ name own. a.silent name (named_from xs y name of_rest own), stays_each xs old new a.stays y of_rest))
          at;
    }

    without : MovesAlone (joined c texts xs) (automaton_of c texts x) old d new → IsJoint c texts xs old d new → IsJoint c texts (x ∷ xs) old d new
    without a rest = record {
      some = rest.some;
      of_them = inr rest.of_them;
      moves = rest.moves;
      only = λ name fires. inr (rest.only name fires);
      each = λ y at. ⊎_elim
          (λ e. inl (subst (λ z. (IsSilent c z d × AutomatonStays c z old new)) e (a.silent, a.stays)))
          (rest.each y)
          at;
    }

  pub join_gives : (xs : List Automaton) (old : State) (d : Data) (new : State) → (joined c texts xs).Moves old d new → IsJoint c texts xs old d new
  join_gives [] old d new m = absurd m
  join_gives (x ∷ xs) old d new m =
      ⊎_elim
      (λ t. together x xs old d new t (join_gives xs old t.second new t.others))
      (λ one. ⊎_elim (λ a. alone x xs old d new a) (λ a. without x xs old d new a (join_gives xs old d new a.moves)) one)
      m

  -- all are at rest, or one moves
  some_moves : (xs : List Automaton) (old : State) (d : Data) (new : State) → ((y : Automaton) → Among y xs → (IsSilent c y d × AutomatonStays c y old new) ⊎ AutomatonMoves c texts y old d new)
      → ((y : Automaton) → Among y xs → (IsSilent c y d × AutomatonStays c y old new)) ⊎ ((y : Automaton) × Among y xs × AutomatonMoves c texts y old d new)
  some_moves [] old d new each = inl (λ y at. absurd at)
  some_moves (x ∷ xs) old d new each =
      ⊎_elim
      (λ quiet. ⊎_elim (λ all. inl (λ y at. ⊎_elim (λ e. subst (λ z. (IsSilent c z d × AutomatonStays c z old new)) e quiet) (all y) at)) (λ found. inr (found.0, inr found.1, found.2)) (some_moves xs old d new (λ y at. each y (inr at))))
      (λ moves. inr (x, inl refl, moves))
      (each x (inl refl))

  module _ (x : Automaton) (xs : List Automaton) (old : State) (d : Data) (new : State) (j : IsJoint c texts (x ∷ xs) old d new) (ih : (e : Data) → IsJoint c texts xs old e new → (joined c texts xs).Moves old e new) where
    Rest : Automaton → Type 0
    Rest y = IsSilent c y d × AutomatonStays c y old new

    tail_each : (y : Automaton) → Among y xs → Rest y ⊎ AutomatonMoves c texts y old d new
    unfolding Rest
    tail_each y at = j.each y (inr at)

    silent_rest : ((y : Automaton) → Among y xs → Rest y) → (name : ℕ) → Named xs name → d name ≡ None
    unfolding Rest
    silent_rest all name of_rest = let found = named_gives xs name of_rest in (all found.0 found.1).0 name found.2

    goes_alone : AutomatonMoves c texts x old d new → ((y : Automaton) → Among y xs → Rest y) → (joined c texts (x ∷ xs)).Moves old d new
    unfolding Rest
    goes_alone moves all = inr (inl (record {
      moves = (λ name fires. ⊎_elim (λ own. own) (λ of_rest. absurd (not_none (d name) fires (silent_rest all name of_rest))) (j.only name fires), moves);
      silent = silent_rest all;
      stays = stays_all xs old new (λ y at. (all y at).1);
    }))

    first : Data
    first name = kept (has x name) (d name)

    second : Data
    second name = kept (joined_has xs name) (d name)

    second_alike : (y : Automaton) → Among y xs → (name : ℕ) → HasName c y name → d name ≡ second name
    unfolding second
    second_alike y at name own = sym (kept_in (joined_has xs name) (d name) (named_from xs y name at own))

    second_joint : (y : Automaton) → Among y xs → AutomatonMoves c texts y old d new → IsJoint c texts xs old second new
    unfolding second Rest
    second_joint y at moves = record {
      some = y;
      of_them = at;
      moves = moves_alike y old d second new (second_alike y at) moves;
      only = λ name fires. kept_fires (joined_has xs name) (d name) fires;
      each = λ z of_rest. ⊎_elim
          (λ quiet. inl (λ name own. sym (second_alike z of_rest name own) ∙ quiet.0 name own, quiet.1))
          (λ also. inr (moves_alike z old d second new (second_alike z of_rest) also))
          (tail_each z of_rest);
    }

    go_together : AutomatonMoves c texts x old d new → (y : Automaton) → Among y xs → AutomatonMoves c texts y old d new → (joined c texts (x ∷ xs)).Moves old d new
    unfolding first second
    go_together moves y at others = inl (record {
      first = first;
      second = second;
      moves = (λ name fires. kept_fires (has x name) (d name) fires, moves_alike x old d first new (λ name own. sym (kept_in (has x name) (d name) own)) moves);
      others = ih second (second_joint y at others);
      agree = λ name own of_rest. kept_in (has x name) (d name) own ∙ sym (kept_in (joined_has xs name) (d name) of_rest);
      joint = λ name. both_kept (has x name) (joined_has xs name) (d name) (j.only name);
    })

    go_without : Rest x → (y : Automaton) → Among y xs → AutomatonMoves c texts y old d new → (joined c texts (x ∷ xs)).Moves old d new
    unfolding Rest
    go_without quiet y at others = inr (inr (record {
      moves = ih d (record {
        some = y;
        of_them = at;
        moves = others;
        only = λ name fires. ⊎_elim (λ own. absurd (not_none (d name) fires (quiet.0 name own))) (λ of_rest. of_rest) (j.only name fires);
        each = tail_each;
      });
      silent = quiet.0;
      stays = quiet.1;
    }))

    at_rest : Rest x → ((y : Automaton) → Among y xs → Rest y) → ⊥
    unfolding Rest
    at_rest quiet all =
        let fired = moves_fire j.some old d new j.moves in
        let silent : IsSilent c j.some d = ⊎_elim (λ e. subst (λ z. IsSilent c z d) e quiet.0) (λ of_rest. (all j.some of_rest).0) j.of_them in
        not_none (d fired.0) fired.2 (silent fired.0 fired.1)

    joint_step : (joined c texts (x ∷ xs)).Moves old d new
    unfolding Rest
    joint_step =
        ⊎_elim
        (λ quiet. ⊎_elim (λ all. absurd (at_rest quiet all)) (λ found. go_without quiet found.0 found.1 found.2) (some_moves xs old d new tail_each))
        (λ moves. ⊎_elim (λ all. goes_alone moves all) (λ found. go_together moves found.0 found.1 found.2) (some_moves xs old d new tail_each))
        (j.each x (inl refl))

  pub joint_gives : (xs : List Automaton) (old : State) (d : Data) (new : State) → IsJoint c texts xs old d new → (joined c texts xs).Moves old d new
  joint_gives [] old d new j = absurd j.of_them
  joint_gives (x ∷ xs) old d new j = joint_step x xs old d new j (λ e. joint_gives xs old e new)
