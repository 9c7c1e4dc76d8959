-- The part of a product step that is a connected firing meets what channels and nodes ask.
use Rattle.std.proofs.Common.{◌≡◌, ℕ, ◌<◌, ◌⊎◌, inl, inr, ⊎_elim, List, [], ◌∷◌, map, slice_get, filter, Bool, true, false, cond, Option, Some, None, is_some, IfSome, All, refl, sym, ap, ◌∙◌, subst}
use Rattle.std.specs.Prelude.{nat_eq}
use Rattle.std.specs.List.Sorted.{IsStrictlyIncreasing}
use Rattle.std.proofs.lemmas.Bool.{false≢true, eqb-true}
use Rattle.std.proofs.lemmas.List.Elements.{All-filter}
use Rattle.std.proofs.lemmas.List.Kept.{IsStrictlyIncreasing-filter}
use Rattle.std.proofs.lemmas.Map.Entries.{lookup-filter-keys}
use Rattle.reo_value.specs.declared.value.Value.{Value}
use Rattle.reo_net.specs.declared.circuit.Channel.{Channel}
use Rattle.reo_net.specs.declared.circuit.RawCircuit.{RawCircuit}
use Rattle.reo_net.specs.declared.circuit.Step.{Step}
use Rattle.reo_net.specs.Kind.{is_fifo, Passes}
use Rattle.reo_net.specs.Names.{end_a, end_b, IsNameOf}
use Rattle.reo_net.specs.Steps.{State, datum, fires_in, content, NodeStep, NodeAllows, ProductStep}
use Rattle.reo_net.specs.Regions.{Automaton, OfChannel, OfNode, IsSynchronous, HasName}
use Rattle.reo_net.proofs.KindLemmas.{step_cases}
use Rattle.reo_growth.specs.Lists.{has}
use Rattle.reo_product.specs.Laws.{IsPart}
use Rattle.reo_flow.specs.Step.{IsPast, MeetLinks}
use Rattle.reo_flow.proofs.StepLaw.{fired_names}
use Rattle.reo_schedule.proofs.ListLemmas.{same_rising}
use Rattle.reo_schedule.proofs.RegionLemmas.{joins}

-- the names of the pairs that are kept by their names
names_kept : (part : ℕ → Bool) (pairs : List (ℕ × Value)) → map (λ p. p.0) (filter (λ p. part p.0) pairs) ≡ filter part (map (λ p. p.0) pairs)
names_kept part [] = refl
names_kept part (p ∷ pairs) = go (part p.0) (names_kept part pairs)
  where
    go : (b : Bool) → map (λ (q : ℕ × Value). q.0) (filter (λ q. part q.0) pairs) ≡ filter part (map (λ (q : ℕ × Value). q.0) pairs)
        → map (λ (q : ℕ × Value). q.0) (cond b (p ∷ filter (λ q. part q.0) pairs) (filter (λ q. part q.0) pairs)) ≡ cond b (p.0 ∷ filter part (map (λ (q : ℕ × Value). q.0) pairs)) (filter part (map (λ (q : ℕ × Value). q.0) pairs))
    go true same = ap (λ ns. p.0 ∷ ns) same
    go false same = same

module _ (c : RawCircuit) (texts : List (List ℕ)) (state : State) (step : Step) (new : State) (possible : ProductStep c texts state step new) (root x : Automaton) (part : ℕ → Bool) (is : IsPart c root (fires_in (datum step)) x part) where
  pub sub : Step
  sub = record { pairs = filter (λ p. part p.0) step.pairs }

  pub datum_sub : (name : ℕ) → datum sub name ≡ cond (part name) (datum step name) None
  unfolding sub
  datum_sub name = lookup-filter-keys (nat_eq name) part (part name) (λ k e. ap part (sym (eqb-true name k e))) step.pairs

  sub_in : (name : ℕ) → part name ≡ true → datum sub name ≡ datum step name
  sub_in name e = datum_sub name ∙ ap (λ b. cond b (datum step name) None) e

  sub_out : (name : ℕ) → part name ≡ false → datum sub name ≡ None
  sub_out name e = datum_sub name ∙ ap (λ b. cond b (datum step name) None) e

  -- what the part has, the step has
  pub sub_has : (name : ℕ) (value : Value) → datum sub name ≡ Some value → (datum step name ≡ Some value) × (part name ≡ true)
  sub_has name value at = go (part name) refl
    where
      go : (b : Bool) → part name ≡ b → (datum step name ≡ Some value) × (part name ≡ true)
      go true e = (sym (sub_in name e) ∙ at, e)
      go false e = absurd (let clash : None ≡ Some value = sym (sub_out name e) ∙ at in cc)

  none_in : (name : ℕ) → (fires_in (datum step) name ≡ true → ⊥) → datum step name ≡ None
  none_in name never = go (datum step name) refl
    where
      go : (o : Option Value) → datum step name ≡ o → o ≡ None
      go None e = refl
      go (Some v) e = absurd (never (ap is_some e))

  -- an automaton with a name in the part has there all that it has in the step
  whole : (y : Automaton) → IsSynchronous c y → (at : ℕ) → HasName c y at → part at ≡ true → (name : ℕ) → HasName c y name → datum sub name ≡ datum step name
  whole y sync at its fired name has = go (part name) refl
    where
      go : (b : Bool) → part name ≡ b → datum sub name ≡ datum step name
      go true e = sub_in name e
      go false e =
          sub_out name e
          ∙ sym (none_in name (λ also. false≢true (sym e ∙ is.closed y at name (joins c root part is.connected at fired y sync its) its fired has also)))

  meets_channel : (k : ℕ) (channel : Channel) → slice_get c.channels k ≡ Some channel → is_fifo channel.kind ≡ false
      → IsPast c k (datum sub) ⊎ Passes texts channel.kind (datum sub (end_a c k)) (datum sub (end_b c k))
  meets_channel k channel found other = go (part (end_a c k)) refl (part (end_b c k)) refl
    where
      sync : IsSynchronous c (OfChannel k)
      sync = (channel, found, other)

      passes : datum sub (end_a c k) ≡ datum step (end_a c k) → datum sub (end_b c k) ≡ datum step (end_b c k)
          → IsPast c k (datum sub) ⊎ Passes texts channel.kind (datum sub (end_a c k)) (datum sub (end_b c k))
      passes same_a same_b =
          ⊎_elim
          (λ stays. inl (record { no_a = same_a ∙ stays.no_a; no_b = same_b ∙ stays.no_b }))
          (λ moves. ⊎_elim
          (λ buffer. absurd (false≢true (sym other ∙ buffer.0)))
          (λ through. inr (subst (λ a. Passes texts channel.kind a (datum sub (end_b c k))) (sym same_a) (subst (λ b. Passes texts channel.kind (datum step (end_a c k)) b) (sym same_b) through.1)))
          (step_cases texts channel.kind (content c k channel.kind state) (datum step (end_a c k)) (datum step (end_b c k)) (content c k channel.kind new) moves))
          (possible.channels k channel found)

      go : (a : Bool) → part (end_a c k) ≡ a → (b : Bool) → part (end_b c k) ≡ b → IsPast c k (datum sub) ⊎ Passes texts channel.kind (datum sub (end_a c k)) (datum sub (end_b c k))
      go true at_a b at_b =
          passes (whole (OfChannel k) sync (end_a c k) (inl refl) at_a (end_a c k) (inl refl)) (whole (OfChannel k) sync (end_a c k) (inl refl) at_a (end_b c k) (inr refl))
      go false at_a true at_b =
          passes (whole (OfChannel k) sync (end_b c k) (inr refl) at_b (end_a c k) (inl refl)) (whole (OfChannel k) sync (end_b c k) (inr refl) at_b (end_b c k) (inr refl))
      go false at_a false at_b = inl (record { no_a = sub_out (end_a c k) at_a; no_b = sub_out (end_b c k) at_b })

  meets_node : (node : ℕ) → node < c.nodes → NodeAllows c node (datum sub)
  meets_node node below =
      ⊎_elim
      (λ stays. inl (λ name named. none_sub name (stays name named)))
      (λ moves. moved moves (part moves.fires.input) refl)
      (possible.nodes node below)
    where
      none_sub : (name : ℕ) → datum step name ≡ None → datum sub name ≡ None
      none_sub name none = go (part name) refl
        where
          go : (b : Bool) → part name ≡ b → datum sub name ≡ None
          go true e = sub_in name e ∙ none
          go false e = sub_out name e

      moved : (moves : NodeStep c node (datum step)) → (b : Bool) → part moves.fires.input ≡ b → NodeAllows c node (datum sub)
      moved moves true at =
          let same : (name : ℕ) → IsNameOf c node name → datum sub name ≡ datum step name = whole (OfNode node) below moves.fires.input (inl moves.fires.incoming) at in
          inr (record {
            fires = record {
              input = moves.fires.input;
              incoming = moves.fires.incoming;
              chosen = ap is_some (same moves.fires.input (inl moves.fires.incoming)) ∙ moves.fires.chosen;
              alone = λ other incoming fired. moves.fires.alone other incoming (ap is_some (sym (same other (inl incoming))) ∙ fired);
              all = λ output outgoing. ap is_some (same output (inr outgoing)) ∙ moves.fires.all output outgoing;
              output = moves.fires.output;
              outgoing = moves.fires.outgoing;
            };
            value = moves.value;
            same = λ name named. subst (λ o. IfSome o (λ v. v ≡ moves.value)) (sym (same name named)) (moves.same name named);
          })
      moved moves false at = inl (λ name named. none_at name named (part name) refl)
        where
          none_at : (name : ℕ) → IsNameOf c node name → (b : Bool) → part name ≡ b → datum sub name ≡ None
          none_at name named true e =
              absurd (false≢true (sym at ∙ is.closed (OfNode node) name moves.fires.input (joins c root part is.connected name e (OfNode node) below named) named e (inl moves.fires.incoming) moves.fires.chosen))
          none_at name named false e = sub_out name e

  pub part_meets : MeetLinks c texts (datum sub)
  part_meets = record { channels = meets_channel; nodes = meets_node }

  -- the part's names, where a rising list has them
  pub part_named : (names : List ℕ) → IsStrictlyIncreasing names → ((name : ℕ) → has names name ≡ part name) → map (λ p. p.0) sub.pairs ≡ names
  unfolding sub
  part_named names rising same =
      same_rising (map (λ p. p.0) sub.pairs) names
      (subst IsStrictlyIncreasing (sym (names_kept part step.pairs)) (IsStrictlyIncreasing-filter part (map (λ p. p.0) step.pairs) possible.is_step.rising))
      rising
      (λ name. fired_names sub.pairs name ∙ is_part name ∙ sym (same name))
    where
      is_part : (name : ℕ) → is_some (datum sub name) ≡ part name
      is_part name = go (part name) refl
        where
          go : (b : Bool) → part name ≡ b → is_some (datum sub name) ≡ part name
          go true e = ap is_some (sub_in name e) ∙ is.inside name e ∙ sym e
          go false e = ap is_some (sub_out name e) ∙ sym e

  pub part_has : (P : ℕ × Value → Type 0) → All P step.pairs → All P sub.pairs
  unfolding sub
  part_has P all = All-filter (λ p. part p.0) P step.pairs all
