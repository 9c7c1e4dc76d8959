-- the links of a channel are its transitions
use Rattle.std.proofs.Common.{◌≡◌, ◌↔◌, ℕ, zero, suc, ◌+◌, ◌⊎◌, ⊎_elim, inl, inr, Bool, true, false, not, ◌||◌, ◌&&◌, List, [], ◌∷◌, slice_get, Option, Some, None, is_some, IsTrue, refl, sym, ap, ◌∙◌, subst, arith}
use Rattle.std.specs.List.Sorted.{IsStrictlyIncreasing}
use Rattle.std.proofs.lemmas.Bool.{false≢true}
use Rattle.std.proofs.lemmas.Option.{same_Some}
use Rattle.reo_value.specs.declared.value.Value.{Value}
use Rattle.reo_guard.specs.declared.guard.Guard.{Guard}
use Rattle.reo_guard.specs.declared.fun.Fun.{Fun}
use Rattle.reo_guard.specs.Holds.{Holds}
use Rattle.reo_guard.specs.Yields.{Yields}
use Rattle.reo_net.specs.declared.kind.Kind.{Kind}
use Rattle.reo_net.specs.declared.kind.Kind.TheVariants.{Sync, Lossy, Drain, Fifo, Filter, Transform}
use Rattle.reo_net.specs.declared.circuit.Channel.{Channel}
use Rattle.reo_net.specs.declared.circuit.RawCircuit.{RawCircuit}
use Rattle.reo_net.specs.Kind.{ChannelStep, fires_ends}
use Rattle.reo_net.specs.Names.{end_a, end_b}
use Rattle.reo_net.specs.Steps.{Data, fires_in}
use Rattle.reo_net.specs.Regions.{OfChannel, HasName, AutomatonFires}
use Rattle.reo_automata.specs.declared.template.Rule.{Rule}
use Rattle.reo_automata.specs.declared.template.Rule.TheVariants.{Same, Pass, Lose, Free, Image, Store, Emit}
use Rattle.reo_automata.specs.declared.template.Link.{Link}
use Rattle.reo_automata.specs.Links.{link_of, channel_links}
use Rattle.reo_automata.specs.Template.{has, EndsObey, Fires, LinkMoves, MakesMove, SomeLink, IsTemplate}
use Rattle.reo_automata.proofs.HasLemmas.{has_head, has_tail, has_cases, has_other}

-- just these ends fire, and the rule holds
Case : List (List ℕ) → Kind → Bool → Bool → Rule → Option Value → Option Value → Option Value → Option Value → Type 0
Case texts kind fa fb rule held a b new = (is_some a ≡ fa) × (is_some b ≡ fb) × EndsObey texts kind rule held a b new

clash : {A : Type 0} → true ≡ false → A
clash e = absurd (false≢true (sym e))

clash' : {A : Type 0} → false ≡ true → A
clash' e = absurd (false≢true e)

module _ (texts : List (List ℕ)) where
  sync_case : (held a b new : Option Value) → ChannelStep texts Sync held a b new ↔ Case texts Sync true true Same held a b new
  unfolding Case
  sync_case held (Some v) (Some w) new = (λ s. (refl, refl, (s.0, s.1)), λ k. (k.2.0, k.2.1))
  sync_case held (Some v) None new = (λ s. absurd s.0, λ k. absurd k.2.0)
  sync_case held None b new = (λ s. absurd s.0, λ k. absurd k.2.0)

  lossy_case : (held a b new : Option Value) → ChannelStep texts Lossy held a b new ↔ (Case texts Lossy true true Same held a b new ⊎ Case texts Lossy true false Free held a b new)
  unfolding Case
  lossy_case held (Some v) (Some w) new = (λ s. inl (refl, refl, (s.0, s.1)), λ k. ⊎_elim (λ p. (p.2.0, p.2.1)) (λ q. clash q.1) k)
  lossy_case held (Some v) None new = (λ s. inr (refl, refl, s.1), λ k. ⊎_elim (λ p. absurd p.2.0) (λ q. (tt, q.2)) k)
  lossy_case held None b new = (λ s. absurd s.0, λ k. ⊎_elim (λ p. absurd p.2.0) (λ q. clash' q.0) k)

  drain_case : (held a b new : Option Value) → ChannelStep texts Drain held a b new ↔ Case texts Drain true true Free held a b new
  unfolding Case
  drain_case held (Some v) (Some w) new = (λ s. (refl, refl, s.1), λ k. (tt, k.2))
  drain_case held (Some v) None new = (λ s. absurd s.0, λ k. clash' k.1)
  drain_case held None b new = (λ s. absurd s.0, λ k. clash' k.0)

  fifo_case : (first held a b new : Option Value) → ChannelStep texts (Fifo first) held a b new ↔ (Case texts (Fifo first) true false Store held a b new ⊎ Case texts (Fifo first) false true Emit held a b new)
  unfolding Case
  fifo_case first None (Some v) None new = (λ s. inl (refl, refl, (refl, s)), λ k. ⊎_elim (λ p. p.2.1) (λ q. clash q.0) k)
  fifo_case first (Some h) None (Some w) new = (λ s. inr (refl, refl, (ap Some s.0, s.1)), λ k. ⊎_elim (λ p. clash' p.0) (λ q. (same_Some w h q.2.0, q.2.1)) k)
  fifo_case first None None b new = (λ s. absurd s, λ k. ⊎_elim (λ p. clash' p.0) (λ q. clash' (sym (ap is_some q.2.0) ∙ q.1)) k)
  fifo_case first None (Some v) (Some w) new = (λ s. absurd s, λ k. ⊎_elim (λ p. clash p.1) (λ q. clash q.0) k)
  fifo_case first (Some h) (Some v) b new = (λ s. absurd s, λ k. ⊎_elim (λ p. (let e : Some h ≡ None = p.2.0 in cc)) (λ q. clash q.0) k)
  fifo_case first (Some h) None None new = (λ s. absurd s, λ k. ⊎_elim (λ p. clash' p.0) (λ q. clash' q.1) k)

  same_guard : (guard other : Guard) (v : Value) → Filter guard ≡ Filter other → Holds texts other v → Holds texts guard v
  same_guard guard other v e holds = let same : other ≡ guard = cc in subst (λ g. Holds texts g v) same holds

  other_guard : (guard other : Guard) (v : Value) → Filter guard ≡ Filter other → (Holds texts other v → ⊥) → Holds texts guard v → ⊥
  other_guard guard other v e fails holds = let same : guard ≡ other = cc in fails (subst (λ g. Holds texts g v) same holds)

  filter_case : (guard : Guard) (held a b new : Option Value) → ChannelStep texts (Filter guard) held a b new ↔ (Case texts (Filter guard) true true Pass held a b new ⊎ Case texts (Filter guard) true false Lose held a b new)
  unfolding Case
  filter_case guard held (Some v) (Some w) new =
      (λ s. inl (refl, refl, (((guard, refl, s.0.0), s.0.1), s.1)), λ k. ⊎_elim (λ p. ((same_guard guard p.2.0.0.0 v p.2.0.0.1 p.2.0.0.2, p.2.0.1), p.2.1)) (λ q. clash q.1) k)
  filter_case guard held (Some v) None new = (λ s. inr (refl, refl, ((guard, refl, s.0), s.1)), λ k. ⊎_elim (λ p. absurd p.2.0) (λ q. (other_guard guard q.2.0.0 v q.2.0.1 q.2.0.2, q.2.1)) k)
  filter_case guard held None b new = (λ s. absurd s.0, λ k. ⊎_elim (λ p. absurd p.2.0) (λ q. clash' q.0) k)

  same_fun : (fun other : Fun) (v w : Value) → Transform fun ≡ Transform other → Yields texts other v w → Yields texts fun v w
  same_fun fun other v w e yields = let same : other ≡ fun = cc in subst (λ f. Yields texts f v w) same yields

  transform_case : (fun : Fun) (held a b new : Option Value) → ChannelStep texts (Transform fun) held a b new ↔ Case texts (Transform fun) true true Image held a b new
  unfolding Case
  transform_case fun held (Some v) (Some w) new = (λ s. (refl, refl, ((fun, refl, s.0), s.1)), λ k. (same_fun fun k.2.0.0 v w k.2.0.1 k.2.0.2, k.2.1))
  transform_case fun held (Some v) None new = (λ s. absurd s.0, λ k. absurd k.2.0)
  transform_case fun held None b new = (λ s. absurd s.0, λ k. absurd k.2.0)

-- as to the names alone
Ends : Bool → Bool → Bool → Bool → Type 0
Ends fa fb a b = (a ≡ fa) × (b ≡ fb)

both_ends : (a b : Bool) → ((a && b) ≡ true) ↔ Ends true true a b
unfolding Ends
both_ends true b = (λ e. (refl, e), λ k. k.1)
both_ends false b = (λ e. clash' e, λ k. clash' k.0)

a_or_both : (a b : Bool) → (a ≡ true) ↔ (Ends true true a b ⊎ Ends true false a b)
unfolding Ends
a_or_both a true = (λ e. inl (e, refl), λ k. ⊎_elim (λ p. p.0) (λ q. clash q.1) k)
a_or_both a false = (λ e. inr (e, refl), λ k. ⊎_elim (λ p. clash' p.1) (λ q. q.0) k)

one_end : (a b : Bool) → (((a && not b) || (b && not a)) ≡ true) ↔ (Ends true false a b ⊎ Ends false true a b)
unfolding Ends
one_end true true = (λ e. clash' e, λ k. ⊎_elim (λ p. clash p.1) (λ q. clash q.0) k)
one_end true false = (λ e. inl (refl, refl), λ k. refl)
one_end false true = (λ e. inr (refl, refl), λ k. refl)
one_end false false = (λ e. clash' e, λ k. ⊎_elim (λ p. clash' p.0) (λ q. clash' q.1) k)

-- lists of one link and of two
one_link : {S : Type 0} (P : Link → Type 0) (first : Link) → S ↔ P first → S ↔ SomeLink (first ∷ []) P
one_link P first by = (λ s. (0, first, refl, by.0 s), λ at. by.1 (back at.0 at.1 at.2 at.3))
  where
    back : (i : ℕ) (link : Link) → slice_get (first ∷ []) i ≡ Some link → P link → P first
    back zero link found p = let same : link ≡ first = cc in subst P same p
    back (suc i) link found p = cc

two_links : {S : Type 0} (P : Link → Type 0) (first second : Link) → S ↔ (P first ⊎ P second) → S ↔ SomeLink (first ∷ second ∷ []) P
two_links P first second by = (λ s. ⊎_elim (λ p. (0, first, refl, p)) (λ q. (1, second, refl, q)) (by.0 s), λ at. by.1 (back at.0 at.1 at.2 at.3))
  where
    back : (i : ℕ) (link : Link) → slice_get (first ∷ second ∷ []) i ≡ Some link → P link → P first ⊎ P second
    back zero link found p = inl (let same : link ≡ first = cc in subst P same p)
    back (suc zero) link found p = inr (let same : link ≡ second = cc in subst P same p)
    back (suc (suc i)) link found p = cc

through : {S T U : Type 0} → S ↔ T → T ↔ U → S ↔ U
through f g = (λ s. g.0 (f.0 s), λ u. f.1 (g.1 u))

either : {S T U V : Type 0} → S ↔ T → U ↔ V → (S ⊎ U) ↔ (T ⊎ V)
either f g = (λ k. ⊎_elim (λ s. inl (f.0 s)) (λ u. inr (g.0 u)) k, λ k. ⊎_elim (λ t. inl (f.1 t)) (λ v. inr (g.1 v)) k)

-- which of two neighbouring names is in a list
FiresJust : List ℕ → ℕ → Bool → Bool → Type 0
FiresJust fires a fa fb = (has fires a ≡ fa) × (has fires (a + 1) ≡ fb)

pair_fires : (a : ℕ) → FiresJust (a ∷ (a + 1) ∷ []) a true true
unfolding FiresJust
pair_fires a = (has_head a ((a + 1) ∷ []), has_tail a (a + 1) ((a + 1) ∷ []) (has_head (a + 1) []))

a_fires : (a : ℕ) → FiresJust (a ∷ []) a true false
unfolding FiresJust
a_fires a = (has_head a [], has_other a (a + 1) [] (λ e. omega (arith, e)))

b_fires : (a : ℕ) → FiresJust ((a + 1) ∷ []) a false true
unfolding FiresJust
b_fires a = (has_other (a + 1) a [] (λ e. omega (arith, e)), has_head (a + 1) [])

module _ (c : RawCircuit) (k : ℕ) (channel : Channel) (found : slice_get c.channels k ≡ Some channel) where
  fires_just : (link : Link) (fires : ℕ → Bool) (fa fb : Bool) → FiresJust link.fires (end_a c k) fa fb → Ends fa fb (fires (end_a c k)) (fires (end_b c k)) ↔ Fires c (OfChannel k) link fires
  unfolding FiresJust Ends
  fires_just link fires fa fb just = (
    λ e name has_name. ⊎_elim
        (λ is. ap fires is ∙ (e.0 ∙ (sym just.0 ∙ ap (has link.fires) (sym is))))
        (λ is. ap fires is ∙ (e.1 ∙ (sym just.1 ∙ ap (has link.fires) (sym is))))
        has_name,
    λ f. (f (end_a c k) (inl refl) ∙ just.0, f (end_b c k) (inr refl) ∙ just.1),
  )

  moves_just : (texts : List (List ℕ)) (held : Option Value) (d : Data) (new : Option Value) (link : Link) (fa fb : Bool) → FiresJust link.fires (end_a c k) fa fb
      → Case texts channel.kind fa fb link.rule held (d (end_a c k)) (d (end_b c k)) new ↔ LinkMoves c texts (OfChannel k) held d new link
  unfolding Case Ends
  moves_just texts held d new link fa fb just =
      let names = fires_just link (fires_in d) fa fb just in (
        λ p. (names.0 (p.0, p.1), (channel, found, p.2)),
        λ m.
            let ends = names.1 m.0 in
            let obeys = m.1.2 in
            let same : m.1.0 ≡ channel = same_Some m.1.0 channel (sym m.1.1 ∙ found) in
            (ends.0, ends.1, subst (λ (ch : Channel). EndsObey texts ch.kind link.rule held (d (end_a c k)) (d (end_b c k)) new) same obeys),
      )

  own_step : (texts : List (List ℕ)) (held : Option Value) (d : Data) (new : Option Value) → MakesMove c texts (OfChannel k) held d new ↔ ChannelStep texts channel.kind held (d (end_a c k)) (d (end_b c k)) new
  own_step texts held d new = (
    λ m. subst (λ (ch : Channel). ChannelStep texts ch.kind held (d (end_a c k)) (d (end_b c k)) new) (same_Some m.0 channel (sym m.1 ∙ found)) m.2,
    λ s. (channel, found, s),
  )

  own_fires : (fires : ℕ → Bool) → AutomatonFires c (OfChannel k) fires ↔ IsTrue (fires_ends channel.kind (fires (end_a c k)) (fires (end_b c k)))
  own_fires fires = (
    λ m. subst (λ (ch : Channel). IsTrue (fires_ends ch.kind (fires (end_a c k)) (fires (end_b c k)))) (same_Some m.0 channel (sym m.1 ∙ found)) m.2,
    λ s. (channel, found, s),
  )

  -- a list of some of the channel's names, and which it has
  record IsSome (fires : List ℕ) (fa fb : Bool) : Type 0 where
    just : FiresJust fires (end_a c k) fa fb
    rises : IsStrictlyIncreasing fires
    own : (name : ℕ) → has fires name ≡ true → HasName c (OfChannel k) name
    some : (name : ℕ) × (has fires name ≡ true)

  both_names : IsSome (end_a c k ∷ end_b c k ∷ []) true true
  both_names = record {
    just = pair_fires (end_a c k);
    rises = λ i h. pair_rises i h;
    own = λ name e. ⊎_elim (λ is. inl (sym is)) (λ later. ⊎_elim (λ is. inr (sym is)) (λ none. clash' none) (has_cases (end_b c k) name [] later)) (has_cases (end_a c k) name (end_b c k ∷ []) e);
    some = (end_a c k, has_head (end_a c k) (end_b c k ∷ []));
  }
    where
      pair_rises : IsStrictlyIncreasing (end_a c k ∷ end_b c k ∷ [])
      pair_rises zero h = omega arith
      pair_rises (suc i) h = absurd (omega (arith, h))

  a_names : IsSome (end_a c k ∷ []) true false
  a_names = record {
    just = a_fires (end_a c k);
    rises = λ i h. absurd (omega (arith, h));
    own = λ name e. ⊎_elim (λ is. inl (sym is)) (λ none. clash' none) (has_cases (end_a c k) name [] e);
    some = (end_a c k, has_head (end_a c k) []);
  }

  b_names : IsSome (end_b c k ∷ []) false true
  b_names = record {
    just = b_fires (end_a c k);
    rises = λ i h. absurd (omega (arith, h));
    own = λ name e. ⊎_elim (λ is. inr (sym is)) (λ none. clash' none) (has_cases (end_b c k) name [] e);
    some = (end_b c k, has_head (end_b c k) []);
  }

  abbrev names : List ℕ
  names = end_a c k ∷ end_b c k ∷ []

  all_named : (name : ℕ) → (has (end_a c k ∷ end_b c k ∷ []) name ≡ true) ↔ HasName c (OfChannel k) name
  all_named name = (
    both_names.own name,
    λ at. ⊎_elim
        (λ is. ap (has names) is ∙ has_head (end_a c k) (end_b c k ∷ []))
        (λ is. ap (has names) is ∙ has_tail (end_a c k) (end_b c k) (end_b c k ∷ []) (has_head (end_b c k) []))
        at,
  )

  module _ (first : Link) (fa fb : Bool) (is_first : IsSome first.fires fa fb) where
    one_template : ((texts : List (List ℕ)) (held a b new : Option Value) → ChannelStep texts channel.kind held a b new ↔ Case texts channel.kind fa fb first.rule held a b new)
        → ((a b : Bool) → IsTrue (fires_ends channel.kind a b) ↔ Ends fa fb a b)
        → IsTemplate c (OfChannel k) (record { names = end_a c k ∷ end_b c k ∷ []; links = first ∷ [] })
    one_template step ends = record {
      rising = both_names.rises;
      named = all_named;
      links_rise = λ i link found. (only_one (λ link. IsStrictlyIncreasing link.fires) is_first.rises i link found);
      own = λ i link found. (only_one (λ link. (name : ℕ) → has link.fires name ≡ true → HasName c (OfChannel k) name) is_first.own i link found);
      some = λ i link found. (only_one (λ link. (name : ℕ) × (has link.fires name ≡ true)) is_first.some i link found);
      fires = λ fires. one_link (λ link. Fires c (OfChannel k) link fires) first (through (own_fires fires) (through (ends (fires (end_a c k)) (fires (end_b c k))) (fires_just first fires fa fb is_first.just)));
      moves = λ texts held d new. one_link (LinkMoves c texts (OfChannel k) held d new) first
          (through (own_step texts held d new) (through (step texts held (d (end_a c k)) (d (end_b c k)) new) (moves_just texts held d new first fa fb is_first.just)));
      once = λ i j one other at_i at_j same. at_zero i one at_i ∙ sym (at_zero j other at_j);
    }
      where
        at_zero : (i : ℕ) (link : Link) → slice_get (first ∷ []) i ≡ Some link → i ≡ 0
        at_zero zero link found = refl
        at_zero (suc i) link found = cc

        only_one : (P : Link → Type 0) → P first → (i : ℕ) (link : Link) → slice_get (first ∷ []) i ≡ Some link → P link
        only_one P p zero link found = let same : first ≡ link = cc in subst P same p
        only_one P p (suc i) link found = cc

    module _ (second : Link) (ga gb : Bool) (is_second : IsSome second.fires ga gb) (at : ℕ) (differ : has first.fires at ≡ has second.fires at → ⊥) where
      two_template : ((texts : List (List ℕ)) (held a b new : Option Value) → ChannelStep texts channel.kind held a b new ↔ (Case texts channel.kind fa fb first.rule held a b new ⊎ Case texts channel.kind ga gb second.rule held a b new))
          → ((a b : Bool) → IsTrue (fires_ends channel.kind a b) ↔ (Ends fa fb a b ⊎ Ends ga gb a b))
          → IsTemplate c (OfChannel k) (record { names = end_a c k ∷ end_b c k ∷ []; links = first ∷ second ∷ [] })
      two_template step ends = record {
        rising = both_names.rises;
        named = all_named;
        links_rise = λ i link found. (each (λ link. IsStrictlyIncreasing link.fires) is_first.rises is_second.rises i link found);
        own = λ i link found. (each (λ link. (name : ℕ) → has link.fires name ≡ true → HasName c (OfChannel k) name) is_first.own is_second.own i link found);
        some = λ i link found. (each (λ link. (name : ℕ) × (has link.fires name ≡ true)) is_first.some is_second.some i link found);
        fires = λ fires. two_links (λ link. Fires c (OfChannel k) link fires) first second
            (through (own_fires fires) (through (ends (fires (end_a c k)) (fires (end_b c k))) (either (fires_just first fires fa fb is_first.just) (fires_just second fires ga gb is_second.just))));
        moves = λ texts held d new. two_links (LinkMoves c texts (OfChannel k) held d new) first second
            (through (own_step texts held d new) (through (step texts held (d (end_a c k)) (d (end_b c k)) new) (either (moves_just texts held d new first fa fb is_first.just) (moves_just texts held d new second ga gb is_second.just))));
        once = once;
      }
        where
          each : (P : Link → Type 0) → P first → P second → (i : ℕ) (link : Link) → slice_get (first ∷ second ∷ []) i ≡ Some link → P link
          each P p q zero link found = let same : first ≡ link = cc in subst P same p
          each P p q (suc zero) link found = let same : second ≡ link = cc in subst P same q
          each P p q (suc (suc i)) link found = cc

          once : (i j : ℕ) (one other : Link) → slice_get (first ∷ second ∷ []) i ≡ Some one → slice_get (first ∷ second ∷ []) j ≡ Some other → ((name : ℕ) → has one.fires name ≡ has other.fires name) → i ≡ j
          once zero zero one other at_i at_j same = refl
          once zero (suc zero) one other at_i at_j same = absurd (differ (let is : first ≡ one = cc in let is' : second ≡ other = cc in ap (λ (l : Link). has l.fires at) is ∙ (same at ∙ ap (λ (l : Link). has l.fires at) (sym is'))))
          once (suc zero) zero one other at_i at_j same = absurd (differ (let is : second ≡ one = cc in let is' : first ≡ other = cc in sym (ap (λ (l : Link). has l.fires at) is ∙ (same at ∙ ap (λ (l : Link). has l.fires at) (sym is')))))
          once (suc zero) (suc zero) one other at_i at_j same = refl
          once (suc (suc i)) j one other at_i at_j same = cc
          once zero (suc (suc j)) one other at_i at_j same = cc
          once (suc zero) (suc (suc j)) one other at_i at_j same = cc

-- the template of a channel
pub channel_is_template : (c : RawCircuit) (k : ℕ) (kind : Kind) (from to : ℕ) → slice_get c.channels k ≡ Some (record { kind = kind; a = from; b = to })
    → IsTemplate c (OfChannel k) (record { names = end_a c k ∷ end_b c k ∷ []; links = channel_links kind (end_a c k) })
unfolding FiresJust
channel_is_template c k kind from to found = go kind found
  where
    pair : List ℕ
    pair = end_a c k ∷ end_b c k ∷ []

    go : (kind : Kind) → slice_get c.channels k ≡ Some (record { kind = kind; a = from; b = to }) → IsTemplate c (OfChannel k) (record { names = end_a c k ∷ end_b c k ∷ []; links = channel_links kind (end_a c k) })
    go Sync at =
        let ch : Channel = record { kind = Sync; a = from; b = to } in
        one_template c k ch at (link_of (end_a c k ∷ end_b c k ∷ []) Same) true true (both_names c k ch at) sync_case both_ends
    go Drain at =
        let ch : Channel = record { kind = Drain; a = from; b = to } in
        one_template c k ch at (link_of (end_a c k ∷ end_b c k ∷ []) Free) true true (both_names c k ch at) drain_case both_ends
    go (Transform fun) at =
        let ch : Channel = record { kind = Transform fun; a = from; b = to } in
        one_template c k ch at (link_of (end_a c k ∷ end_b c k ∷ []) Image) true true (both_names c k ch at) (λ texts. transform_case texts fun) both_ends
    go Lossy at =
        let ch : Channel = record { kind = Lossy; a = from; b = to } in
        two_template c k ch at (link_of (end_a c k ∷ end_b c k ∷ []) Same) true true (both_names c k ch at) (link_of (end_a c k ∷ []) Free) true false (a_names c k ch at) (end_b c k) (λ e. clash (sym (pair_fires (end_a c k)).1 ∙ (e ∙ (a_fires (end_a c k)).1))) lossy_case a_or_both
    go (Filter guard) at =
        let ch : Channel = record { kind = Filter guard; a = from; b = to } in
        two_template c k ch at (link_of (end_a c k ∷ end_b c k ∷ []) Pass) true true (both_names c k ch at) (link_of (end_a c k ∷ []) Lose) true false (a_names c k ch at) (end_b c k) (λ e. clash (sym (pair_fires (end_a c k)).1 ∙ (e ∙ (a_fires (end_a c k)).1))) (λ texts. filter_case texts guard) a_or_both
    go (Fifo first) at =
        let ch : Channel = record { kind = Fifo first; a = from; b = to } in
        two_template c k ch at (link_of (end_a c k ∷ []) Store) true false (a_names c k ch at) (link_of (end_b c k ∷ []) Emit) false true (b_names c k ch at) (end_a c k) (λ e. clash (sym (a_fires (end_a c k)).0 ∙ (e ∙ (b_fires (end_a c k)).0))) (λ texts. fifo_case texts first) one_end
