-- the links of a node are its transitions
use Rattle.std.proofs.Common.{◌≡◌, ◌↔◌, ℕ, ◌⊎◌, ⊎_elim, inl, inr, Bool, true, false, not, ◌||◌, ◌&&◌, cond, List, [], ◌∷◌, map, filter, filter_map, slice_get, nat_eq, Option, Some, None, refl, sym, ap, ◌∙◌, subst}
use Rattle.std.specs.List.{list_any, range_with_len}
use Rattle.std.specs.List.Sorted.{IsStrictlyIncreasing}
use Rattle.std.specs.Option.{option_map, option_map_or}
use Rattle.std.specs.Cmp.Derive.{both_true}
use Rattle.std.proofs.Math.Bool.{or-true}
use Rattle.std.proofs.lemmas.Bool.{false≢true, eq-eqb, ne_eqb, eqb-true}
use Rattle.std.proofs.lemmas.Option.{same_Some, slice_get-map}
use Rattle.std.proofs.lemmas.List.Kept.{IsStrictlyIncreasing-filter}
use Rattle.reo_net.specs.declared.circuit.RawCircuit.{RawCircuit}
use Rattle.reo_net.specs.declared.stand.Stand.{Stand}
use Rattle.reo_net.specs.Names.{name_count, IsIncoming, IsOutgoing, IsNameOf}
use Rattle.reo_net.specs.Stand.{stand_of}
use Rattle.reo_net.specs.Steps.{fires_in, NodeFires}
use Rattle.reo_net.specs.Regions.{OfNode}
use Rattle.reo_net.proofs.NameLemmas.{name_below}
use Rattle.reo_net.proofs.StandLemmas.{incoming_stands, outgoing_stands}
use Rattle.reo_automata.specs.declared.template.Rule.TheVariants.{Same}
use Rattle.reo_automata.specs.declared.template.Link.{Link}
use Rattle.reo_automata.specs.declared.template.Template.{Template}
use Rattle.reo_automata.specs.Links.{link_of, is_at, is_in, node_names, serving, input_link, node_links}
use Rattle.reo_automata.specs.Template.{has, Fires, LinkMoves, SomeLink, IsTemplate}
use Rattle.reo_automata.proofs.HasLemmas.{has_head, has_tail, has_cases, has_filter, has_place, place_has, has_range, range_rises, one_place}

from_option : {X Y : Type 0} (f : X → Y) (o : Option X) (y : Y) → option_map f o ≡ Some y → (x : X) × (o ≡ Some x) × (f x ≡ y)
from_option f None y e = cc
from_option f (Some x) y e = (x, refl, same_Some (f x) y e)

both_left : (a b : Bool) → (a && b) ≡ true → a ≡ true
both_left true b e = refl
both_left false b e = absurd (false≢true e)

any_from : (p : ℕ → Bool) (xs : List ℕ) (name : ℕ) → has xs name ≡ true → p name ≡ true → list_any p xs ≡ true
any_from p [] name e is = absurd (false≢true e)
any_from p (x ∷ xs) name e is =
    ⊎_elim (λ same. ap (λ b. b || list_any p xs) (ap p same ∙ is)) (λ later. ap (λ b. p x || b) (any_from p xs name later is) ∙ or-true (p x)) (has_cases x name xs e)

from_any : (p : ℕ → Bool) (xs : List ℕ) → list_any p xs ≡ true → (name : ℕ) × (has xs name ≡ true) × (p name ≡ true)
from_any p [] e = absurd (false≢true e)
from_any p (x ∷ xs) e = go (p x) refl e (from_any p xs)
  where
    go : (b : Bool) → p x ≡ b → (b || list_any p xs) ≡ true → (list_any p xs ≡ true → (name : ℕ) × (has xs name ≡ true) × (p name ≡ true)) → (name : ℕ) × (has (x ∷ xs) name ≡ true) × (p name ≡ true)
    go true is e more = (x, has_head x xs, is)
    go false is e more = let at = more e in (at.0, has_tail x at.0 xs at.1, at.2)

module _ (c : RawCircuit) (node : ℕ) where
  in_stands : (name : ℕ) → IsIncoming c node name → is_in c name ≡ true
  in_stands name at = ap (λ o. option_map_or (λ (s : Stand). s.incoming) o false) ((incoming_stands c node name).1 at)

  out_stands : (name : ℕ) → IsOutgoing c node name → is_in c name ≡ false
  out_stands name at = ap (λ o. option_map_or (λ (s : Stand). s.incoming) o false) ((outgoing_stands c node name).1 at)

  at_stands : (name : ℕ) → IsNameOf c node name → is_at c node name ≡ true
  at_stands name at =
      ⊎_elim
      (λ incoming. ap (λ o. option_map_or (λ (s : Stand). nat_eq s.node node) o false) ((incoming_stands c node name).1 incoming) ∙ eq-eqb node node refl)
      (λ outgoing. ap (λ o. option_map_or (λ (s : Stand). nat_eq s.node node) o false) ((outgoing_stands c node name).1 outgoing) ∙ eq-eqb node node refl)
      at

  -- what stands at the node is a name of it, which goes one way
  found : (name : ℕ) → is_at c node name ≡ true → (IsIncoming c node name × (is_in c name ≡ true)) ⊎ (IsOutgoing c node name × (is_in c name ≡ false))
  found name e = go (stand_of c name) refl e
    where
      way : (s : Stand) → stand_of c name ≡ Some s → s.node ≡ node → (b : Bool) → s.incoming ≡ b → (IsIncoming c node name × (is_in c name ≡ true)) ⊎ (IsOutgoing c node name × (is_in c name ≡ false))
      way s is same true goes =
          let at = (incoming_stands c node name).0 (is ∙ ap Some (ap (λ n. record { node = n; incoming = s.incoming }) same ∙ ap (λ w. record { node = node; incoming = w }) goes)) in
          inl (at, in_stands name at)
      way s is same false goes =
          let at = (outgoing_stands c node name).0 (is ∙ ap Some (ap (λ n. record { node = n; incoming = s.incoming }) same ∙ ap (λ w. record { node = node; incoming = w }) goes)) in
          inr (at, out_stands name at)

      go : (o : Option Stand) → stand_of c name ≡ o → option_map_or (λ (s : Stand). nat_eq s.node node) o false ≡ true → (IsIncoming c node name × (is_in c name ≡ true)) ⊎ (IsOutgoing c node name × (is_in c name ≡ false))
      go None is e = absurd (false≢true e)
      go (Some s) is e = way s is (eqb-true s.node node e) s.incoming refl

  abbrev names : List ℕ
  names = node_names c node

  names_rise : IsStrictlyIncreasing (node_names c node)
  names_rise = IsStrictlyIncreasing-filter (is_at c node) (range_with_len 0 (name_count c)) (range_rises (name_count c))

  both_right : (a b : Bool) → (a && b) ≡ true → b ≡ true
  both_right true b e = e
  both_right false b e = absurd (false≢true e)

  pub named : (name : ℕ) → (has (node_names c node) name ≡ true) ↔ IsNameOf c node name
  named name = (
    λ e.
        let at = both_right (has (range_with_len 0 (name_count c)) name) (is_at c node name) (sym (has_filter (is_at c node) (range_with_len 0 (name_count c)) name) ∙ e) in
        ⊎_elim (λ i. inl i.0) (λ o. inr o.0) (found name at),
    λ at. has_filter (is_at c node) (range_with_len 0 (name_count c)) name ∙ (ap (λ b. b && is_at c node name) (has_range (name_count c) name (name_below c node name at)) ∙ at_stands name at),
  )

  named_in : (name : ℕ) → IsIncoming c node name → has (node_names c node) name ≡ true
  named_in name at = (named name).1 (inl at)

  named_out : (name : ℕ) → IsOutgoing c node name → has (node_names c node) name ≡ true
  named_out name at = (named name).1 (inr at)

  -- a link serves its input and all outputs
  serves : (input name : ℕ) → has (node_names c node) name ≡ true → has (serving c (node_names c node) input) name ≡ (not (is_in c name) || nat_eq name input)
  serves input name at =
      has_filter (λ n. not (is_in c n) || nat_eq n input) (node_names c node) name ∙ ap (λ b. b && (not (is_in c name) || nat_eq name input)) at

  serves_in : (input name : ℕ) → IsIncoming c node name → has (serving c (node_names c node) input) name ≡ nat_eq name input
  serves_in input name at = serves input name (named_in name at) ∙ ap (λ b. not b || nat_eq name input) (in_stands name at)

  serves_out : (input name : ℕ) → IsOutgoing c node name → has (serving c (node_names c node) input) name ≡ true
  serves_out input name at = serves input name (named_out name at) ∙ ap (λ b. not b || nat_eq name input) (out_stands name at)

  abbrev link_at : ℕ → Link
  link_at input = link_of (serving c (node_names c node) input) Same

  -- an input and an output, and the names of the link of that input in the set
  record ServesSet (fires : ℕ → Bool) : Type 0 where
    input : ℕ
    incoming : IsIncoming c node input
    output : ℕ
    outgoing : IsOutgoing c node output
    just : Fires c (OfNode node) (link_of (serving c (node_names c node) input) Same) fires

  fires_serving : (fires : ℕ → Bool) → NodeFires c node fires → ServesSet fires
  fires_serving fires at = record {
    input = at.input;
    incoming = at.incoming;
    output = at.output;
    outgoing = at.outgoing;
    just = λ name is. ⊎_elim
        (λ incoming. by_input name incoming (fires name) refl ∙ sym (serves_in at.input name incoming))
        (λ outgoing. at.all name outgoing ∙ sym (serves_out at.input name outgoing))
        is;
  }
    where
      by_input : (name : ℕ) → IsIncoming c node name → (b : Bool) → fires name ≡ b → fires name ≡ nat_eq name at.input
      by_input name incoming true e = e ∙ sym (eq-eqb name at.input (at.alone name incoming e))
      by_input name incoming false e = e ∙ sym (ne_eqb name at.input (λ same. false≢true (sym e ∙ (ap fires same ∙ at.chosen))))

  serving_fires : (fires : ℕ → Bool) → ServesSet fires → NodeFires c node fires
  serving_fires fires s = record {
    input = s.input;
    incoming = s.incoming;
    chosen = s.just s.input (inl s.incoming) ∙ (serves_in s.input s.input s.incoming ∙ eq-eqb s.input s.input refl);
    alone = λ other incoming e. eqb-true other s.input (sym (serves_in s.input other incoming) ∙ (sym (s.just other (inl incoming)) ∙ e));
    all = λ output outgoing. s.just output (inr outgoing) ∙ serves_out s.input output outgoing;
    output = s.output;
    outgoing = s.outgoing;
  }

  -- the links, one for each input
  abbrev inputs : List ℕ
  inputs = filter (is_in c) (node_names c node)

  links_are : (names : List ℕ) (all : List ℕ) → filter_map (input_link c all) names ≡ map (λ input. link_of (serving c all input) Same) (filter (is_in c) names)
  links_are [] all = refl
  links_are (name ∷ names) all = go (is_in c name) refl (links_are names all)
    where
      go : (b : Bool) → is_in c name ≡ b → filter_map (input_link c all) names ≡ map (λ input. link_of (serving c all input) Same) (filter (is_in c) names)
          → filter_map (input_link c all) (name ∷ names) ≡ map (λ input. link_of (serving c all input) Same) (filter (is_in c) (name ∷ names))
      go true is more = rw is (rw more refl)
      go false is more = rw is (rw more refl)

  is_input : (x : ℕ) → has (filter (is_in c) (node_names c node)) x ≡ true → IsIncoming c node x
  is_input x e =
      let parts = sym (has_filter (is_in c) (node_names c node) x) ∙ e in
      let goes = both_right (has (node_names c node) x) (is_in c x) parts in
      ⊎_elim (λ incoming. incoming) (λ outgoing. absurd (false≢true (sym (out_stands x outgoing) ∙ goes))) ((named x).0 (both_left (has (node_names c node) x) (is_in c x) parts))

  input_is : (x : ℕ) → IsIncoming c node x → has (filter (is_in c) (node_names c node)) x ≡ true
  input_is x at = has_filter (is_in c) (node_names c node) x ∙ both_true (named_in x at) (in_stands x at)

  place_of_link : (i : ℕ) (link : Link) → slice_get (map link_at inputs) i ≡ Some link → (x : ℕ) × (slice_get inputs i ≡ Some x) × (link_at x ≡ link)
  place_of_link i link e = from_option link_at (slice_get inputs i) link (sym (slice_get-map link_at inputs i) ∙ e)

  module _ (P : Link → Type 0) where
    some_of_links : (x : ℕ) → IsIncoming c node x → P (link_at x) → SomeLink (map link_at inputs) P
    some_of_links x at p =
        let place = has_place inputs x (input_is x at) in
        (place.0, link_at x, slice_get-map link_at inputs place.0 ∙ ap (option_map link_at) place.1, p)

    of_some_link : SomeLink (map link_at inputs) P → (x : ℕ) × IsIncoming c node x × P (link_at x)
    of_some_link at =
        let place = place_of_link at.0 at.1 at.2 in
        (place.0, is_input place.0 (place_has inputs at.0 place.0 place.1), subst P (sym place.2) at.3)

  -- whether data go out somewhere
  goes_out : (output : ℕ) → IsOutgoing c node output → list_any (λ name. not (is_in c name)) (node_names c node) ≡ true
  goes_out output at = any_from (λ name. not (is_in c name)) (node_names c node) output (named_out output at) (ap not (out_stands output at))

  some_output : list_any (λ name. not (is_in c name)) (node_names c node) ≡ true → (output : ℕ) × IsOutgoing c node output
  some_output e =
      let at = from_any (λ name. not (is_in c name)) (node_names c node) e in
      (at.0, ⊎_elim (λ incoming. absurd (false≢true (sym (ap not (in_stands at.0 incoming)) ∙ at.2))) (λ outgoing. outgoing) ((named at.0).0 at.1))

  abbrev template_with : List Link → Template
  template_with links = record { names = node_names c node; links = links }

  -- where data go out nowhere, the node does nothing
  no_links : list_any (λ name. not (is_in c name)) (node_names c node) ≡ false → IsTemplate c (OfNode node) (template_with [])
  no_links none = record {
    rising = names_rise;
    named = named;
    links_rise = λ i link found. (let clash : None ≡ Some link = found in cc);
    own = λ i link found. (let clash : None ≡ Some link = found in cc);
    some = λ i link found. (let clash : None ≡ Some link = found in cc);
    fires = λ fires. (λ at. absurd (quiet at.output at.outgoing), λ at. absurd (nothing at.0 at.1 at.2));
    moves = λ texts held d new. (λ at. absurd (quiet at.0.fires.output at.0.fires.outgoing), λ at. absurd (nothing at.0 at.1 at.2));
    once = λ i j one other at_i. absurd (nothing i one at_i);
  }
    where
      quiet : (output : ℕ) → IsOutgoing c node output → ⊥
      quiet output at = false≢true (sym none ∙ goes_out output at)

      nothing : (i : ℕ) (link : Link) → slice_get [] i ≡ Some link → ⊥
      nothing i link e = cc

  some_links : list_any (λ name. not (is_in c name)) (node_names c node) ≡ true → IsTemplate c (OfNode node) (template_with (map link_at inputs))
  some_links goes =
      let out = some_output goes in
      record {
        rising = names_rise;
        named = named;
        links_rise = λ i link found.
            let place = place_of_link i link found in
            subst (λ (l : Link). IsStrictlyIncreasing l.fires) place.2 (IsStrictlyIncreasing-filter (λ n. not (is_in c n) || nat_eq n place.0) (node_names c node) names_rise);
        own = λ i link found name e.
            let place = place_of_link i link found in
            let e' = subst (λ (l : Link). has l.fires name ≡ true) (sym place.2) e in
            (named name).0 (both_left (has (node_names c node) name) (not (is_in c name) || nat_eq name place.0) (sym (has_filter (λ n. not (is_in c n) || nat_eq n place.0) (node_names c node) name) ∙ e'));
        some = λ i link found.
            let place = place_of_link i link found in
            (out.0, subst (λ (l : Link). has l.fires out.0 ≡ true) place.2 (serves_out place.0 out.0 out.1));
        fires = λ fires. (
          λ at. let s = fires_serving fires at in some_of_links (λ link. Fires c (OfNode node) link fires) s.input s.incoming s.just,
          λ at.
              let x = of_some_link (λ link. Fires c (OfNode node) link fires) at in
              serving_fires fires (record { input = x.0; incoming = x.1; output = out.0; outgoing = out.1; just = x.2 }),
        );
        moves = λ texts held d new. (
          λ at.
              let s = fires_serving (fires_in d) at.0.fires in
              some_of_links (LinkMoves c texts (OfNode node) held d new) s.input s.incoming (s.just, ((at.0.value, at.0.same), at.1)),
          λ at.
              let x = of_some_link (LinkMoves c texts (OfNode node) held d new) at in
              let names = serving_fires (fires_in d) (record { input = x.0; incoming = x.1; output = out.0; outgoing = out.1; just = x.2.0 }) in
              (record { fires = names; value = x.2.1.0.0; same = x.2.1.0.1 }, x.2.1.1),
        );
        once = λ i j one other at_i at_j same.
            let x = place_of_link i one at_i in
            let y = place_of_link j other at_j in
            let in_x = is_input x.0 (place_has inputs i x.0 x.1) in
            let own : has (link_at x.0).fires x.0 ≡ true = serves_in x.0 x.0 in_x ∙ eq-eqb x.0 x.0 refl in
            let of_other : has (link_at y.0).fires x.0 ≡ true = ap (λ (l : Link). has l.fires x.0) y.2 ∙ (sym (same x.0) ∙ (sym (ap (λ (l : Link). has l.fires x.0) x.2) ∙ own)) in
            let is : x.0 ≡ y.0 = eqb-true x.0 y.0 (sym (serves_in y.0 x.0 in_x) ∙ of_other) in
            one_place inputs (IsStrictlyIncreasing-filter (is_in c) (node_names c node) names_rise) i j y.0 (x.1 ∙ ap Some is) y.1;
      }

  pub node_is_template : IsTemplate c (OfNode node) (record { names = node_names c node; links = node_links c (node_names c node) })
  node_is_template = go (list_any (λ name. not (is_in c name)) (node_names c node)) refl
    where
      go : (b : Bool) → list_any (λ name. not (is_in c name)) (node_names c node) ≡ b → IsTemplate c (OfNode node) (template_with (node_links c (node_names c node)))
      go true e =
          subst (λ links. IsTemplate c (OfNode node) (template_with links)) (sym (ap (λ b. cond b (filter_map (input_link c (node_names c node)) (node_names c node)) []) e ∙ links_are (node_names c node) (node_names c node))) (some_links e)
      go false e =
          subst (λ links. IsTemplate c (OfNode node) (template_with links)) (sym (ap (λ b. cond b (filter_map (input_link c (node_names c node)) (node_names c node)) []) e)) (no_links e)
