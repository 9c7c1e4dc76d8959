-- Automata of a circuit, by the places of their names, make a web.
use Rattle.std.proofs.Common.{◌≡◌, ℕ, ◌<◌, ◌≤◌, ◌⊎◌, inl, inr, List, [], length, get_or, slice_get, Some, sym, ◌∙◌, ap, subst, arith}
use Rattle.std.specs.Option.{option_map_or}
use Rattle.std.proofs.lemmas.Bool.{cases_lt}
use Rattle.std.proofs.lemmas.Option.{slice_get-get_or, slice_get_past}
use Rattle.reo_net.specs.declared.circuit.RawCircuit.{RawCircuit}
use Rattle.reo_net.specs.Regions.{Automaton}
use Rattle.reo_growth.specs.declared.web.Automaton.{Automaton as WebAutomaton}
use Rattle.reo_growth.specs.declared.web.Web.{Web}
use Rattle.reo_growth.specs.Lists.{has, Among}
use Rattle.reo_growth.specs.Web.{AreApart, IsWeb, names_of, links_of}
use Rattle.reo_growth.proofs.VertexLemmas.{name_within, link_within}
use Rattle.reo_growth.proofs.ListLemmas.{among_at}
use Rattle.reo_product.specs.RegionWeb.{IsWebAutomaton}

module _ (c : RawCircuit) (names : List ℕ) (w : Web) (sized : w.names ≡ length names)
    (each : (i : ℕ) (a : WebAutomaton) → slice_get w.automata i ≡ Some a → (x : Automaton) × IsWebAutomaton c names x a)
    (cells : (a b : ℕ) → Among (a, b) w.cells → (a < length names) × (b < length names)) where
  nobody : WebAutomaton
  nobody = record { names = []; links = [] }

  at_place : (x : ℕ) → x < length w.automata → slice_get w.automata x ≡ Some (get_or w.automata x nobody)
  at_place x below = slice_get-get_or w.automata x nobody below

  names_there : (x : ℕ) → x < length w.automata → names_of w x ≡ (get_or w.automata x nobody).names
  unfolding names_of
  names_there x below = ap (λ o. option_map_or (λ a. a.names) o []) (at_place x below)

  links_there : (x : ℕ) → x < length w.automata → links_of w x ≡ (get_or w.automata x nobody).links
  unfolding links_of
  links_there x below = ap (λ o. option_map_or (λ a. a.links) o []) (at_place x below)

  apart_there : (x : ℕ) → (x < length w.automata) ⊎ (length w.automata ≤ x) → AreApart (links_of w x)
  unfolding links_of
  apart_there x (inl below) = subst AreApart (sym (links_there x below)) (each x (get_or w.automata x nobody) (at_place x below)).1.apart
  apart_there x (inr past) = subst (λ o. AreApart (option_map_or (λ a. a.links) o [])) (sym (slice_get_past w.automata x past)) tt

  pub made_web : IsWeb w
  made_web = record {
    own = λ x link its place h.
        let below = link_within w x link its in
        let a = (each x (get_or w.automata x nobody) (at_place x below)).1 in
        ap (λ ns. has ns place) (names_there x below) ∙ a.own link (subst (Among link) (links_there x below) its) place h;
    some = λ x link its.
        let below = link_within w x link its in
        (each x (get_or w.automata x nobody) (at_place x below)).1.some link (subst (Among link) (links_there x below) its);
    apart = λ x. apart_there x (cases_lt x (length w.automata));
    below = λ x place h.
        let within = name_within w x place h in
        let b = (each x (get_or w.automata x nobody) (at_place x within)).1.below place (sym (ap (λ ns. has ns place) (names_there x within)) ∙ h) in
        omega arith;
    ends = λ k d h.
        let e = cells (get_or w.cells k d).0 (get_or w.cells k d).1 (among_at w.cells k d h) in
        let a = e.0 in let b = e.1 in (omega arith, omega arith);
  }
