-- Offers that firings need, and those that are missing.
use Rattle.std.proofs.Common.{◌≡◌, ℕ, ◌%◌, List, [], ◌∷◌, ◌++◌, map, Option, Some, None, is_some, Bool, true, false, cond, nat_eq, ◌&&◌, ◌||◌, refl, sym, ap, ◌∙◌}
use Rattle.std.specs.List.{list_all}
use Rattle.std.specs.Option.{option_map_or, option_and_then}
use Rattle.std.specs.Int.RustNames.{bit_and}
use Rattle.std.proofs.Math.Bool.{or-true, and-false}
use Rattle.std.proofs.lemmas.Bool.{false≢true, eqb-true, eq-eqb}
use Rattle.reo_net.specs.declared.circuit.RawCircuit.{RawCircuit}
use Rattle.reo_value.specs.declared.value.Value.{Value}
use Rattle.reo_fabric.specs.Entry.{at_place}
use Rattle.reo_fabric.specs.Decider.{port_words}
use Rattle.reo_fabric.specs.declared.reading.Reading.{Reading}
use Rattle.reo_flow.specs.declared.fact.Fact.{Fact}
use Rattle.reo_flow.specs.declared.fact.Fact.TheVariants.{Offered, Known}
use Rattle.reo_flow.specs.declared.giver.Giver.{Giver}
use Rattle.reo_flow.specs.declared.giver.Giver.TheVariants.{Port}
use Rattle.reo_flow.specs.Flow.{sources_of, offered_value}
use Rattle.reo_flow.specs.Tests.{decoded}
use Rattle.reo_plan.specs.inside.Slots.{slot_at}
use Rattle.reo_plan.specs.inside.Asks.{so_in, IsTold, IsNeeds}
use Rattle.reo_plan.specs.inside.Marks.{Misses}
use Rattle.reo_plan.specs.inside.Needs.{offers_at, some_offer}
use Rattle.reo_plan.proofs.MarkLemmas.{both}
use Rattle.reo_plan.proofs.FactLemmas.{all-append}
use Rattle.reo_plan.proofs.SlotLemmas.{flow_is}

-- where a port has an offer, its remainder has one
pub offer_in : (ports : List (ℕ × ℕ × ℕ)) (port : ℕ) → option_map_or (λ (words : ℕ × ℕ). nat_eq words.0 1) (at_place (map (λ (p : ℕ × ℕ × ℕ). (p.0, (p.1, p.2))) ports) port) false ≡ true → some_offer ports (port % 64) ≡ true
offer_in [] port offered = absurd (false≢true offered)
offer_in (p ∷ ports) port offered = go (nat_eq port p.0) refl (offer_in ports port) offered
  where
    go : (b : Bool) → nat_eq port p.0 ≡ b
        → (option_map_or (λ (words : ℕ × ℕ). nat_eq words.0 1) (at_place (map (λ (q : ℕ × ℕ × ℕ). (q.0, (q.1, q.2))) ports) port) false ≡ true → some_offer ports (port % 64) ≡ true)
        → option_map_or (λ (words : ℕ × ℕ). nat_eq words.0 1) (cond b (Some (p.1, p.2)) (at_place (map (λ (q : ℕ × ℕ × ℕ). (q.0, (q.1, q.2))) ports) port)) false ≡ true
        → some_offer (p ∷ ports) (port % 64) ≡ true
    go true same rest first =
        let remainder : nat_eq (p.0 % 64) (port % 64) ≡ true = eq-eqb (p.0 % 64) (port % 64) (ap (λ n. n % 64) (sym (eqb-true port p.0 same))) in
        ap (λ b. (b && nat_eq p.1 1) || some_offer ports (port % 64)) remainder ∙ ap (λ b. b || some_offer ports (port % 64)) first
    go false other rest later = ap (λ b. offers_at (port % 64) p || b) (rest later) ∙ or-true (offers_at (port % 64) p)

-- where the datum of an offer is known, it is offered
pub datum_offered : (c : RawCircuit) (texts : List (List ℕ)) (reading : Reading) (slots : List Giver) (slot port : ℕ) → slot_at slots slot ≡ Port port → so_in c texts reading slots (Known slot) ≡ true → so_in c texts reading slots (Offered port) ≡ true
datum_offered c texts reading slots slot port is so =
    tells (port_words reading port) (sym (ap is_some (flow_is c texts (sources_of reading) (slot_at slots) slot slot (Port port) is)) ∙ so)
  where
    by_word : (b : Bool) (word : Option Value) → is_some (cond b word None) ≡ true → b ≡ true
    by_word true word e = refl
    by_word false word e = e

    tells : (o : Option (ℕ × ℕ)) → is_some (option_and_then offered_value o) ≡ true → option_map_or (λ (words : ℕ × ℕ). nat_eq words.0 1) o false ≡ true
    tells None e = e
    tells (Some words) e = by_word (nat_eq words.0 1) (decoded words.1) e

-- a fact that the next one tells need not be asked
pub told_skipped : (c : RawCircuit) (texts : List (List ℕ)) (reading : Reading) (slots : List Giver) (fact : Fact) (facts : List Fact) → IsTold slots (fact ∷ facts)
    → list_all (so_in c texts reading slots) (fact ∷ facts) ≡ list_all (so_in c texts reading slots) facts
told_skipped c texts reading slots fact [] told = absurd told
told_skipped c texts reading slots fact (next ∷ facts) told = go (so_in c texts reading slots next) refl
  where
    go : (b : Bool) → so_in c texts reading slots next ≡ b → list_all (so_in c texts reading slots) (fact ∷ next ∷ facts) ≡ list_all (so_in c texts reading slots) (next ∷ facts)
    go true is = ap (λ b. b && list_all (so_in c texts reading slots) (next ∷ facts)) (told c texts reading is)
    go false is =
        ap (λ b. so_in c texts reading slots fact && (b && list_all (so_in c texts reading slots) facts)) is ∙ and-false (so_in c texts reading slots fact)
        ∙ sym (ap (λ b. b && list_all (so_in c texts reading slots) facts) is)

-- a fact more
pub needs_more : (c : RawCircuit) (slots : List Giver) (facts : List Fact) (fact : Fact) (needs new : ℕ) → IsNeeds c slots facts needs
    → ((texts : List (List ℕ)) (reading : Reading) (word : ℕ) → Misses (some_offer reading.ports) word → so_in c texts reading slots fact ≡ true → bit_and word needs ≡ 0 → bit_and word new ≡ 0)
    → IsNeeds c slots (facts ++ fact ∷ []) new
needs_more c slots facts fact needs new is more texts reading word misses all =
    let each = both (list_all (so_in c texts reading slots) facts) (so_in c texts reading slots fact) (sym (all-append (so_in c texts reading slots) facts (fact ∷ [])) ∙ all) in
    more texts reading word misses each.1 (is texts reading word misses each.0)
