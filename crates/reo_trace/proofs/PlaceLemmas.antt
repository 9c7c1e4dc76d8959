-- Where the texts of numbers stand among those of all numbers.
use Rattle.std.proofs.Common.{◌≡◌, ℕ, ◌+◌, ◌-◌, ◌≤◌, List, ◌++◌, length, take, drop, map, replicate, ap, ◌∙◌, arith, length-append, length-drop, subst}
use Rattle.std.proofs.lemmas.List.{take-append-le, drop-append-le}
use Rattle.std.specs.List.{range_with_len}
use Rattle.reo_trace.specs.Parts.{AreParts, IsPlace, parts_below}
use Rattle.reo_trace.specs.declared.parts.Parts.{Parts}
use Rattle.reo_trace.specs.declared.parts.Place.{Place}
use Rattle.reo_trace.proofs.PartLemmas.{below_longer, part_between, start_at, starts_count}

module _ (part : ℕ → List ℕ) where
  -- all parts are made
  pub are_parts : (parts : Parts) (n count : ℕ) → n ≡ count → parts.bytes.items ≡ parts_below part n ++ replicate 32 0
      → parts.starts.items ≡ map (λ k. length (parts_below part k)) (range_with_len 0 (n + 1)) → AreParts part count parts
  are_parts parts n count all bytes starts =
      let are = subst (λ k. parts.starts.items ≡ map (λ k. length (parts_below part k)) (range_with_len 0 (k + 1))) all starts in
      record {
        bytes = bytes ∙ ap (λ k. parts_below part k ++ replicate 32 0) all;
        long = starts_count part parts.starts.items count are;
        starts = λ number d le. start_at part parts.starts.items count number d are le;
      }

  -- the place between two starts is that of a text
  pub is_place : (parts : Parts) (count number : ℕ) (place : Place) → AreParts part count parts → number + 1 ≤ count
      → place.from ≡ length (parts_below part number) → place.from + place.count ≡ length (parts_below part (number + 1)) → IsPlace (part number) parts place
  is_place parts count number place are within begins ends =
      let all : List ℕ = parts_below part count in
      let inside = below_longer part (number + 1) count within in
      let width : place.count ≡ length (parts_below part (number + 1)) - length (parts_below part number) = omega (arith, begins, ends) in
      record {
        is = ap (λ l. take place.count (drop place.from l)) are.bytes
            ∙ ap (take place.count) (drop-append-le place.from all (replicate 32 0) (omega (arith, inside, ends)))
            ∙ take-append-le place.count (drop place.from all) (replicate 32 0) (omega (arith, length-drop place.from all, inside, ends))
            ∙ ap (λ k. take k (drop place.from all)) width
            ∙ ap (λ k. take (length (parts_below part (number + 1)) - length (parts_below part number)) (drop k all)) begins
            ∙ part_between part number count within;
        within = omega (arith, inside, ends, ap length are.bytes, length-append all (replicate 32 0));
      }
