-- A reading that shows just what an entry was made from.
use Rattle.std.specs.Prelude.{ℕ, List, ◌++◌, map}
use Rattle.reo_value.specs.declared.value.Value.{Value}
use Rattle.reo_value.specs.Code.{code_of}
use Rattle.reo_fabric.specs.declared.entry.Entry.{Entry}
use Rattle.reo_fabric.specs.declared.reading.Reading.{Reading}

abbrev pub words_with : List (ℕ × Value) → List (ℕ × ℕ)
words_with places = map (λ p. (p.0, code_of p.1)) places

abbrev pub words_without : List (ℕ × Value) → List (ℕ × ℕ)
words_without places = map (λ p. (p.0, 0)) places

abbrev pub offers_with : List (ℕ × Value) → List (ℕ × ℕ × ℕ)
offers_with places = map (λ p. (p.0, 1, code_of p.1)) places

abbrev pub offers_without : List (ℕ × Value) → List (ℕ × ℕ × ℕ)
offers_without places = map (λ p. (p.0, 1, 0)) places

abbrev pub reading_back : Entry → Reading
reading_back entry = record {
  region = entry.region;
  round = 0;
  clock = 0;
  cells = words_with entry.takes ++ words_without entry.fills;
  ports = offers_with entry.puts ++ offers_without entry.gets;
}
