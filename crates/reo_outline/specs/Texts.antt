-- The texts of a circuit's names, made once, and names that are held back while others follow them.
use Rattle.std.specs.Prelude.{◌≡◌, ℕ, ◌+◌, ◌-◌, ◌^◌, ◌≤◌, List, ◌++◌, length, slice_index_or, flat_map, Vec}
use Rattle.std.specs.List.{range_with_len}
use Rattle.reo_net.specs.declared.circuit.RawCircuit.{RawCircuit}
use Rattle.reo_net.specs.Names.{name_count}
use Rattle.reo_trace.specs.Buffer.{HasTaken}
use Rattle.reo_outline.specs.Outline.{name_part}
use Rattle.reo_outline.specs.declared.texts.NameTexts.{NameTexts}
use Rattle.reo_outline.specs.declared.texts.Run.{Run}

-- the texts of the names below this number
abbrev pub texts_below : RawCircuit → List (List ℕ) → ℕ → List ℕ
texts_below c nodes name = flat_map (name_part c nodes) (range_with_len 0 name)

-- the texts are those of the circuit's names, and each begins behind those of the names below
pub record AreTexts (c : RawCircuit) (nodes : List (List ℕ)) (texts : NameTexts) : Type 0 where
  pub bytes : texts.bytes.items ≡ texts_below c nodes (name_count c)
  pub count : length texts.starts.items ≡ name_count c + 1
  pub starts : (name d : ℕ) → name ≤ name_count c → slice_index_or texts.starts.items name d ≡ length (texts_below c nodes name)

-- names are numbers of 32 bits
pub record IsRun (run : Run) : Type 0 where
  pub order : run.from ≤ run.to
  pub within : run.to ≤ 2 ^ 32

-- the names that follow one another
abbrev pub names_of : Run → List ℕ
names_of run = range_with_len run.from (run.to - run.from)

abbrev pub run_text : RawCircuit → List (List ℕ) → Run → List ℕ
run_text c nodes run = flat_map (name_part c nodes) (names_of run)

-- the texts of the names were added, but for those at the end that are held back
pub record IsHeld (c : RawCircuit) (nodes : List (List ℕ)) {Z : Type 0} (old new : Vec ℕ Z) (run : Run) (names : List ℕ) : Type 0 where
  pub front : List ℕ
  pub taken : HasTaken old new (flat_map (name_part c nodes) front)
  pub whole : front ++ names_of run ≡ names
