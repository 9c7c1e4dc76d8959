-- Texts of numbers, each made once, one behind the other.
use Rattle.std.specs.Prelude.{◌≡◌, ℕ, ◌+◌, ◌≤◌, List, ◌++◌, length, take, drop, slice_index_or, flat_map, replicate}
use Rattle.std.specs.List.{range_with_len}
use Rattle.reo_trace.specs.declared.parts.Parts.{Parts}
use Rattle.reo_trace.specs.declared.parts.Place.{Place}
use Rattle.reo_trace.specs.declared.room.Part.{Part}

-- the texts of the numbers below this one
abbrev pub parts_below : (ℕ → List ℕ) → ℕ → List ℕ
parts_below part number = flat_map part (range_with_len 0 number)

-- the parts are the texts of so many numbers, with some bytes behind them, and each begins behind those of the numbers below
pub record AreParts (part : ℕ → List ℕ) (count : ℕ) (parts : Parts) : Type 0 where
  pub bytes : parts.bytes.items ≡ parts_below part count ++ replicate 32 0
  pub long : length parts.starts.items ≡ count + 1
  pub starts : (number d : ℕ) → number ≤ count → slice_index_or parts.starts.items number d ≡ length (parts_below part number)

-- the text stands in this place, with at least 32 bytes behind it
pub record IsPlace (text : List ℕ) (parts : Parts) (place : Place) : Type 0 where
  pub is : take place.count (drop place.from parts.bytes.items) ≡ text
  pub within : place.from + place.count + 32 ≤ length parts.bytes.items

abbrev pub part_text : Part → List ℕ
part_text part = take part.count (drop part.from part.bytes.now)

-- the part is this text, which has at most 32 bytes, and as many as make 32 stand there
pub record IsShort (text : List ℕ) (part : Part) : Type 0 where
  pub is : part_text part ≡ text
  pub short : part.count ≤ 32
  pub within : part.from + 32 ≤ length part.bytes.now
