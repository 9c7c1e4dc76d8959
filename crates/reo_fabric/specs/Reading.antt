-- What a region reads of a state and of offers.
use Rattle.std.specs.Prelude.{◌≡◌, ℕ, ◌+◌, Bool, ◌||◌, List, [], ◌∷◌, map, slice_index_or, Option, Some, None, nat_eq, if◌then◌else◌}
use Rattle.reo_value.specs.declared.value.Value.{Value}
use Rattle.reo_value.specs.Code.{code_of}
use Rattle.reo_fabric.specs.declared.fabric.Fabric.{Fabric}
use Rattle.reo_fabric.specs.declared.reading.Reading.{Reading}
use Rattle.reo_fabric.specs.Entry.{State, content_at}

-- the places of the elements that pass the test, where the first element has the place `first`
abbrev pub places_of : {A : Type 0} → (A → Bool) → ℕ → List A → List ℕ
places_of test first [] = []
places_of test first (x ∷ xs) = if test x then first ∷ places_of test (first + 1) xs else places_of test (first + 1) xs

-- the cells that a region fills or takes from
abbrev pub cells_of : Fabric → ℕ → List ℕ
cells_of fabric region = places_of (λ cell. nat_eq cell.filler region || nat_eq cell.taker region) 0 fabric.cells

-- the ports at a region
abbrev pub ports_of : Fabric → ℕ → List ℕ
ports_of fabric region = places_of (λ port. nat_eq port.region region) 0 fabric.ports

-- For each port an offer, or none: at a put port a value, at a get port no value.
abbrev pub Offers : Type 0
Offers = List (Option (Option Value))

abbrev pub offer_at : Offers → ℕ → Option (Option Value)
offer_at offers port = slice_index_or offers port None

-- the word of a cell with this in it
abbrev pub cell_word : Option Value → ℕ
cell_word None = 0
cell_word (Some value) = code_of value

-- the state word of a port with this offer: 1 where there is one
abbrev pub state_word : Option (Option Value) → ℕ
state_word None = 0
state_word (Some offered) = 1

-- its data word: the code of what is offered at a put port
abbrev pub data_word : Option (Option Value) → ℕ
data_word None = 0
data_word (Some None) = 0
data_word (Some (Some value)) = code_of value

-- the reading of a region in a state, with these offers
abbrev pub reading_of : Fabric → ℕ → State → Offers → Reading
reading_of fabric region state offers = record {
  region = region;
  round = 0;
  clock = 0;
  cells = map (λ cell. (cell, cell_word (content_at state cell))) (cells_of fabric region);
  ports = map (λ port. (port, state_word (offer_at offers port), data_word (offer_at offers port))) (ports_of fabric region);
}

-- it has a word for each cell of the region and two for each port at it
pub record IsReadingIn (fabric : Fabric) (region : ℕ) (reading : Reading) : Type 0 where
  pub region_is : reading.region ≡ region
  pub cells : map (λ p. p.0) reading.cells ≡ cells_of fabric region
  pub ports : map (λ p. p.0) reading.ports ≡ ports_of fabric region
