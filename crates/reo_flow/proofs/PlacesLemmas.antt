-- What stands at the places of an entry that is made of data.
use Rattle.std.proofs.Common.{◌≡◌, ℕ, zero, suc, ◌+◌, ◌<◌, ⊎_elim, Bool, true, false, cond, List, [], ◌∷◌, length, take, slice_get, Option, Some, None, refl, sym, ap, ◌∙◌, subst, arith}
use Rattle.std.specs.Prelude.{filter}
use Rattle.std.specs.List.{range_with_len, AllByRecursion}
use Rattle.std.specs.Option.{option_map_or}
use Rattle.std.proofs.lemmas.Bool.{eq-eqb}
use Rattle.std.proofs.lemmas.Bool.Decides.{eqb_tells}
use Rattle.std.proofs.lemmas.Option.{same_Some, slice_get_within}
use Rattle.reo_net.specs.declared.circuit.Channel.{Channel}
use Rattle.reo_net.specs.declared.circuit.RawCircuit.{RawCircuit}
use Rattle.reo_net.specs.Kind.{is_fifo}
use Rattle.reo_net.specs.Steps.{cell_of}
use Rattle.reo_net.proofs.CellLemmas.{fifos, fifos-more, fifos-same}
use Rattle.reo_cut.specs.Cut.{is_buffer}
use Rattle.reo_fabric.specs.Entry.{at_place, RisesFrom}
use Rattle.reo_fabric.proofs.PlaceLemmas.{rises_from_below, at_first, at_later, none_below}
use Rattle.reo_flow.specs.Places.{placed, places_with, buffers}

module _ {A V : Type 0} (f : ℕ → A → Option V) where
  -- the places rise
  pub rises_with : (first : ℕ) (xs : List A) → RisesFrom first (places_with f first xs)
  rises_with first [] = tt
  rises_with first (x ∷ xs) = go (f first x) (rises_with (first + 1) xs)
    where
      go : (o : Option V) → RisesFrom (first + 1) (places_with f (first + 1) xs) → RisesFrom first (placed first o (places_with f (first + 1) xs))
      go None later = rises_from_below (places_with f (first + 1) xs) first (first + 1) (omega arith) later
      go (Some v) later = (omega arith, later)

  -- what the function gives for an element stands at its place
  pub at_with : (first : ℕ) (xs : List A) (i : ℕ) (x : A) (place : ℕ) → place ≡ first + i → slice_get xs i ≡ Some x → at_place (places_with f first xs) place ≡ f place x
  at_with first [] i x place is found = cc
  at_with first (y ∷ ys) zero x place is found =
      let rest = places_with f (first + 1) ys in
      let e : first ≡ place = omega (arith, is) in
      subst (λ q. at_place (placed first (f first y) rest) q ≡ f q x) e (here (f first y) ∙ ap (f first) (same_Some y x found))
    where
      here : (o : Option V) → at_place (placed first o (places_with f (first + 1) ys)) first ≡ o
      here None = none_below (places_with f (first + 1) ys) (first + 1) first (rises_with (first + 1) ys) (omega arith)
      here (Some v) = at_first (first, v) (places_with f (first + 1) ys) first (eq-eqb first first refl)
  at_with first (y ∷ ys) (suc i) x place is found = there (f first y) ∙ at_with (first + 1) ys i x place (omega (arith, is)) found
    where
      there : (o : Option V) → at_place (placed first o (places_with f (first + 1) ys)) place ≡ at_place (places_with f (first + 1) ys) place
      there None = refl
      there (Some v) =
          ⊎_elim (λ same. absurd (omega (arith, is, same.1))) (λ apart. at_later (first, v) (places_with f (first + 1) ys) place apart.0) (eqb_tells place first)

-- the numbers of these channels that are FIFO1s, where the first has the number `first`
module _ (test : ℕ → Bool) where
  buffer_at : (first : ℕ) (channels : List Channel) → ((i : ℕ) (channel : Channel) → slice_get channels i ≡ Some channel → test (first + i) ≡ is_fifo channel.kind)
      → (k : ℕ) (channel : Channel) → slice_get channels k ≡ Some channel → is_fifo channel.kind ≡ true
      → slice_get (filter test (range_with_len first (length channels))) (fifos (take k channels)) ≡ Some (first + k)
  buffer_at first [] tests k channel found fifo = cc
  buffer_at first (x ∷ xs) tests zero channel found fifo =
      let at : test first ≡ true = ap test (let e : first ≡ first + 0 = omega arith in e) ∙ tests 0 x refl ∙ ap (λ (ch : Channel). is_fifo ch.kind) (same_Some x channel found) ∙ fifo in
      ap (λ b. slice_get (cond b (first ∷ filter test (range_with_len (first + 1) (length xs))) (filter test (range_with_len (first + 1) (length xs)))) 0) at
      ∙ ap Some (let e : first ≡ first + 0 = omega arith in e)
  buffer_at first (x ∷ xs) tests (suc k) channel found fifo = go (filter test (range_with_len (first + 1) (length xs))) (is_fifo x.kind) refl (buffer_at (first + 1) xs (λ i ch at. shifted i ch at) k channel found fifo)
    where
      shifted : (i : ℕ) (ch : Channel) → slice_get xs i ≡ Some ch → test (first + 1 + i) ≡ is_fifo ch.kind
      shifted i ch at = ap test (let e : first + 1 + i ≡ first + suc i = omega arith in e) ∙ tests (suc i) ch at

      head : test first ≡ is_fifo x.kind
      head = ap test (let e : first ≡ first + 0 = omega arith in e) ∙ tests 0 x refl

      go : (rest : List ℕ) (b : Bool) → is_fifo x.kind ≡ b → slice_get rest (fifos (take k xs)) ≡ Some (first + 1 + k)
          → slice_get (cond (test first) (first ∷ rest) rest) (fifos (x ∷ take k xs)) ≡ Some (first + suc k)
      go rest true is later =
          ap (λ b. slice_get (cond b (first ∷ rest) rest) (fifos (x ∷ take k xs))) (head ∙ is)
          ∙ ap (slice_get (first ∷ rest)) (fifos-more x (take k xs) is) ∙ later ∙ ap Some (let e : first + 1 + k ≡ first + suc k = omega arith in e)
      go rest false is later =
          ap (λ b. slice_get (cond b (first ∷ rest) rest) (fifos (x ∷ take k xs))) (head ∙ is)
          ∙ ap (slice_get rest) (fifos-same x (take k xs) is) ∙ later ∙ ap Some (let e : first + 1 + k ≡ first + suc k = omega arith in e)

  buffer_count : (first : ℕ) (channels : List Channel) → ((i : ℕ) (channel : Channel) → slice_get channels i ≡ Some channel → test (first + i) ≡ is_fifo channel.kind)
      → length (filter test (range_with_len first (length channels))) ≡ fifos channels
  buffer_count first [] tests = refl
  buffer_count first (x ∷ xs) tests = go (filter test (range_with_len (first + 1) (length xs))) (is_fifo x.kind) refl (buffer_count (first + 1) xs (λ i ch at. shifted i ch at))
    where
      shifted : (i : ℕ) (ch : Channel) → slice_get xs i ≡ Some ch → test (first + 1 + i) ≡ is_fifo ch.kind
      shifted i ch at = ap test (let e : first + 1 + i ≡ first + suc i = omega arith in e) ∙ tests (suc i) ch at

      head : test first ≡ is_fifo x.kind
      head = ap test (let e : first ≡ first + 0 = omega arith in e) ∙ tests 0 x refl

      go : (rest : List ℕ) (b : Bool) → is_fifo x.kind ≡ b → length rest ≡ fifos xs → length (cond (test first) (first ∷ rest) rest) ≡ fifos (x ∷ xs)
      go rest true is later = ap (λ b. length (cond b (first ∷ rest) rest)) (head ∙ is) ∙ ap suc later ∙ sym (fifos-more x xs is)
      go rest false is later = ap (λ b. length (cond b (first ∷ rest) rest)) (head ∙ is) ∙ later ∙ sym (fifos-same x xs is)

buffer_test : (c : RawCircuit) (i : ℕ) (channel : Channel) → slice_get c.channels i ≡ Some channel → is_buffer c (0 + i) ≡ is_fifo channel.kind
buffer_test c i channel found =
    ap (is_buffer c) (let e : 0 + i ≡ i = omega arith in e) ∙ ap (λ o. option_map_or (λ (ch : Channel). is_fifo ch.kind) o false) found

-- the cell of a FIFO1 is its place among the FIFO1s
pub cell_stands : (c : RawCircuit) (k : ℕ) (channel : Channel) → slice_get c.channels k ≡ Some channel → is_fifo channel.kind ≡ true → slice_get (buffers c) (cell_of c k) ≡ Some k
cell_stands c k channel found fifo =
    buffer_at (is_buffer c) 0 c.channels (buffer_test c) k channel found fifo ∙ ap Some (let e : 0 + k ≡ k = omega arith in e)

pub length-buffers : (c : RawCircuit) → length (buffers c) ≡ fifos c.channels
length-buffers c = buffer_count (is_buffer c) 0 c.channels (buffer_test c)

pub cell_below : (c : RawCircuit) (k : ℕ) (channel : Channel) → slice_get c.channels k ≡ Some channel → is_fifo channel.kind ≡ true → cell_of c k < fifos c.channels
cell_below c k channel found fifo = subst (λ n. cell_of c k < n) (length-buffers c) (slice_get_within (buffers c) (cell_of c k) k (cell_stands c k channel found fifo))

-- each place with a value is that of an element for which the function gives it
pub given_with : {A V : Type 0} (f : ℕ → A → Option V) (P : ℕ × V → Type 0) (first : ℕ) (xs : List A) → ((i : ℕ) (x : A) (v : V) → slice_get xs i ≡ Some x → f (first + i) x ≡ Some v → P (first + i, v)) → AllByRecursion P (places_with f first xs)
given_with f P first [] each = tt
given_with {A} {V} f P first (x ∷ xs) each = go (f first x) refl (given_with f P (first + 1) xs later)
  where
    later : (i : ℕ) (y : A) (v : V) → slice_get xs i ≡ Some y → f (first + 1 + i) y ≡ Some v → P (first + 1 + i, v)
    later i y v found gives =
        let next : first + suc i ≡ first + 1 + i = omega arith in
        subst (λ n. P (n, v)) next (each (suc i) y v found (subst (λ n. f n y ≡ Some v) (sym next) gives))

    go : (o : Option V) → f first x ≡ o → AllByRecursion P (places_with f (first + 1) xs) → AllByRecursion P (placed first o (places_with f (first + 1) xs))
    go None e rest = rest
    go (Some v) e rest =
        let here : first + 0 ≡ first = omega arith in
        (subst (λ n. P (n, v)) here (each 0 x v refl (subst (λ n. f n x ≡ Some v) (sym here) e)), rest)

-- each of the buffers is a FIFO1 whose cell is its place
pub record IsBufferAt (channels : List Channel) (first place k : ℕ) : Type 0 where
  pub number : ℕ
  pub channel : Channel
  pub is : k ≡ first + number
  pub found : slice_get channels number ≡ Some channel
  pub fifo : is_fifo channel.kind ≡ true
  pub at : fifos (take number channels) ≡ place

buffer_from : (test : ℕ → Bool) (first : ℕ) (channels : List Channel) → ((i : ℕ) (channel : Channel) → slice_get channels i ≡ Some channel → test (first + i) ≡ is_fifo channel.kind)
    → (place k : ℕ) → slice_get (filter test (range_with_len first (length channels))) place ≡ Some k → IsBufferAt channels first place k
buffer_from test first [] tests place k found = cc
buffer_from test first (x ∷ xs) tests place k found = go (is_fifo x.kind) refl place found (λ p at. buffer_from test (first + 1) xs (λ i ch at. shifted i ch at) p k at)
  where
    shifted : (i : ℕ) (ch : Channel) → slice_get xs i ≡ Some ch → test (first + 1 + i) ≡ is_fifo ch.kind
    shifted i ch at = ap test (let e : first + 1 + i ≡ first + suc i = omega arith in e) ∙ tests (suc i) ch at

    head : test first ≡ is_fifo x.kind
    head = ap test (let e : first ≡ first + 0 = omega arith in e) ∙ tests 0 x refl

    next : (at before : ℕ) (b : IsBufferAt xs (first + 1) before k) → fifos (x ∷ take b.number xs) ≡ at → IsBufferAt (x ∷ xs) first at k
    next at before b stands = record { number = suc b.number; channel = b.channel; is = omega (arith, b.is); found = b.found; fifo = b.fifo; at = stands }

    go : (b : Bool) → is_fifo x.kind ≡ b → (place : ℕ) → slice_get (cond (test first) (first ∷ filter test (range_with_len (first + 1) (length xs))) (filter test (range_with_len (first + 1) (length xs)))) place ≡ Some k
        → ((p : ℕ) → slice_get (filter test (range_with_len (first + 1) (length xs))) p ≡ Some k → IsBufferAt xs (first + 1) p k) → IsBufferAt (x ∷ xs) first place k
    go true e zero at later =
        let at' = subst (λ b. slice_get (cond b (first ∷ filter test (range_with_len (first + 1) (length xs))) (filter test (range_with_len (first + 1) (length xs)))) 0 ≡ Some k) (head ∙ e) at in
        record { number = 0; channel = x; is = omega (arith, same_Some first k at'); found = refl; fifo = e; at = refl }
    go true e (suc place) at later =
        let at' = subst (λ b. slice_get (cond b (first ∷ filter test (range_with_len (first + 1) (length xs))) (filter test (range_with_len (first + 1) (length xs)))) (suc place) ≡ Some k) (head ∙ e) at in
        let b = later place at' in
        next (suc place) place b (fifos-more x (take b.number xs) e ∙ ap suc b.at)
    go false e place at later =
        let at' = subst (λ b. slice_get (cond b (first ∷ filter test (range_with_len (first + 1) (length xs))) (filter test (range_with_len (first + 1) (length xs)))) place ≡ Some k) (head ∙ e) at in
        let b = later place at' in
        next place place b (fifos-same x (take b.number xs) e ∙ b.at)

pub stands_cell : (c : RawCircuit) (place k : ℕ) → slice_get (buffers c) place ≡ Some k → (channel : Channel) × (slice_get c.channels k ≡ Some channel) × (is_fifo channel.kind ≡ true) × (cell_of c k ≡ place)
stands_cell c place k found =
    let b = buffer_from (is_buffer c) 0 c.channels (buffer_test c) place k found in
    let same : b.number ≡ k = omega (arith, b.is) in
    (b.channel, subst (λ n. slice_get c.channels n ≡ Some b.channel) same b.found, b.fifo, ap (cell_of c) (sym same) ∙ b.at)
