-- Lines and scripts, one after the other.
use Rattle.std.proofs.Common.{◌≡◌, ℕ, ◌+◌, ◌-◌, ◌<◌, ◌≤◌, ◌==◌, nat_le, Bool, true, false, if◌then◌else◌, List, [], ◌∷◌, ◌++◌, length, length-append, set, get_or, Option, Some, None, is_some, unwrap_or, refl, sym, ap, ◌∙◌, arith}
use Rattle.std.proofs.lemmas.List.Sums.{sum_by-set, sum_by_push}
use Rattle.std.proofs.lemmas.Option.{slice_get-get_or}
use borrow.Author.Tests.{leb-true, le-leb}
use Rattle.std.proofs.lemmas.Bool.{false≢true, eqb-true, eq-eqb}
use Rattle.reo_value.specs.declared.op.Op.{Op}
use Rattle.reo_document.specs.declared.line.Line.{Line}
use Rattle.reo_document.specs.declared.line.Line.TheVariants as line
use Rattle.reo_net.specs.declared.kind.Kind as net
use Rattle.reo_value.specs.Lexicon.{place_of, added, NoRepeats}
use Rattle.reo_value.proofs.LexiconLemmas.{place_of-push, place_of-append, place_of-slice_get}
use Rattle.reo_sentence.specs.Numbered.{number_in}
use Rattle.reo_sentence.specs.Said.{ChannelSaid}
use Rattle.reo_document.specs.Document.{DocumentData}
use Rattle.reo_document.specs.Placed.{operation_count, with_operation, with_said}

-- a document is full where no room is left
pub no_room : (room : ℕ) (scripts : List (List Op)) → room ≡ 100000 - operation_count scripts → (room == 0) ≡ nat_le 100000 (operation_count scripts)
no_room room scripts left = by (room == 0) (nat_le 100000 (operation_count scripts)) refl refl
  where
    by : (p q : Bool) → (room == 0) ≡ p → nat_le 100000 (operation_count scripts) ≡ q → p ≡ q
    by true true x y = refl
    by false false x y = refl
    by true false x y =
        let none : room ≡ 0 = eqb-true room 0 x in
        let full : 100000 ≤ operation_count scripts = omega (arith, left, none) in
        absurd (false≢true (sym y ∙ le-leb 100000 (operation_count scripts) full))
    by false true x y =
        let full : 100000 ≤ operation_count scripts = leb-true 100000 (operation_count scripts) y in
        let none : room ≡ 0 = omega (arith, left, full) in
        absurd (false≢true (sym x ∙ eq-eqb room 0 none))

-- one operation more leaves less room
pub less_room : (scripts later : List (List Op)) (o : Op) (room after last : ℕ) → last + 1 ≡ length scripts → last ≡ length scripts - 1 → later ≡ with_operation scripts o → after ≡ room - 1
    → room ≡ 100000 - operation_count scripts → after ≡ 100000 - operation_count later
less_room scripts later o room after last is place grown less left =
    let size : ℕ = length (get_or scripts last []) in
    let one : length (get_or scripts last [] ++ o ∷ []) ≡ length (get_or scripts last []) + 1 = length-append (get_or scripts last []) (o ∷ []) in
    let within : last < length scripts = omega (arith, is) in
    let sums = sum_by-set (λ (s : List Op). length s) scripts last (get_or scripts last [] ++ o ∷ []) [] within in
    let counts : operation_count (set scripts last (get_or scripts last [] ++ o ∷ [])) ≡ operation_count scripts + 1 = omega (arith, one, sums) in
    let same : operation_count later ≡ operation_count (set scripts last (get_or scripts last [] ++ o ∷ [])) =
    ap operation_count grown ∙ ap (λ n. operation_count (set scripts n (get_or scripts n [] ++ o ∷ []))) (sym place) in
    omega (arith, same, counts, less, left)

-- a script without operations leaves as much
pub same_room : (scripts later : List (List Op)) (room : ℕ) → later ≡ scripts ++ [] ∷ [] → room ≡ 100000 - operation_count scripts → room ≡ 100000 - operation_count later
same_room scripts later room grown left =
    let same : operation_count later ≡ operation_count scripts + 0 = ap operation_count grown ∙ sum_by_push (λ (s : List Op). length s) scripts [] in
    omega (arith, same, left)

-- a name is the one that stands at a place where it does
pub stands_at : (names : List (List ℕ)) (name : List ℕ) (place : ℕ) → NoRepeats names → place < length names → name ≡ get_or names place [] → place_of names name ≡ Some place
stands_at names name place distinct within is = place_of-slice_get names name place distinct (slice_get-get_or names place [] within ∙ ap Some (sym is))

-- The document with a component more.
pub with_people : (lines : List Line) (nodes texts people after : List (List ℕ)) (scripts later : List (List Op)) (name : List ℕ) → after ≡ added people name → later ≡ scripts ++ [] ∷ []
    → ◌≡◌ {A = DocumentData} (record { lines = lines; nodes = nodes; texts = texts; people = after; scripts = later })
    (record { lines = lines; nodes = nodes; texts = texts; people = added people name; scripts = scripts ++ [] ∷ [] })
with_people lines nodes texts people after scripts later name named more =
    ap (λ p. record { lines = lines; nodes = nodes; texts = texts; people = p; scripts = later }) named
    ∙ ap (λ s. record { lines = lines; nodes = nodes; texts = texts; people = added people name; scripts = s }) more

-- the number of a name stays as another is added
number_stays : (names : List (List ℕ)) (name other : List ℕ) → number_in (added (added names name) other) name ≡ number_in (added names name) name
number_stays names name other = by (place_of (added names name) other)
  where
    found : (k : ℕ) × (place_of (added names name) name ≡ Some k)
    found = by_name (place_of names name) refl
      where
        by_name : (place : Option ℕ) → place_of names name ≡ place → (k : ℕ) × (place_of (added names name) name ≡ Some k)
        by_name (Some k) is = (k, ap (λ p. place_of (if is_some p then names else names ++ name ∷ []) name) is ∙ is)
        by_name None is = (length names, ap (λ p. place_of (if is_some p then names else names ++ name ∷ []) name) is ∙ place_of-push names name is)

    by : (place : Option ℕ) → number_in (if is_some place then added names name else added names name ++ other ∷ []) name ≡ number_in (added names name) name
    by (Some k) = refl
    by None = ap (λ p. unwrap_or p 0) (place_of-append (added names name) (other ∷ []) name found.0 found.1 ∙ sym found.1)

pub with_channel : (lines after : List Line) (nodes middle last texts people : List (List ℕ)) (scripts : List (List Op)) (kind : net.Kind) (a b : List ℕ) (first second : ℕ) → middle ≡ added nodes a
    → last ≡ added middle b → first ≡ number_in (added nodes a) a → second ≡ number_in (added middle b) b
    → after ≡ lines ++ line.Channel (record { kind = kind; a = first; b = second }) ∷ []
    → ◌≡◌ {A = DocumentData} (record { lines = after; nodes = last; texts = texts; people = people; scripts = scripts })
    (with_said (record { lines = lines; nodes = nodes; texts = texts; people = people; scripts = scripts }) (ChannelSaid kind a b))
with_channel lines after nodes middle last texts people scripts kind a b first second one other at to more =
    let names : last ≡ added (added nodes a) b = other ∙ ap (λ m. added m b) one in
    let number_a : first ≡ number_in (added (added nodes a) b) a = at ∙ sym (number_stays nodes a b) in
    let number_b : second ≡ number_in (added (added nodes a) b) b = to ∙ ap (λ m. number_in (added m b) b) one in
    ap (λ ls. record { lines = ls; nodes = last; texts = texts; people = people; scripts = scripts })
    (more ∙ ap (λ n. lines ++ line.Channel (record { kind = kind; a = n; b = second }) ∷ []) number_a ∙ ap (λ n. lines ++ line.Channel (record { kind = kind; a = number_in (added (added nodes a) b) a; b = n }) ∷ []) number_b)
    ∙ ap (λ ns. record { lines = lines ++ line.Channel (record { kind = kind; a = number_in (added (added nodes a) b) a; b = number_in (added (added nodes a) b) b }) ∷ []; nodes = ns; texts = texts; people = people; scripts = scripts }) names
