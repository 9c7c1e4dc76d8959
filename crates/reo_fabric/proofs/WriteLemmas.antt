-- Writes at rising places, place by place.
use Rattle.std.proofs.Common.{◌≡◌, ℕ, ◌+◌, ◌<◌, ⊎_elim, List, [], ◌∷◌, length, set, get_or, Option, Some, None, refl, sym, ap, ◌∙◌, subst, arith, length-set, get_or-set_same, get_or-set_other}
use Rattle.std.proofs.lemmas.List.{ext_get_or}
use Rattle.std.proofs.lemmas.List.FromFn.{length-map-range_with_len, get_or-map-range_with_len}
use Rattle.std.proofs.lemmas.Bool.Decides.{eqb_tells}
use Rattle.reo_value.specs.declared.value.Value.{Value}
use Rattle.reo_fabric.specs.declared.entry.Entry.{Entry}
use Rattle.reo_fabric.specs.declared.port_state.PortState.{PortState}
use Rattle.reo_fabric.specs.declared.port_state.PortState.TheVariants.{Idle, Answered}
use Rattle.reo_fabric.specs.Entry.{State, at_place, RisesFrom, content_after, carried_out}
use Rattle.reo_fabric.specs.Engine.{port_after, answered}
use Rattle.reo_fabric.specs.inside.Writes.{written}
use Rattle.reo_fabric.proofs.PlaceLemmas.{at_first, at_later, none_below}

-- what a place's value, where there is one, makes of what is there
unfoldable made : {X : Type 0} → (Value → X) → Option Value → X → X
made make None old = old
made make (Some v) old = make v

pub length-written : {X : Type 0} (make : Value → X) (places : List (ℕ × Value)) (xs : List X) → length (written make places xs) ≡ length xs
length-written make [] xs = refl
length-written make (p ∷ places) xs = length-written make places (set xs p.0 (make p.1)) ∙ length-set xs p.0 (make p.1)

at_written : {X : Type 0} (make : Value → X) (places : List (ℕ × Value)) (low : ℕ) (xs : List X) (c : ℕ) (d : X) → RisesFrom low places → c < length xs → get_or (written make places xs) c d ≡ made make (at_place places c) (get_or xs c d)
unfolding made
at_written make [] low xs c d rise within = refl
at_written make (p ∷ places) low xs c d rise within =
    let inside : c < length (set xs p.0 (make p.1)) = omega (arith, length-set xs p.0 (make p.1)) in
    let rest = at_written make places (p.0 + 1) (set xs p.0 (make p.1)) c d rise.1 inside in
    ⊎_elim
    (λ is.
    let none : at_place places c ≡ None = none_below places (p.0 + 1) c rise.1 (omega (arith, is.1)) in
    let here : get_or (set xs p.0 (make p.1)) c d ≡ make p.1 = subst (λ n. get_or (set xs n (make p.1)) c d ≡ make p.1) is.1 (get_or-set_same xs c (make p.1) d within) in
    rest ∙ (ap (λ o. made make o (get_or (set xs p.0 (make p.1)) c d)) none ∙ (here ∙ sym (ap (λ o. made make o (get_or xs c d)) (at_first p places c is.0)))))
    (λ not.
    let other : get_or (set xs p.0 (make p.1)) c d ≡ get_or xs c d = get_or-set_other xs p.0 c (make p.1) d not.1 in
    rest ∙ (ap (made make (at_place places c)) other ∙ sym (ap (λ o. made make o (get_or xs c d)) (at_later p places c not.0))))
    (eqb_tells c p.0)

content_cases : (take fill held : Option Value) → made (λ value. None) take (made Some fill held) ≡ content_after take fill held
unfolding made
content_cases (Some v) fill held = refl
content_cases None (Some w) held = refl
content_cases None None held = refl

-- the writes carry the entry out
pub writes_carry_out : (cells : State) (entry : Entry) → RisesFrom 0 entry.takes → RisesFrom 0 entry.fills
    → written (λ value. None) entry.takes (written Some entry.fills cells) ≡ carried_out cells entry
writes_carry_out cells entry takes fills =
    let middle = written Some entry.fills cells in
    let same : length middle ≡ length cells = length-written Some entry.fills cells in
    ext_get_or None _ _
    (length-written (λ value. None) entry.takes middle ∙ (same ∙ sym (length-map-range_with_len _ 0 (length cells))))
    (λ c within.
    let inside : c < length middle = subst (λ n. c < n) (length-written (λ value. None) entry.takes middle) within in
    let under : c < length cells = subst (λ n. c < n) same inside in
    at_written (λ value. None) entry.takes 0 middle c None takes inside
    ∙ (ap (made (λ value. None) (at_place entry.takes c)) (at_written Some entry.fills 0 cells c None fills under)
    ∙ (content_cases (at_place entry.takes c) (at_place entry.fills c) (get_or cells c None)
    ∙ sym (get_or-map-range_with_len (λ cell. content_after (at_place entry.takes cell) (at_place entry.fills cell) (get_or cells cell None)) 0 (length cells) c c None under (omega arith)))))

port_cases : (number : ℕ) (put get : Option Value) (state : PortState) → made (λ value. Answered value number) put (made (λ value. Answered value number) get state) ≡ port_after number put get state
unfolding made
port_cases number (Some v) get state = refl
port_cases number None (Some w) state = refl
port_cases number None None state = refl

pub writes_answer : (ports : List PortState) (number : ℕ) (entry : Entry) → RisesFrom 0 entry.puts → RisesFrom 0 entry.gets
    → written (λ value. Answered value number) entry.puts (written (λ value. Answered value number) entry.gets ports) ≡ answered ports number entry
writes_answer ports number entry puts gets =
    let make : Value → PortState = λ value. Answered value number in
    let middle = written make entry.gets ports in
    let same : length middle ≡ length ports = length-written make entry.gets ports in
    ext_get_or Idle _ _
    (length-written make entry.puts middle ∙ (same ∙ sym (length-map-range_with_len _ 0 (length ports))))
    (λ c within.
    let inside : c < length middle = subst (λ n. c < n) (length-written make entry.puts middle) within in
    let under : c < length ports = subst (λ n. c < n) same inside in
    at_written make entry.puts 0 middle c Idle puts inside
    ∙ (ap (made make (at_place entry.puts c)) (at_written make entry.gets 0 ports c Idle gets under)
    ∙ (port_cases number (at_place entry.puts c) (at_place entry.gets c) (get_or ports c Idle)
    ∙ sym (get_or-map-range_with_len (λ port. port_after number (at_place entry.puts port) (at_place entry.gets port) (get_or ports port Idle)) 0 (length ports) c c Idle under (omega arith)))))
