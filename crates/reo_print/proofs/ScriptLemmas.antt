-- How the canonical text grows with a line.
use Rattle.std.proofs.Common.{◌≡◌, ℕ, suc, ◌+◌, ◌-◌, ◌<◌, List, [], ◌∷◌, ◌++◌, length, Option, Some, None, slice_get, set, get_or, unwrap_or, flat_map, refl, sym, ap, ◌∙◌, arith, append_assoc, append-nil}
use Rattle.std.specs.List.{filter_map}
use Rattle.std.specs.Option.{option_and_then, option_map_or}
use Rattle.std.proofs.lemmas.List.Concat.{flat_map-append}
use Rattle.std.proofs.lemmas.Option.{none-some}
use Rattle.reo_value.specs.Lexicon.{place_of, added, text_at}
use Rattle.reo_value.proofs.LexiconLemmas.{place_of-added_itself, place_of-added, slice_get-place_of}
use Rattle.reo_value.specs.declared.op.Op.{Op}
use Rattle.reo_value.specs.declared.op.Way.{Way}
use Rattle.reo_sentence.specs.Numbered.{number_in}
use Rattle.reo_document.specs.declared.line.Line.{Line}
use Rattle.reo_document.specs.Document.{DocumentData, port_in}
use Rattle.reo_document.specs.Placed.{port_from, port_named, misplaced_at, port_number, with_operation}
use Rattle.reo_document.proofs.DocumentLemmas.{port_from-stands}
use Rattle.reo_trace.specs.Passes.{numbered}
use Rattle.reo_trace.specs.ReportText.{node_text}
use Rattle.reo_print.specs.Trees.{Extends}
use Rattle.reo_print.proofs.TextPlaceLemmas.{text_there}

-- a line of the circuit more, while there are no scripts
pub circuit_more : (f : Line → List ℕ) (lines : List Line) (line : Line) (scripts later : List ℕ) → scripts ≡ [] → later ≡ []
    → flat_map f (lines ++ line ∷ []) ++ later ≡ (flat_map f lines ++ scripts) ++ f line
circuit_more f lines line scripts later none still =
    ap (λ s. flat_map f (lines ++ line ∷ []) ++ s) still ∙ append-nil (flat_map f (lines ++ line ∷ [])) ∙ flat_map-append f lines (line ∷ [])
    ∙ ap (λ bs. flat_map f lines ++ bs) (append-nil (f line)) ∙ ap (λ bs. bs ++ f line) (sym (append-nil (flat_map f lines)) ∙ ap (λ s. flat_map f lines ++ s) (sym none))

-- a script more
pub numbered_more : {A : Type 0} (f : ℕ → A → List ℕ) (n : ℕ) (xs : List A) (x : A) → numbered f n (xs ++ x ∷ []) ≡ numbered f n xs ++ f (n + length xs) x
numbered_more f n [] x =
    let here : n ≡ n + 0 = omega arith in
    append-nil (f n x) ∙ ap (λ k. f k x) here
numbered_more f n (y ∷ xs) x =
    let there : n + 1 + length xs ≡ n + length (y ∷ xs) = omega arith in
    ap (λ bs. f n y ++ bs) (numbered_more f (n + 1) xs x ∙ ap (λ k. numbered f (n + 1) xs ++ f k x) there)
    ∙ sym (append_assoc (f n y) (numbered f (n + 1) xs) (f (n + length (y ∷ xs)) x))

-- an operation more in the last script
pub operation_more : (f : ℕ → List Op → List ℕ) (extra : List ℕ) (o : Op) → ((n : ℕ) (script : List Op) → f n (script ++ o ∷ []) ≡ f n script ++ extra)
    → (n : ℕ) (script : List Op) (scripts : List (List Op)) → numbered f n (with_operation (script ∷ scripts) o) ≡ numbered f n (script ∷ scripts) ++ extra
operation_more f extra o each n script [] =
    append-nil (f n (script ++ o ∷ [])) ∙ each n script ∙ ap (λ bs. bs ++ extra) (sym (append-nil (f n script)))
operation_more f extra o each n script (next ∷ scripts) =
    let last : length (script ∷ next ∷ scripts) - 1 ≡ suc (length (next ∷ scripts) - 1) = omega arith in
    ap (λ k. numbered f n (set (script ∷ next ∷ scripts) k (get_or (script ∷ next ∷ scripts) k [] ++ o ∷ []))) last
    ∙ ap (λ bs. f n script ++ bs) (operation_more f extra o each (n + 1) next scripts)
    ∙ sym (append_assoc (f n script) (numbered f (n + 1) (next ∷ scripts)) extra)

-- the text of a script with an operation more
pub script_more : (head : List ℕ) (f : Op → List ℕ) (script : List Op) (o : Op) → head ++ flat_map f (script ++ o ∷ []) ≡ (head ++ flat_map f script) ++ f o
script_more head f script o =
    ap (λ bs. head ++ bs) (flat_map-append f script (o ∷ []) ∙ ap (λ bs. flat_map f script ++ bs) (append-nil (f o))) ∙ sym (append_assoc head (flat_map f script) (f o))

-- the first of two names that are added
pub first_numbered : (known whole : List (List ℕ)) (a b : List ℕ) → Extends (added (added known a) b) whole → text_at whole (number_in (added (added known a) b) a) ≡ a
first_numbered known whole a b extends =
    let found = place_of-added_itself known a in
    let still = place_of-added (added known a) b a found.0 found.1 in
    ap (λ place. text_at whole (unwrap_or place 0)) still
    ∙ text_there (added (added known a) b) whole a found.0 extends (slice_get-place_of (added (added known a) b) a found.0 still)

-- the node of a port that a component may use
pub port_node : (d : DocumentData) (nodes : List (List ℕ)) (way : Way) (name : List ℕ) → Extends d.nodes nodes → misplaced_at d way (port_named d name) ≡ None
    → node_text nodes (slice_get (filter_map port_in d.lines) (port_number d name)) ≡ name
port_node d nodes way name extends allowed = by_place (place_of d.nodes name) refl
  where
    by_port : (n : ℕ) → place_of d.nodes name ≡ Some n → (port : Option (ℕ × Way)) → port_from 0 d.lines n ≡ port → port_named d name ≡ port
        → node_text nodes (slice_get (filter_map port_in d.lines) (port_number d name)) ≡ name
    by_port n place None is named = absurd (none-some _ (sym (ap (misplaced_at d way) (sym named) ∙ allowed)))
    by_port n place (Some port) is named =
        let stands = port_from-stands 0 d.lines n port.0 port.1 is in
        let number : port.0 ≡ stands.0 = omega (arith, stands.1.0) in
        ap (λ p. node_text nodes (slice_get (filter_map port_in d.lines) (option_map_or (λ (q : ℕ × Way). q.0) p 0))) named
        ∙ ap (λ k. node_text nodes (slice_get (filter_map port_in d.lines) k)) number
        ∙ ap (node_text nodes) stands.1.1
        ∙ text_there d.nodes nodes name n extends (slice_get-place_of d.nodes name n place)

    by_place : (place : Option ℕ) → place_of d.nodes name ≡ place → node_text nodes (slice_get (filter_map port_in d.lines) (port_number d name)) ≡ name
    by_place None is = absurd (none-some _ (sym (ap (misplaced_at d way) (sym (ap (λ p. option_and_then (λ n. port_from 0 d.lines n) p) is)) ∙ allowed)))
    by_place (Some n) is = by_port n is (port_from 0 d.lines n) refl (ap (λ p. option_and_then (λ m. port_from 0 d.lines m) p) is)

pub operations_more : (front : List ℕ) (f : ℕ → List Op → List ℕ) (extra : List ℕ) (o : Op) → ((n : ℕ) (script : List Op) → f n (script ++ o ∷ []) ≡ f n script ++ extra)
    → (scripts : List (List Op)) → 0 < length scripts → front ++ numbered f 0 (with_operation scripts o) ≡ (front ++ numbered f 0 scripts) ++ extra
operations_more front f extra o each [] some = absurd (omega (arith, some))
operations_more front f extra o each (script ∷ scripts) some =
    ap (λ bs. front ++ bs) (operation_more f extra o each 0 script scripts) ∙ sym (append_assoc front (numbered f 0 (script ∷ scripts)) extra)
