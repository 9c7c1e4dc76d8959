-- The texts of a list's first elements, of one more, and of all.
use Rattle.std.proofs.Common.{◌≡◌, ℕ, ◌+◌, ◌<◌, ◌≤◌, List, [], ◌∷◌, ◌++◌, length, take, drop, get_or, refl, sym, ap, ◌∙◌, arith, append_assoc, append-nil, add-zero, take-append-drop}
use Rattle.std.proofs.lemmas.List.{take_more, length-take-le}
use Rattle.std.specs.List.{flat_map}
use Rattle.reo_net.specs.declared.circuit.RawCircuit.{RawCircuit}
use Rattle.reo_net.specs.declared.circuit.Step.{Step}
use Rattle.reo_trace.specs.declared.report.Called.{Called}
use Rattle.reo_value.specs.Lexicon.{text_at}
use Rattle.reo_trace.specs.ReportText.{step_line, step_lines, call_line, call_lines}
use Rattle.reo_trace.specs.Passes.{numbered}

pub numbered-append : {A : Type 0} (f : ℕ → A → List ℕ) (n : ℕ) (xs ys : List A) → numbered f n (xs ++ ys) ≡ numbered f n xs ++ numbered f (n + length xs) ys
numbered-append f n [] ys = ap (λ m. numbered f m ys) (sym (add-zero n))
numbered-append f n (x ∷ xs) ys =
    let e : n + 1 + length xs ≡ n + length (x ∷ xs) = omega arith in
    ap (λ l. f n x ++ l) (numbered-append f (n + 1) xs ys ∙ ap (λ m. numbered f (n + 1) xs ++ numbered f m ys) e)
    ∙ sym (append_assoc (f n x) (numbered f (n + 1) xs) (numbered f (n + length (x ∷ xs)) ys))

-- one more element
pub numbered-next : {A : Type 0} (f : ℕ → A → List ℕ) (xs : List A) (i : ℕ) (x d : A) → i < length xs → get_or xs i d ≡ x
    → numbered f 0 (take (i + 1) xs) ≡ numbered f 0 (take i xs) ++ f i x
numbered-next f xs i x d lt same =
    let le : i ≤ length xs = omega arith in
    let at : 0 + length (take i xs) ≡ i = omega (arith, length-take-le i xs le) in
    ap (numbered f 0) (take_more xs i d lt) ∙ numbered-append f 0 (take i xs) (get_or xs i d ∷ [])
    ∙ ap (λ l. numbered f 0 (take i xs) ++ l)
    (append-nil (f (0 + length (take i xs)) (get_or xs i d)) ∙ ap (λ m. f m (get_or xs i d)) at ∙ ap (f i) same)

-- the first elements, one more, and some rest
pub numbered-split : {A : Type 0} (f : ℕ → A → List ℕ) (xs : List A) (i : ℕ) (x d : A) → i < length xs → get_or xs i d ≡ x
    → (rest : List ℕ) × (numbered f 0 xs ≡ numbered f 0 (take i xs) ++ f i x ++ rest)
numbered-split f xs i x d lt same =
    let rest : List ℕ = numbered f (0 + length (take (i + 1) xs)) (drop (i + 1) xs) in (
      rest,
      ap (numbered f 0) (sym (take-append-drop (i + 1) xs)) ∙ numbered-append f 0 (take (i + 1) xs) (drop (i + 1) xs)
          ∙ ap (λ l. l ++ rest) (numbered-next f xs i x d lt same),
    )

pub flat_map-numbered : {A : Type 0} (f : A → List ℕ) (n : ℕ) (xs : List A) → flat_map f xs ≡ numbered (λ _. f) n xs
flat_map-numbered f n [] = refl
flat_map-numbered f n (x ∷ xs) = ap (λ l. f x ++ l) (flat_map-numbered f (n + 1) xs)

-- one more element
pub flat_map-next : {A : Type 0} (f : A → List ℕ) (xs : List A) (i : ℕ) (x d : A) → i < length xs → get_or xs i d ≡ x
    → flat_map f (take (i + 1) xs) ≡ flat_map f (take i xs) ++ f x
flat_map-next f xs i x d lt same =
    flat_map-numbered f 0 (take (i + 1) xs) ∙ numbered-next (λ _. f) xs i x d lt same ∙ ap (λ l. l ++ f x) (sym (flat_map-numbered f 0 (take i xs)))

-- the lines of steps, and of more steps behind them
pub step_lines-append : (c : RawCircuit) (nodes texts : List (List ℕ)) (n : ℕ) (steps more : List Step)
    → step_lines c nodes texts n (steps ++ more) ≡ step_lines c nodes texts n steps ++ step_lines c nodes texts (n + length steps) more
step_lines-append c nodes texts n [] more = ap (λ m. step_lines c nodes texts m more) (sym (add-zero n))
step_lines-append c nodes texts n (step ∷ steps) more =
    let e : n + 1 + length steps ≡ n + length (step ∷ steps) = omega arith in
    ap (λ l. step_line c nodes texts n step ++ l)
    (step_lines-append c nodes texts (n + 1) steps more ∙ ap (λ m. step_lines c nodes texts (n + 1) steps ++ step_lines c nodes texts m more) e)
    ∙ sym (append_assoc (step_line c nodes texts n step) (step_lines c nodes texts (n + 1) steps) (step_lines c nodes texts (n + length (step ∷ steps)) more))

pub call_lines-numbered : (c : RawCircuit) (nodes texts people : List (List ℕ)) (k : ℕ) (calls : List (List Called))
    → call_lines c nodes texts people k calls ≡ numbered (λ k. flat_map (call_line c nodes texts (text_at people k))) k calls
call_lines-numbered c nodes texts people k [] = refl
call_lines-numbered c nodes texts people k (own ∷ calls) =
    ap (λ l. flat_map (call_line c nodes texts (text_at people k)) own ++ l) (call_lines-numbered c nodes texts people (k + 1) calls)
