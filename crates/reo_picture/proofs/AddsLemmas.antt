-- pushes, one after the other
use Rattle.std.proofs.Common.{◌≡◌, ℕ, ◌+◌, ◌<◌, List, [], ◌∷◌, ◌++◌, length, map, take, get_or, refl, sym, ap, ◌∙◌, subst, zero-add, append_assoc, append-nil}
use Rattle.std.specs.Prelude.{Vec, Result, Ok, Err, codes}
use Rattle.std.specs.List.{flat_map, range_with_len}
use Rattle.std.proofs.lemmas.Grind.{flat_map-append}
use Rattle.std.proofs.lemmas.List.Folds.{flat_map-map}
use Rattle.std.proofs.lemmas.List.FromFn.{map-range_with_len_more}
use Rattle.reo_net.specs.declared.circuit.RawCircuit.{RawCircuit}
use Rattle.reo_cut.specs.declared.cut.Cut.{Cut}
use Rattle.reo_trace.specs.Buffer.{HasTaken, Takes}
use Rattle.reo_trace.specs.Passes.{numbered}
use Rattle.reo_trace.proofs.BufferLemmas.{HasTaken-trans}
use Rattle.reo_trace.proofs.ListLemmas.{numbered-next}
use Rattle.reo_picture.specs.Buffer.{Adds}
use Rattle.reo_picture.specs.Picture.{ended, opening, region_line, node_line, port_style, port_line, channel_style, channel_line, lines_from, picture_text}

pub taken : {Z T E : Type 0} (a b : Vec ℕ Z) (r : Result T E) (x : List ℕ) → Takes a b r x → Adds a b r x
taken a b (Ok done) x p = p
taken a b (Err e) x p = tt

pub Adds-trans : {Z T E : Type 0} (a b c : Vec ℕ Z) (r : Result T E) (x y : List ℕ) → HasTaken a b x → Adds b c r y → Adds a c r (x ++ y)
Adds-trans a b c (Ok done) x y p q = HasTaken-trans a b c x y p q
Adds-trans a b c (Err e) x y p q = tt

-- what is pushed to an empty buffer
pub whole : {Z : Type 0} (a b : Vec ℕ Z) (x y : List ℕ) → a.items ≡ [] → HasTaken a b x → x ≡ y → b.items ≡ y
whole a b x y none pushed same = pushed.items ∙ ap (λ l. l ++ x) none ∙ same

-- the next of the texts of numbers
pub range_next : {Z : Type 0} (f : ℕ → List ℕ) (a b c : Vec ℕ Z) (n : ℕ) → HasTaken a b (flat_map f (range_with_len 0 n)) → HasTaken b c (f n) → HasTaken a c (flat_map f (range_with_len 0 (n + 1)))
range_next f a b c n p q =
    let more : range_with_len 0 (n + 1) ≡ range_with_len 0 n ++ n ∷ [] =
    sym (map-id (range_with_len 0 (n + 1))) ∙ (map-range_with_len_more (λ x. x) 0 n n (zero-add n) ∙ ap (λ l. l ++ n ∷ []) (map-id (range_with_len 0 n))) in
    let e : flat_map f (range_with_len 0 (n + 1)) ≡ flat_map f (range_with_len 0 n) ++ f n =
    ap (flat_map f) more ∙ flat_map-append f (range_with_len 0 n) (n ∷ []) ∙ ap (λ l. flat_map f (range_with_len 0 n) ++ l) (append-nil (f n)) in
    subst (λ l. HasTaken a c l) (sym e) (HasTaken-trans a b c (flat_map f (range_with_len 0 n)) (f n) p q)
  where
    map-id : (xs : List ℕ) → map (λ x. x) xs ≡ xs
    map-id [] = refl
    map-id (x ∷ xs) = ap (λ l. x ∷ l) (map-id xs)

-- the next of numbered texts
pub numbered_next : {A Z : Type 0} (f : ℕ → A → List ℕ) (a b c : Vec ℕ Z) (xs : List A) (i : ℕ) (x d : A) → i < length xs → get_or xs i d ≡ x
    → HasTaken a b (numbered f 0 (take i xs)) → HasTaken b c (f i x) → HasTaken a c (numbered f 0 (take (i + 1) xs))
numbered_next f a b c xs i x d lt same p q =
    subst (λ l. HasTaken a c l) (sym (numbered-next f xs i x d lt same)) (HasTaken-trans a b c (numbered f 0 (take i xs)) (f i x) p q)

-- numbered lines with their LFs
pub ended_from : {A : Type 0} (f : ℕ → A → List ℕ) (n : ℕ) (xs : List A) → flat_map ended (lines_from f n xs) ≡ numbered (λ k x. ended (f k x)) n xs
ended_from f n [] = refl
ended_from f n (x ∷ xs) = ap (λ l. ended (f n x) ++ l) (ended_from f (n + 1) xs)

-- what is pushed, part by part
joined_parts : (f : List ℕ → List ℕ) (a b c d e : List (List ℕ)) (x y z : List ℕ)
    → flat_map f (a ++ (b ++ (c ++ (x ∷ (d ++ (y ∷ (e ++ (z ∷ [])))))))) ≡ flat_map f a ++ flat_map f b ++ flat_map f c ++ f x ++ flat_map f d ++ f y ++ flat_map f e ++ f z
joined_parts f a b c d e x y z = simp (flat_map-append, append_assoc, append-nil) refl

pub picture_parts : (c : RawCircuit) (nodes texts : List (List ℕ)) (cut : Cut)
    → picture_text c nodes texts cut
    ≡ flat_map ended opening ++ flat_map (λ region. ended (region_line region)) (range_with_len 0 cut.regions) ++ flat_map (λ node. ended (node_line c nodes cut node)) (range_with_len 0 c.nodes) ++ ended port_style
    ++ numbered (λ number port. ended (port_line number port.way port.node)) 0 c.ports ++ ended channel_style ++ numbered (λ number channel. ended (channel_line texts number channel)) 0 c.channels ++ ended (codes "}")
picture_parts c nodes texts cut =
    let regions = range_with_len 0 cut.regions in
    let inner = range_with_len 0 c.nodes in
    let ports : List (List ℕ) = lines_from (λ number port. port_line number port.way port.node) 0 c.ports in
    let channels : List (List ℕ) = lines_from (channel_line texts) 0 c.channels in
    let top = flat_map ended opening in
    let b = flat_map (λ region. ended (region_line region)) regions in
    let n = flat_map (λ node. ended (node_line c nodes cut node)) inner in
    let p = numbered (λ number port. ended (port_line number port.way port.node)) 0 c.ports in
    joined_parts ended opening (map region_line regions) (map (node_line c nodes cut) inner) ports channels port_style channel_style (codes "}")
    ∙ ap (λ l. top ++ l ++ flat_map ended (map (node_line c nodes cut) inner) ++ ended port_style ++ flat_map ended ports ++ ended channel_style ++ flat_map ended channels ++ ended (codes "}")) (flat_map-map ended region_line regions)
    ∙ ap (λ l. top ++ b ++ l ++ ended port_style ++ flat_map ended ports ++ ended channel_style ++ flat_map ended channels ++ ended (codes "}")) (flat_map-map ended (node_line c nodes cut) inner)
    ∙ ap (λ l. top ++ b ++ n ++ ended port_style ++ l ++ ended channel_style ++ flat_map ended channels ++ ended (codes "}")) (ended_from (λ number port. port_line number port.way port.node) 0 c.ports)
    ∙ ap (λ l. top ++ b ++ n ++ ended port_style ++ p ++ ended channel_style ++ l ++ ended (codes "}")) (ended_from (channel_line texts) 0 c.channels)
