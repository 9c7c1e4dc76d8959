-- lists of labels
use Rattle.std.proofs.Common.{◌≡◌, ℕ, ◌+◌, ◌<◌, All, List, [], ◌∷◌, ◌++◌, length, take, drop, get_or, sym, ap, ◌∙◌, subst, arith, zero-add}
use Rattle.std.specs.List.{range_with_len}
use Rattle.std.specs.List.Sorted.{IsStrictlyIncreasing}
use Rattle.std.proofs.lemmas.List.{map-id, append-nil, take_all, drop_all}
use Rattle.std.proofs.lemmas.List.FromFn.{map-range_with_len_more, length-range_with_len, get_or-range_with_len}
use Rattle.reo_net.specs.declared.circuit.Channel.{Channel}
use Rattle.reo_net.specs.declared.circuit.RawCircuit.{RawCircuit}

pub range_more : (n : ℕ) → range_with_len 0 (n + 1) ≡ range_with_len 0 n ++ n ∷ []
range_more n =
    sym (map-id (range_with_len 0 (n + 1))) ∙ (map-range_with_len_more (λ x. x) 0 n n (zero-add n) ∙ ap (λ l. l ++ n ∷ []) (map-id (range_with_len 0 n)))

-- what a slice that was lent leaves in its vector
pub written_back : (new old : List ℕ) (len : ℕ) → length old ≡ len → length new ≡ length old → take len (new ++ drop (length new) old) ≡ new
written_back new old len is same =
    ap (λ l. take len (new ++ l)) (drop_all (length new) old (omega (arith, same))) ∙ (ap (take len) (append-nil new) ∙ take_all len new (omega (arith, is, same)))

-- the labels of all automata reach as far as the numbers of nodes
pub ends_fit : (c : RawCircuit) (end : Channel → ℕ) (channels : List Channel) (count : ℕ) (labels lent : List ℕ) → channels ≡ c.channels → count ≡ length channels + c.nodes
    → labels ≡ range_with_len 0 count → lent ≡ labels → All (λ channel. end channel < c.nodes) c.channels → All (λ channel. length channels + end channel < length lent) channels
ends_fit c end channels count labels lent same many are is below k d h =
    let len = ap length is ∙ (ap length are ∙ length-range_with_len 0 count) in
    let at = subst (λ chs. end (get_or chs k d) < c.nodes) (sym same) (below k d (subst (λ chs. k < length chs) same h)) in
    omega (arith, len, at, many)

pub range_rises : (n : ℕ) → IsStrictlyIncreasing (range_with_len 0 n)
range_rises n k h =
    let len = length-range_with_len 0 n in
    let next = get_or-range_with_len 0 n (k + 1) 0 (omega (arith, h, len)) in
    let this = get_or-range_with_len 0 n k 0 (omega (arith, h, len)) in
    omega (arith, next, this)
