-- each circuit has labels, and so a cut: by the definitions alone
use Rattle.std.proofs.Common.{◌≡◌, ℕ, zero, suc, ◌+◌, ◌<◌, ⊎_elim, inl, inr, Bool, true, false, cond, List, [], ◌∷◌, ◌++◌, length, map, slice_get, Option, Some, None, refl, subst, arith}
use Rattle.std.specs.List.{range_with_len}
use Rattle.std.specs.Option.{option_map_or}
use Rattle.std.proofs.lemmas.Bool.{cases_lt}
use Rattle.std.proofs.lemmas.Option.{slice_get_within, get_or_from_slice_get}
use Rattle.reo_graph.specs.Closure.{count_below}
use Rattle.reo_net.specs.declared.circuit.Channel.{Channel}
use Rattle.reo_net.specs.declared.circuit.RawCircuit.{RawCircuit}
use Rattle.reo_net.specs.Kind.{is_fifo}
use Rattle.reo_net.specs.Checks.{IsCircuit}
use Rattle.reo_cut.specs.declared.cut.Cut.{Cut}
use Rattle.reo_cut.specs.Cut.{IsCut}
use Rattle.reo_cut.specs.Labels.{label_at, AreLabels, pairs_of, pairs_below}
use Rattle.reo_cut.specs.Numbers.{is_root}
use Rattle.reo_cut.proofs.RelabelLaw.{own_labels, relabelled}
use Rattle.reo_cut.proofs.CutLaw.{is_cut}

-- of one pair more there are labels too
pair_more : (pairs : List (ℕ × ℕ)) (n : ℕ) (labels : List ℕ) → AreLabels pairs n labels → (a b : ℕ) → a < n → b < n → (more : List ℕ) × AreLabels ((a, b) ∷ pairs) n more
pair_more pairs n labels are a b in_a in_b = ⊎_elim
    (λ less. (_, relabelled pairs n labels are b a a b in_b in_a (omega (arith, less)) (inr (refl, refl))))
    (λ more. (_, relabelled pairs n labels are a b a b in_a in_b more (inl (refl, refl))))
    (cases_lt (label_at labels a) (label_at labels b))

-- the nodes of all channels are below the number of automata
AreInside : List Channel → ℕ → Type 0
AreInside channels n = (k : ℕ) (channel : Channel) → slice_get channels k ≡ Some channel → (k < n) × (length channels + channel.a < n) × (length channels + channel.b < n)

labels_exist : (channels : List Channel) (n : ℕ) → AreInside channels n → (i : ℕ) → (labels : List ℕ) × AreLabels (pairs_below channels i) n labels
unfolding AreInside
labels_exist channels n inside zero = (range_with_len 0 n, own_labels n)
labels_exist channels n inside (suc i) = go (slice_get channels i) (λ channel found. inside i channel found) (labels_exist channels n inside i)
  where
    own : (channel : Channel) → (i < n) × (length channels + channel.a < n) × (length channels + channel.b < n) → (b : Bool) → (labels : List ℕ) × AreLabels (pairs_below channels i) n labels
        → (labels : List ℕ) × AreLabels (cond b [] ((i, length channels + channel.b) ∷ (i, length channels + channel.a) ∷ []) ++ pairs_below channels i) n labels
    own channel ends true before = before
    own channel ends false before =
        let first = pair_more (pairs_below channels i) n before.0 before.1 i (length channels + channel.a) ends.0 ends.1 in
        pair_more ((i, length channels + channel.a) ∷ pairs_below channels i) n first.0 first.1 i (length channels + channel.b) ends.0 ends.2

    go : (o : Option Channel) → ((channel : Channel) → o ≡ Some channel → (i < n) × (length channels + channel.a < n) × (length channels + channel.b < n)) → (labels : List ℕ) × AreLabels (pairs_below channels i) n labels
        → (labels : List ℕ) × AreLabels (option_map_or (pairs_of (length channels) i) o [] ++ pairs_below channels i) n labels
    go None ends before = before
    go (Some channel) ends before = own channel (ends channel refl) (is_fifo channel.kind) before

pub cut_exists : (c : RawCircuit) → IsCircuit c → (cut : Cut) × IsCut c cut
unfolding AreInside
cut_exists c circuit =
    let labels = labels_exist c.channels (length c.channels + c.nodes) (λ k channel found.
    let below = slice_get_within c.channels k channel found in
    let read = get_or_from_slice_get c.channels k channel channel found in
    let a = subst (λ (ch : Channel). ch.a < c.nodes) read (circuit.known.ends_a k channel below) in
    let b = subst (λ (ch : Channel). ch.b < c.nodes) read (circuit.known.ends_b k channel below) in
    (omega arith, omega arith, omega arith)) (length c.channels) in
    let counts : List ℕ = map (count_below (is_root c labels.0)) (range_with_len 0 (length labels.0 + 1)) in
    (_, is_cut c circuit labels.0 labels.1 counts (map (label_at counts) labels.0) refl refl (label_at counts (length labels.0)) refl)
