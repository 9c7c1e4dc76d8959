-- loops of channels that hand data on, and the ranks of nodes
use Rattle.std.proofs.Common.{◌≡◌, ℕ, zero, suc, ◌<◌, Bool, true, false, ◌&&◌, ◌||◌, List, [], ◌∷◌, filter_map, slice_get, nat_eq, Some, refl, sym, ap, ◌∙◌, subst}
use Rattle.std.specs.List.{list_any}
use Rattle.std.specs.Cmp.Derive.{both_true}
use Rattle.std.proofs.Math.Bool.{or-true}
use Rattle.std.proofs.lemmas.Bool.{eq-eqb, eqb-true}
use Rattle.std.proofs.lemmas.Option.{same_Some, slice_get_within, get_or_from_slice_get}
use Rattle.reo_graph.specs.Paths.{Path, one, more, has_edge}
use Rattle.reo_graph.specs.Paths.{IsOnLoop as IsLooped}
use Rattle.reo_graph.specs.Closure.{AreBelow}
use Rattle.reo_graph.proofs.ClosureLemmas.{ranks_rise}
use Rattle.reo_net.specs.declared.circuit.Channel.{Channel}
use Rattle.reo_net.specs.declared.circuit.RawCircuit.{RawCircuit}
use Rattle.reo_net.specs.Kind.{hands_on}
use Rattle.reo_net.specs.Tables.{handing_edge}
use Rattle.reo_net.specs.Loops.{hands_over, IsOnLoop}
use Rattle.reo_net.specs.Checks.{IsCircuit}
use Rattle.reo_net.specs.Laws.{RanksRiseAlongChannels}

-- whether the channel hands data on from x to y
hands : ℕ → ℕ → Channel → Bool
hands x y channel = hands_on channel.kind && (nat_eq channel.a x && nat_eq channel.b y)

same_edges : (channels : List Channel) (x y : ℕ) → has_edge (filter_map handing_edge channels) x y ≡ list_any (hands x y) channels
unfolding hands
same_edges [] x y = refl
same_edges (channel ∷ channels) x y = go (hands_on channel.kind) refl (same_edges channels x y)
  where
    go : (b : Bool) → hands_on channel.kind ≡ b → has_edge (filter_map handing_edge channels) x y ≡ list_any (hands x y) channels
        → has_edge (filter_map handing_edge (channel ∷ channels)) x y ≡ list_any (hands x y) (channel ∷ channels)
    go true e rest = rw e (rw rest refl)
    go false e rest = rw e (rw rest refl)

-- a path goes over to edges that are the same
along : (edge other : ℕ → ℕ → Bool) → ((x y : ℕ) → edge x y ≡ other x y) → (i : ℕ) {j : ℕ} → Path edge i j → Path other i j
along edge other same i (one {j} e) = one (sym (same i j) ∙ e)
along edge other same i (more {j} {k} path e) = more (along edge other same i path) (sym (same j k) ∙ e)

module _ (c : RawCircuit) where
  pub loop_of_edges : (node : ℕ) → IsLooped (filter_map handing_edge c.channels) node → IsOnLoop c node
  unfolding hands
  loop_of_edges node path = along (has_edge (filter_map handing_edge c.channels)) (hands_over c) (same_edges c.channels) node path

  pub edges_of_loop : (node : ℕ) → IsOnLoop c node → IsLooped (filter_map handing_edge c.channels) node
  unfolding hands
  edges_of_loop node path = along (hands_over c) (has_edge (filter_map handing_edge c.channels)) (λ x y. sym (same_edges c.channels x y)) node path

both_left : (a b : Bool) → (a && b) ≡ true → a ≡ true
both_left true b e = refl
both_left false b e = e

both_right : (a b : Bool) → (a && b) ≡ true → b ≡ true
both_right true b e = e
both_right false b e = cc

-- a channel that hands on from x to y
record HandsOver (channels : List Channel) (x y : ℕ) : Type 0 where
  number : ℕ
  channel : Channel
  found : slice_get channels number ≡ Some channel
  from : channel.a ≡ x
  to : channel.b ≡ y

-- one is found, where there is one
handing_channel : (channels : List Channel) (x y : ℕ) → list_any (hands x y) channels ≡ true → HandsOver channels x y
unfolding hands
handing_channel [] x y e = cc
handing_channel (channel ∷ channels) x y e = go (hands x y channel) refl (handing_channel channels x y) e
  where
    go : (b : Bool) → hands x y channel ≡ b → (list_any (hands x y) channels ≡ true → HandsOver channels x y) → (b || list_any (hands x y) channels) ≡ true → HandsOver (channel ∷ channels) x y
    go true is later found =
        let ends = both_right (hands_on channel.kind) (nat_eq channel.a x && nat_eq channel.b y) is in
        record {
          number = 0;
          channel = channel;
          found = refl;
          from = eqb-true channel.a x (both_left (nat_eq channel.a x) (nat_eq channel.b y) ends);
          to = eqb-true channel.b y (both_right (nat_eq channel.a x) (nat_eq channel.b y) ends);
        }
    go false is later found =
        let at = later found in
        record { number = suc at.number; channel = at.channel; found = at.found; from = at.from; to = at.to }

hands_itself : (channel : Channel) → hands_on channel.kind ≡ true → hands channel.a channel.b channel ≡ true
unfolding hands
hands_itself channel is = both_true is (both_true (eq-eqb channel.a channel.a refl) (eq-eqb channel.b channel.b refl))

-- and what is one is found
channel_hands : (channels : List Channel) (k : ℕ) (channel : Channel) → slice_get channels k ≡ Some channel → hands_on channel.kind ≡ true → list_any (hands channel.a channel.b) channels ≡ true
channel_hands [] k channel found is = cc
channel_hands (x ∷ xs) zero channel found is =
    ap (λ b. b || list_any (hands channel.a channel.b) xs) (ap (hands channel.a channel.b) (same_Some x channel found) ∙ hands_itself channel is)
channel_hands (x ∷ xs) (suc k) channel found is =
    ap (λ b. hands channel.a channel.b x || b) (channel_hands xs k channel found is) ∙ or-true (hands channel.a channel.b x)

edges_below : (c : RawCircuit) → IsCircuit c → AreBelow (hands_over c) c.nodes
unfolding hands
edges_below c circuit x y e =
    let at = handing_channel c.channels x y e in
    let within = slice_get_within c.channels at.number at.channel at.found in
    let read = get_or_from_slice_get c.channels at.number at.channel at.channel at.found in (
      subst (λ n. n < c.nodes) at.from (subst (λ (ch : Channel). ch.a < c.nodes) read (circuit.known.ends_a at.number at.channel within)),
      subst (λ n. n < c.nodes) at.to (subst (λ (ch : Channel). ch.b < c.nodes) read (circuit.known.ends_b at.number at.channel within)),
    )

pub ranks_rise_along : RanksRiseAlongChannels
unfolding hands
ranks_rise_along c checked k channel found is =
    ranks_rise (hands_over c) c.nodes (edges_below c checked.circuit) checked.acyclic channel.a channel.b (channel_hands c.channels k channel found is)
